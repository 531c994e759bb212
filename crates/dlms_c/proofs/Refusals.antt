-- The codes of a lost page, of pages that wait, and of neither.
use Rattle.std.proofs.Common.{◌≡◌, List, [], ◌∷◌, length, refl, sym, true≢false, arith}
use Rattle.std.specs.Prelude.{Bool, true, false}
use Rattle.dlms_pages.specs.declared.memory.Call.{Call}
use Rattle.dlms_c.specs.Refusal.{first_code, lost_code, pages_code}

pub lost_is : (is_lost : Bool) (calls : List Call) → is_lost ≡ true → 20 ≡ first_code (lost_code is_lost) (pages_code calls)
lost_is true calls is = refl
lost_is false calls is = absurd (true≢false (sym is))

pub clear_is : (is_lost : Bool) (calls : List Call) → is_lost ≡ false → length calls ≡ 0 → 0 ≡ first_code (lost_code is_lost) (pages_code calls)
clear_is false [] kept none = refl
clear_is false (call ∷ calls) kept none = absurd (omega (arith, none))
clear_is true calls kept none = absurd (true≢false kept)

pub pages_is : (is_lost : Bool) (calls : List Call) → is_lost ≡ false → (length calls ≡ 0 → ⊥) → 19 ≡ first_code (lost_code is_lost) (pages_code calls)
pages_is false [] kept some = absurd (some refl)
pages_is false (call ∷ calls) kept some = refl
pages_is true calls kept some = absurd (true≢false kept)
