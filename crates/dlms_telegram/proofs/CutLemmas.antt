-- The calls of a reader complete what the octets of the line complete.
use Rattle.std.proofs.Common.{◌≡◌, ℕ, ◌+◌, suc, List, [], ◌∷◌, ◌++◌, length, refl, ap, sym, subst, ◌∙◌, arith, Bool, true, false}
use Rattle.dlms_telegram.specs.Telegram.{Kept, after, count_fed, dropped, fed, is_found}
use Rattle.dlms_telegram.specs.Cutting.{Call, Feeds, completed_by, completed_in, completed_of, octets_of}

open_of : (kept : Kept) (b : Bool) → is_found kept.found ≡ b → is_found (dropped kept).found ≡ false
open_of kept true e = rw e refl
open_of kept false e = rw e e

dropped_is_open : (kept : Kept) → is_found (dropped kept).found ≡ false
dropped_is_open kept = open_of kept (is_found kept.found) refl

-- the octets of a call and those after it
abbrev Splits : Kept → List ℕ → Kept → List ℕ → Type 0
Splits kept taken new more = completed_of kept (taken ++ more) ≡ completed_in new ++ completed_of (dropped new) more

none : (kept new : Kept) (more : List ℕ) → is_found kept.found ≡ false → new ≡ kept → Splits kept [] new more
none kept new more is_open same = subst (λ n. Splits kept [] n more) (sym same) (rw is_open refl)

last : (kept new : Kept) (x : ℕ) (more : List ℕ) → is_found (after kept x).found ≡ true → new ≡ after kept x → Splits kept (x ∷ []) new more
last kept new x more e same = subst (λ n. Splits kept (x ∷ []) n more) (sym same) (rw e refl)

step : (kept new : Kept) (x : ℕ) (xs more : List ℕ) (b : Bool) → is_found (after kept x).found ≡ b
    → new ≡ fed kept (x ∷ xs) → count_fed kept (x ∷ xs) ≡ length (x ∷ xs)
    → (is_found (after kept x).found ≡ false → new ≡ fed (after kept x) xs → count_fed (after kept x) xs ≡ length xs → Splits (after kept x) xs new more)
    → Splits kept (x ∷ xs) new more
step kept new x [] more true e is_kept count rest = last kept new x more e (rw e at is_kept)
step kept new x (y ∷ ys) more true e is_kept count rest =
    let counted : 1 ≡ suc (suc (length ys)) = rw e at count in absurd (omega (arith, counted))
step kept new x xs more false e is_kept count rest =
    let counted : count_fed (after kept x) xs + 1 ≡ suc (length xs) = rw e at count in
    rw e (rest e (rw e at is_kept) (omega (arith, counted)))

call_splits : (taken : List ℕ) (kept new : Kept) (more : List ℕ) → is_found kept.found ≡ false → new ≡ fed kept taken
    → count_fed kept taken ≡ length taken → Splits kept taken new more
call_splits [] kept new more is_open is_kept count = none kept new more is_open is_kept
call_splits (x ∷ xs) kept new more is_open is_kept count =
    step kept new x xs more (is_found (after kept x).found) refl is_kept count (λ o k c. call_splits xs (after kept x) new more o k c)

pub calls_complete : (calls : List Call) (start last : Kept) → Feeds start calls last → completed_by calls ≡ completed_of (dropped start) (octets_of calls)
calls_complete [] start last fed_by = refl
calls_complete (call ∷ calls) start last (takes, rest) =
    ap (λ l. completed_in call.reader ++ l) (calls_complete calls call.reader last rest)
    ∙ sym (call_splits call.taken (dropped start) call.reader (octets_of calls) (dropped_is_open start) takes.kept takes.count)
