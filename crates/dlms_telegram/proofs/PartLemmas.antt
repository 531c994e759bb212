-- The octets that a reader keeps are the last of those that came.
use Rattle.std.proofs.Common.{◌≡◌, ℕ, ◌+◌, ◌-◌, ◌==◌, ◌&&◌, ◌||◌, not, nat_lt, List, [], ◌∷◌, ◌++◌, length, take, drop, refl, ap, sym, ◌∙◌, append_assoc, Bool, true, false, if◌then◌else◌}
use Rattle.std.proofs.lemmas.List.{append-nil}
use Rattle.dlms_telegram.specs.Check.{check_of}
use Rattle.dlms_telegram.specs.Cutting.{IsPart}
use Rattle.dlms_telegram.specs.Telegram.{Kept, after, begins, end_of, fed, first_octet, is_found, is_text, nothing, octet_in, sealed_octet, tail_octet, text_octet, verdict, whole_of, with_octet}
use Rattle.dlms_telegram.specs.declared.reader.Found.{Found}
use Rattle.dlms_telegram.specs.declared.reader.Found.TheVariants as outcome
use Rattle.dlms_telegram.specs.declared.reader.TheConstants.{MOST_TELEGRAM}

abbrev IsLast : List ℕ → Kept → Type 0
IsLast octets kept = (before : List ℕ) × (octets ≡ before ++ kept.octets)

none : (octets : List ℕ) (found : Found) → IsLast octets (nothing found)
none octets found = (octets, sym (append-nil octets))

either : (b : Bool) (one other : Kept) (octets : List ℕ) → IsLast octets one → IsLast octets other → IsLast octets (if b then one else other)
either true one other octets p q = p
either false one other octets p q = q

first : (octets : List ℕ) (x : ℕ) → IsLast (octets ++ x ∷ []) (first_octet x)
first octets x = either (begins x) (record { octets = x ∷ []; marked = 0; found = outcome.Nothing }) (nothing outcome.Nothing) (octets ++ x ∷ []) (octets, refl) (none (octets ++ x ∷ []) outcome.Nothing)

more : (kept : Kept) (x marked : ℕ) (found : Found) → IsLast (kept.octets ++ x ∷ []) (with_octet kept x marked found)
more kept x marked found = either (nat_lt (length kept.octets) MOST_TELEGRAM) (record { octets = kept.octets ++ x ∷ []; marked = marked; found = found }) (nothing outcome.Long) (kept.octets ++ x ∷ []) ([], refl) (none (kept.octets ++ x ∷ []) outcome.Long)

in_text : (kept : Kept) (x : ℕ) → IsLast (kept.octets ++ x ∷ []) (text_octet kept x)
in_text kept x =
    either (x == 0x21) _ _ (kept.octets ++ x ∷ []) (more kept x (length kept.octets + 1) outcome.Nothing)
    (either (is_text x) _ _ (kept.octets ++ x ∷ []) (more kept x 0 outcome.Nothing) (none (kept.octets ++ x ∷ []) outcome.Nothing))

in_tail : (kept : Kept) (x : ℕ) → IsLast (kept.octets ++ x ∷ []) (tail_octet kept x)
in_tail kept x =
    either (x == 0x0A) _ _ (kept.octets ++ x ∷ [])
    (more kept x kept.marked (verdict (end_of (check_of (take kept.marked kept.octets)) (drop kept.marked kept.octets))))
    (either (nat_lt (length kept.octets - kept.marked) 5) _ _ (kept.octets ++ x ∷ []) (more kept x kept.marked outcome.Nothing) (none (kept.octets ++ x ∷ []) outcome.Nothing))

in_sealed : (kept : Kept) (x : ℕ) → IsLast (kept.octets ++ x ∷ []) (sealed_octet kept x)
in_sealed kept x =
    either (((length kept.octets == 1) && not (x == 0x08)) || ((length kept.octets == 10) && not (x == 0x82))) _ _ (kept.octets ++ x ∷ [])
    (first kept.octets x)
    (either (nat_lt MOST_TELEGRAM (whole_of kept x)) _ _ (kept.octets ++ x ∷ []) (none (kept.octets ++ x ∷ []) outcome.Long)
    (more kept x (whole_of kept x) (if length kept.octets + 1 == whole_of kept x then outcome.Sealed else outcome.Nothing)))

in_octets : (octets : List ℕ) (kept : Kept) (x : ℕ) → octets ≡ kept.octets → IsLast (kept.octets ++ x ∷ []) (octet_in octets kept x)
in_octets [] kept x same = first kept.octets x
in_octets (o ∷ os) kept x same =
    either (o == 0xDB) _ _ (kept.octets ++ x ∷ []) (in_sealed kept x)
    (either (begins x) _ _ (kept.octets ++ x ∷ []) (first kept.octets x)
    (either (kept.marked == 0) _ _ (kept.octets ++ x ∷ []) (in_text kept x) (in_tail kept x)))

part_step : (kept : Kept) (x : ℕ) (xs : List ℕ) (b : Bool) → IsLast (kept.octets ++ x ∷ []) (after kept x)
    → IsPart ((after kept x).octets ++ xs) (fed (after kept x) xs).octets
    → IsPart (kept.octets ++ x ∷ xs) (if b then after kept x else fed (after kept x) xs).octets
part_step kept x xs true (before, now) (b, a, e) =
    (before, xs, sym (append_assoc kept.octets (x ∷ []) xs) ∙ ap (λ l. l ++ xs) now ∙ append_assoc before (after kept x).octets xs)
part_step kept x xs false (before, now) (b, a, e) = (
  before ++ b,
  a,
  sym (append_assoc kept.octets (x ∷ []) xs) ∙ ap (λ l. l ++ xs) now ∙ append_assoc before (after kept x).octets xs
      ∙ ap (λ l. before ++ l) e ∙ sym (append_assoc before b ((fed (after kept x) xs).octets ++ a)),
)

pub part_of : (xs : List ℕ) (kept : Kept) → IsPart (kept.octets ++ xs) (fed kept xs).octets
part_of [] kept = ([], [], refl)
part_of (x ∷ xs) kept = part_step kept x xs (is_found (after kept x).found) (in_octets kept.octets kept x refl) (part_of xs (after kept x))
