-- Reading parameters from left to right.
use Rattle.std.proofs.Common.{◌≡◌, ℕ, ◌+◌, ◌≤◌, ◌==◌, if◌then◌else◌, refl, arith, ap, true, false, List, ◌∷◌, ◌++◌, length, zero, suc, length-append, nat_le}
use Rattle.std.proofs.Math.Seq.{take-append_seam, drop-append_seam}
use Rattle.std.proofs.lemmas.Bool.Decides.{nat_tests}
use Rattle.dlms_link.specs.Parameters.{read_group, has_lawful_length, number_of, IsFirst}

fits : (value behind : List ℕ) → nat_le (length value) (length (value ++ behind)) ≡ true
fits value behind = grind (arith, nat_tests, length-append)

-- the octets as they are spelled
spelled : (n received id : ℕ) (value behind : List ℕ) → has_lawful_length id (length value) ≡ true → length value + length behind + 2 ≤ n →
    (m : ℕ) × (length behind ≤ m) × (read_group n received (id ∷ length value ∷ (value ++ behind)) ≡ read_group m (if id == 6 then number_of value else received) behind)
spelled zero received id value behind h l = absurd (omega arith)
spelled (suc n) received id value behind h l =
    (n, omega arith, rw (h, fits value behind, take-append_seam value behind, drop-append_seam value behind) refl)

-- a parameter at the front is read, and then what follows it
pub read_group-first : (n received id : ℕ) (value behind octets : List ℕ) → IsFirst id value behind octets → length octets ≤ n →
    (m : ℕ) × (length behind ≤ m) × (read_group n received octets ≡ read_group m (if id == 6 then number_of value else received) behind)
read_group-first n received id value behind octets h l =
    rw h.text (spelled n received id value behind h.lawful (omega (arith, l, ap length h.text, length-append value behind)))

-- an 06 in front counts, and another parameter doesn't
pub counted : (id number received : ℕ) → id ≡ 6 → (if id == 6 then number else received) ≡ number
counted id number received e = let test : (id == 6) ≡ true = grind (arith, nat_tests) in rw test refl

pub skipped : (id number received : ℕ) → (id ≡ 6 → ⊥) → (if id == 6 then number else received) ≡ received
skipped id number received ne = let test : (id == 6) ≡ false = grind (arith, nat_tests) in rw test refl
