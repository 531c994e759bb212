-- The proposal in an SNRM is read as it is meant.
use Rattle.std.proofs.Common.{◌≡◌, ℕ, ◌/◌, ◌%◌, ◌≤◌, if◌then◌else◌, refl, ◌∙◌, ap, arith, Bool, true, false, [], ◌∷◌, inr, Option, None, Some, nat_le, min, All}
use Rattle.std.proofs.lemmas.Bool.Decides.{nat_tests}
use Rattle.std.proofs.lemmas.List.Elements.{All-cons, All-nil}
use Rattle.dlms_link.specs.Parameters.{Parameter, IsParameter, IsProposable, agreed_size, capped_size, greatest_received, information_of, own_parameters, proposed_information, proposed_parameters, size_octets, size_of, windows}
use Rattle.dlms_link.proofs.ParameterLaws.{size_of-information}

received : (size : ℕ) (b : Bool) → nat_le size 255 ≡ b
    → greatest_received (record { id = 5; value = 128 ∷ [] } ∷ record { id = 6; value = (if b then size ∷ [] else size / 256 ∷ size % 256 ∷ []) } ∷ windows) ≡ size
received size true e = omega arith
received size false e = omega arith

pub proposal_is_greatest : (size : ℕ) → greatest_received (proposed_parameters size) ≡ size
proposal_is_greatest size = received size (nat_le size 255) refl

lawful_octets : (size : ℕ) (b : Bool) → IsParameter (record { id = 6; value = (if b then size ∷ [] else size / 256 ∷ size % 256 ∷ []) })
lawful_octets size true = refl
lawful_octets size false = refl

are_parameters : (size : ℕ) → All IsParameter (proposed_parameters size)
are_parameters size =
    let sent : Parameter = record { id = 5; value = 128 ∷ [] } in
    let octets : Parameter = record { id = 6; value = size_octets size } in
    let window : Parameter = record { id = 7; value = 0 ∷ 0 ∷ 0 ∷ 1 ∷ [] } in
    let other : Parameter = record { id = 8; value = 0 ∷ 0 ∷ 0 ∷ 1 ∷ [] } in
    All-cons IsParameter sent (octets ∷ windows) refl
    (All-cons IsParameter octets windows (lawful_octets size (nat_le size 255))
    (All-cons IsParameter window (other ∷ []) refl (All-cons IsParameter other [] refl (All-nil IsParameter))))

pub proposal_is_read : (size : ℕ) → IsProposable size → (greatest_received (proposed_parameters size) ≡ size) × (size_of (proposed_information (Some size)) ≡ Some 128)
proposal_is_read size h = (
  proposal_is_greatest size,
  size_of-information (proposed_information (Some size)) (proposed_parameters size) (inr (refl, are_parameters size)) ∙ ap capped_size (proposal_is_greatest size) ∙ at_least size h.least,
)
  where
    at_least : (n : ℕ) → 128 ≤ n → capped_size n ≡ Some 128
    at_least n l = let e : nat_le 32 n ≡ true = grind (arith, nat_tests) in let m : min n 128 ≡ 128 = omega arith in rw (e, m) refl

-- the UA of this project's meter leaves 128
pub agreed-own : (p : Option ℕ) → agreed_size p (information_of (own_parameters 128)) ≡ 128
unfolding size_of
agreed-own None = refl
agreed-own (Some size) = refl
