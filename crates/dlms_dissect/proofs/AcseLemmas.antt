-- Fields that follow one another.
use Rattle.std.proofs.Common.{◌≡◌, ◌≢◌, ℕ, List, [], ◌∷◌, ◌++◌, Option, Some, None, refl, subst, sym}
use Rattle.dlms_dissect.specs.Acse.{IsFound, StandsBehind, field_at}

pub behind-more : (tag : ℕ) (octets : List ℕ) (fs : List (ℕ × List ℕ)) (rest next : List ℕ) (found : ℕ) (value : List ℕ)
    → StandsBehind tag octets fs rest → field_at rest ≡ Some (found, value, next) → found ≢ tag → StandsBehind tag octets (fs ++ ((found, value) ∷ [])) next
behind-more tag octets [] rest next found value stands is other =
    let P : List ℕ → Type 0 = λ o. field_at o ≡ Some (found, value, next) in
    (next, (subst P (sym stands) is, other, refl))
behind-more tag octets (f ∷ fs) rest next found value stands is other =
    (stands.0, (stands.1.0, stands.1.1, behind-more tag stands.0 fs rest next found value stands.1.2 is other))
