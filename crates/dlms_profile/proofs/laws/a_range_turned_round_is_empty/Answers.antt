use Rattle.std.proofs.Common.{◌≡◌, ℕ, ◌<◌, false, List, [], ◌∷◌, arith, refl}
use Rattle.std.specs.Prelude.{◌&&◌, nat_le, Option, Some, None, slice_get}
use Rattle.std.proofs.lemmas.Bool.Decides.{nat_tests}
use Rattle.dlms_profile.specs.declared.rows.Row.{Row}
use Rattle.dlms_profile.specs.Rows.{in_range, lies_between}
use Rattle.dlms_profile.proofs.laws.a_range_turned_round_is_empty.Goals as goal

outside : (first last value : ℕ) → last < first → (nat_le first value && nat_le value last) ≡ false
outside first last value turned = grind (arith, nat_tests)

never_between : (first last : ℕ) (value : Option ℕ) → last < first → lies_between first last value ≡ false
never_between first last None turned = refl
never_between first last (Some value) turned = outside first last value turned

none_in : (place first last : ℕ) (rows : List Row) → last < first → in_range place first last rows ≡ []
none_in place first last [] turned = refl
none_in place first last (row ∷ rows) turned = rw (never_between first last (slice_get row.values.items place) turned) (none_in place first last rows turned)

pub returns : goal.returns
returns c = none_in
