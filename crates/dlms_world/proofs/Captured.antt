-- The content of a formatted meter once the first quarter of an hour has passed: one row.
use Rattle.std.proofs.Common.{arith, ◌≡◌, ◌∙◌, ◌<◌, ◌≤◌, ℕ, Bool, true, false, nat_le, List, [], ◌∷◌, ◌++◌, All, map, length, length-append, refl, sym, subst, Some}
use Rattle.std.specs.Prelude.{◌^◌, ◌&&◌}
use Rattle.dlms_classes.specs.Shown.{IsTable, cells}
use Rattle.dlms_data.specs.DateTime.{NamesSecond, IsPlainlyWritten}
use Rattle.dlms_data.specs.Value.{Value, array, structure, octet_string, double_long_unsigned, none, cons}
use Rattle.dlms_data.specs.Writing.{canonical, short_length, Fits}
use Rattle.dlms_headend.specs.Rows.{IsProfile}
use Rattle.dlms_headend.specs.declared.row.Row.{Row}
use Rattle.dlms_profile.specs.Rows.{in_range, row_at}
use Rattle.dlms_profile.specs.declared.rows.TheConstants.{CAPACITY}
use Rattle.dlms_state.proofs.Legal.{IsLegal-more, IsLegal-none}
use Rattle.dlms_state.proofs.Steps.{kept_after-more}
use Rattle.dlms_state.specs.Columns.{first_columns}
use Rattle.dlms_state.specs.Events.{buffer_after, captures_by, columns_after, ends_in_capture, ends_in_clearing, kept_after, moment_after, offset_after, period_after, register_after, row_after, secret_after}
use Rattle.dlms_state.specs.Refusal.{IsLegal, MayFollow}
use Rattle.dlms_state.specs.declared.event.Event.TheVariants.{Moment}
use Rattle.dlms_state.specs.declared.event.SecretOf.TheVariants.{Management, Reader}
use Rattle.dlms_state.specs.declared.event.SecretOf.{SecretOf}
use Rattle.dlms_world.specs.Possible.{quarter, first_row}

pub columns_first : columns_after quarter ≡ first_columns
unfolding columns_after
columns_first = refl

-- no secret was set
pub secret_first : (whose : SecretOf) → secret_after whose [] ≡ secret_after whose quarter
unfolding secret_after
secret_first Management = refl
secret_first Reader = refl

none_kept : buffer_after [] ≡ []
unfolding kept_after ends_in_clearing ends_in_capture
none_kept = refl

captures_one : captures_by quarter (Some (Moment 900)) ≡ true
unfolding period_after moment_after offset_after
captures_one = refl

row_first : row_after quarter ≡ row_at 900
unfolding columns_after moment_after offset_after register_after
row_first = refl

pub buffer_one : buffer_after quarter ≡ row_at 900 ∷ []
buffer_one = kept_after-more CAPACITY [] (Moment 900) ∙ rw (captures_one, none_kept, row_first) refl

pub may_follow : MayFollow [] (Moment 900)
unfolding moment_after offset_after
may_follow = record { fits = omega arith; passes = refl }

pub quarter_legal : IsLegal quarter
quarter_legal = IsLegal-more [] (Moment 900) IsLegal-none may_follow

-- ---- the row as a value

module _ (octets : List ℕ) (bytes : All (λ octet. octet < 2 ^ 8) octets) (named : NamesSecond octets 900) (plainly : IsPlainlyWritten octets) where
  abbrev row_value : Value
  row_value = structure (cons (octet_string octets) (cons (double_long_unsigned 0) (cons (double_long_unsigned 0) (cons (double_long_unsigned 0) none))))

  -- the row, or none
  abbrev pub table : Bool → Value
  table true = array (cons row_value none)
  table false = array none

  abbrev pub rows : Bool → List Row
  rows true = first_row ∷ []
  rows false = []

  pub is_profile : (b : Bool) → IsProfile (table b) (rows b)
  is_profile true = (record { time = octets; fields = refl; clock = named }, tt)
  is_profile false = tt

  is_table : (second last : ℕ) (b : Bool) → (nat_le second 900 && nat_le 900 last) ≡ b → IsTable (map (cells first_columns) (in_range 0 second last (row_at 900 ∷ []))) (table b)
  is_table second last true e = rw e ((record { octets = octets; bytes = bytes; value = refl; names = named; plainly = plainly }, (refl, (refl, (refl, tt)))), tt)
  is_table second last false e = rw e tt

  pub is_buffer : (second last : ℕ) (b : Bool) → (nat_le second 900 && nat_le 900 last) ≡ b → IsTable (map (cells (columns_after quarter)) (in_range 0 second last (buffer_after quarter))) (table b)
  is_buffer second last b e =
      subst (λ ids. IsTable (map (cells ids) (in_range 0 second last (buffer_after quarter))) (table b)) (sym columns_first)
      (subst (λ l. IsTable (map (cells first_columns) (in_range 0 second last l)) (table b)) (sym buffer_one) (is_table second last b e))

  pub table_fits : (b : Bool) → Fits (table b)
  table_fits true = record { levels = omega arith; in_range = (omega arith, ((omega arith, (omega (arith, named.size), (omega arith, (omega arith, (omega arith, tt))))), tt)) }
  table_fits false = record { levels = omega arith; in_range = (omega arith, tt) }

  pub table_size : (b : Bool) → length (canonical (table b)) ≤ 40
  unfolding short_length
  table_size true =
      let registers : List ℕ = 6 ∷ 0 ∷ 0 ∷ 0 ∷ 0 ∷ 6 ∷ 0 ∷ 0 ∷ 0 ∷ 0 ∷ 6 ∷ 0 ∷ 0 ∷ 0 ∷ 0 ∷ [] in
      rw named.size (omega (arith, named.size, length-append (octets ++ registers) [], length-append octets registers))
  table_size false = omega arith
