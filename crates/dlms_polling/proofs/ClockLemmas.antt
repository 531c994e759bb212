-- The clocks of polled rows, one after another.
use Rattle.std.proofs.Common.{◌≡◌, ◌+◌, ◌-◌, ◌<◌, ◌≤◌, ℕ, List, length, slice_index_or, ⊎_elim, refl, arith}
use Rattle.std.proofs.lemmas.Bool.{cases_eq}
use Rattle.std.specs.Prelude.{◌≢◌}
use Rattle.std.proofs.lemmas.List.{get_or_default}
use Rattle.std.proofs.lemmas.List.Sorted.{all_adjacent_more}
use Rattle.dlms_polling.specs.Clocks.{AreInTime, IsAhead, IsEarlier, IsFirstAhead, IsFirstFallen, Rise}
use Rattle.dlms_headend.specs.declared.row.Row.{Row}

-- one row more rises
pub rises_more : (rows : List Row) (place : ℕ) (known : Row) → 0 < place → place < length rows → Rise rows place
    → (slice_index_or rows (place - 1) known).clock < (slice_index_or rows place known).clock → Rise rows (place + 1)
rises_more rows place known behind within rise less =
    all_adjacent_more rows IsEarlier place behind rise (λ other.
    rw (get_or_default rows (place - 1) other known (omega (arith, within)), get_or_default rows place other known within) less)

-- the first that falls
pub fallen_at : (rows : List Row) (place : ℕ) (known : Row) → 0 < place → place < length rows → Rise rows place
    → (slice_index_or rows place known).clock ≤ (slice_index_or rows (place - 1) known).clock → IsFirstFallen rows (place + 1)
fallen_at rows place known behind within rise falls = record {
  place = place;
  number_is = refl;
  behind = behind;
  within = within;
  rise = rise;
  falls = λ other. rw (get_or_default rows (place - 1) other known (omega (arith, within)), get_or_default rows place other known within) falls;
}

-- one row more is in time
in_time_at : (now margin : ℕ) (rows : List Row) (place : ℕ) (known : Row) → place < length rows → (IsAhead now margin (slice_index_or rows place known).clock → ⊥)
    → (k : ℕ) (other : Row) → k ≡ place → IsAhead now margin (slice_index_or rows k other).clock → ⊥
in_time_at now margin rows place known within in_time k other is ahead = in_time (rw (is, get_or_default rows place other known within) at ahead)

pub in_time_more : (now margin : ℕ) (rows : List Row) (place : ℕ) (known : Row) → place < length rows → AreInTime now margin rows place
    → (IsAhead now margin (slice_index_or rows place known).clock → ⊥) → AreInTime now margin rows (place + 1)
in_time_more now margin rows place known within before in_time = λ k other under ahead.
    ⊎_elim (λ (is : k ≡ place). in_time_at now margin rows place known within in_time k other is ahead)
    (λ (apart : k ≢ place). before k other (omega (arith, under, apart)) ahead) (cases_eq k place)

-- the first that is ahead
pub ahead_at : (now margin : ℕ) (rows : List Row) (place : ℕ) (known : Row) → place < length rows → AreInTime now margin rows place
    → IsAhead now margin (slice_index_or rows place known).clock → IsFirstAhead now margin rows (place + 1)
ahead_at now margin rows place known within before ahead = record {
  place = place;
  number_is = refl;
  within = within;
  in_time = before;
  ahead = λ other. rw (get_or_default rows place other known within) ahead;
}
