-- The clock's first and last day on the calendar.
use Rattle.std.proofs.Common.{rules, arith, refl, sym, inl, subst, ap₂, slice_index, ap, ◌∙◌, ◌≡◌, ◌≤◌, ◌+◌, ◌*◌, ◌/◌, ◌%◌, ℕ, List, [], ◌∷◌, ℤ, pos, unsigned_abs, ◌≤ℤ◌, ◌<ℤ◌, ◌-ℤ◌, ◌*ℤ◌, int_div}
use Rattle.std.proofs.lemmas.Int.{by_lt_z}
use Rattle.jiff_core.specs.Calendar.{day_count, days_from_civil, IsCivilDate}
use Rattle.jiff_core.specs.Date.{epoch_day, IsYmd}
use Rattle.jiff_core.specs.declared.civil.date.Date.{Date}
use Rattle.jiff_core.proofs.CalendarLemmas.{day_count-last_of_year, day_count-lt_year, day_count-next_year, days_from_civil-day_count}
use Rattle.jiff_core.proofs.MarchLemmas.{day_count-early}
use Rattle.jiff_core.proofs.DateLemmas.{civil}
use Rattle.jiff_core.proofs.SignedLemmas.{one_part, signed_arith}
use Rattle.dlms_data.specs.DateTime.{NamesSecond}
use Rattle.dlms_data.specs.declared.date_time.TheConstants.{LAST_SECOND}

pub day_count-2000 : day_count (pos 2000) 1 1 ≡ 4_382_910
day_count-2000 = day_count-early (pos 2000) 11999 1 1 refl (omega arith) (omega arith) (omega arith)

pub day_count-2100 : day_count (pos 2100) 1 1 ≡ 4_419_435
day_count-2100 = day_count-early (pos 2100) 12099 1 1 refl (omega arith) (omega arith) (omega arith)

pub day-2000 : days_from_civil (pos 2000) 1 1 ≡ pos 10957
day-2000 = omega (arith, signed_arith, days_from_civil-day_count, day_count-2000)

pub day-2100 : days_from_civil (pos 2100) 1 1 ≡ pos 47482
day-2100 = omega (arith, signed_arith, days_from_civil-day_count, day_count-2100)

-- a day from 2000-01-01 on lies in the year 2000 or later
pub year_from : (y : ℤ) (m d : ℕ) → IsCivilDate y m d → pos 10957 ≤ℤ days_from_civil y m d → pos 2000 ≤ℤ y
year_from y m d h day =
    by_lt_z y (pos 2000)
    (λ lt. absurd (omega (arith, signed_arith, days_from_civil-day_count, day_count-2000, day_count-lt_year y m d (pos 2000) 1 1 h (omega arith) lt)))
    (λ le. le)

-- and one before 2100-01-01 in the year 2099 or earlier
pub year_to : (y : ℤ) (m d : ℕ) → IsCivilDate y m d → days_from_civil y m d <ℤ pos 47482 → y ≤ℤ pos 2099
year_to y m d h day =
    by_lt_z (pos 2099) y
    (λ lt. absurd (omega (arith, signed_arith, days_from_civil-day_count, day_count-2100, day_count-last_of_year (pos 2099), day_count-next_year (pos 2099) (pos 2100) (search rules) refl, day_count-lt_year (pos 2099) 12 31 y m d (search rules) h.2.0 lt)))
    (λ le. le)

-- and so the days of those years are the clock's
pub day_from : (y : ℤ) (m d : ℕ) → IsCivilDate y m d → pos 2000 ≤ℤ y → pos 10957 ≤ℤ days_from_civil y m d
day_from y m d h year =
    omega (arith, signed_arith, days_from_civil-day_count, day_count-2000, day_count-last_of_year (pos 1999), day_count-next_year (pos 1999) (pos 2000) (search rules) refl, day_count-lt_year (pos 1999) 12 31 y m d (search rules) h.2.0 (omega (arith, signed_arith)))

pub day_to : (y : ℤ) (m d : ℕ) → IsCivilDate y m d → y ≤ℤ pos 2099 → days_from_civil y m d <ℤ pos 47482
day_to y m d h year =
    omega (arith, signed_arith, days_from_civil-day_count, day_count-2100, day_count-lt_year y m d (pos 2100) 1 1 h (omega arith) (omega (arith, signed_arith)))

-- how many seconds after the clock's beginning such a day begins
pub midnight : (d : Date) (first nanos seconds : ℤ) → pos 2000 ≤ℤ d.year → d.year ≤ℤ pos 2099 → first ≡ days_from_civil (pos 2000) 1 1
    → nanos ≡ (epoch_day d -ℤ first) *ℤ pos 86_400_000_000_000 → seconds ≡ int_div nanos (pos 1_000_000_000)
    → (seconds ≡ pos (unsigned_abs seconds)) × (unsigned_abs seconds ≤ 3_155_673_600) × (seconds ≡ (epoch_day d -ℤ days_from_civil (pos 2000) 1 1) *ℤ pos 86_400)
midnight d first nanos seconds low high is_first is_nanos is_seconds =
    let from = day_from _ _ _ (civil d) low in
    let to = day_to _ _ _ (civil d) high in
    (omega (arith, signed_arith, day-2000, one_part), omega (arith, signed_arith, day-2000, one_part), omega (arith, signed_arith, day-2000))

-- a date is known by its parts
pub of_parts : (date : Date) (y m d : ℕ) → IsYmd (pos y) (pos m) (pos d) date → IsCivilDate (pos y) m d × (epoch_day date ≡ days_from_civil (pos y) m d)
of_parts date y m d h =
    let month : date.month ≡ m = ap unsigned_abs h.1 in
    let day : date.day ≡ d = ap unsigned_abs h.2 in
    let in_year = subst (λ (z : ℤ). IsCivilDate z date.month date.day) h.0 (civil date) in
    let in_month = subst (λ (k : ℕ). IsCivilDate (pos y) k date.day) month in_year in
    (subst (λ (k : ℕ). IsCivilDate (pos y) m k) day in_month, ap (λ (z : ℤ). days_from_civil z date.month date.day) h.0 ∙ ap₂ (days_from_civil (pos y)) month day)

-- the octets of a date and a time name the second that they were made of
pub names_second : (d : Date) (year : List ℕ) (month day weekday secs : ℕ) → secs ≤ LAST_SECOND → epoch_day d ≡ pos (10957 + secs / 86400)
    → IsYmd (pos (256 * slice_index year 0 + slice_index year 1)) (pos month) (pos day) d
    → NamesSecond (slice_index year 0 ∷ slice_index year 1 ∷ month ∷ day ∷ weekday ∷ secs % 86400 / 3600 ∷ secs % 86400 / 60 % 60 ∷ secs % 86400 % 60 ∷ 0 ∷ 0 ∷ 0 ∷ 0 ∷ []) secs
names_second d year month day weekday secs h is_day is_ymd =
    let parts = of_parts d _ month day is_ymd in
    let number = sym parts.1 ∙ is_day in
    record {
      size = refl;
      date = parts.0;
      time = (omega arith, omega arith, omega arith);
      deviation = (inl refl, refl);
      range = h;
      value = rw (number, day-2000) (omega (arith, signed_arith));
    }
