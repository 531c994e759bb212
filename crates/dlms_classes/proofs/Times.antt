-- The date-time of a second, plainly written, is one list of octets.
use Rattle.std.proofs.Common.{◌≡◌, ℕ, ◌<◌, ◌^◌, List, [], ◌∷◌, length, slice_index, refl, sym, ap, ◌∙◌, arith, ℤ, pos, unsigned_abs, ◌+ℤ◌, ◌-ℤ◌, ◌*ℤ◌}
use Rattle.std.specs.Prelude.{All}
use Rattle.jiff_core.specs.Calendar.{IsCivilDate, days_from_civil, weekday_number}
use Rattle.jiff_core.specs.declared.civil.date.Date.{Date}
use Rattle.jiff_core.proofs.DateLemmas.{epoch_day_injective}
use Rattle.jiff_core.proofs.SignedLemmas.{signed_arith}
use Rattle.dlms_data.specs.DateTime.{NamesSecond, IsPlainlyWritten, year_of, month_of, day_of, day_number, time_of_day}

-- the date of these parts
dated : (y m d : ℕ) → IsCivilDate (pos y) m d → Date
dated y m d h = record { year = pos y; month = m; day = d; year_in = h.0; month_in = h.1; day_in = h.2 }

-- the parts of a date follow from its day number
same_date : (y m d y₂ m₂ d₂ : ℕ) → IsCivilDate (pos y) m d → IsCivilDate (pos y₂) m₂ d₂ → days_from_civil (pos y) m d ≡ days_from_civil (pos y₂) m₂ d₂ → (y ≡ y₂) × (m ≡ m₂) × (d ≡ d₂)
unfolding dated
same_date y m d y₂ m₂ d₂ h k e =
    let parts = epoch_day_injective (dated y m d h) (dated y₂ m₂ d₂ k) e in
    (ap unsigned_abs parts.0, parts.1, parts.2)

-- a second tells its day, and the second of the day
same_day : (p q first : ℤ) (t u : ℕ) → t < 86400 → u < 86400 → (p -ℤ first) *ℤ pos 86400 +ℤ pos t ≡ (q -ℤ first) *ℤ pos 86400 +ℤ pos u → (p ≡ q) × (t ≡ u)
same_day p q first t u ht hu e = (omega (arith, signed_arith), omega (arith, signed_arith))

-- a list of twelve
twelve : (xs : List ℕ) → length xs ≡ 12
    → xs ≡ slice_index xs 0 ∷ slice_index xs 1 ∷ slice_index xs 2 ∷ slice_index xs 3 ∷ slice_index xs 4 ∷ slice_index xs 5 ∷ slice_index xs 6 ∷ slice_index xs 7 ∷ slice_index xs 8 ∷ slice_index xs 9 ∷ slice_index xs 10 ∷ slice_index xs 11 ∷ []
twelve [] e = cc
twelve (a ∷ []) e = cc
twelve (a ∷ b ∷ []) e = cc
twelve (a ∷ b ∷ c ∷ []) e = cc
twelve (a ∷ b ∷ c ∷ d ∷ []) e = cc
twelve (a ∷ b ∷ c ∷ d ∷ f ∷ []) e = cc
twelve (a ∷ b ∷ c ∷ d ∷ f ∷ g ∷ []) e = cc
twelve (a ∷ b ∷ c ∷ d ∷ f ∷ g ∷ h ∷ []) e = cc
twelve (a ∷ b ∷ c ∷ d ∷ f ∷ g ∷ h ∷ i ∷ []) e = cc
twelve (a ∷ b ∷ c ∷ d ∷ f ∷ g ∷ h ∷ i ∷ j ∷ []) e = cc
twelve (a ∷ b ∷ c ∷ d ∷ f ∷ g ∷ h ∷ i ∷ j ∷ k ∷ []) e = cc
twelve (a ∷ b ∷ c ∷ d ∷ f ∷ g ∷ h ∷ i ∷ j ∷ k ∷ l ∷ []) e = cc
twelve (a ∷ b ∷ c ∷ d ∷ f ∷ g ∷ h ∷ i ∷ j ∷ k ∷ l ∷ m ∷ []) e = refl
twelve (a ∷ b ∷ c ∷ d ∷ f ∷ g ∷ h ∷ i ∷ j ∷ k ∷ l ∷ m ∷ n ∷ rest) e = cc

record Same (a b : List ℕ) : Type 0 where
  high : slice_index a 0 ≡ slice_index b 0
  low : slice_index a 1 ≡ slice_index b 1
  month : slice_index a 2 ≡ slice_index b 2
  day : slice_index a 3 ≡ slice_index b 3
  weekday : slice_index a 4 ≡ slice_index b 4
  hour : slice_index a 5 ≡ slice_index b 5
  minute : slice_index a 6 ≡ slice_index b 6
  seconds : slice_index a 7 ≡ slice_index b 7
  hundredths : slice_index a 8 ≡ slice_index b 8
  deviation : slice_index a 9 ≡ slice_index b 9
  rest : slice_index a 10 ≡ slice_index b 10
  status : slice_index a 11 ≡ slice_index b 11

joined : (a b : List ℕ) → length a ≡ 12 → length b ≡ 12 → Same a b → a ≡ b
joined a b ea eb s = let one = twelve a ea in let other = twelve b eb in cc

-- bytes by their places
byte_at : (xs : List ℕ) (i : ℕ) → All (λ octet. octet < 2 ^ 8) xs → length xs ≡ 12 → i < 12 → slice_index xs i < 256
byte_at xs i h e lt = h i 0 (omega arith)

pub same_octets : (a b : List ℕ) (s : ℕ) → NamesSecond a s → NamesSecond b s → IsPlainlyWritten a → IsPlainlyWritten b → All (λ octet. octet < 2 ^ 8) a → All (λ octet. octet < 2 ^ 8) b → a ≡ b
same_octets a b s na nb pa pb fa fb =
    let e = sym na.value ∙ nb.value in
    let at = same_day (day_number a) (day_number b) (days_from_civil (pos 2000) 1 1) (time_of_day a) (time_of_day b) (omega arith) (omega arith) e in
    let date = same_date (year_of a) (month_of a) (day_of a) (year_of b) (month_of b) (day_of b) na.date nb.date at.0 in
    let weekday = ap weekday_number at.0 in
    let a0 = byte_at a 0 fa na.size (omega arith) in
    let a1 = byte_at a 1 fa na.size (omega arith) in
    let b0 = byte_at b 0 fb nb.size (omega arith) in
    let b1 = byte_at b 1 fb nb.size (omega arith) in
    joined a b na.size nb.size (record {
      high = omega (arith, date.0);
      low = omega (arith, date.0);
      month = date.1;
      day = date.2;
      weekday = omega (arith, weekday, pa.0, pb.0);
      hour = omega (arith, at.1);
      minute = omega (arith, at.1);
      seconds = omega (arith, at.1);
      hundredths = pa.1 ∙ sym pb.1;
      deviation = pa.2 ∙ sym pb.2;
      rest = na.deviation.1 ∙ sym nb.deviation.1;
      status = pa.3 ∙ sym pb.3;
    })
