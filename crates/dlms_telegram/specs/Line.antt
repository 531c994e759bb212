-- The values in the lines of a telegram (IEC 62056-21, 6.3.2, data block; the Dutch P1 companion standard, 6.4).
use Rattle.std.specs.Prelude.{◌≡◌, ◌≢◌, ◌⊎◌, ℕ, ◌+◌, ◌-◌, ◌*◌, ◌<◌, ◌==◌, ◌&&◌, nat_le, if◌then◌else◌, Bool, true, List, [], ◌∷◌, ◌++◌, length, EachIndex, slice_index}
use Rattle.std.specs.Int.{w16, to_be_bytes}

-- the octets before and after the first of a kind
pub record IsSplit (octets : List ℕ) (mark : ℕ) (before after : List ℕ) : Type 0 where
  pub spelling : octets ≡ before ++ mark ∷ after
  pub first : (k : ℕ) → k < length before → slice_index octets k ≢ mark

-- a decimal digit
abbrev pub is_digit : ℕ → Bool
is_digit x = (nat_le 0x30 x) && (nat_le x 0x39)

abbrev pub AreDigits : List ℕ → Type 0
AreDigits octets = EachIndex octets (λ k. is_digit (slice_index octets k) ≡ true)

-- the number of digits, after those before
abbrev pub number_after : ℕ → List ℕ → ℕ
number_after number [] = number
number_after number (x ∷ xs) = number_after (10 * number + (x - 0x30)) xs

-- the octets before the first of a kind, and those after it, if there is one
abbrev pub IsParted : List ℕ → ℕ → List ℕ → List ℕ → Type 0
IsParted octets mark before after =
    IsSplit octets mark before after ⊎ ((before ≡ octets) × (after ≡ []))

-- a decimal number: at least one digit, perhaps a point and digits, perhaps a star and a unit
pub record IsNumber (value : List ℕ) (mantissa decimals : ℕ) (unit : List ℕ) : Type 0 where
  pub number : List ℕ
  pub whole : List ℕ
  pub fraction : List ℕ
  pub united : IsParted value 0x2A number unit
  pub pointed : IsParted number 0x2E whole fraction
  pub some : 0 < length whole
  pub whole_digits : AreDigits whole
  pub fraction_digits : AreDigits fraction
  pub mantissa_is : mantissa ≡ number_after (number_after 0 whole) fraction
  pub decimals_is : decimals ≡ length fraction

-- the status of a clock: 80 in daylight saving time (IEC 62056-6-2, date-time)
abbrev pub status_of : ℕ → ℕ
status_of season = if season == 0x53 then 0x80 else 0

-- the date-time of YYMMDDhhmmssX: the day of the week, the hundredths and the deviation are left open
abbrev pub moment_of : List ℕ → List ℕ
moment_of (a ∷ b ∷ c ∷ d ∷ e ∷ f ∷ g ∷ h ∷ i ∷ j ∷ k ∷ l ∷ season ∷ []) =
    to_be_bytes w16 (2000 + number_after 0 (a ∷ b ∷ []))
    ++ number_after 0 (c ∷ d ∷ []) ∷ number_after 0 (e ∷ f ∷ []) ∷ 0xFF
    ∷ number_after 0 (g ∷ h ∷ []) ∷ number_after 0 (i ∷ j ∷ []) ∷ number_after 0 (k ∷ l ∷ []) ∷ 0xFF
    ∷ 0x80 ∷ 0 ∷ status_of season ∷ []
moment_of _ = []
