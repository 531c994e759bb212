-- The telegrams of a line (IEC 62056-21, 6.3, data readout, as the Dutch P1 companion standard and the Luxembourg description of the
-- P1 port use it): from / to ! and a check. Neither of both marks is in between (IEC 62056-21, 6.3.2).
use Rattle.std.specs.Prelude.{◌≡◌, ℕ, ◌+◌, ◌-◌, ◌*◌, ◌/◌, ◌%◌, ◌==◌, ◌||◌, ◌&&◌, nat_lt, nat_le, if◌then◌else◌, Bool, true, false, not, List, [], ◌∷◌, ◌++◌, length, take, drop, get_or, Option, Some, None}
use Rattle.dlms_telegram.specs.Check.{check_of}
use Rattle.dlms_telegram.specs.Line.{IsSplit}
use Rattle.dlms_telegram.specs.declared.reader.Found.{Found}
use Rattle.dlms_telegram.specs.declared.reader.Found.TheVariants as outcome
use Rattle.dlms_telegram.specs.declared.reader.TheConstants.{MOST_TELEGRAM}

-- ---- a telegram

-- the hexadecimal digit of a number below 16, of either case
abbrev pub is_digit_of : ℕ → ℕ → Bool
is_digit_of number x =
    if nat_lt number 10 then x == 0x30 + number else (x == 0x37 + number) || (x == 0x57 + number)

-- four hexadecimal digits, the highest first
abbrev pub is_spelled : ℕ → ℕ → ℕ → ℕ → ℕ → Bool
is_spelled number a b c d =
    (is_digit_of (number / 4096) a)
    && ((is_digit_of (number / 256 % 16) b) && ((is_digit_of (number / 16 % 16) c)
    && (is_digit_of (number % 16) d)))

-- What follows the ! of a telegram with this check: the check, or nothing besides the end of the line, as from meters of DSMR 2. Whether
-- it is the check.
abbrev pub end_of : ℕ → List ℕ → Option Bool
end_of number [] = Some false
end_of number (a ∷ []) = if (a == 0x0D) || (a == 0x0A) then Some false else None
end_of number (a ∷ b ∷ []) = if (a == 0x0D) && (b == 0x0A) then Some false else None
end_of number (a ∷ b ∷ c ∷ d ∷ rest) = if is_spelled number a b c d then Some true else None
end_of number _ = None

-- a telegram: its octets before its first !, and those after it, which are the check of those up to it, or none
pub record IsTelegram (octets text : List ℕ) (checked : Bool) : Type 0 where
  pub tail : List ℕ
  pub split : IsSplit octets 0x21 text tail
  pub start : get_or text 0 0 ≡ 0x2F
  pub end_is : end_of (check_of (take (length text + 1) octets)) tail ≡ Some checked

-- no telegram is all of these octets
abbrev pub IsNone : List ℕ → Type 0
IsNone octets = (text : List ℕ) (checked : Bool) → IsTelegram octets text checked → ⊥

-- ---- the telegrams of a line, in clear or ciphered

-- The octets of a telegram that has begun and not ended, of the one that the last octet completed, or none; the number of those up to
-- its !, and of a ciphered one the number of all its octets, 0 while that is not known; what the last octet completed.
pub record Kept : Type 0 where
  pub octets : List ℕ
  pub marked : ℕ
  pub found : Found

abbrev pub nothing : Found → Kept
nothing found = record { octets = []; marked = 0; found = found }

-- a telegram begins with /, and general-glo-ciphering with DB (IEC 62056-5-3)
abbrev pub begins : ℕ → Bool
begins x = (x == 0x2F) || (x == 0xDB)

-- an octet outside of telegrams
abbrev pub first_octet : ℕ → Kept
first_octet x =
    if begins x then record { octets = x ∷ []; marked = 0; found = outcome.Nothing }
    else nothing outcome.Nothing

-- an octet more, of which a telegram has at most 4,096
abbrev pub with_octet : Kept → ℕ → ℕ → Found → Kept
with_octet kept x marked found =
    if nat_lt (length kept.octets) MOST_TELEGRAM
    then record { octets = kept.octets ++ x ∷ []; marked = marked; found = found }
    else nothing outcome.Long

-- printable characters, tabs and ends of lines, which a telegram consists of
abbrev pub is_text : ℕ → Bool
is_text x = (x == 0x0D) || ((x == 0x0A) || ((x == 0x09) || ((nat_le 0x20 x) && (nat_lt x 0x7F))))

-- an octet before the ! of a telegram
abbrev pub text_octet : Kept → ℕ → Kept
text_octet kept x =
    if x == 0x21 then with_octet kept x (length kept.octets + 1) outcome.Nothing
    else if is_text x then with_octet kept x 0 outcome.Nothing
    else nothing outcome.Nothing

-- a telegram with this tail
abbrev pub verdict : Option Bool → Found
verdict None = outcome.WrongCheck
verdict (Some checked) = outcome.Telegram

-- an octet after the !: the end of the line ends the telegram, and at most five octets are before it
abbrev pub tail_octet : Kept → ℕ → Kept
tail_octet kept x =
    if x == 0x0A then with_octet kept x kept.marked
    (verdict (end_of (check_of (take kept.marked kept.octets)) (drop kept.marked kept.octets)))
    else if nat_lt (length kept.octets - kept.marked) 5
    then with_octet kept x kept.marked outcome.Nothing
    else nothing outcome.Nothing

-- The number of octets of a ciphered telegram, known with the second octet of its length: DB 08, a title of eight, 82, the length in two
abbrev pub whole_of : Kept → ℕ → ℕ
whole_of kept x =
    if length kept.octets == 12 then 13 + 256 * get_or kept.octets 11 0 + x else kept.marked

-- an octet of a ciphered telegram, which its length ends
abbrev pub sealed_octet : Kept → ℕ → Kept
sealed_octet kept x =
    if ((length kept.octets == 1) && not (x == 0x08))
    || ((length kept.octets == 10) && not (x == 0x82)) then first_octet x
    else if nat_lt MOST_TELEGRAM (whole_of kept x) then nothing outcome.Long
    else with_octet kept x (whole_of kept x) (if length kept.octets + 1 == whole_of kept x
    then outcome.Sealed else outcome.Nothing)

-- an octet within or outside of a telegram; one that begins a telegram drops what was begun in clear
abbrev pub octet_in : List ℕ → Kept → ℕ → Kept
octet_in [] kept x = first_octet x
octet_in (first ∷ rest) kept x =
    if first == 0xDB then sealed_octet kept x
    else if begins x then first_octet x
    else if kept.marked == 0 then text_octet kept x
    else tail_octet kept x

abbrev pub after : Kept → ℕ → Kept
after kept x = octet_in kept.octets kept x

abbrev pub is_found : Found → Bool
is_found outcome.Nothing = false
is_found outcome.Telegram = true
is_found outcome.Sealed = true
is_found outcome.WrongCheck = true
is_found outcome.Long = true

-- the octets up to the first that completes something
abbrev pub fed : Kept → List ℕ → Kept
fed kept [] = kept
fed kept (x ∷ xs) = if is_found (after kept x).found then after kept x else fed (after kept x) xs

abbrev pub count_fed : Kept → List ℕ → ℕ
count_fed kept [] = 0
count_fed kept (x ∷ xs) =
    if is_found (after kept x).found then 1 else count_fed (after kept x) xs + 1

-- what the last call completed is dropped
abbrev pub dropped : Kept → Kept
dropped kept = if is_found kept.found then nothing outcome.Nothing else kept

-- what a call did with the octets that it took: nothing is complete before the last of them
pub record Takes (old : Kept) (taken : List ℕ) (new : Kept) : Type 0 where
  pub kept : new ≡ fed (dropped old) taken
  pub count : count_fed (dropped old) taken ≡ length taken
