-- The meaning of a line of a transcript.
use Rattle.std.specs.Prelude.{◌≡◌, ◌≢◌, ◌⊎◌, ◌<◌, ◌^◌, ℕ, List, [], ◌∷◌, ◌++◌, codes}
use Rattle.dlms_words.specs.Numbers.{IsNumberOf}
use Rattle.dlms_program.specs.Pairs.{ArePairs}
use Rattle.dlms_program.specs.declared.orders.Order.{Order}
use Rattle.dlms_program.specs.declared.orders.Order.TheVariants.{Skip, Feed, Pulses, Moment, Silence, Open, Show}

-- none of the bytes is a space
abbrev pub HasNoSpace : List ℕ → Type 0
HasNoSpace [] = Unit {0}
HasNoSpace (byte ∷ bytes) = (byte ≢ 32) × HasNoSpace bytes

-- `P`, a channel of 8 bits and a count of 32 bits, parted by one space
pub record SpellsPulses (line : List ℕ) (channel count : ℕ) : Type 0 where
  pub channel_digits : List ℕ
  pub count_digits : List ℕ
  pub text : line ≡ codes "P " ++ (channel_digits ++ 32 ∷ count_digits)
  pub channel_number : IsNumberOf channel_digits channel
  pub count_number : IsNumberOf count_digits count
  pub channel_fits : channel < 2 ^ 8
  pub count_fits : count < 2 ^ 32

-- `M` and a second of 32 bits
pub record SpellsMoment (line : List ℕ) (second : ℕ) : Type 0 where
  pub digits : List ℕ
  pub text : line ≡ codes "M " ++ digits
  pub number : IsNumberOf digits second
  pub fits : second < 2 ^ 32

-- `>` and pairs of hexadecimal digits
pub record SpellsBytes (line bytes : List ℕ) : Type 0 where
  pub digits : List ℕ
  pub text : line ≡ codes "> " ++ digits
  pub pairs : ArePairs digits bytes

-- the line says this; bytes that it brings are these
abbrev pub Spells : List ℕ → List ℕ → Order → Type 0
Spells line bytes Skip = (line ≡ []) ⊎ ((comment : List ℕ) × (line ≡ codes "#" ++ comment))
Spells line bytes Feed = SpellsBytes line bytes
Spells line bytes (Pulses channel count) = SpellsPulses line channel count
Spells line bytes (Moment second) = SpellsMoment line second
Spells line bytes Silence = line ≡ codes "I"
Spells line bytes Open = line ≡ codes "O"
Spells line bytes Show = line ≡ codes "S"
