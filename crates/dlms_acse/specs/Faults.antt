-- Where each fault occurs, in terms of the fields: what precedes it, and what is wrong there.
use Rattle.std.specs.Prelude.{◌≡◌, ◌≢◌, ◌↔◌, ℕ, ◌<◌, ◌≤◌, ◌+◌, ◌-◌, ◌⊎◌, true, false, List, [], ◌∷◌, ◌++◌, length, Err}
use Rattle.dlms_acse.specs.declared.fault.AcseFault.{AcseFault}
use Rattle.dlms_acse.specs.declared.fault.AcseFault.TheVariants.{Short, Tag, Length, Repeated}
use Rattle.dlms_acse.specs.Reading.{contains, checked_at, body_at}
use Rattle.dlms_acse.specs.Spelling.{IsLength, Counts, Field, SpellFields, AreNew, IsApdu}

-- an octet that begins no length: 80, or one that announces more octets than the limit
abbrev pub IsNoLength : ℕ → List ℕ → Type 0
IsNoLength most bytes = (b : ℕ) × (rest : List ℕ) × (bytes ≡ b ∷ rest)
    × ((b ≡ 0x80) ⊎ (0x80 + most < b))

-- a length and its content are cut short: nothing is there, or the length is cut, or its content
abbrev pub IsCut : ℕ → List ℕ → Type 0
IsCut most bytes = (bytes ≡ [])
    ⊎ (((b : ℕ) × (rest : List ℕ) × (bytes ≡ b ∷ rest) × (0x80 < b) × (b ≤ 0x80 + most)
    × (length rest < b - 0x80))
    ⊎ ((len rest : List ℕ) × (n : ℕ) × (bytes ≡ len ++ rest) × IsLength most len n
    × (length rest < n)))

-- the earlier tags, and those of these fields
abbrev pub seen : List ℕ → List Field → List ℕ
seen tags [] = tags
seen tags (f ∷ fs) = seen (f.tag ∷ tags) fs

-- the fault of a field after these tags: its tag is among them, or there is no length, or it is cut short
abbrev pub IsWrong : AcseFault → List ℕ → ℕ → List ℕ → Type 0
IsWrong Short tags tag rest = (contains tag tags ≡ false) × IsCut 2 rest
IsWrong Tag tags tag rest = ⊥
IsWrong Length tags tag rest = (contains tag tags ≡ false) × IsNoLength 2 rest
IsWrong Repeated tags tag rest = contains tag tags ≡ true

-- after fields with distinct tags comes a field at which this is wrong
abbrev pub StandsIn : AcseFault → List ℕ → List ℕ → Type 0
StandsIn fault tags bytes = (fs : List Field) × (front : List ℕ) × (tag : ℕ) × (rest : List ℕ)
    × (bytes ≡ front ++ tag ∷ rest) × SpellFields front fs × AreNew tags fs
    × IsWrong fault (seen tags fs) tag rest

-- the fault is within what the APDU's length counts
abbrev pub IsInside : AcseFault → ℕ → List ℕ → Type 0
IsInside fault tag bytes = (text body rest : List ℕ) × (bytes ≡ tag ∷ (text ++ rest))
    × Counts 2 text body × StandsIn fault [] body

-- ---- the laws

-- a fault of fields is at the first field that has one
abbrev pub TellsFields : Type 0
TellsFields = (bytes : List ℕ) (fault : AcseFault)
    → (checked_at (length bytes) [] bytes ≡ Err fault) ↔ StandsIn fault [] bytes

-- an APDU of another type: its first octet differs
abbrev pub TellsAnother : Type 0
TellsAnother = (tag : ℕ) (bytes : List ℕ) → (body_at tag bytes ≡ Err Tag)
    ↔ ((t : ℕ) × (rest : List ℕ) × (bytes ≡ t ∷ rest) × (t ≢ tag))

-- a tag occurs twice among the fields
abbrev pub TellsRepeated : Type 0
TellsRepeated = (tag : ℕ) (bytes : List ℕ) → (body_at tag bytes ≡ Err Repeated)
    ↔ IsInside Repeated tag bytes

-- cut short: no byte, or the APDU's length and fields are cut, or a field's
abbrev pub TellsCut : Type 0
TellsCut = (tag : ℕ) (bytes : List ℕ) → (body_at tag bytes ≡ Err Short)
    ↔ ((bytes ≡ []) ⊎ (((rest : List ℕ) × (bytes ≡ tag ∷ rest) × IsCut 2 rest)
    ⊎ IsInside Short tag bytes))

-- no length begins so, the APDU's or a field's; or bytes follow a whole APDU
abbrev pub TellsLength : Type 0
TellsLength = (tag : ℕ) (bytes : List ℕ) → (body_at tag bytes ≡ Err Length)
    ↔ (((rest : List ℕ) × (bytes ≡ tag ∷ rest) × IsNoLength 2 rest)
    ⊎ (IsInside Length tag bytes ⊎ ((front : List ℕ) × (b : ℕ) × (more : List ℕ) × (fs : List Field)
    × (bytes ≡ front ++ b ∷ more) × IsApdu tag front fs)))
