-- Lengths, numbers and counted octets at the front of bytes (A-XDR, IEC 61334-6), and the first thing that is wrong with them.
use Rattle.std.specs.Prelude.{◌≡◌, ℕ, ◌-◌, List, [], ◌∷◌, length, take, drop, Result, Ok, Err, IfOk, IsOkAnd, nat_lt, ◌||◌, if◌then◌else◌}
use Rattle.byteorder.specs.Endian.{big_number}
use Rattle.dlms_axdr.specs.declared.fault.DataFault.{DataFault}
use Rattle.dlms_axdr.specs.declared.fault.DataFault.TheVariants.{Short, Tag as NoTag, Length, Depth, Memory}

-- what can be wrong with bytes
pub data Fault : Type 0 where
  short : Fault
  no_type : Fault
  no_length : Fault
  too_deep : Fault

infixl 10 ◌>>=◌
abbrev pub ◌>>=◌ : {A B : Type 0} → Result A Fault → (A → Result B Fault) → Result B Fault
(Ok x) >>= f = f x
(Err e) >>= f = Err e

-- The fault that a function reported, if it takes no memory.
abbrev pub IsFault : {Y : Type 0} → DataFault → Result Y Fault → Type 0
IsFault Memory read = ⊥
IsFault Short read = read ≡ Err short
IsFault NoTag read = read ≡ Err no_type
IsFault Length read = read ≡ Err no_length
IsFault Depth read = read ≡ Err too_deep

-- The same for a function that may run out of memory: then what is read, if it can be read, needs some.
abbrev pub Fails : {Y : Type 0} → (Y → Type 0) → DataFault → Result Y Fault → Type 0
Fails needs Memory read = IfOk read needs
Fails needs Short read = read ≡ Err short
Fails needs NoTag read = read ≡ Err no_type
Fails needs Length read = read ≡ Err no_length
Fails needs Depth read = read ≡ Err too_deep

-- The same, if memory was only requested for what can be read.
abbrev pub Wants : {Y : Type 0} → (Y → Type 0) → DataFault → Result Y Fault → Type 0
Wants needs Memory read = IsOkAnd read needs
Wants needs Short read = read ≡ Err short
Wants needs NoTag read = read ≡ Err no_type
Wants needs Length read = read ≡ Err no_length
Wants needs Depth read = read ≡ Err too_deep

-- What a function returned, seen by view, is what reading returns: for a function that takes no memory, for one that may run out of
-- memory if what it reads needs some, and for one that may do so only if there is a value.
abbrev pub Tells : {X Y : Type 0} → (X → Y) → Result X DataFault → Result Y Fault → Type 0
Tells view (Ok x) read = read ≡ Ok (view x)
Tells view (Err e) read = IsFault e read

abbrev pub Gives : {X Y : Type 0} → (X → Y) → (Y → Type 0) → Result X DataFault → Result Y Fault
    → Type 0
Gives view needs (Ok x) read = read ≡ Ok (view x)
Gives view needs (Err e) read = Fails needs e read

abbrev pub Answers : {X Y : Type 0} → (X → Y) → (Y → Type 0) → Result X DataFault → Result Y Fault
    → Type 0
Answers view needs (Ok x) read = read ≡ Ok (view x)
Answers view needs (Err e) read = Wants needs e read

-- the bytes that follow what was read
abbrev pub behind : {Y : Type 0} → Result (Y × List ℕ) Fault → Result (List ℕ) Fault
behind (Ok x) = Ok x.1
behind (Err e) = Err e

-- The result of reading, and the bytes after it.
unfoldable pub taken_at : ℕ → List ℕ → Result (List ℕ × List ℕ) Fault
taken_at n bytes = if nat_lt (length bytes) n then Err short else Ok (take n bytes, drop n bytes)

unfoldable pub number_at : ℕ → List ℕ → Result (ℕ × List ℕ) Fault
number_at n bytes = taken_at n bytes >>= λ t. Ok (big_number n t.0, t.1)

-- a byte below 128, or the number of bytes after it that are the length: 81 to 84 for 1 to 4
unfoldable pub length_at : List ℕ → Result (ℕ × List ℕ) Fault
length_at [] = Err short
length_at (b ∷ rest) =
    if nat_lt b 0x80 then Ok (b, rest)
    else (if nat_lt b 0x81 || nat_lt 0x84 b then Err no_length
    else number_at (b - 0x80) rest)

unfoldable pub octets_at : List ℕ → Result (List ℕ × List ℕ) Fault
octets_at bytes = length_at bytes >>= λ n. taken_at n.0 n.1
