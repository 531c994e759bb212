-- Lines of a text, each ended by a line feed, which the last may lack.
use Rattle.std.specs.Prelude.{◌≡◌, ◌≢◌, ◌<◌, ◌==◌, ℕ, List, [], ◌∷◌, ◌++◌, length, take, Option, Some, None, if◌then◌else◌, ⊤}
use Rattle.std.specs.Io.KnownBytes.{Consumes, IsAtEnd}
use Rattle.dlms_program.specs.declared.pieces.Piece.{Piece}
use Rattle.dlms_program.specs.declared.pieces.Piece.TheVariants as piece
use Rattle.dlms_program.specs.declared.pieces.TheConstants.{MOST_BYTES}
use Rattle.dlms_program.specs.declared.lines.Taken.{Taken}
use Rattle.dlms_program.specs.declared.lines.Taken.TheVariants.{End, Whole, Long}

-- a byte before the first of some lines
abbrev pub onto_first : ℕ → List (List ℕ) → List (List ℕ)
onto_first byte [] = (byte ∷ []) ∷ []
onto_first byte (line ∷ rest) = (byte ∷ line) ∷ rest

-- the lines of a text, with no line feed
abbrev pub lines_of : List ℕ → List (List ℕ)
lines_of [] = []
lines_of (byte ∷ bytes) = if byte == 10 then [] ∷ lines_of bytes
    else onto_first byte (lines_of bytes)

-- a reader's known bytes are a line, the rest of them what it has left
abbrev pub LosesLine : Option (List ℕ) → Option (List ℕ) → List ℕ → Type 0
LosesLine None new line = ⊤
LosesLine (Some text) None line = ⊥
LosesLine (Some text) (Some rest) line = lines_of text ≡ line ∷ lines_of rest

-- the first line of a reader's known bytes is longer than that
abbrev pub HasLongLine : Option (List ℕ) → ℕ → Type 0
HasLongLine None most = ⊤
HasLongLine (Some text) most = (line : List ℕ) × (rest : List (List ℕ))
    × (lines_of text ≡ line ∷ rest) × (most < length line)

-- what a line was taken as, from known bytes
abbrev pub TakesLine : Option (List ℕ) → Option (List ℕ) → List ℕ → ℕ → Taken → Type 0
TakesLine old new line most End = IsAtEnd old
TakesLine old new line most Whole = LosesLine old new line
TakesLine old new line most Long = HasLongLine old most

-- none of the bytes is a line feed
abbrev pub HasNoFeed : List ℕ → Type 0
HasNoFeed [] = Unit {0}
HasNoFeed (byte ∷ bytes) = (byte ≢ 10) × HasNoFeed bytes

-- the bytes that a call took from known bytes, and those that it added to the line
abbrev pub TakesPiece : Option (List ℕ) → Option (List ℕ) → List ℕ → List ℕ → Piece → Type 0
TakesPiece old new before after piece.End = Consumes old new [] × IsAtEnd old × (after ≡ before)
TakesPiece old new before after piece.Feed = (part : List ℕ) × HasNoFeed part
    × Consumes old new (part ++ 10 ∷ []) × (after ≡ before ++ part)
TakesPiece old new before after piece.Part = (part : List ℕ) × HasNoFeed part × (0 < length part)
    × Consumes old new part × (after ≡ before ++ part)
TakesPiece old new before after piece.Full = (byte : ℕ) × (byte ≢ 10) × Consumes old new (byte ∷ [])
    × (after ≡ before) × (length before ≡ MOST_BYTES)

-- the same of the bytes that are shown, of which so many are taken
abbrev pub AddsPiece : List ℕ → List ℕ → List ℕ → ℕ → Piece → Type 0
AddsPiece shown before after count piece.End = (shown ≡ []) × (after ≡ before)
AddsPiece shown before after count piece.Feed = (part : List ℕ) × HasNoFeed part
    × (take count shown ≡ part ++ 10 ∷ []) × (after ≡ before ++ part)
AddsPiece shown before after count piece.Part = (part : List ℕ) × HasNoFeed part × (0 < length part)
    × (take count shown ≡ part) × (after ≡ before ++ part)
AddsPiece shown before after count piece.Full = (byte : ℕ) × (byte ≢ 10)
    × (take count shown ≡ byte ∷ []) × (after ≡ before) × (length before ≡ MOST_BYTES)

-- known bytes lose a part of a line, with no line feed
abbrev pub LosesPart : Option (List ℕ) → Option (List ℕ) → List ℕ → Type 0
LosesPart old new part = Consumes old new part × HasNoFeed part
