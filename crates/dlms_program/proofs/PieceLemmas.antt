-- The bytes that a piece of a line takes from a reader's known bytes.
use Rattle.std.proofs.Common.{arith, refl, sym, ap, subst, append_assoc, eq-eqb, length-append, length-take-le, ◌∙◌, ◌≡◌, ◌≢◌, ◌<◌, ◌≤◌, ℕ, zero, suc, List, [], ◌∷◌, ◌++◌, length, take}
use Rattle.std.specs.Prelude.{Option, Some, None, Result, Ok, Err, IfOk}
use Rattle.std.specs.Io.KnownBytes.{Consumes, IsAtEnd, Keeps}
use Rattle.memchr.specs.Find.{Nowhere, Passes, is_byte}
use Rattle.dlms_program.specs.Lines.{lines_of, AddsPiece, HasLongLine, HasNoFeed, LosesLine, TakesPiece}
use Rattle.dlms_program.specs.declared.pieces.Piece.{Piece}
use Rattle.dlms_program.specs.declared.pieces.Piece.TheVariants.{End, Feed, Part, Full}
use Rattle.dlms_program.proofs.LineLemmas.{goes_on, line_ended}

-- ---- of some bytes

-- no line feed was found before a place
pub no_feed_before : (bytes : List ℕ) (n : ℕ) → Nowhere (Passes (is_byte 10) bytes) 0 n → n ≤ length bytes → HasNoFeed (take n bytes)
no_feed_before [] zero h within = tt
no_feed_before [] (suc n) h within = absurd (omega (arith, within))
no_feed_before (b ∷ bytes) zero h within = tt
no_feed_before (b ∷ bytes) (suc n) h within = (
  λ is. h 0 (omega arith) (omega arith) (eq-eqb b 10 is),
  no_feed_before bytes n (λ k from to. h (suc k) (omega arith) (omega (arith, to))) (omega (arith, within)),
)

pub no_feed_less : (bytes : List ℕ) (less more : ℕ) → less ≤ more → HasNoFeed (take more bytes) → HasNoFeed (take less bytes)
no_feed_less bytes zero more h free = tt
no_feed_less bytes (suc less) zero h free = absurd (omega (arith, h))
no_feed_less [] (suc less) (suc more) h free = tt
no_feed_less (b ∷ bytes) (suc less) (suc more) h free = (free.0, no_feed_less bytes less more (omega (arith, h)) free.1)

-- the first of some bytes that are no line feed
pub first_other : (bytes : List ℕ) (n : ℕ) → 0 < n → n ≤ length bytes → HasNoFeed (take n bytes) → (byte : ℕ) × (byte ≢ 10) × (take 1 bytes ≡ byte ∷ [])
first_other bytes zero some within free = absurd (omega (arith, some))
first_other [] (suc n) some within free = absurd (omega (arith, within))
first_other (b ∷ bytes) (suc n) some within free = (b, free.0, refl)

-- ---- of what is shown

-- where bytes are shown, some are taken
pub adds_some : (shown before after : List ℕ) (count : ℕ) (piece : Piece) → 0 < length shown → count ≤ length shown → AddsPiece shown before after count piece → 0 < count
adds_some shown before after count End some within adds = absurd (omega (arith, some, ap length adds.0))
adds_some shown before after count Feed some within (part, free, taken, is) =
    omega (arith, length-take-le count shown within, ap length taken, length-append part (10 ∷ []))
adds_some shown before after count Part some within (part, free, long, taken, is) = omega (arith, length-take-le count shown within, ap length taken, long)
adds_some shown before after count Full some within (byte, other, taken, is, full) = omega (arith, length-take-le count shown within, ap length taken)

take_none : (n : ℕ) → take {A = ℕ} n [] ≡ []
take_none zero = refl
take_none (suc n) = refl

-- what was shown and is taken leaves the known bytes
pub shown_taken : (old new : Option (List ℕ)) (shown before after : List ℕ) (count : ℕ) (piece : Piece) → Consumes old new (take count shown) → (shown ≡ [] → IsAtEnd old)
    → AddsPiece shown before after count piece → TakesPiece old new before after piece
shown_taken old new shown before after count End taken end (none, is) =
    let empty : take count shown ≡ [] = subst (λ (bytes : List ℕ). take count bytes ≡ []) (sym none) (take_none count) in
    (subst (λ (bytes : List ℕ). Consumes old new bytes) empty taken, end none, is)
shown_taken old new shown before after count Feed taken end (part, free, are, is) = (part, free, subst (λ (bytes : List ℕ). Consumes old new bytes) are taken, is)
shown_taken old new shown before after count Part taken end (part, free, long, are, is) = (part, free, long, subst (λ (bytes : List ℕ). Consumes old new bytes) are taken, is)
shown_taken old new shown before after count Full taken end (byte, other, are, is, full) = (byte, other, subst (λ (bytes : List ℕ). Consumes old new bytes) are taken, is, full)

-- ---- one after another

keeps_consumes : (a b c : Option (List ℕ)) (bytes : List ℕ) → Keeps a b → Consumes b c bytes → Consumes a c bytes
keeps_consumes None b c bytes h k = tt
keeps_consumes (Some xs) None c bytes h k = absurd h
keeps_consumes (Some xs) (Some ys) None bytes h k = absurd k
keeps_consumes (Some xs) (Some ys) (Some zs) bytes h k = sym h ∙ k

keeps_end : (a b : Option (List ℕ)) → Keeps a b → IsAtEnd b → IsAtEnd a
keeps_end None b h k = tt
keeps_end (Some xs) None h k = absurd h
keeps_end (Some xs) (Some ys) h k = sym h ∙ k

pub keeps_piece : (a b c : Option (List ℕ)) (before after : List ℕ) (piece : Piece) → Keeps a b → TakesPiece b c before after piece → TakesPiece a c before after piece
keeps_piece a b c before after End h (taken, end, is) = (keeps_consumes a b c [] h taken, keeps_end a b h end, is)
keeps_piece a b c before after Feed h (part, free, taken, is) = (part, free, keeps_consumes a b c (part ++ 10 ∷ []) h taken, is)
keeps_piece a b c before after Part h (part, free, long, taken, is) = (part, free, long, keeps_consumes a b c part h taken, is)
keeps_piece a b c before after Full h (byte, other, taken, is, full) = (byte, other, keeps_consumes a b c (byte ∷ []) h taken, is, full)

-- what is said of any bytes
pub forgets_piece : {E : Type 0} (a b : Option (List ℕ)) (before after : List ℕ) (r : Result Piece E) → IfOk r (TakesPiece a b before after) → IfOk r (TakesPiece None None before after)
forgets_piece a b before after (Err error) h = tt
forgets_piece a b before after (Ok End) (taken, end, is) = (tt, tt, is)
forgets_piece a b before after (Ok Feed) (part, free, taken, is) = (part, free, tt, is)
forgets_piece a b before after (Ok Part) (part, free, long, taken, is) = (part, free, long, tt, is)
forgets_piece a b before after (Ok Full) (byte, other, taken, is, full) = (byte, other, tt, is, full)

no_feed_both : (line part : List ℕ) → HasNoFeed line → HasNoFeed part → HasNoFeed (line ++ part)
no_feed_both [] part h k = k
no_feed_both (b ∷ line) part h k = (h.0, no_feed_both line part h.1 k)

both_taken : (a b c : Option (List ℕ)) (line part : List ℕ) → Consumes a b line → Consumes b c part → Consumes a c (line ++ part)
both_taken None b c line part h k = tt
both_taken (Some xs) None c line part h k = absurd h
both_taken (Some xs) (Some ys) None line part h k = absurd k
both_taken (Some xs) (Some ys) (Some zs) line part h k = h ∙ ap (λ (t : List ℕ). line ++ t) k ∙ sym (append_assoc line part zs)

-- ---- the line so far, and a piece behind it

pub line_goes_on : (a b c : Option (List ℕ)) (line after : List ℕ) → Consumes a b line → HasNoFeed line → TakesPiece b c line after Part → Consumes a c after × HasNoFeed after × (length line < length after)
line_goes_on a b c line after h n (part, free, long, taken, is) = (
  subst (λ (bytes : List ℕ). Consumes a c bytes) (sym is) (both_taken a b c line part h taken),
  subst HasNoFeed (sym is) (no_feed_both line part n free),
  omega (arith, long, ap length is, length-append line part),
)

feed_taken : (a c : Option (List ℕ)) (line : List ℕ) → Consumes a c (line ++ 10 ∷ []) → HasNoFeed line → LosesLine a c line
feed_taken None c line h n = tt
feed_taken (Some xs) None line h n = absurd h
feed_taken (Some xs) (Some zs) line h n = ap (λ (t : List ℕ). lines_of t) (h ∙ append_assoc line (10 ∷ []) zs) ∙ line_ended line zs n

pub line_ends : (a b c : Option (List ℕ)) (line after : List ℕ) → Consumes a b line → HasNoFeed line → TakesPiece b c line after Feed → LosesLine a c after
line_ends a b c line after h n (part, free, taken, is) =
    subst (λ (whole : List ℕ). LosesLine a c whole) (sym is)
    (feed_taken a c (line ++ part) (subst (λ (bytes : List ℕ). Consumes a c bytes) (sym (append_assoc line part (10 ∷ []))) (both_taken a b c line (part ++ 10 ∷ []) h taken)) (no_feed_both line part n free))

pub line_is_long : (a b c : Option (List ℕ)) (line after : List ℕ) → Consumes a b line → HasNoFeed line → TakesPiece b c line after Full → HasLongLine a 8192
line_is_long a b c line after h n (byte, other, taken, is, full) = goes_on a b c line byte 8192 h n other taken full
