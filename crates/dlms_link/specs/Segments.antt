-- The information of an APDU's frames, joined, is its LLC and then the APDU.
use Rattle.std.specs.Prelude.{◌≡◌, ℕ, ◌≤◌, ◌==◌, ◌&&◌, if◌then◌else◌, true, false, List, [], ◌∷◌, ◌++◌, length, map, All}
use Rattle.dlms_frame.specs.Frame.{Parts}
use Rattle.dlms_link.specs.Kept.{Kept, BadStart, kept_after, capped, is_more}
use Rattle.dlms_link.specs.declared.kept.TheConstants.{DESTINATION, QUALITY}

abbrev pub joined : List (List ℕ) → List ℕ
joined [] = []
joined (info ∷ infos) = info ++ joined infos

-- what is kept after these segments
abbrev pub kept_after_all : ℕ → Kept → List (List ℕ) → Kept
kept_after_all side k [] = k
kept_after_all side k (info ∷ infos) = kept_after_all side (kept_after side k info) infos

-- the whole information of an APDU's frames, read at once
abbrev pub read_whole : ℕ → List ℕ → Kept
read_whole side (x ∷ y ∷ z ∷ apdu) = if (x == DESTINATION) && (y == side) && (z == QUALITY)
    then capped apdu else BadStart
read_whole side _ = BadStart

-- A text goes out in these frames: their information, joined, is the text; each but the last holds exactly as much as fits
-- and says that more follows, and the last says that nothing does.
pub record IsSegmented (size : ℕ) (text : List ℕ) (frames : List Parts) : Type 0 where
  pub front : List Parts
  pub last : Parts
  pub in_order : frames ≡ front ++ last ∷ []
  pub text_joined : joined (map (λ f. f.info) frames) ≡ text
  pub full : All (λ f. length f.info ≡ size) front
  pub go_on : All (λ f. f.segmented ≡ true) front
  pub short : length last.info ≤ size
  pub ends : last.segmented ≡ false

-- These frames of a text have gone out, and this rest has not: all of them are full and announce more, or nothing is left and they
-- are the text in segments.
pub record IsUnderWay (size : ℕ) (text : List ℕ) (frames : List Parts) (rest : List ℕ)
    : Type 0 where
  pub together : joined (map (λ f. f.info) frames) ++ rest ≡ text
  pub full : is_more rest ≡ true → All (λ f. length f.info ≡ size) frames
  pub go_on : is_more rest ≡ true → All (λ f. f.segmented ≡ true) frames
  pub ends : rest ≡ [] → IsSegmented size text frames
