-- The calls of a reader, one after another, and the telegrams that the octets of a line complete.
use Rattle.std.specs.Prelude.{◌≡◌, if◌then◌else◌, ℕ, List, [], ◌∷◌, ◌++◌}
use Rattle.std.specs.List.{flat_map}
use Rattle.dlms_telegram.specs.Telegram.{Kept, Takes, after, is_found, nothing}
use Rattle.dlms_telegram.specs.declared.reader.Found.TheVariants.{Nothing}

-- a call of feed: the octets that it took, and the reader after it
pub record Call : Type 0 where
  pub taken : List ℕ
  pub reader : Kept

-- these calls, one after another, may lead from one reader to another
abbrev pub Feeds : Kept → List Call → Kept → Type 0
Feeds old [] new = new ≡ old
Feeds old (call ∷ calls) new = Takes old call.taken call.reader × Feeds call.reader calls new

abbrev pub octets_of : List Call → List ℕ
octets_of calls = flat_map (λ call. call.taken) calls

-- what a call completed, with its octets
abbrev pub completed_in : Kept → List Kept
completed_in kept = if is_found kept.found then kept ∷ [] else []

abbrev pub completed_by : List Call → List Kept
completed_by calls = flat_map (λ call. completed_in call.reader) calls

-- what the octets of a line complete, in their order
abbrev pub completed_of : Kept → List ℕ → List Kept
completed_of kept [] = []
completed_of kept (x ∷ xs) =
    if is_found (after kept x).found then after kept x ∷ completed_of (nothing Nothing) xs
    else completed_of (after kept x) xs

-- some of these octets, one after another
abbrev pub IsPart : (octets part : List ℕ) → Type 0
IsPart octets part = (before : List ℕ) × (after : List ℕ) × (octets ≡ before ++ (part ++ after))
