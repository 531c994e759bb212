-- The calls of a carrier, and a run of them.
use Rattle.std.specs.Prelude.{◌≡◌, ℕ, List, [], ◌∷◌, take, Option, Some, None}
use Rattle.std.specs.List.{flat_map, filter_map}
use Rattle.dlms_carrier.specs.declared.event.Event.{Event}
use Rattle.dlms_carrier.specs.declared.event.Event.TheVariants.{Nothing, Up, Apdu, Down, TimedOut, Refused, Insecure}

-- which method is called, and with which argument; of the octets that arrived the first `count` are read
pub data Input : Type 0 where
  Begin : Input
  Give : (apdu : List ℕ) → Input
  Feed : (octets : List ℕ) (count : ℕ) → Input
  Wait : Input
  End : Input

-- the meaning of a call: the carrier before it, the call, its event, the carrier after it
abbrev pub StepsOf : Type 0 → Type 1
StepsOf C = C → Input → Event → C → Type 0

-- the meaning of a carrier's calls
pub record Meaning (C : Type 0) : Type 1 where
  pub steps : StepsOf C
  pub out_of : C → List ℕ
  pub apdu_of : C → List ℕ
  pub is_waiting : C → Type 0

abbrev pub meaning : {C : Type 0} → StepsOf C → (C → List ℕ) → (C → List ℕ) → (C → Type 0)
    → Meaning C
meaning steps out_of apdu_of is_waiting =
    record { steps = steps; out_of = out_of; apdu_of = apdu_of; is_waiting = is_waiting }

-- a call as its caller sees it: its arguments, its event, and after it the octets to write and the last APDU
pub record Call : Type 0 where
  pub input : Input
  pub event : Event
  pub out : List ℕ
  pub apdu : List ℕ

-- the call does what the carrier's relations say
pub record Does {C : Type 0} (steps : C → Input → Event → C → Type 0) (out_of apdu_of : C → List ℕ) (old : C) (call : Call) (new : C) : Type 0 where
  pub step : steps old call.input call.event new
  pub out : call.out ≡ out_of new
  pub apdu : call.apdu ≡ apdu_of new

-- these calls, one after another, may lead from one state of a carrier to another
abbrev pub Runs : {C : Type 0} → (C → Input → Event → C → Type 0) → (C → List ℕ) → (C → List ℕ) → C → List Call → C → Type 0
Runs {C} steps out_of apdu_of old [] new = new ≡ old
Runs {C} steps out_of apdu_of old (call ∷ calls) new = (mid : C) × Does steps out_of apdu_of old call mid × Runs steps out_of apdu_of mid calls new

abbrev pub given_by : Input → Option (List ℕ)
given_by Begin = None
given_by (Give apdu) = Some apdu
given_by (Feed octets count) = None
given_by Wait = None
given_by End = None

abbrev pub read_by : Input → List ℕ
read_by Begin = []
read_by (Give apdu) = []
read_by (Feed octets count) = take count octets
read_by Wait = []
read_by End = []

abbrev pub handed_at : Event → List ℕ → Option (List ℕ)
handed_at Apdu apdu = Some apdu
handed_at Nothing apdu = None
handed_at Up apdu = None
handed_at Down apdu = None
handed_at TimedOut apdu = None
handed_at (Refused why) apdu = None
handed_at Insecure apdu = None

-- the APDUs that were given to the meter, and those of the meter that were handed up, each in their order
abbrev pub given : List Call → List (List ℕ)
given calls = filter_map (λ call. given_by call.input) calls

abbrev pub handed_up : List Call → List (List ℕ)
handed_up calls = filter_map (λ call. handed_at call.event call.apdu) calls

-- the octets that went out, and those that were read
abbrev pub written : List Call → List ℕ
written calls = flat_map (λ call. call.out) calls

abbrev pub read : List Call → List ℕ
read calls = flat_map (λ call. read_by call.input) calls
