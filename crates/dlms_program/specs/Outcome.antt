-- What no text determines: whether memory was found at each frame of each line, and whether the device failed.
use Rattle.std.specs.Prelude.{◌≡◌, ◌≢◌, ◌+◌, ℕ, Bool, List, [], ◌∷◌, Option, Some, None}
use Rattle.std.proofs.Common.{inl, inr}
use Rattle.dlms_program.specs.declared.orders.Order.{Order}
use Rattle.dlms_program.specs.declared.orders.Order.TheVariants.{Skip, Feed, Pulses, Moment, Silence, Open, Show}
use Rattle.dlms_store.specs.declared.fault.OpenFault.TheVariants as opening
use Rattle.dlms_meter.specs.Alike.{IsAlike}
use Rattle.dlms_meter.specs.Healthy.{IsDecided, IsServed}
use Rattle.dlms_meter.specs.Run.{MeterWorld, FoundMemory, Turn, events_of}
use Rattle.dlms_program.specs.Replay.{Does, End, Replays}

-- At each frame of a line (only bytes have frames) memory was found; the device did not fail, and when it was closed and opened
-- again every accepted event was found.
abbrev pub LineFound : (honest : Bool) (w : MeterWorld) (bytes : List ℕ) (order : Order)
    (w' : MeterWorld) (written : List ℕ) → Does honest w bytes order w' written → Type 0
LineFound honest w bytes Feed w' written (replies, comes, is) = FoundMemory comes.turns
LineFound honest w bytes Skip w' written does = Unit {0}
LineFound honest w bytes (Pulses channel count) w' written (outcome, step, judged, is) =
    IsDecided outcome
LineFound honest w bytes (Moment second) w' written (outcome, step, judged, is) = IsDecided outcome
LineFound honest w bytes Silence w' written does = Unit {0}
LineFound honest w bytes Open w' written (found, finds, leads, is) = found ≡ events_of w
LineFound honest w bytes Show w' written does = Unit {0}

-- so it was in each line that was done
abbrev pub AllFound : (honest : Bool) (w : MeterWorld) (number : ℕ) (lines : List (List ℕ))
    (written : List ℕ) (end : End) (last : Option MeterWorld)
    → Replays honest w number lines written end last → Type 0
AllFound honest w number [] written end last replays = Unit {0}
AllFound honest w number (line ∷ lines) written end last (inl bad) = Unit {0}
AllFound honest w number (line ∷ lines) written end last (inr (inl gone)) = ⊥
AllFound honest w number (line ∷ lines) written end last
    (inr (inr (short, bytes, order, w', first, rest, spells, does, replays, joins))) =
    LineFound honest w bytes order w' first does
    × AllFound honest w' (number + 1) lines rest end last replays

-- ---- want of memory alone

-- each frame that is answered as the service has it found memory
abbrev pub FramesHadMemory : List Turn → Type 0
FramesHadMemory [] = Unit {0}
FramesHadMemory (turn ∷ turns) = (IsServed turn.choice → FoundMemory (turn ∷ []))
    × FramesHadMemory turns

abbrev pub LineHadMemory : (honest : Bool) (w : MeterWorld) (bytes : List ℕ) (order : Order)
    (w' : MeterWorld) (written : List ℕ) → Does honest w bytes order w' written → Type 0
LineHadMemory honest w bytes Feed w' written (replies, comes, is) = FramesHadMemory comes.turns
LineHadMemory honest w bytes _ w' written does = Unit {0}

-- memory was found in each line that was done, and in each recovery
abbrev pub AllHadMemory : (honest : Bool) (w : MeterWorld) (number : ℕ) (lines : List (List ℕ))
    (written : List ℕ) (end : End) (last : Option MeterWorld)
    → Replays honest w number lines written end last → Type 0
AllHadMemory honest w number [] written end last replays = Unit {0}
AllHadMemory honest w number (line ∷ lines) written end last (inl bad) = Unit {0}
AllHadMemory honest w number (line ∷ lines) written end last
    (inr (inl (bytes, spells, fault, may, is, closed, none))) = fault ≢ opening.Memory
AllHadMemory honest w number (line ∷ lines) written end last
    (inr (inr (short, bytes, order, w', first, rest, spells, does, replays, joins))) =
    LineHadMemory honest w bytes order w' first does
    × AllHadMemory honest w' (number + 1) lines rest end last replays

-- two runs end at worlds that nobody tells apart, or both at none
abbrev pub AlikeEnds : Option MeterWorld → Option MeterWorld → Type 0
AlikeEnds (Some v) (Some w) = IsAlike v w
AlikeEnds None None = Unit {0}
AlikeEnds _ _ = ⊥
