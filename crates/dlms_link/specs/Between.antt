-- What one end takes and sends from one APDU to the next, whatever comes to it meanwhile: frames that are for others or out
-- of turn, the last answer asked for again, segments of the other side, time-outs (IEC 62056-46, 6.4.4, segmentation; 6.4.3,
-- information transfer).
use Rattle.std.specs.Prelude.{◌≡◌, ℕ, ◌<◌, ◌≤◌, true, List, [], ◌∷◌, ◌++◌}
use Rattle.dlms_frame.specs.Frame.{Parts}
use Rattle.dlms_link.specs.declared.out.LinkOut.TheVariants.{Reply}
use Rattle.dlms_link.specs.declared.out.ClientOut.{ClientOut}
use Rattle.dlms_link.specs.declared.out.ClientOut.TheVariants.{Nothing, Up, Send, Apdu, Down}
use Rattle.dlms_link.specs.declared.phase.Phase.TheVariants.{Open}
use Rattle.dlms_link.specs.declared.server_row.ServerRow.{ServerRow}
use Rattle.dlms_link.specs.declared.server_row.ServerRow.TheVariants.{Connects, Refuses, Disconnects, Keeps, HandsUp, Repeats, SendsNext, SaysReady, Ignores}
use Rattle.dlms_link.specs.declared.client_row.ClientRow.{ClientRow}
use Rattle.dlms_link.specs.declared.client_row.ClientRow.TheVariants.{Takes, TakenBefore, LetsNext}
use Rattle.dlms_link.specs.Octet.{control_of}
use Rattle.dlms_link.specs.Server.{ServerRecord, row_of, server_on}
use Rattle.dlms_link.specs.Client.{ClientRecord, is_answer, way_of, client_step, client_timeout}

-- a row at which no segment is taken or sent, and no link comes up
abbrev pub IsPassed : ServerRow → Type 0
IsPassed (Connects size) = ⊥
IsPassed Refuses = Unit {0}
IsPassed Disconnects = Unit {0}
IsPassed Keeps = ⊥
IsPassed HandsUp = ⊥
IsPassed Repeats = Unit {0}
IsPassed SendsNext = ⊥
IsPassed SaysReady = Unit {0}
IsPassed Ignores = Unit {0}

-- a row at which something new begins: the link comes up, or an APDU is whole
abbrev pub IsAnew : ServerRow → Type 0
IsAnew (Connects size) = Unit {0}
IsAnew Refuses = ⊥
IsAnew Disconnects = ⊥
IsAnew Keeps = ⊥
IsAnew HandsUp = Unit {0}
IsAnew Repeats = ⊥
IsAnew SendsNext = ⊥
IsAnew SaysReady = ⊥
IsAnew Ignores = ⊥

-- These frames arrive at the meter's end, and none of them starts anything new. Meanwhile these segments of an incoming APDU are
-- taken, and these of an outgoing answer are sent; this is the end's state after them.
pub data MeterGoes : ServerRecord → List Parts → List (List ℕ) → List Parts → ServerRecord
    → Type 0 where
  NothingCame : (r : ServerRecord) → MeterGoes r [] [] [] r
  MeterTakes : (r : ServerRecord) (f : Parts) (frames : List Parts) (taken : List (List ℕ))
      (sent : List Parts) (now : ServerRecord) → row_of r f ≡ Keeps
      → MeterGoes (server_on r f).0 frames taken sent now
      → MeterGoes r (f ∷ frames) (f.info ∷ taken) sent now
  MeterSends : (r : ServerRecord) (f segment : Parts) (frames : List Parts) (taken : List (List ℕ))
      (sent : List Parts) (now : ServerRecord) → row_of r f ≡ SendsNext
      → (server_on r f).1 ≡ Reply segment → MeterGoes (server_on r f).0 frames taken sent now
      → MeterGoes r (f ∷ frames) taken (segment ∷ sent) now
  MeterPasses : (r : ServerRecord) (f : Parts) (frames : List Parts) (taken : List (List ℕ))
      (sent : List Parts) (now : ServerRecord) → IsPassed (row_of r f)
      → MeterGoes (server_on r f).0 frames taken sent now → MeterGoes r (f ∷ frames) taken sent now

-- at none of these frames does something new begin
pub record GoesOn (r : ServerRecord) (frames : List Parts) : Type 0 where
  pub taken : List (List ℕ)
  pub sent : List Parts
  pub now : ServerRecord
  pub goes : MeterGoes r frames taken sent now

-- one of these frames is the first at which something new begins
pub record BeginsAnew (r : ServerRecord) (frames : List Parts) : Type 0 where
  pub front : List Parts
  pub first : Parts
  pub rest : List Parts
  pub in_order : frames ≡ front ++ first ∷ rest
  pub before : GoesOn r front
  pub anew : IsAnew (row_of before.now first)

-- a frame of the meter, while the link is open, is dealt with in this way
pub record IsByWay (c : ClientRecord) (f : Parts) (way : ClientRow) : Type 0 where
  pub from_meter : is_answer c f ≡ true
  pub up : c.phase ≡ Open
  pub its_way : way_of c (control_of f.control) ≡ way

-- what comes to the client's end: a frame, or no frame for so long that the last one goes again
pub data Heard : Type 0 where
  Comes : Parts → Heard
  Silence : Heard

-- This comes to the client's end, and no APDU is whole, no link up or down, at any of it. These segments are taken meanwhile,
-- and these are sent.
pub data ClientGoes : ClientRecord → List Heard → List (List ℕ) → List Parts → ClientRecord
    → Type 0 where
  NothingHeard : (c : ClientRecord) → ClientGoes c [] [] [] c
  ClientTakes : (c : ClientRecord) (f ready : Parts) (heard : List Heard) (taken : List (List ℕ))
      (sent : List Parts) (now : ClientRecord) → IsByWay c f Takes
      → (client_step c f).1 ≡ Send ready → ClientGoes (client_step c f).0 heard taken sent now
      → ClientGoes c (Comes f ∷ heard) (f.info ∷ taken) sent now
  ClientSends : (c : ClientRecord) (f segment : Parts) (heard : List Heard) (taken : List (List ℕ))
      (sent : List Parts) (now : ClientRecord) → IsByWay c f LetsNext
      → (client_step c f).1 ≡ Send segment → ClientGoes (client_step c f).0 heard taken sent now
      → ClientGoes c (Comes f ∷ heard) taken (segment ∷ sent) now
  ClientAnswersAgain : (c : ClientRecord) (f : Parts) (heard : List Heard) (taken : List (List ℕ))
      (sent : List Parts) (now : ClientRecord) → IsByWay c f TakenBefore
      → ClientGoes (client_step c f).0 heard taken sent now
      → ClientGoes c (Comes f ∷ heard) taken sent now
  ClientPasses : (c : ClientRecord) (f : Parts) (heard : List Heard) (taken : List (List ℕ))
      (sent : List Parts) (now : ClientRecord) → client_step c f ≡ (c, Nothing)
      → ClientGoes c heard taken sent now → ClientGoes c (Comes f ∷ heard) taken sent now
  ClientWaits : (c : ClientRecord) (heard : List Heard) (taken : List (List ℕ)) (sent : List Parts)
      (now : ClientRecord) → c.repeats < 3 → ClientGoes (client_timeout c).0 heard taken sent now
      → ClientGoes c (Silence ∷ heard) taken sent now

-- this ends the time between two APDUs: an APDU is complete, or the link is up or down
abbrev pub EndsIt : ClientOut → Type 0
EndsIt Nothing = ⊥
EndsIt Up = Unit {0}
EndsIt (Send f) = ⊥
EndsIt Apdu = Unit {0}
EndsIt Down = Unit {0}

-- the client's end after what arrived
abbrev pub client_hears : ClientRecord → Heard → ClientRecord
client_hears c (Comes f) = (client_step c f).0
client_hears c Silence = (client_timeout c).0

-- at this something new begins: what comes out says so, or it is the fourth silence in a row
abbrev pub IsAnewForClient : ClientRecord → Heard → Type 0
IsAnewForClient c (Comes f) = EndsIt (client_step c f).1
IsAnewForClient c Silence = 3 ≤ c.repeats

-- at none of this does something new begin
pub record ClientGoesOn (c : ClientRecord) (heard : List Heard) : Type 0 where
  pub taken : List (List ℕ)
  pub sent : List Parts
  pub now : ClientRecord
  pub goes : ClientGoes c heard taken sent now

-- one of this is the first at which something new begins
pub record ClientBeginsAnew (c : ClientRecord) (heard : List Heard) : Type 0 where
  pub front : List Heard
  pub first : Heard
  pub rest : List Heard
  pub in_order : heard ≡ front ++ first ∷ rest
  pub before : ClientGoesOn c front
  pub anew : IsAnewForClient before.now first
