-- The carrier over TCP: each APDU is a message of the wrapper (IEC 62056-47) between the client's port and the meter's.
use Rattle.std.specs.Prelude.{◌≡◌, ◌≢◌, ℕ, ◌≤◌, List, [], ◌∷◌, ◌++◌, length, take, Option, Some, None, Bool, false, nat_eq, ◌||◌}
use Rattle.dlms_wrapper.specs.Message.{Parts, message_bytes}
use Rattle.dlms_wrapper.specs.Stream.{IsRefused, IsRefusedFor, Kept, Splits, Takes}
use Rattle.dlms_wrapper.specs.declared.message.TheConstants.{MOST_APDU}
use Rattle.dlms_carrier.specs.Carrying.{Call, Input, Begin, Give, Feed, Wait, End, Runs}
use Rattle.dlms_carrier.specs.declared.event.Event.{Event}
use Rattle.dlms_carrier.specs.declared.event.Event.TheVariants as event
use Rattle.dlms_carrier.specs.declared.phase.Phase.{Phase}
use Rattle.dlms_carrier.specs.declared.phase.Phase.TheVariants.{Down, Idle, Waiting}
use Rattle.dlms_carrier.specs.declared.tcp.TcpCarrier.TheInside.{Inside}

pub record TcpValue : Type 0 where
  -- the wrapper ports of the client and of the meter
  pub own : ℕ
  pub server : ℕ
  pub phase : Phase
  -- the octets that were read of a message that is not whole yet, and the message that the last call of feed completed
  pub reader : Kept
  -- the octets to write after the last call
  pub text : List ℕ

abbrev pub value_of : Inside → TcpValue
value_of c = record { own = c.own; server = c.server; phase = c.phase; reader = c.reader; text = c.text.items }

-- no refused header was read
abbrev pub IsReadable : Kept → Type 0
IsReadable reader = IsRefused reader.limit reader.bytes → ⊥

-- the carrier's invariant: while the connection is up, no refused header was read
pub record IsInOrder (c : Inside) : Type 0 where
  pub limit : c.reader.limit ≡ MOST_APDU
  pub readable : c.phase ≢ Down → IsReadable c.reader

-- a reader at the start of a stream
abbrev pub at_start : Kept
at_start = record { limit = MOST_APDU; bytes = []; message = None }

-- a carrier between these ports, without a connection
abbrev pub fresh : ℕ → ℕ → TcpValue
fresh own server = record { own = own; server = server; phase = Down; reader = at_start; text = [] }

-- the message of an APDU, from one port to the other
abbrev pub message_of : ℕ → ℕ → List ℕ → Parts
message_of source dest apdu = record { source = source; dest = dest; apdu = apdu }

abbrev pub apdu_in : Option Parts → List ℕ
apdu_in None = []
apdu_in (Some m) = m.apdu

abbrev pub last_apdu : TcpValue → List ℕ
last_apdu c = apdu_in c.reader.message

-- A data notification or an event notification, which a meter sends unasked (Green Book 9, tags 15 and 194): it is no answer.
abbrev pub is_notification : List ℕ → Bool
is_notification [] = false
is_notification (tag ∷ rest) = nat_eq tag 15 || nat_eq tag 194

-- the message that was completed, if any, is from one port to the other, and no notification
pub record IsBetween (source dest : ℕ) (found : Option Parts) : Type 0 where
  pub message : Parts
  pub whole : found ≡ Some message
  pub from : message.source ≡ source
  pub to : message.dest ≡ dest
  pub answers : is_notification message.apdu ≡ false

-- an answer is awaited, and a message from the meter to the client is whole
abbrev pub HasAnswer : TcpValue → Type 0
HasAnswer c = (c.phase ≡ Waiting) × IsBetween c.server c.own c.reader.message

-- The event of the octets that arrived: a refused header ends the connection; the answer is handed up, and then nothing is awaited; any
-- other message is ignored.
abbrev pub Comes : TcpValue → Event → TcpValue → Type 0
Comes c (event.Refused why) new =
    (c.phase ≢ Down) × IsRefusedFor c.reader.limit c.reader.bytes why × (new ≡ record c { phase = Down })
Comes c event.Apdu new = HasAnswer c × IsReadable c.reader × (new ≡ record c { phase = Idle })
Comes c event.Nothing new = (HasAnswer c → ⊥) × (c.phase ≢ Down → IsReadable c.reader) × (new ≡ c)
Comes c event.Up new = ⊥
Comes c event.Down new = ⊥
Comes c event.TimedOut new = ⊥
Comes c event.Insecure new = ⊥

-- the reader read these octets
pub record Reads (old : Kept) (octets : List ℕ) (new : Kept) : Type 0 where
  pub limit : new.limit ≡ old.limit
  pub takes : Takes old.limit old.bytes (record { taken = octets; found = new.message }) new.bytes

-- octets arrived: they are read while the connection is up, and dropped after its end
pub record Hears (c : TcpValue) (octets : List ℕ) (event : Event) (new : TcpValue) : Type 0 where
  pub reader : Kept
  pub reads : c.phase ≢ Down → Reads c.reader octets reader
  pub drops : c.phase ≡ Down → reader ≡ c.reader
  pub comes : Comes (record c { reader = reader; text = [] }) event new

-- What each call does, and when it may be made. One timeout ends the connection.
abbrev pub Steps : TcpValue → Input → Event → TcpValue → Type 0
Steps c Begin result new = (c.phase ≡ Down) × (result ≡ event.Up) × (new ≡ record c { phase = Idle; reader = at_start; text = [] })
Steps c (Give apdu) result new =
    (c.phase ≡ Idle) × (length apdu ≤ MOST_APDU) × (result ≡ event.Nothing)
    × (new ≡ record c { phase = Waiting; text = message_bytes (message_of c.own c.server apdu) })
Steps c (Feed octets count) result new = Hears c (take count octets) result new
Steps c Wait result new = (c.phase ≡ Waiting) × (result ≡ event.TimedOut) × (new ≡ record c { phase = Down; text = [] })
Steps c End result new = (c.phase ≡ Idle) × (result ≡ event.Down) × (new ≡ record c { phase = Down; text = [] })

-- these calls of a carrier over TCP may lead from one state to another
abbrev pub TcpRuns : TcpValue → List Call → TcpValue → Type 0
TcpRuns old calls new = Runs Steps (λ c. c.text) last_apdu old calls new

-- the call requests no connection
abbrev pub IsWithin : Call → Type 0
IsWithin call = call.input ≢ Begin

-- These APDUs are of these messages, in their order: each is of a message from port `source` to port `dest`, and no notification. The
-- APDUs of other messages are left out.
pub data AreAmong (source dest : ℕ) : List (List ℕ) → List Parts → Type 0 where
  NoMessage : AreAmong source dest [] []
  HandedUp : (apdu : List ℕ) (apdus : List (List ℕ)) (ms : List Parts) → is_notification apdu ≡ false
      → AreAmong source dest apdus ms
      → AreAmong source dest (apdu ∷ apdus) (message_of source dest apdu ∷ ms)
  Ignored : (m : Parts) (apdus : List (List ℕ)) (ms : List Parts) → AreAmong source dest apdus ms → AreAmong source dest apdus (m ∷ ms)

-- These octets of one connection, after those that were kept, are a stream of messages, then octets that were dropped after the
-- connection's end; the APDUs that were handed up are among the stream's messages from the meter to the client.
pub record Brings (own server : ℕ) (kept octets : List ℕ) (apdus : List (List ℕ)) (new : TcpValue) : Type 0 where
  pub stream : List ℕ
  pub dropped : List ℕ
  pub messages : List Parts
  pub text : octets ≡ stream ++ dropped
  pub splits : Splits MOST_APDU (kept ++ stream) messages new.reader.bytes
  pub among : AreAmong server own apdus messages
  pub none : new.phase ≢ Down → dropped ≡ []
