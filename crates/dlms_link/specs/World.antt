-- Both ends and the line between them, over every list of events.
use Rattle.std.specs.Prelude.{◌≡◌, ℕ, ◌≤◌, List, [], ◌∷◌, ◌++◌, length, Option, None, Some}
use Rattle.dlms_frame.specs.Client.{sap_of}
use Rattle.dlms_frame.specs.declared.client.Client.{Client}
use Rattle.dlms_frame.specs.declared.frame.Address.TheVariants.{One}
use Rattle.dlms_frame.specs.Frame.{Parts}
use Rattle.dlms_link.specs.declared.phase.Phase.{Phase}
use Rattle.dlms_link.specs.declared.phase.Phase.TheVariants.{Closed, Connecting, Open, Closing}
use Rattle.dlms_link.specs.declared.out.LinkOut.{LinkOut}
use Rattle.dlms_link.specs.declared.out.LinkOut.TheVariants.{Nothing, Reply, Apdu, Oversize, BadLlc, Up, Down}
use Rattle.dlms_link.specs.declared.out.ClientOut.{ClientOut}
use Rattle.dlms_link.specs.declared.out.ClientOut.TheVariants.{Nothing as NothingTaken, Up as IsUp, Send, Apdu as ApduTaken, Down as IsDown}
use Rattle.dlms_link.specs.Server.{ServerRecord, fresh_server, server_on, server_send}
use Rattle.dlms_link.specs.Client.{ClientRecord, fresh_proposing, client_connect, client_disconnect, client_send, client_step, client_timeout, snrm_of, disc_of}
use Rattle.dlms_link.specs.declared.kept.TheConstants.{MOST_APDU}

pub record LinkWorld : Type 0 where
  pub meter : ServerRecord
  pub client : ClientRecord
  -- the frames that are on the way, the oldest first
  pub up_line : List Parts
  pub down_line : List Parts
  -- in this connection: the APDUs that the client was given to send, and that the meter gave up
  pub asked : List (List ℕ)
  pub served : List (List ℕ)
  -- the APDUs that the meter was given to send, and that the client gave up
  pub answers : List (List ℕ)
  pub taken : List (List ℕ)

-- what may happen next. A loss is that of the oldest frame: a later one is lost when it has become the oldest
pub data LinkEvent : Type 0 where
  Connect : LinkEvent
  Give : (apdu : List ℕ) → length apdu ≤ MOST_APDU → LinkEvent
  Disconnect : LinkEvent
  -- the oldest frame reaches the meter, which is given this answer if it awaits one
  ReachesMeter : (answer : List ℕ) → length answer ≤ MOST_APDU → LinkEvent
  ReachesClient : LinkEvent
  LostUp : LinkEvent
  LostDown : LinkEvent
  TimesOut : LinkEvent
  -- the meter stops and comes back with its link down; what is on the line stays
  Restarts : LinkEvent
  -- another hand sends a frame while the client's link is closed: the meter takes it at once, and its answer reaches nobody
  Intrudes : (frame : Parts) → (answer : List ℕ) → LinkEvent
  -- a new client takes the place of the old one, in whatever state that is, once nothing is on the line
  TakesOver : LinkEvent

abbrev pub connects : LinkWorld → Phase → LinkWorld
connects w Closed = record w {
  client = client_connect w.client;
  up_line = w.up_line ++ snrm_of w.client ∷ [];
  asked = [];
  served = [];
  answers = [];
  taken = [];
}
connects w Connecting = w
connects w Open = w
connects w Closing = w

-- `send` and `disconnect` ask for an up link that awaits nothing
abbrev pub gives : LinkWorld → List ℕ → Phase → Option Parts → LinkWorld
gives w apdu Open None = record w {
  client = (client_send w.client apdu).0;
  up_line = w.up_line ++ (client_send w.client apdu).1 ∷ [];
  asked = w.asked ++ apdu ∷ [];
}
gives w apdu Open (Some f) = w
gives w apdu Closed waits = w
gives w apdu Connecting waits = w
gives w apdu Closing waits = w

abbrev pub disconnects : LinkWorld → Phase → Option Parts → LinkWorld
disconnects w Open None = record w {
  client = client_disconnect w.client;
  up_line = w.up_line ++ disc_of w.client ∷ [];
}
disconnects w Open (Some f) = w
disconnects w Closed waits = w
disconnects w Connecting waits = w
disconnects w Closing waits = w

-- the meter sends its answer
abbrev pub replies : LinkWorld → List ℕ → LinkWorld
replies w answer = record w {
  meter = (server_send w.meter answer).0;
  down_line = w.down_line ++ (server_send w.meter answer).1 ∷ [];
  answers = w.answers ++ answer ∷ [];
}

abbrev pub meter_does : LinkWorld → List ℕ → LinkOut → LinkWorld
meter_does w answer Nothing = w
meter_does w answer (Reply f) = record w { down_line = w.down_line ++ f ∷ [] }
meter_does w answer (Up f) = record w { down_line = w.down_line ++ f ∷ [] }
meter_does w answer (Down f) = record w { down_line = w.down_line ++ f ∷ [] }
meter_does w answer Apdu = replies (record w { served = w.served ++ w.meter.apdu ∷ [] }) answer
meter_does w answer Oversize = replies w answer
meter_does w answer BadLlc = replies w answer

abbrev pub reaches_meter : LinkWorld → List ℕ → List Parts → LinkWorld
reaches_meter w answer [] = w
reaches_meter w answer (f ∷ rest) = let done = server_on w.meter f in
    meter_does (record w { meter = done.0; up_line = rest }) answer done.1

abbrev pub client_does : LinkWorld → ClientOut → LinkWorld
client_does w NothingTaken = w
client_does w IsUp = w
client_does w (Send f) = record w { up_line = w.up_line ++ f ∷ [] }
client_does w ApduTaken = record w { taken = w.taken ++ w.client.apdu ∷ [] }
client_does w IsDown = w

abbrev pub reaches_client : LinkWorld → List Parts → LinkWorld
reaches_client w [] = w
reaches_client w (f ∷ rest) = let done = client_step w.client f in
    client_does (record w { client = done.0; down_line = rest }) done.1

abbrev pub without_first : List Parts → List Parts
without_first [] = []
without_first (f ∷ rest) = rest

-- a timeout comes only if a frame is out and nothing is on the line
abbrev pub resent : Option Parts → List Parts
resent None = []
resent (Some f) = f ∷ []

abbrev pub timed_out : LinkWorld → ClientRecord × Option Parts → LinkWorld
timed_out w done = record w { client = done.0; up_line = resent done.1 }

abbrev pub times_out : LinkWorld → Option Parts → List Parts → List Parts → LinkWorld
times_out w (Some f) [] [] = timed_out w (client_timeout w.client)
times_out w (Some f) [] (g ∷ down) = w
times_out w (Some f) (g ∷ up) down = w
times_out w None up down = w

abbrev pub settled : ServerRecord → List ℕ → LinkOut → ServerRecord
settled r answer Nothing = r
settled r answer (Reply f) = r
settled r answer (Up f) = r
settled r answer (Down f) = r
settled r answer Apdu = (server_send r answer).0
settled r answer Oversize = (server_send r answer).0
settled r answer BadLlc = (server_send r answer).0

-- the meter's link after a frame and, if it awaits one, its answer
abbrev pub after_both : ServerRecord × LinkOut → List ℕ → ServerRecord
after_both done answer = settled done.0 answer done.1

abbrev pub intrudes : LinkWorld → Parts → List ℕ → Phase → LinkWorld
intrudes w frame answer Closed = record w { meter = after_both (server_on w.meter frame) answer }
intrudes w frame answer Connecting = w
intrudes w frame answer Open = w
intrudes w frame answer Closing = w

abbrev pub takes_over : LinkWorld → List Parts → List Parts → LinkWorld
takes_over w [] [] = record w {
  client = fresh_proposing w.client.own w.client.server w.client.proposal;
}
takes_over w [] (g ∷ down) = w
takes_over w (g ∷ up) down = w

abbrev pub happens : LinkWorld → LinkEvent → LinkWorld
happens w Connect = connects w w.client.phase
happens w (Give apdu short) = gives w apdu w.client.phase w.client.waits
happens w Disconnect = disconnects w w.client.phase w.client.waits
happens w (ReachesMeter answer short) = reaches_meter w answer w.up_line
happens w ReachesClient = reaches_client w w.down_line
happens w LostUp = record w { up_line = without_first w.up_line }
happens w LostDown = record w { down_line = without_first w.down_line }
happens w Restarts = record w { meter = fresh_server w.meter.client }
happens w (Intrudes frame answer) = intrudes w frame answer w.client.phase
happens w TakesOver = takes_over w w.up_line w.down_line
happens w TimesOut = times_out w w.client.waits w.up_line w.down_line

-- a whole run
abbrev pub run : List LinkEvent → LinkWorld → LinkWorld
run [] w = w
run (e ∷ es) w = run es (happens w e)

-- a client with this proposal, if any, and its meter
abbrev pub start_proposing : Option ℕ → Client → LinkWorld
start_proposing proposal who = record {
  meter = fresh_server who;
  client = fresh_proposing (sap_of who) (One 1) proposal;
  up_line = [];
  down_line = [];
  asked = [];
  served = [];
  answers = [];
  taken = [];
}

-- one that proposes nothing
abbrev pub start : Client → LinkWorld
start who = start_proposing None who

-- xs is a beginning of ys
abbrev pub IsBeginningOf : List (List ℕ) → List (List ℕ) → Type 0
IsBeginningOf xs ys = (rest : List (List ℕ)) × (xs ++ rest ≡ ys)
