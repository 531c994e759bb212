-- The client's link: one frame is out, and then it waits.
use Rattle.std.specs.Prelude.{◌≡◌, ℕ, ◌+◌, ◌==◌, ◌&&◌, if◌then◌else◌, List, [], ◌++◌, take, drop, Bool, true, false, Option, None, Some, nat_lt}
use Rattle.dlms_frame.specs.Client.{sap_of}
use Rattle.dlms_frame.specs.declared.client.Client.{Client}
use Rattle.dlms_frame.specs.declared.frame.Address.{Address}
use Rattle.dlms_frame.specs.declared.frame.Address.TheVariants.{One, Two, Four}
use Rattle.dlms_frame.specs.Frame.{Parts}
use Rattle.dlms_link.specs.declared.control.Control.{Control}
use Rattle.dlms_link.specs.declared.control.Control.TheVariants.{Snrm, Disc, Ua, Dm, Information, Ready, NotReady, Other}
use Rattle.dlms_link.specs.declared.phase.Phase.{Phase}
use Rattle.dlms_link.specs.declared.phase.Phase.TheVariants.{Closed, Connecting, Open, Closing}
use Rattle.dlms_link.specs.declared.out.ClientOut.{ClientOut}
use Rattle.dlms_link.specs.declared.out.ClientOut.TheVariants.{Nothing, Up, Send, Apdu, Down}
use Rattle.dlms_link.specs.declared.client_row.ClientRow.{ClientRow}
use Rattle.dlms_link.specs.declared.client_row.ClientRow.TheVariants.{Takes, TakenBefore, LetsNext, Leaves}
use Rattle.dlms_link.specs.Octet.{control_of, information_octet, ready_octet, next, before}
use Rattle.dlms_link.specs.Kept.{Kept, Fresh, Good, TooLong, BadStart, kept_after, llc, from_client, from_meter, is_more}
use Rattle.dlms_link.specs.Parameters.{agreed_size, proposed_information}
use Rattle.dlms_link.specs.declared.control.TheConstants.{SNRM, DISC}
use Rattle.dlms_link.specs.declared.segments.TheConstants.{MOST_BYTES}

pub record ClientRecord : Type 0 where
  -- the client's own service access point, and the address of its meter
  pub own : ℕ
  pub server : Address
  pub phase : Phase
  pub send_next : ℕ
  pub receive_next : ℕ
  -- the frame that is out
  pub waits : Option Parts
  -- the time-outs in a row
  pub repeats : ℕ
  pub kept : Kept
  pub apdu : List ℕ
  pub unsent : List ℕ
  -- the most information of a frame received, if the SNRM proposes it
  pub proposal : Option ℕ
  -- the most information of a frame sent
  pub size : ℕ

-- a link of this client to the meter at this address, with this proposal, if any
abbrev pub fresh_proposing : ℕ → Address → Option ℕ → ClientRecord
fresh_proposing own server proposal = record {
  own = own;
  server = server;
  phase = Closed;
  send_next = 0;
  receive_next = 0;
  waits = None;
  repeats = 0;
  kept = Fresh;
  apdu = [];
  unsent = [];
  proposal = proposal;
  size = MOST_BYTES;
}

-- one that proposes nothing
abbrev pub fresh_between : ℕ → Address → ClientRecord
fresh_between own server = fresh_proposing own server None

-- a link of one of this project's clients to this project's meter
abbrev pub fresh_client : Client → ClientRecord
fresh_client who = fresh_between (sap_of who) (One 1)

-- a frame from this client to the meter at this address
abbrev pub to_server : ℕ → Address → ℕ → Bool → List ℕ → Parts
to_server own server octet segmented info = record {
  segmented = segmented;
  dest = server;
  src = One own;
  control = octet;
  info = info;
}

-- such a frame, whatever it contains
pub record IsSentBy (own : ℕ) (server : Address) (f : Parts) : Type 0 where
  pub from : f.src ≡ One own
  pub to : f.dest ≡ server

-- a frame of one of this project's clients to this project's meter
abbrev pub to_meter : Client → ℕ → Bool → List ℕ → Parts
to_meter who octet segmented info = to_server (sap_of who) (One 1) octet segmented info

-- no link
abbrev pub closed : ClientRecord → ClientRecord
closed c = record c {
  phase = Closed;
  send_next = 0;
  receive_next = 0;
  waits = None;
  repeats = 0;
  kept = Fresh;
  unsent = [];
}

-- a link that came up, by a UA with this information
abbrev pub connected : ClientRecord → List ℕ → ClientRecord
connected c ua = record c {
  phase = Open;
  send_next = 0;
  receive_next = 0;
  waits = None;
  repeats = 0;
  kept = Fresh;
  unsent = [];
  size = agreed_size c.proposal ua;
}

-- a frame goes out
abbrev pub out : ClientRecord → Parts → ClientRecord
out c f = record c { waits = Some f; repeats = 0 }

abbrev pub snrm_of : ClientRecord → Parts
snrm_of c = to_server c.own c.server SNRM false (proposed_information c.proposal)

abbrev pub disc_of : ClientRecord → Parts
disc_of c = to_server c.own c.server DISC false []

abbrev pub client_connect : ClientRecord → ClientRecord
client_connect c = record (out c (snrm_of c)) { phase = Connecting }

abbrev pub client_disconnect : ClientRecord → ClientRecord
client_disconnect c = record (out c (disc_of c)) { phase = Closing }

-- the next unsent segment as an I
abbrev pub client_segment : ClientRecord → Parts
client_segment c = to_server c.own c.server (information_octet c.send_next c.receive_next)
    (is_more (drop c.size c.unsent)) (take c.size c.unsent)

abbrev pub after_client_segment : ClientRecord → ClientRecord
after_client_segment c = record (out c (client_segment c)) {
  send_next = next c.send_next;
  unsent = drop c.size c.unsent;
}

abbrev pub client_giving : ClientRecord → List ℕ → ClientRecord
client_giving c apdu = record c { kept = Fresh; unsent = llc from_client ++ apdu }

abbrev pub client_send : ClientRecord → List ℕ → ClientRecord × Parts
client_send c apdu = (
  after_client_segment (client_giving c apdu),
  client_segment
      (client_giving c apdu),
)

-- receive-ready, with the number that is expected
abbrev pub client_ready : ClientRecord → Parts
client_ready c = to_server c.own c.server (ready_octet c.receive_next) false []

-- an I that is taken: if it is a segment, the client sends RR
abbrev pub takes : ClientRecord → Bool → Kept → ClientRecord × ClientOut
takes c true (Good bytes) =
    let d = record c { receive_next = next c.receive_next; kept = Good bytes; unsent = [] } in
    (out d (client_ready d), Send (client_ready d))
takes c false (Good bytes) = (
  record c {
    receive_next = next c.receive_next;
    kept = Fresh;
    apdu = bytes;
    waits = None;
    repeats = 0;
    unsent = [];
  },
  Apdu,
)
takes c segmented Fresh = (closed c, Down)
takes c segmented TooLong = (closed c, Down)
takes c segmented BadStart = (closed c, Down)

abbrev pub on_ua : ClientRecord → List ℕ → Phase → ClientRecord × ClientOut
on_ua c ua Closed = (c, Nothing)
on_ua c ua Connecting = (connected c ua, Up)
on_ua c ua Open = (c, Nothing)
on_ua c ua Closing = (closed c, Down)

-- what an open link does with an I or an RR
unfoldable pub way_of : ClientRecord → Control → ClientRow
way_of c (Information send receive) =
    if (send == c.receive_next) && (receive == c.send_next) then Takes
    else (if send == before c.receive_next then TakenBefore else Leaves)
way_of c (Ready receive) = if (receive == c.send_next) && is_more c.unsent then LetsNext else Leaves
way_of c Snrm = Leaves
way_of c Disc = Leaves
way_of c Ua = Leaves
way_of c Dm = Leaves
way_of c NotReady = Leaves
way_of c Other = Leaves

abbrev pub by_way : ClientRecord → Parts → ClientRow → ClientRecord × ClientOut
by_way c f Takes = takes c f.segmented (kept_after from_meter c.kept f.info)
by_way c f TakenBefore = (out c (client_ready c), Send (client_ready c))
by_way c f LetsNext = (after_client_segment c, Send (client_segment c))
by_way c f Leaves = (c, Nothing)

abbrev pub on_counted : ClientRecord → Parts → Phase → ClientRecord × ClientOut
on_counted c f Open = by_way c f (way_of c (control_of f.control))
on_counted c f Closed = (c, Nothing)
on_counted c f Connecting = (c, Nothing)
on_counted c f Closing = (c, Nothing)

abbrev pub on_control : ClientRecord → Parts → Control → ClientRecord × ClientOut
on_control c f Ua = on_ua c f.info c.phase
on_control c f Dm = (closed c, Down)
on_control c f (Information send receive) = on_counted c f c.phase
on_control c f (Ready receive) = on_counted c f c.phase
on_control c f Snrm = (c, Nothing)
on_control c f Disc = (c, Nothing)
on_control c f NotReady = (c, Nothing)
on_control c f Other = (c, Nothing)

abbrev pub same_address : Address → Address → Bool
same_address (One a) (One b) = a == b
same_address (Two a b) (Two c d) = (a == c) && (b == d)
same_address (Four a b) (Four c d) = (a == c) && (b == d)
same_address _ _ = false

-- a frame is for exactly this client, and from exactly its meter
unfoldable pub is_answer : ClientRecord → Parts → Bool
is_answer c f = same_address f.dest (One c.own) && same_address f.src c.server

-- a frame comes: the rules of the client's link
abbrev pub client_step : ClientRecord → Parts → ClientRecord × ClientOut
client_step c f = if is_answer c f then on_control c f (control_of f.control) else (c, Nothing)

-- a time-out, while a frame is out: it goes again, and at the fourth in a row the link is down
abbrev pub by_count : ClientRecord → Bool → ClientRecord × Option Parts
by_count c true = (record c { repeats = c.repeats + 1 }, c.waits)
by_count c false = (closed c, None)

abbrev pub client_timeout : ClientRecord → ClientRecord × Option Parts
client_timeout c = by_count c (nat_lt c.repeats 3)

-- The most information of a frame sent, after a frame with this information and this output: if the
-- link came up, what the UA agrees to, and otherwise what it was.
abbrev pub IsSizedAfter : ClientRecord → List ℕ → ClientOut → ClientRecord → Type 0
IsSizedAfter old info Up new = new.size ≡ agreed_size old.proposal info
IsSizedAfter old info Nothing new = new.size ≡ old.size
IsSizedAfter old info (Send f) new = new.size ≡ old.size
IsSizedAfter old info Apdu new = new.size ≡ old.size
IsSizedAfter old info Down new = new.size ≡ old.size

-- the link is down, and nothing is awaited
abbrev pub IsDown : ClientRecord → Type 0
IsDown c = (c.phase ≡ Closed) × (c.waits ≡ None)

-- the link is up, and nothing is awaited
abbrev pub IsIdle : ClientRecord → Type 0
IsIdle c = (c.phase ≡ Open) × (c.waits ≡ None)

-- the link's state after this output
abbrev pub StandsAfter : ClientRecord → ClientOut → ClientRecord → Type 0
StandsAfter old Nothing new = new ≡ old
StandsAfter old Up new = IsIdle new
StandsAfter old (Send f) new = (new.phase ≡ Open) × (new.waits ≡ Some f)
StandsAfter old Apdu new = IsIdle new
StandsAfter old Down new = IsDown new
