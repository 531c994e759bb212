-- The meter's link: its table, one case a row.
use Rattle.std.specs.Prelude.{ℕ, ◌==◌, ◌&&◌, if◌then◌else◌, List, [], ◌++◌, take, drop, Bool, true, false, Option, None, Some, unwrap_or, ◌≤◌}
use Rattle.dlms_frame.specs.Client.{sap_of}
use Rattle.dlms_frame.specs.declared.client.Client.{Client}
use Rattle.dlms_frame.specs.declared.frame.Address.{Address}
use Rattle.dlms_frame.specs.declared.frame.Address.TheVariants.{One, Two, Four}
use Rattle.dlms_frame.specs.Frame.{Parts}
use Rattle.dlms_link.specs.declared.control.Control.{Control}
use Rattle.dlms_link.specs.declared.control.Control.TheVariants.{Snrm, Disc, Ua, Dm, Information, Ready, NotReady, Other}
use Rattle.dlms_link.specs.declared.last_answer.Answer.{Answer}
use Rattle.dlms_link.specs.declared.last_answer.Answer.TheVariants.{NoAnswer, WasReady, WasInformation}
use Rattle.dlms_link.specs.declared.out.LinkOut.{LinkOut}
use Rattle.dlms_link.specs.declared.out.LinkOut.TheVariants.{Nothing, Reply, Apdu, Oversize, BadLlc, Up, Down}
use Rattle.dlms_link.specs.declared.server_row.ServerRow.{ServerRow}
use Rattle.dlms_link.specs.declared.server_row.ServerRow.TheVariants.{Connects, Refuses, Disconnects, Keeps, HandsUp, Repeats, SendsNext, SaysReady, Ignores}
use Rattle.dlms_link.specs.Octet.{control_of, information_octet, ready_octet, next, before}
use Rattle.dlms_link.specs.Kept.{Kept, Fresh, Good, TooLong, BadStart, kept_after, apdu_of, llc, from_client, from_meter, is_more}
use Rattle.dlms_link.specs.Parameters.{size_of, information_of, own_parameters}
use Rattle.dlms_link.specs.declared.control.TheConstants.{UA, DM}
use Rattle.dlms_link.specs.declared.segments.TheConstants.{MOST_BYTES}

pub record ServerRecord : Type 0 where
  pub client : Client
  pub up : Bool
  -- VS and VR
  pub send_next : ℕ
  pub receive_next : ℕ
  -- L
  pub last : Answer
  -- whether the last accepted frame was an I
  pub took_information : Bool
  pub kept : Kept
  -- the last APDU that was handed up
  pub apdu : List ℕ
  -- what of the last answer isn't sent yet, with its LLC
  pub unsent : List ℕ
  -- the most information of a frame sent
  pub size : ℕ
  -- the address that an awaited answer goes to
  pub waits : Option Address

abbrev pub fresh_server : Client → ServerRecord
fresh_server who = record {
  client = who;
  up = false;
  send_next = 0;
  receive_next = 0;
  last = NoAnswer;
  took_information = false;
  kept = Fresh;
  apdu = [];
  unsent = [];
  size = MOST_BYTES;
  waits = None;
}

-- the meter's address is 1, with 17 or nothing as its lower part (IEC 62056-46: the management logical device, and a physical one)
abbrev pub is_meter : Address → Bool
is_meter (One upper) = upper == 1
is_meter (Two upper lower) = (upper == 1) && (lower == 17)
is_meter (Four upper lower) = (upper == 1) && (lower == 17)

abbrev pub is_client : Client → Address → Bool
is_client who (One sap) = sap == sap_of who
is_client who (Two upper lower) = false
is_client who (Four upper lower) = false

-- a frame to the client, from the address that it spoke to
abbrev pub to_client : Client → Address → ℕ → Bool → List ℕ → Parts
to_client who from octet segmented info = record {
  segmented = segmented;
  dest = One (sap_of who);
  src = from;
  control = octet;
  info = info;
}

-- an SNRM brings the link up if its parameters can be read
abbrev pub row_of_snrm : Option ℕ → ServerRow
row_of_snrm (Some size) = Connects size
row_of_snrm None = Refuses

-- the size that an SNRM's row names is in range
abbrev pub HasSize : ServerRow → Type 0
HasSize (Connects size) = (32 ≤ size) × (size ≤ MOST_BYTES)
HasSize Refuses = Unit {0}
HasSize Disconnects = Unit {0}
HasSize Keeps = Unit {0}
HasSize HandsUp = Unit {0}
HasSize Repeats = Unit {0}
HasSize SendsNext = Unit {0}
HasSize SaysReady = Unit {0}
HasSize Ignores = Unit {0}

-- L was an I
abbrev pub was_information : Answer → Bool
was_information NoAnswer = false
was_information (WasReady f) = false
was_information (WasInformation f) = true

-- the row of a frame that comes while the link is up, tried from above
abbrev pub row_while_up : ServerRecord → Bool → List ℕ → Control → ServerRow
row_while_up r segmented info Snrm = row_of_snrm (size_of info)
row_while_up r segmented info Disc = Disconnects
row_while_up r segmented info (Information send receive) =
    if (send == r.receive_next) && (receive == r.send_next)
    then (if segmented then Keeps else HandsUp)
    else (if (send == before r.receive_next) && r.took_information then Repeats
    else Ignores)
row_while_up r segmented info (Ready receive) =
    if receive == r.send_next then (if is_more r.unsent then SendsNext else SaysReady)
    else (if (receive == before r.send_next) && was_information r.last then Repeats
    else Ignores)
row_while_up r segmented info NotReady = Ignores
row_while_up r segmented info Ua = Ignores
row_while_up r segmented info Dm = Ignores
row_while_up r segmented info Other = Ignores

-- the row of a frame that comes while the link is down
abbrev pub row_while_down : List ℕ → Control → ServerRow
row_while_down info Snrm = row_of_snrm (size_of info)
row_while_down info Disc = Refuses
row_while_down info (Information send receive) = Refuses
row_while_down info (Ready receive) = Refuses
row_while_down info NotReady = Refuses
row_while_down info Ua = Ignores
row_while_down info Dm = Ignores
row_while_down info Other = Ignores

-- frames for others are ignored
unfoldable pub row_of : ServerRecord → Parts → ServerRow
row_of r f =
    if is_meter f.dest && is_client r.client f.src
    then (if r.up then row_while_up r f.segmented f.info (control_of f.control)
    else row_while_down f.info (control_of f.control))
    else Ignores

-- L again
abbrev pub again : Answer → LinkOut
again NoAnswer = Nothing
again (WasReady f) = Reply f
again (WasInformation f) = Reply f

-- the outcome of the whole APDU
abbrev pub told : Kept → LinkOut
told Fresh = BadLlc
told (Good apdu) = Apdu
told TooLong = Oversize
told BadStart = BadLlc

-- the next unsent segment as an I
abbrev pub segment_of : ServerRecord → Address → Parts
segment_of r from = to_client r.client from (information_octet r.send_next r.receive_next)
    (is_more (drop r.size r.unsent)) (take r.size r.unsent)

abbrev pub after_segment : ServerRecord → Address → ServerRecord
after_segment r from = record r {
  send_next = next r.send_next;
  last = WasInformation (segment_of r from);
  unsent = drop r.size r.unsent;
}

-- an RR with the number that is expected
abbrev pub ready_frame : ServerRecord → Address → Parts
ready_frame r from = to_client r.client from (ready_octet r.receive_next) false []

-- each row: what comes out, and the record after it
abbrev pub by_row : ServerRecord → Parts → ServerRow → ServerRecord × LinkOut
by_row r f (Connects size) = (
  record {
    client = r.client;
    up = true;
    send_next = 0;
    receive_next = 0;
    last = NoAnswer;
    took_information = false;
    kept = Fresh;
    apdu = [];
    unsent = [];
    size = size;
    waits = None;
  },
  Up (to_client r.client f.dest UA false (information_of (own_parameters size))),
)
by_row r f Refuses = (record r { up = false }, Down (to_client r.client f.dest DM false []))
by_row r f Disconnects = (record r { up = false }, Down (to_client r.client f.dest UA false []))
by_row r f Keeps =
    let ready = to_client r.client f.dest (ready_octet (next r.receive_next)) false [] in (
      record r {
        receive_next = next r.receive_next;
        last = WasReady ready;
        took_information = true;
        kept = kept_after from_client r.kept f.info;
      },
      Reply ready,
    )
by_row r f HandsUp =
    let whole = kept_after from_client r.kept f.info in (
      record r {
        receive_next = next r.receive_next;
        took_information = true;
        kept = Fresh;
        apdu = apdu_of whole;
        unsent = [];
        waits = Some f.dest;
      },
      told whole,
    )
by_row r f Repeats = (r, again r.last)
by_row r f SendsNext = (
  record (after_segment r f.dest) { took_information = false },
  Reply
      (segment_of r f.dest),
)
by_row r f SaysReady = (
  record r {
    last = WasReady (ready_frame r f.dest);
    took_information = false;
  },
  Reply (ready_frame r f.dest),
)
by_row r f Ignores = (r, Nothing)

-- a frame comes
abbrev pub server_on : ServerRecord → Parts → ServerRecord × LinkOut
server_on r f = by_row r f (row_of r f)

-- the answer that was waited for
abbrev pub answering : ServerRecord → List ℕ → ServerRecord
answering r answer = record r { unsent = llc from_meter ++ answer; waits = None }

-- an answer is waited for
abbrev pub awaits : LinkOut → Bool
awaits Nothing = false
awaits (Reply f) = false
awaits Apdu = true
awaits Oversize = true
awaits BadLlc = true
awaits (Up f) = false
awaits (Down f) = false

abbrev pub server_send : ServerRecord → List ℕ → ServerRecord × Parts
server_send r answer = (
  after_segment (answering r answer)
      (unwrap_or r.waits (One 1)),
  segment_of (answering r answer) (unwrap_or r.waits (One 1)),
)

-- a whole row of the table: the output, with this answer if one is awaited, and the record after it
abbrev pub row_done : ServerRecord → List ℕ → LinkOut → ServerRecord × Option Parts
row_done r answer Nothing = (r, None)
row_done r answer (Reply f) = (r, Some f)
row_done r answer Apdu = ((server_send r answer).0, Some (server_send r answer).1)
row_done r answer Oversize = ((server_send r answer).0, Some (server_send r answer).1)
row_done r answer BadLlc = ((server_send r answer).0, Some (server_send r answer).1)
row_done r answer (Up f) = (r, Some f)
row_done r answer (Down f) = (r, Some f)

abbrev pub link_step : ServerRecord → Parts → List ℕ → ServerRecord × Option Parts
link_step r f answer = row_done (server_on r f).0 answer (server_on r f).1

-- the row of a whole APDU and its answer: the answer's first segment goes as an I, what is unsent of an older answer is dropped
abbrev pub first_segment : ServerRecord → Parts → List ℕ → Parts
first_segment r f text = to_client r.client f.dest
    (information_octet r.send_next (next r.receive_next)) (is_more (drop r.size text))
    (take r.size text)

abbrev pub answered : ServerRecord → Parts → List ℕ → ServerRecord × Option Parts
answered r f answer =
    let text = llc from_meter ++ answer in (
      record r {
        send_next = next r.send_next;
        receive_next = next r.receive_next;
        last = WasInformation (first_segment r f text);
        took_information = true;
        kept = Fresh;
        apdu = apdu_of (kept_after from_client r.kept f.info);
        unsent = drop r.size text;
        waits = None;
      },
      Some (first_segment r f text),
    )
