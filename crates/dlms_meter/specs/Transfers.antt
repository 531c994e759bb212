-- A client's APDUs in a run, and the value that goes out to it in blocks (IEC 62056-5-3: GET with datablock transfer).
use Rattle.std.specs.Prelude.{◌≡◌, ℕ, ◌*◌, ◌-◌, Bool, true, false, ◌&&◌, ◌||◌, List, [], ◌∷◌, ◌++◌, if◌then◌else◌, length, map, take, Option, Some, None, Result, Ok}
use Rattle.dlms_apdu.specs.Forms.{RequestForm, get_normal, get_block}
use Rattle.dlms_apdu.specs.Forms as apdu
use Rattle.dlms_apdu.specs.Reading.{request_at}
use Rattle.dlms_apdu.specs.Writing.{response_bytes}
use Rattle.dlms_apdu.specs.declared.fault.Refusal.{Refusal}
use Rattle.dlms_data.specs.Value.{Value}
use Rattle.dlms_data.specs.Writing.{canonical}
use Rattle.dlms_data.specs.declared.descriptor.Descriptor.{Descriptor}
use Rattle.dlms_frame.specs.declared.client.Client.{Client}
use Rattle.dlms_link.specs.Server.{ServerRecord, server_on}
use Rattle.dlms_link.specs.declared.out.LinkOut.{LinkOut}
use Rattle.dlms_link.specs.declared.out.LinkOut.TheVariants.{Nothing, Reply, Apdu, Oversize, BadLlc, Up, Down}
use Rattle.dlms_service.specs.Session.{SessionValue, Outcome, fresh, without_get}
use Rattle.dlms_classes.specs.Answer.{IsShown}
use Rattle.dlms_service.specs.Shown.{asked, in_blocks}
use Rattle.dlms_service.specs.Stake.{tells}
use Rattle.dlms_service.specs.declared.association.Association.{Association}
use Rattle.dlms_state.specs.StateValue.{state_of}
use Rattle.dlms_state.specs.declared.event.Event.{Event}
use Rattle.dlms_meter.specs.ClientRecord.{ClientRecord}
use Rattle.dlms_meter.specs.Run.{MeterWorld, Records, Turn, Choice, Does, Handled, Handles, Answered, Takes, Answers, client_at, is_same, events_of, after_turn, grown}
use Rattle.dlms_meter.specs.Steps.{Step, Piece, Silence, Happens, Leads, Run}
use Rattle.dlms_blocks.specs.declared.get_out.TheConstants.{GET_HEAD}

-- an APDU of a client, after these events, and its outcome
pub record Exchange : Type 0 where
  pub apdu : List ℕ
  pub before : List Event
  pub choice : Choice
  pub outcome : Outcome

-- what becomes of a client's association and transfers: its link comes up or goes down, or an APDU is served
pub data Own : Type 0 where
  Cleared : Own
  Asked : Exchange → Own

-- one after another, whatever events are accepted between them
abbrev pub InTurn : SessionValue → List Own → SessionValue → Type 0
InTurn s [] s' = s' ≡ s
InTurn s (Cleared ∷ xs) s' = InTurn (fresh s.client) xs s'
InTurn s (Asked x ∷ xs) s' = Does x.choice x.before s x.apdu x.outcome × InTurn x.outcome.own xs s'

-- what a frame of the client led to
abbrev pub own_by : (choice : Choice) (E : List Event) (r : ServerRecord) (s : SessionValue)
    (out : LinkOut) (h : Handled) → Answered choice E r s out h → List Own
own_by choice E r s (Up frame) h answered = Cleared ∷ []
own_by choice E r s (Down frame) h answered = Cleared ∷ []
own_by choice E r s Apdu h (o, serves, is) = Asked (record {
  apdu = r.apdu;
  before = E;
  choice = choice;
  outcome = o;
}) ∷ []
own_by choice E r s Nothing h answered = []
own_by choice E r s (Reply frame) h answered = []
own_by choice E r s Oversize h answered = []
own_by choice E r s BadLlc h answered = []

-- the outcome of a turn, if this is its client's record after it
abbrev pub handled : ClientRecord → Turn → Handled
handled own turn = record {
  own = own;
  reply = turn.reply;
  answer = turn.answer;
  accepted = turn.accepted;
}

-- what a frame led to, if it is of the client
abbrev pub own_here : (mine : Bool) (E : List Event) (before own : ClientRecord) (turn : Turn)
    → Handles turn.choice E before turn.frame (handled own turn) → List Own
own_here true E before own turn handles =
    own_by turn.choice E (server_on before.link turn.frame).0 before.session
    (server_on before.link turn.frame).1 (handled own turn) handles
own_here false E before own turn handles = []

abbrev pub own_at : (who : Client) (E : List Event) (records : Records) (turn : Turn)
    (from : Option Client) → Takes E records turn from → List Own
own_at who E records turn None takes = []
own_at who E records turn (Some other) (own, handles, same) =
    own_here (is_same other who) E (records other) own turn handles

-- in the turns of a piece
abbrev pub own_among : (who : Client) (w : MeterWorld) (turns : List Turn) (replies : List (List ℕ))
    (w' : MeterWorld) → Answers w turns replies w' → List Own
own_among who w [] replies w' answers = []
own_among who w (turn ∷ turns) replies w' (is, rest, told, answers) =
    own_at who (events_of w) w.records turn (client_at turn.frame.src) is.takes
    ++ own_among who (after_turn w turn) turns rest w' answers

abbrev pub own_in : (who : Client) (w : MeterWorld) (step : Step) (w' : MeterWorld)
    → Leads w step w' → List Own
own_in who w (Piece bytes replies) w' leads =
    own_among who (grown w bytes) leads.turns replies w' leads.answers
own_in who w Silence w' leads = []
own_in who w (Happens event outcome) w' leads = []

-- in a run, in their order
abbrev pub own_of : (who : Client) (w : MeterWorld) (steps : List Step) (w' : MeterWorld)
    → Run w steps w' → List Own
own_of who w [] w' run = []
own_of who w (step ∷ steps) w' (mid, leads, rest) = own_in who w step mid leads
    ++ own_of who mid steps w' rest

-- In every run a client's APDUs are answered one after another, each from the state that the one before left.
abbrev pub AreInTurn : Type 0
AreInTurn = (who : Client) (w w' : MeterWorld) (steps : List Step) (run : Run w steps w')
    → InTurn (w.records who).session (own_of who w steps w' run) (w'.records who).session

-- ---- one GET in blocks

abbrev pub is_get_normal : Result RequestForm Refusal → Bool
is_get_normal (Ok (get_normal invoke d selector)) = true
is_get_normal _ = false

-- a block of GET with raw bytes: C4 02 invoke last number 00 ..
abbrev pub is_block : List ℕ → Bool
is_block answer = tells 0xC4 2 8 answer

-- a new GET, answered by the first block of its value
abbrev pub begins : Exchange → Bool
begins x = is_get_normal (request_at x.apdu) && is_block x.outcome.answer

-- no other GET begins
abbrev pub NoneBegins : List Own → Type 0
NoneBegins [] = Unit {0}
NoneBegins (Cleared ∷ xs) = NoneBegins xs
NoneBegins (Asked x ∷ xs) = (begins x ≡ false) × NoneBegins xs

-- the answers that are blocks
abbrev pub blocks_in : List Own → List (List ℕ)
blocks_in [] = []
blocks_in (Cleared ∷ xs) = blocks_in xs
blocks_in (Asked x ∷ xs) = if is_block x.outcome.answer then x.outcome.answer ∷ blocks_in xs
    else blocks_in xs

-- what a block tells: the request's identifier, whether it is the last, its number, and its raw bytes
pub record Block : Type 0 where
  pub invoke : ℕ
  pub last : Bool
  pub number : ℕ
  pub raw : List ℕ

abbrev pub spelled : Block → List ℕ
spelled b = response_bytes (get_block b.invoke b.last b.number b.raw)

-- the raw bytes of all, and whether the last block is among them
abbrev pub joined : List Block → List ℕ
joined [] = []
joined (b ∷ blocks) = b.raw ++ joined blocks

abbrev pub has_last : List Block → Bool
has_last [] = false
has_last (b ∷ blocks) = b.last || has_last blocks

-- A GET of the client, after these of its APDUs, which asked for an attribute: what it showed, after the events accepted
-- before it, goes out in blocks.
pub record GoesOut (who : Client) (s : SessionValue) (before : List Own) (x : Exchange)
    : Type 0 where
  pub invoke : ℕ
  pub descriptor : Descriptor
  pub selector : Option apdu.Selection
  pub asks : request_at x.apdu ≡ Ok (get_normal invoke descriptor selector)
  pub session : SessionValue
  pub in_turn : InTurn s before session
  pub association : Association
  pub opened : session.opened ≡ Some association
  pub value : Value
  pub is_shown : IsShown (state_of x.before) who descriptor
      (asked who association descriptor selector) (Ok value)
  pub leads : x.outcome ≡ in_blocks (without_get session) association invoke (canonical value)

-- Among these of a client's APDUs, if a GET was answered by a block, and no other GET that was answered so came afterwards: the raw
-- bytes of the blocks that the client got, joined, are blocks of the attribute's encoding at its request, and all of it once the
-- last is returned.
abbrev pub JoinBlocks : Client → SessionValue → List Own → Type 0
JoinBlocks who s own =
    (before behind : List Own) (x : Exchange) → s.client ≡ who → own ≡ before ++ Asked x ∷ behind
    → begins x ≡ true → NoneBegins behind
    → (out : GoesOut who s before x) × (blocks : List Block)
    × (map spelled blocks ≡ blocks_in (Asked x ∷ behind))
    × (joined blocks ≡ take (length blocks * (out.association.size - GET_HEAD))
    (canonical out.value)) × (has_last blocks ≡ true → joined blocks ≡ canonical out.value)

-- So it is in every run, whatever else comes between: other APDUs, out of memory, a device that fails, a link that goes down and
-- comes up, frames of other clients, pulses and moments.
abbrev pub BlocksJoin : Type 0
BlocksJoin = (who : Client) (w w' : MeterWorld) (steps : List Step) (run : Run w steps w')
    → JoinBlocks who (w.records who).session (own_of who w steps w' run)

-- In every run that begins without a transfer, as each does from a formatted meter and after a recovery: no block is returned if no
-- GET began.
abbrev pub NoBlockUnasked : Type 0
NoBlockUnasked =
    (who : Client) (w w' : MeterWorld) (steps : List Step) (run : Run w steps w')
    → (w.records who).session.getting ≡ None → NoneBegins (own_of who w steps w' run)
    → blocks_in (own_of who w steps w' run) ≡ []
