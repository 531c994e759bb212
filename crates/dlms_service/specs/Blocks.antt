-- A value that comes in blocks, with SET or as the parameter of ACTION.
use Rattle.std.specs.Prelude.{◌≡◌, ℕ, ◌==◌, if◌then◌else◌, Bool, true, false, List, Option, Some, None, Result, Ok, Err, IsTrue}
use Rattle.dlms_frame.specs.declared.client.Client.{Client}
use Rattle.dlms_blocks.specs.Coming.{Coming, first_answer, first_after, more_answer, more_after}
use Rattle.dlms_blocks.specs.declared.block.PutStep.{PutStep}
use Rattle.dlms_blocks.specs.declared.block.PutStep.TheVariants.{More, Whole}
use Rattle.dlms_data.specs.Value.{Value}
use Rattle.dlms_data.specs.Spelling.{IsSpelling}
use Rattle.dlms_apdu.specs.Forms.{BlockForm, ResponseForm, set_block_taken, set_last, action_result, action_block_taken}
use Rattle.dlms_state.specs.declared.event.Event.{Event}
use Rattle.dlms_classes.specs.declared.access.AccessResult.{AccessResult}
use Rattle.dlms_service.specs.declared.target.Target.{Target}
use Rattle.dlms_service.specs.declared.target.Service.{Service}
use Rattle.dlms_service.specs.declared.target.Service.TheVariants.{Set, Action}
use Rattle.dlms_service.specs.Session.{SessionValue, Outcome, says, without_put}
use Rattle.dlms_service.specs.Planned.{IsValue, IsPlanFor, IsTyped, reaches, done}
use Rattle.dlms_blocks.specs.declared.block.TheConstants.{NO_LONG_SET}
use Rattle.dlms_service.specs.declared.blocks.TheConstants.{LONG_ACTION_ABORTED, NO_LONG_ACTION}

-- a block was taken, and it was not the last one
abbrev pub taken_form : Service → ℕ → ℕ → ResponseForm
taken_form Set invoke number = set_block_taken invoke number
taken_form Action invoke number = action_block_taken invoke number

-- the transfer ended with a result
abbrev pub ended_form : Service → ℕ → ℕ → ℕ → ResponseForm
ended_form Set invoke number result = set_last invoke result number
ended_form Action invoke number result = action_result invoke result

-- why a transfer ends before its last block: SET has the numbers of Data-Access-Result, ACTION two of its own
-- (long-action-aborted, no-long-action-in-progress)
abbrev pub code_for : Service → ℕ → ℕ
code_for Set code = code
code_for Action code = if code == NO_LONG_SET then NO_LONG_ACTION else LONG_ACTION_ABORTED

-- the whole value for this target has arrived: the transfer ends, and the request is carried out
abbrev pub Completes : List Event → SessionValue → ℕ → ℕ → Target → List ℕ → Outcome → Type 0
Completes E s invoke number t joined o =
    (value : Option Value) × (plan : Result Event AccessResult) × IsValue joined value
    × IsPlanFor t.service s.client t value plan
    × IsTyped plan × (o ≡ done E (without_put s) (ended_form t.service invoke number) plan)

-- what a block makes of a transfer: it ends, goes on, or is whole
abbrev pub Steps : List Event → SessionValue → ℕ → ℕ → Target → Coming → Result PutStep ℕ → Outcome
    → Type 0
Steps E s invoke number t coming (Err code) o =
    o ≡ says (without_put s) (ended_form t.service invoke number (code_for t.service code))
Steps E s invoke number t coming (Ok More) o = o ≡ says (record s {
  target = Some t;
  coming = coming;
}) (taken_form t.service invoke number)
Steps E s invoke number t coming (Ok Whole) o = Completes E s invoke number t coming.joined o

-- a first block, which drops what came before
abbrev pub Begins : List Event → SessionValue → ℕ → Target → BlockForm → Outcome → Type 0
Begins E s invoke t b o = Steps E s invoke b.number t (first_after b.last b.number b.raw)
    (first_answer b.last b.number b.raw) o

-- the two services are the same
abbrev pub same_service : Service → Service → Bool
same_service Set Set = true
same_service Set Action = false
same_service Action Set = false
same_service Action Action = true

-- the open transfer of this service
abbrev pub open_for : Service → Option Target → Option Target
open_for service None = None
open_for service (Some t) = if same_service service t.service then Some t else None

abbrev pub ContinuesFor : List Event → SessionValue → Service → ℕ → BlockForm → Option Target
    → Outcome → Type 0
ContinuesFor E s service invoke b None o =
    o ≡ says (without_put s) (ended_form service invoke b.number (code_for service NO_LONG_SET))
ContinuesFor E s service invoke b (Some t) o =
    Steps E s invoke b.number t (more_after s.coming.taken s.coming b.last b.number b.raw)
    (more_answer s.coming.taken s.coming.joined b.last b.number b.raw) o

-- a further block; without a transfer of its service it finds none, and ends one of the other service
abbrev pub Continues : List Event → SessionValue → Service → ℕ → BlockForm → Outcome → Type 0
Continues E s service invoke b o = ContinuesFor E s service invoke b (open_for service s.target) o

-- ---- a value that came whole, and is looked at: to read it takes memory

-- the last block came, nothing refuses the target before its value, and the joined bytes are the spelling of one
abbrev pub Brings : Client → Target → Coming → Result PutStep ℕ → Type 0
Brings client t coming (Err code) = ⊥
Brings client t coming (Ok More) = ⊥
Brings client t coming (Ok Whole) = IsTrue (reaches client t)
    × ((v : Value) × IsSpelling coming.joined v)

-- a first block that is the only one
abbrev pub BringsAlone : Client → Target → BlockForm → Type 0
BringsAlone client t b = Brings client t (first_after b.last b.number b.raw)
    (first_answer b.last b.number b.raw)

abbrev pub BringsFor : SessionValue → BlockForm → Option Target → Type 0
BringsFor s b None = ⊥
BringsFor s b (Some t) =
    Brings s.client t (more_after s.coming.taken s.coming b.last b.number b.raw)
    (more_answer s.coming.taken s.coming.joined b.last b.number b.raw)

-- the last block of an open transfer of this service
abbrev pub BringsLast : SessionValue → Service → BlockForm → Type 0
BringsLast s service b = BringsFor s b (open_for service s.target)
