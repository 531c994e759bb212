-- An association, call by call, whatever APDUs come: each answer is what the APDUs say that were taken since its
-- request.
use Rattle.std.specs.Prelude.{◌≡◌, ℕ, List, [], ◌∷◌, ◌++◌, Option, Some, None, IfSome, Result, Ok, Err}
use Rattle.dlms_apdu.specs.Forms.{RequestForm, get_normal, get_next, set_normal, set_first, set_block, action_normal, action_first, action_block}
use Rattle.dlms_blocks.specs.Going.{Going}
use Rattle.dlms_association.specs.Calls.{fresh, IsClosed, Opens, Takes, IsFree, Asks, Releases, Closes, Breaks, long_value}
use Rattle.dlms_association.specs.AssociationValue.{AssociationValue}
use Rattle.dlms_association.specs.Terms.{TermsValue}
use Rattle.dlms_association.specs.Saying.{Says}
use Rattle.dlms_association.specs.declared.answer.Answer.{Answer}
use Rattle.dlms_association.specs.declared.ask_fault.AskFault.{AskFault}
use Rattle.dlms_association.specs.declared.fault.Fault.{Fault}
use Rattle.dlms_association.specs.declared.stage.Asked.{Asked}
use Rattle.dlms_association.specs.declared.stage.Asked.TheVariants.{Get, Set, Action}
use Rattle.dlms_association.specs.declared.stage.Stage.{Stage}
use Rattle.dlms_association.specs.declared.stage.Stage.TheVariants.{Closed, Associating, Free, Asking, Releasing, Released}
use Rattle.dlms_association.specs.declared.step.Step.{Step}
use Rattle.dlms_association.specs.declared.step.Step.TheVariants as step

-- a call and its answer: for the association request, with an APDU that arrived, with a request, for the release; when the
-- connection ended, and when it failed
pub data Call : Type 0 where
  Open : (given : List ℕ) → Call
  Take : (apdu : List ℕ) → (result : Result Step Fault) → Call
  Ask : (form : RequestForm) → (result : Result (List ℕ) AskFault) → Call
  Release : (given : List ℕ) → Call
  Close : Call
  Break : (fault : Fault) → Call

abbrev pub asked_of : RequestForm → Asked
asked_of (get_normal invoke d s) = Get
asked_of (get_next invoke n) = Get
asked_of (set_normal invoke d s v) = Set
asked_of (set_first invoke d s last n raw) = Set
asked_of (set_block invoke last n raw) = Set
asked_of (action_normal invoke d p) = Action
asked_of (action_first invoke d last n raw) = Action
asked_of (action_block invoke last n raw) = Action

-- what a call's contract says of the association before and after it
abbrev pub IsCall : AssociationValue → Call → AssociationValue → Type 0
IsCall old (Open given) new = IsClosed old × Opens old given new
IsCall old (Take apdu result) new = Takes old apdu result new
IsCall old (Ask form result) new = IsFree old × Asks (asked_of form) form old result new
IsCall old (Release given) new = IsFree old × Releases old given new
IsCall old Close new = Closes old new
IsCall old (Break fault) new = Breaks old fault new

-- an APDU is taken while one is awaited, and ignored otherwise
abbrev pub taken_at : Stage → List ℕ → List (List ℕ)
taken_at Associating apdu = apdu ∷ []
taken_at (Asking asked) apdu = apdu ∷ []
taken_at Releasing apdu = apdu ∷ []
taken_at Closed apdu = []
taken_at Free apdu = []
taken_at Released apdu = []

abbrev pub taken_unless : Option Fault → Stage → List ℕ → List (List ℕ)
taken_unless None stage apdu = taken_at stage apdu
taken_unless (Some fault) stage apdu = []

-- the last request that went out, and the APDUs that were taken since
pub record Since : Type 0 where
  pub request : Option RequestForm
  pub taken : List (List ℕ)

abbrev pub nothing_yet : Since
nothing_yet = record { request = None; taken = [] }

abbrev pub since_after : AssociationValue → Call → Since → Since
since_after c (Open given) since = since
since_after c (Take apdu result) since =
    record since { taken = since.taken ++ taken_unless c.failed c.stage apdu }
since_after c (Ask form (Ok given)) since = record { request = Some form; taken = [] }
since_after c (Ask form (Err fault)) since = since
since_after c (Release given) since = since
since_after c Close since = since
since_after c (Break fault) since = since

-- the calls, one after another
abbrev pub Runs : AssociationValue → Since → List Call → AssociationValue → Since → Type 0
Runs old since [] new now = (new ≡ old) × (now ≡ since)
Runs old since (call ∷ calls) new now = (mid : AssociationValue) × IsCall old call mid
    × Runs mid (since_after old call since) calls new now

-- An answer was awaited, and is what the APDUs say that were taken since the last request, and this one; it leaves the association
-- with this value, and free for another request.
pub record IsAnswered (since : Since) (at : AssociationValue) (apdu : List ℕ) (answer : Answer)
    (new : AssociationValue) : Type 0 where
  pub form : RequestForm
  pub request : since.request ≡ Some form
  pub awaited : at.stage ≡ Asking (asked_of form)
  pub says : Says (asked_of form) since.taken apdu answer new.blocks.joined
  pub free : IsFree new

-- The calls of an association, from a new one on, in any order and with any APDUs: so is each answer.
abbrev pub AnswersAreSaid : Type 0
AnswersAreSaid = (terms : TermsValue) (calls : List Call) (at new : AssociationValue)
    (since : Since) (apdu : List ℕ) (answer : Answer) → Runs (fresh terms) nothing_yet calls at since
    → Takes at apdu (Ok (step.Answered answer)) new
    → IsAnswered since at apdu answer new

-- The blocks sent are those of the encoding of the value in the last request.
pub record IsOfTheRequest (since : Since) (sent : Option Going) : Type 0 where
  pub form : RequestForm
  pub request : since.request ≡ Some form
  pub goes : IfSome sent (λ going. long_value form ≡ Some going.encoding)

-- So it is while the answer to a request is awaited.
abbrev pub BlocksAreOfTheRequest : Type 0
BlocksAreOfTheRequest = (terms : TermsValue) (calls : List Call) (at : AssociationValue)
    (since : Since) (asked : Asked) → Runs (fresh terms) nothing_yet calls at since
    → at.failed ≡ None → at.stage ≡ Asking asked → IsOfTheRequest since at.sent
