-- A poll over the client's link, frame by frame.
use Rattle.std.specs.Prelude.{◌≡◌, ◌⊎◌, ◌<◌, ◌≤◌, ℕ, List, [], ◌∷◌, ◌++◌, length, Option, Some, None, Result, Ok, Err, IsSome}
use Rattle.dlms_acse.specs.Writing.{release_request}
use Rattle.dlms_frame.specs.Frame.{Parts}
use Rattle.dlms_link.specs.Client.{ClientRecord, fresh_client, snrm_of, disc_of, client_connect, client_disconnect, client_send, client_step, client_timeout}
use Rattle.dlms_link.specs.declared.phase.Phase.{Phase}
use Rattle.dlms_link.specs.declared.phase.Phase.TheVariants.{Connecting, Open, Closing}
use Rattle.dlms_link.specs.declared.out.ClientOut.{ClientOut}
use Rattle.dlms_link.specs.declared.out.ClientOut.TheVariants as out
use Rattle.dlms_headend.specs.declared.stage.Stage.{Stage}
use Rattle.dlms_headend.specs.declared.stage.Stage.TheVariants.{Associating, Naming, Getting, Checking, Releasing, Leaving}
use Rattle.dlms_headend.specs.declared.stage.Course.{Course}
use Rattle.dlms_headend.specs.declared.stage.Course.TheVariants.{Ready, Running, Done, Failed}
use Rattle.dlms_headend.specs.declared.step.PollStep.{PollStep}
use Rattle.dlms_headend.specs.declared.step.PollStep.TheVariants as step
use Rattle.dlms_headend.specs.declared.poll_fault.PollFault.{PollFault}
use Rattle.dlms_headend.specs.declared.poll_fault.PollFault.TheVariants.{Line, Protocol, Memory}
use Rattle.dlms_headend.specs.declared.row.Row.{Row}
use Rattle.dlms_headend.specs.Asking.{PlanValue, association_bytes, columns_bytes, IsBufferRequest, next_bytes}
use Rattle.dlms_headend.specs.Poll.{HasBlocks, HasReleased, Asks, Needs}
use Rattle.dlms_headend.specs.Talk.{fresh_talk, FitsTalk, Ends}
use Rattle.dlms_headend.specs.PollerValue.{PollerValue}
use Rattle.dlms_headend.specs.declared.plan.Columns.{Columns}
use Rattle.dlms_link.specs.declared.kept.TheConstants.{MOST_APDU}

-- a poll that begins
abbrev pub fresh_poll : PlanValue → PollerValue
fresh_poll plan = record {
  plan = plan;
  link = fresh_client plan.client;
  course = Ready;
  talk = fresh_talk;
}

-- ---- what is sent

-- the link is given this APDU, which has at most the bytes that a link takes
abbrev pub Gives : ClientRecord → List ℕ → Parts → ClientRecord → Type 0
Gives link apdu frame new = (length apdu ≤ MOST_APDU) × (frame ≡ (client_send link apdu).1)
    × (new ≡ (client_send link apdu).0)

-- the request for the next block; for the buffer, if no block has come
abbrev pub IsGet : PlanValue → ℕ → List ℕ → Type 0
IsGet plan taken apdu = ((taken ≡ 0) × IsBufferRequest plan.after plan.until apdu)
    ⊎ ((0 < taken) × (apdu ≡ next_bytes taken))

-- what goes out at this stage
abbrev pub IsDue : PlanValue → Stage → ClientRecord → Parts → ClientRecord → Type 0
IsDue plan Associating link frame new = Gives link (association_bytes plan) frame new
IsDue plan Naming link frame new = Gives link columns_bytes frame new
IsDue plan Checking link frame new = Gives link columns_bytes frame new
IsDue plan (Getting taken) link frame new = (apdu : List ℕ) × IsGet plan taken apdu
    × Gives link apdu frame new
IsDue plan Releasing link frame new = Gives link release_request frame new
IsDue plan Leaving link frame new = (frame ≡ disc_of link) × (new ≡ client_disconnect link)

-- what a poll sends once it took these APDUs: the APDU that it asks, or the link's end
pub data Goes (plan : PlanValue) (apdus : List (List ℕ)) (link : ClientRecord) (frame : Parts)
    (new : ClientRecord) : Type 0 where
  asks : (apdu : List ℕ) → Asks plan apdus apdu → Gives link apdu frame new
      → Goes plan apdus link frame new
  leaves : (rows : List Row) → HasReleased plan.columns apdus rows → frame ≡ disc_of link
      → new ≡ client_disconnect link → Goes plan apdus link frame new

-- ---- where a poll stands

-- the link's phase
abbrev pub StandsAt : Stage → Phase → Type 0
StandsAt Associating phase = (phase ≡ Connecting) ⊎ (phase ≡ Open)
StandsAt Naming phase = phase ≡ Open
StandsAt (Getting taken) phase = phase ≡ Open
StandsAt Checking phase = phase ≡ Open
StandsAt Releasing phase = phase ≡ Open
StandsAt Leaving phase = phase ≡ Closing

-- a poll that took these APDUs since its link came up
abbrev pub FitsIn : Course → PollerValue → List (List ℕ) → Type 0
FitsIn Ready p apdus = (p.link ≡ fresh_client p.plan.client) × (p.talk ≡ fresh_talk) × (apdus ≡ [])
FitsIn Running p apdus = FitsTalk p.plan.columns p.talk apdus × StandsAt p.talk.stage p.link.phase
FitsIn Done p apdus = HasReleased p.plan.columns apdus p.talk.rows
FitsIn (Failed fault) p apdus = Unit {0}

abbrev pub Fits : PollerValue → List (List ℕ) → Type 0
Fits p apdus = FitsIn p.course p apdus

-- ---- frames

-- it fails for good: nothing else of it changes
pub record HasFailed {X : Type 0} (at : PollerValue) (fault : PollFault)
    (result : Result X PollFault) (new : PollerValue) : Type 0 where
  pub answer : result ≡ Err fault
  pub after : new ≡ record at { course = Failed fault }

-- it fails for good at an answer: its plan, its link and its rows stay
pub record IsFailed (at : PollerValue) (fault : PollFault) (new : PollerValue) : Type 0 where
  pub course : new.course ≡ Failed fault
  pub plan : new.plan ≡ at.plan
  pub link : new.link ≡ at.link
  pub rows : new.talk.rows ≡ at.talk.rows

-- what goes out after these APDUs, on a link that awaits nothing; the poll goes on
pub record SendsOn (plan : PlanValue) (apdus : List (List ℕ)) (link : ClientRecord) (frame : Parts)
    (new : PollerValue) : Type 0 where
  pub goes : Goes plan apdus link frame new.link
  pub runs : new.course ≡ Running
  pub keeps : new.plan ≡ plan
  pub fits : Fits new apdus

-- memory may be wanting for a GET of the buffer
abbrev pub WantsRequest : Columns → List (List ℕ) → Type 0
WantsRequest columns apdus = (taken : ℕ) × (joined : List ℕ) × HasBlocks columns apdus taken joined

-- a poll goes on once it took these APDUs
abbrev pub Continues : PollerValue → List (List ℕ) → Result PollStep PollFault → PollerValue
    → Type 0
Continues at apdus (Ok step.Nothing) new = ⊥
Continues at apdus (Ok (step.Send frame)) new = SendsOn at.plan apdus at.link frame new
Continues at apdus (Ok step.Done) new = ⊥
Continues at apdus (Err fault) new = (fault ≡ Memory) × WantsRequest at.plan.columns apdus
    × (new ≡ record at { course = Failed fault })

-- the link hands up the next APDU
abbrev pub Answers : PollerValue → List (List ℕ) → Result PollStep PollFault → PollerValue → Type 0
Answers at apdus (Ok step.Nothing) new = ⊥
Answers at apdus (Ok (step.Send frame)) new =
    SendsOn at.plan (apdus ++ at.link.apdu ∷ []) at.link frame new
Answers at apdus (Ok step.Done) new = ⊥
Answers at apdus (Err fault) new =
    (Ends at.plan.columns apdus at.link.apdu fault
    ⊎ ((fault ≡ Memory) × WantsRequest at.plan.columns (apdus ++ at.link.apdu ∷ [])))
    × IsFailed at fault new

-- the link goes down: as the poll asked for, or against it
pub record IsDone (at : PollerValue) (result : Result PollStep PollFault) (new : PollerValue)
    : Type 0 where
  pub answer : result ≡ Ok step.Done
  pub after : new ≡ record at { course = Done }

abbrev pub GoesDown : Stage → PollerValue → Result PollStep PollFault → PollerValue → Type 0
GoesDown Associating at result new = HasFailed at Protocol result new
GoesDown Naming at result new = HasFailed at Protocol result new
GoesDown Checking at result new = HasFailed at Protocol result new
GoesDown (Getting taken) at result new = HasFailed at Protocol result new
GoesDown Releasing at result new = HasFailed at Protocol result new
GoesDown Leaving at result new = IsDone at result new

-- with the link as a frame leaves it
abbrev pub with_link : PollerValue → ClientRecord → PollerValue
with_link p link = record p { link = link }

-- a frame, while these APDUs were taken, by how the link handles it
abbrev pub PollsBy : ClientOut → ClientRecord → List (List ℕ) → PollerValue
    → Result PollStep PollFault → PollerValue → Type 0
PollsBy out.Nothing link apdus old result new = (result ≡ Ok step.Nothing) × (new ≡ old)
PollsBy out.Up link apdus old result new = Continues (with_link old link) apdus result new
PollsBy (out.Send frame) link apdus old result new = (result ≡ Ok (step.Send frame))
    × (new ≡ with_link old link) × Fits new apdus
PollsBy out.Apdu link apdus old result new = Answers (with_link old link) apdus result new
PollsBy out.Down link apdus old result new = GoesDown old.talk.stage (with_link old link) result new

-- a frame before the first one went out
abbrev pub PollsEarly : ClientOut → ClientRecord → PollerValue → Result PollStep PollFault
    → PollerValue → Type 0
PollsEarly out.Nothing link old result new = (result ≡ Ok step.Nothing) × (new ≡ old)
PollsEarly out.Up link old result new = HasFailed (with_link old link) Protocol result new
PollsEarly (out.Send frame) link old result new = HasFailed (with_link old link) Protocol result new
PollsEarly out.Apdu link old result new = HasFailed (with_link old link) Protocol result new
PollsEarly out.Down link old result new = HasFailed (with_link old link) Protocol result new

abbrev pub PollsIn : Course → List (List ℕ) → Parts → PollerValue → Result PollStep PollFault
    → PollerValue → Type 0
PollsIn Ready apdus frame old result new =
    PollsEarly (client_step old.link frame).1 (client_step old.link frame).0 old result new
PollsIn Running apdus frame old result new =
    PollsBy (client_step old.link frame).1 (client_step old.link frame).0 apdus old result new
PollsIn Done apdus frame old result new = (result ≡ Ok step.Nothing) × (new ≡ old)
PollsIn (Failed fault) apdus frame old result new = (result ≡ Err fault) × (new ≡ old)

abbrev pub Polls : List (List ℕ) → Parts → PollerValue → Result PollStep PollFault → PollerValue
    → Type 0
Polls apdus frame old result new = PollsIn old.course apdus frame old result new

-- By what the link makes of a frame: memory is wanting only for an APDU that the link hands up, an answer to a GET of the buffer
-- that needs some. What is asked next takes none.
abbrev pub WantsBy : ClientOut → ClientRecord → Columns → List (List ℕ) → Type 0
WantsBy out.Nothing link columns apdus = ⊥
WantsBy out.Up link columns apdus = ⊥
WantsBy (out.Send frame) link columns apdus = ⊥
WantsBy out.Apdu link columns apdus = Needs columns apdus link.apdu
WantsBy out.Down link columns apdus = ⊥

abbrev pub WantsMemory : PollerValue → List (List ℕ) → Parts → Type 0
WantsMemory old apdus frame =
    WantsBy (client_step old.link frame).1 (client_step old.link frame).0 old.plan.columns apdus

-- the first frame
abbrev pub BeginsIn : Course → PollerValue → Option Parts → PollerValue → Type 0
BeginsIn Ready old result new = (result ≡ Some (snrm_of old.link))
    × (new ≡ record old { link = client_connect old.link; course = Running })
BeginsIn Running old result new = (result ≡ None) × (new ≡ old)
BeginsIn Done old result new = (result ≡ None) × (new ≡ old)
BeginsIn (Failed fault) old result new = (result ≡ None) × (new ≡ old)

abbrev pub Begins : PollerValue → Option Parts → PollerValue → Type 0
Begins old result new = BeginsIn old.course old result new

-- a time-out of the frame that is out
abbrev pub TimesOutBy : ClientRecord × Option Parts → PollerValue → Result Parts PollFault
    → PollerValue → Type 0
TimesOutBy (link, Some frame) old result new = (result ≡ Ok frame) × (new ≡ with_link old link)
TimesOutBy (link, None) old result new = HasFailed (with_link old link) Line result new

abbrev pub TimesOutIn : Course → PollerValue → Result Parts PollFault → PollerValue → Type 0
TimesOutIn (Failed fault) old result new = (result ≡ Err fault) × (new ≡ old)
TimesOutIn Ready old result new = TimesOutBy (client_timeout old.link) old result new
TimesOutIn Running old result new = TimesOutBy (client_timeout old.link) old result new
TimesOutIn Done old result new = TimesOutBy (client_timeout old.link) old result new

abbrev pub TimesOut : PollerValue → Result Parts PollFault → PollerValue → Type 0
TimesOut old result new = TimesOutIn old.course old result new

-- a frame is out, or the poll has failed
abbrev pub CanTimeOutIn : Course → PollerValue → Type 0
CanTimeOutIn (Failed fault) p = Unit {0}
CanTimeOutIn Ready p = IsSome p.link.waits
CanTimeOutIn Running p = IsSome p.link.waits
CanTimeOutIn Done p = IsSome p.link.waits

abbrev pub CanTimeOut : PollerValue → Type 0
CanTimeOut p = CanTimeOutIn p.course p
