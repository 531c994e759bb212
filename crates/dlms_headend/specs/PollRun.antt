-- A poll, call by call, whatever frames arrive and whichever are lost: what it sends, what it takes, why it fails, and when it is
-- done.
use Rattle.std.specs.Prelude.{◌≡◌, ◌⊎◌, ℕ, List, [], ◌∷◌, ◌++◌, Option, Some, None, Result, Ok, Err}
use Rattle.dlms_frame.specs.Frame.{Parts}
use Rattle.dlms_link.specs.Client.{ClientRecord, fresh_client, snrm_of, client_connect, client_step, client_timeout}
use Rattle.dlms_link.specs.declared.out.ClientOut.{ClientOut}
use Rattle.dlms_link.specs.declared.out.ClientOut.TheVariants as out
use Rattle.dlms_headend.specs.declared.stage.Course.{Course}
use Rattle.dlms_headend.specs.declared.stage.Course.TheVariants.{Ready, Running, Done, Failed}
use Rattle.dlms_headend.specs.declared.step.PollStep.{PollStep}
use Rattle.dlms_headend.specs.declared.step.PollStep.TheVariants as step
use Rattle.dlms_headend.specs.declared.poll_fault.PollFault.{PollFault}
use Rattle.dlms_headend.specs.declared.poll_fault.PollFault.TheVariants.{Line, Protocol, Memory}
use Rattle.dlms_headend.specs.declared.row.Row.{Row}
use Rattle.dlms_headend.specs.Asking.{PlanValue}
use Rattle.dlms_headend.specs.Poll.{HasReleased}
use Rattle.dlms_headend.specs.Talk.{Ends}
use Rattle.dlms_headend.specs.PollerValue.{PollerValue}
use Rattle.dlms_headend.specs.Polling.{fresh_poll, Goes, WantsRequest, Fits, Begins, Polls, TimesOut, CanTimeOut}

-- The plan, the link, the course of the poll, the APDUs that it took since its link came up, and the rows of one that is done.
pub record Poll : Type 0 where
  pub plan : PlanValue
  pub link : ClientRecord
  pub course : Course
  pub taken : List (List ℕ)
  pub rows : List Row

abbrev pub first_poll : PlanValue → Poll
first_poll plan = record {
  plan = plan;
  link = fresh_client plan.client;
  course = Ready;
  taken = [];
  rows = [];
}

-- a call: for the first frame, with a frame that arrived, for a timeout; and its answer
pub data Call : Type 0 where
  Next : (frame : Option Parts) → Call
  On : (frame : Parts) → (result : Result PollStep PollFault) → Call
  Timeout : (result : Result Parts PollFault) → Call

-- it fails for good
abbrev pub failed : Poll → ClientRecord → PollFault → Poll
failed p link fault = record p { link = link; course = Failed fault }

-- once it took these, on a link that awaits nothing: what it asks next goes out, or the link's end; or memory is wanting for a GET
abbrev pub GoesOn : Poll → ClientRecord → List (List ℕ) → Result PollStep PollFault → Poll → Type 0
GoesOn p link taken (Ok step.Nothing) now = ⊥
GoesOn p link taken (Ok (step.Send frame)) now = (new : ClientRecord)
    × Goes p.plan taken link frame new × (now ≡ record p { link = new; taken = taken })
GoesOn p link taken (Ok step.Done) now = ⊥
GoesOn p link taken (Err fault) now = (fault ≡ Memory) × WantsRequest p.plan.columns taken
    × (now ≡ failed p link fault)

-- the next APDU is taken, and the poll goes on; or that APDU ends it
abbrev pub Takes : Poll → ClientRecord → Result PollStep PollFault → Poll → Type 0
Takes p link result now =
    GoesOn p link (p.taken ++ link.apdu ∷ []) result now
    ⊎ ((fault : PollFault) × Ends p.plan.columns p.taken link.apdu fault × (result ≡ Err fault)
    × (now ≡ failed p link fault))

-- the link goes down: the poll is done exactly if the answer to the release came, and has the rows of its APDUs
abbrev pub GoesDown : Poll → ClientRecord → Result PollStep PollFault → Poll → Type 0
GoesDown p link result now =
    ((rows : List Row) × HasReleased p.plan.columns p.taken rows × (result ≡ Ok step.Done)
    × (now ≡ record p { link = link; course = Done; rows = rows }))
    ⊎ (((rows : List Row) → HasReleased p.plan.columns p.taken rows → ⊥) × (result ≡ Err Protocol)
    × (now ≡ failed p link Protocol))

-- a frame, by how the link handles it
abbrev pub Hears : ClientOut → Poll → ClientRecord → Result PollStep PollFault → Poll → Type 0
Hears out.Nothing p link result now = (result ≡ Ok step.Nothing) × (now ≡ p)
Hears out.Up p link result now = GoesOn p link p.taken result now
Hears (out.Send frame) p link result now = (result ≡ Ok (step.Send frame))
    × (now ≡ record p { link = link })
Hears out.Apdu p link result now = Takes p link result now
Hears out.Down p link result now = GoesDown p link result now

-- before the first frame went out, no frame belongs to it
abbrev pub HearsEarly : ClientOut → Poll → ClientRecord → Result PollStep PollFault → Poll → Type 0
HearsEarly out.Nothing p link result now = (result ≡ Ok step.Nothing) × (now ≡ p)
HearsEarly out.Up p link result now = (result ≡ Err Protocol) × (now ≡ failed p link Protocol)
HearsEarly (out.Send frame) p link result now = (result ≡ Err Protocol)
    × (now ≡ failed p link Protocol)
HearsEarly out.Apdu p link result now = (result ≡ Err Protocol) × (now ≡ failed p link Protocol)
HearsEarly out.Down p link result now = (result ≡ Err Protocol) × (now ≡ failed p link Protocol)

abbrev pub ComesIn : Course → Poll → Parts → Result PollStep PollFault → Poll → Type 0
ComesIn Ready p frame result now =
    HearsEarly (client_step p.link frame).1 p (client_step p.link frame).0 result now
ComesIn Running p frame result now =
    Hears (client_step p.link frame).1 p (client_step p.link frame).0 result now
ComesIn Done p frame result now = (result ≡ Ok step.Nothing) × (now ≡ p)
ComesIn (Failed fault) p frame result now = (result ≡ Err fault) × (now ≡ p)

-- the first frame, once
abbrev pub StartsIn : Course → Poll → Option Parts → Poll → Type 0
StartsIn Ready p frame now = (frame ≡ Some (snrm_of p.link))
    × (now ≡ record p { link = client_connect p.link; course = Running })
StartsIn Running p frame now = (frame ≡ None) × (now ≡ p)
StartsIn Done p frame now = (frame ≡ None) × (now ≡ p)
StartsIn (Failed fault) p frame now = (frame ≡ None) × (now ≡ p)

-- a time-out: the frame that is out goes again, or nobody answers
abbrev pub RepeatsBy : ClientRecord × Option Parts → Poll → Result Parts PollFault → Poll → Type 0
RepeatsBy (link, Some frame) p result now = (result ≡ Ok frame) × (now ≡ record p { link = link })
RepeatsBy (link, None) p result now = (result ≡ Err Line) × (now ≡ failed p link Line)

abbrev pub RepeatsIn : Course → Poll → Result Parts PollFault → Poll → Type 0
RepeatsIn (Failed fault) p result now = (result ≡ Err fault) × (now ≡ p)
RepeatsIn Ready p result now = RepeatsBy (client_timeout p.link) p result now
RepeatsIn Running p result now = RepeatsBy (client_timeout p.link) p result now
RepeatsIn Done p result now = RepeatsBy (client_timeout p.link) p result now

abbrev pub Leads : Poll → Call → Poll → Type 0
Leads p (Next frame) now = StartsIn p.course p frame now
Leads p (On frame result) now = ComesIn p.course p frame result now
Leads p (Timeout result) now = RepeatsIn p.course p result now

-- the calls, one after another
abbrev pub PollRun : Poll → List Call → Poll → Type 0
PollRun p [] now = now ≡ p
PollRun p (call ∷ calls) now = (mid : Poll) × Leads p call mid × PollRun mid calls now

-- ---- the calls of a poller

-- what a call's contract says of the poller before and after it
abbrev pub IsCall : PollerValue → Call → PollerValue → Type 0
IsCall old (Next frame) new = Begins old frame new
    × ((apdus : List (List ℕ)) → Fits old apdus → Fits new apdus)
IsCall old (On frame result) new = (apdus : List (List ℕ)) → Fits old apdus
    → Polls apdus frame old result new
IsCall old (Timeout result) new = CanTimeOut old × TimesOut old result new
    × ((apdus : List (List ℕ)) → Fits old apdus → Fits new apdus)

abbrev pub Calls : PollerValue → List Call → PollerValue → Type 0
Calls old [] new = new ≡ old
Calls old (call ∷ calls) new = (mid : PollerValue) × IsCall old call mid × Calls mid calls new

-- the poller is at this poll
pub record IsAt (v : PollerValue) (p : Poll) : Type 0 where
  pub plan : v.plan ≡ p.plan
  pub link : v.link ≡ p.link
  pub course : v.course ≡ p.course
  pub fits : Fits v p.taken
  pub rows : p.course ≡ Done → v.talk.rows ≡ p.rows

-- The calls of a poller, from a new one on, are a poll.
abbrev pub CallsAreAPoll : Type 0
CallsAreAPoll = (plan : PlanValue) (calls : List Call) (new : PollerValue)
    → Calls (fresh_poll plan) calls new
    → (p : Poll) × PollRun (first_poll plan) calls p × IsAt new p

-- And one that is done took an acceptance, answers that spell its rows, before and after them answers with the columns if its plan
-- asks for them, and the answer to the release.
abbrev pub DoneIsTold : Type 0
DoneIsTold = (plan : PlanValue) (calls : List Call) (p : Poll) → PollRun (first_poll plan) calls p
    → p.course ≡ Done → HasReleased plan.columns p.taken p.rows
