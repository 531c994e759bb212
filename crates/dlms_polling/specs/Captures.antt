-- The readings in the place, when a program polls a meter and files what it read.
use Rattle.std.specs.Prelude.{◌≡◌, ℕ, false, List, [], ◌∷◌, ◌++◌, Option, None, Some, Ok}
use Rattle.dlms_headend.specs.Asking.{PlanValue}
use Rattle.dlms_headend.specs.Lines.{IsFile}
use Rattle.dlms_headend.specs.PollRun.{Call}
use Rattle.dlms_headend.specs.PollRun.Call.{Next, On}
use Rattle.dlms_headend.specs.declared.row.Row.{Row}
use Rattle.dlms_headend.specs.declared.stage.Course.TheVariants.{Done}
use Rattle.dlms_headend.specs.declared.step.PollStep.TheVariants as step
use Rattle.dlms_ends.specs.Calling.{calls_of}
use Rattle.dlms_ends.specs.Moments.{Moment}
use Rattle.dlms_filing.specs.Filing.{PlaceCall, Asks, FilesRows}
use Rattle.dlms_filing.specs.Filing.PlaceCall.{Lays, Puts}
use Rattle.dlms_filing.specs.Printing.{Printed}
use Rattle.dlms_meter.specs.Run.{MeterWorld, Stands, events_of}
use Rattle.dlms_meter.specs.Steps.{Step, Run as MeterRun}
use Rattle.dlms_meter.specs.declared.meter.Meter.{Meter}
use Rattle.dlms_pages.specs.declared.device.Pages.{Ghosts}
use Rattle.dlms_store.specs.Fitting.{StoreFits}
use Rattle.dlms_carrier.specs.declared.any.Route.{Route}
use Rattle.dlms_ends.specs.PollEnds.{IsPolledOver, PollEndValue}
use Rattle.dlms_frame.specs.declared.client.Client.{Client}
use Rattle.dlms_headend.specs.CarrierPollValue.{TermsValue}
use Rattle.dlms_headend.specs.CarrierRun.{carried_in, passages}
use Rattle.dlms_world.specs.Agree.{AreCaptures}
use Rattle.dlms_world.specs.Carrier.{Delivers, EndsOnCarrier, Holds, Life, plan_of, served_to}
use Rattle.dlms_world.specs.Line.{DoAgree, Joins, turns_of}
use Rattle.dlms_world.specs.Programs.{Held, Acts, IsFirst}
use Rattle.dlms_world.specs.Sublists.{IsSublist}
use Rattle.dlms_polling.specs.Polled.{IsDone, Known, plan_after, secret_in, way_after}
use Rattle.dlms_polling.specs.Doing.{Does}
use Rattle.dlms_polling.specs.Guards.{Guarding}
use Rattle.dlms_polling.specs.Ways.{Way, Linked, Routed, Secured, rows_of}
use Rattle.dlms_polling.specs.declared.way.DonePoll.{DonePoll}
use Rattle.dlms_polling.specs.declared.way.DonePoll.TheVariants as done
use Rattle.dlms_lines.specs.Watching.{Sight}
use Rattle.dlms_polling.specs.declared.polling.Polling.{Polling}

-- each row of the text that was put there is a capture of the events that the meter holds
pub record HoldsCaptures {P A : Type 0} {ghosts : Ghosts P} (asked asked' : Option (List PlaceCall))
    (rows : List Row) (meter : Meter P A ghosts) : Type 0 where
  pub text : List ℕ
  pub put : Asks asked asked' (Lays text None ∷ Puts None ∷ [])
  pub spelled : IsFile text rows
  pub world : MeterWorld
  pub stands : Stands meter world
  pub fits : StoreFits meter.store world.store
  pub captures : AreCaptures (events_of world) rows

-- Whatever such a program has done, however often it polled, as whichever client, and wherever the power stopped or the head end did:
-- if its poll is done, and all or some of its rows were filed in their order, the place holds captures alone.
abbrev pub PlaceHoldsCaptures : {P A : Type 0} → {ghosts : Ghosts P} → Meter P A ghosts → Type 0
PlaceHoldsCaptures {P} {A} {ghosts} meter =
    (plan : PlanValue) (first now : Held P A ghosts) → IsFirst plan first → Acts first now
    → now.meter ≡ meter → now.poller.course ≡ Done
    → (kept : List Row) → IsSublist kept now.poller.talk.rows
    → (asked asked' : Option (List PlaceCall)) (printed printed' : Printed) (after : List Row)
    → FilesRows {T = Unit {0}} asked asked' printed printed' now.file kept (Ok tt) after
    → HoldsCaptures asked asked' after meter

-- ---- a poll and the meter at the other end of its line

-- the calls of the poller in a poll over the link that is done; a poll over a route has none
abbrev pub calls_in : (seconds : ℕ) (old new : Option (List Moment))
    (seen seen' : Option (List Sight)) (given given' : Option (List Guarding)) (way : Way)
    (done : DonePoll)
    → Does seconds old new seen seen' given given' way (Ok (Some done)) → List Call
calls_in seconds old new seen seen' given given' (Linked plan) (done.Linked poller) does =
    (Next does.0.0.called.frame ∷ calls_of does.0.0.front) ++ On does.0.0.frame (Ok step.Done) ∷ []
calls_in seconds old new seen seen' given given' (Linked plan) (done.Routed end) does = []
calls_in seconds old new seen seen' given given' (Routed route terms) done does = []
calls_in seconds old new seen seen' given given' (Secured route terms) done does = []

-- The readings already there agreed with the meter; a poll in clear without a route was done and filed; and the calls of its poller and
-- the meter's run were the two ends of one line. Then the readings that it put there agree with the meter, too: each row is a
-- capture that it holds.
abbrev pub WhatIsPutAgrees : {P A : Type 0} → {ghosts : Ghosts P} → Meter P A ghosts
    → Meter P A ghosts → Type 0
WhatIsPutAgrees old new =
    (polling : Polling) → polling.route ≡ None → polling.is_protected ≡ false
    → (before after : Known) (done : IsDone polling before after)
    (m m' : MeterWorld) (steps : List Step) (run : MeterRun m steps m') → Stands old m
    → Stands new m' → DoAgree m done.rows
    → Joins (plan_after polling.client (secret_in done.secret) done.rows polling.until)
    (calls_in _ _ _ _ _ _ _ (way_after polling done.secret done.rows) done.done
    done.called.attempt.does)
    (turns_of m steps m' run)
    → (text : List ℕ) × (rows : List Row)
    × Asks done.asked after.asked (Lays text None ∷ Puts None ∷ []) × IsFile text rows
    × DoAgree m' rows

-- The same over a meter that holds the rows of the readings, whatever carriers the earlier polls had, and whatever else arrived at
-- the meter.
abbrev pub WhatIsPutIsHeld : {P A : Type 0} → {ghosts : Ghosts P} → Meter P A ghosts
    → Meter P A ghosts → Type 0
WhatIsPutIsHeld old new =
    (polling : Polling) → polling.route ≡ None → polling.is_protected ≡ false
    → (before after : Known) (done : IsDone polling before after)
    (m m' : MeterWorld) (steps : List Step) (run : MeterRun m steps m') → Stands old m
    → Stands new m' → Holds m done.rows
    → Joins (plan_after polling.client (secret_in done.secret) done.rows polling.until)
    (calls_in _ _ _ _ _ _ _ (way_after polling done.secret done.rows) done.done
    done.called.attempt.does)
    (turns_of m steps m' run)
    → (text : List ℕ) × (rows : List Row)
    × Asks done.asked after.asked (Lays text None ∷ Puts None ∷ []) × IsFile text rows
    × Holds m' rows

-- ---- a poll over a route, and the meter at the other end of its carrier

-- A poll over a route, in clear, was done and filed, and its carrier delivered what passed between it and a client's end of a meter, in a life of
-- the meter since the poll began. If the meter held the rows of the readings before, it holds those that were put there; and the
-- rows of the poll are those that the meter's buffer had when it took the poll's GET.
abbrev pub WhatARoutePutsIsHeld : {P A : Type 0} → {ghosts : Ghosts P} → Meter P A ghosts → Type 0
WhatARoutePutsIsHeld new =
    (polling : Polling) (before after : Known) (is : IsDone polling before after)
    (route : Route) (terms : TermsValue) (end : PollEndValue) → is.done ≡ done.Routed end
    → (poll : IsPolledOver route terms None end)
    (who : Client) (m m' : MeterWorld) (life : Life m m')
    → Delivers (passages (carried_in poll.beside.shares)) (served_to who m m' life)
    → Stands new m' → Holds m is.rows
    → EndsOnCarrier (plan_of who terms) (served_to who m m' life) is.rows (rows_of is.done) m'
    × (text : List ℕ) × (rows : List Row)
    × Asks is.asked after.asked (Lays text None ∷ Puts None ∷ []) × IsFile text rows
    × Holds m' rows
