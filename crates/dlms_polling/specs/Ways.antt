-- How a meter is polled, and a poll that is done.
use Rattle.std.specs.Prelude.{◌≤◌, ℕ, Bool, true, false, List, Option, Some, None, IfSome}
use Rattle.dlms_carrier.specs.Any.{IsRoute, outlasts as route_outlasts}
use Rattle.dlms_carrier.specs.declared.any.Route.{Route}
use Rattle.dlms_carrier.specs.declared.any.Route.TheVariants.{Hdlc}
use Rattle.dlms_client.specs.Plan.{PlanValue as PlanOfClient}
use Rattle.dlms_ends.specs.BothEnds.{IsDonePoll}
use Rattle.dlms_ends.specs.PollEnds.{IsPolledOver, PollEndValue}
use Rattle.dlms_frame.specs.Client.{sap_of}
use Rattle.dlms_frame.specs.declared.client.Client.{Client}
use Rattle.dlms_frame.specs.declared.client.Client.TheVariants.{Public, Management, Reader}
use Rattle.dlms_frame.specs.declared.frame.Address.TheVariants.{One}
use Rattle.dlms_headend.specs.Asking.{AreSeconds, PlanValue}
use Rattle.dlms_headend.specs.CarrierPollValue.{TermsValue, terms_of}
use Rattle.dlms_headend.specs.PollerValue.{plan_of}
use Rattle.dlms_headend.specs.declared.row.Row.{Row}
use Rattle.dlms_polling.specs.declared.way.DonePoll.{DonePoll}
use Rattle.dlms_polling.specs.declared.way.DonePoll.TheVariants as done
use Rattle.dlms_polling.specs.declared.way.TheConstants.{SIZE}
use Rattle.dlms_polling.specs.declared.way.Way.{Way as WayOf}
use Rattle.dlms_polling.specs.declared.way.Way.TheVariants as by
use Rattle.dlms_secured.specs.Guard.{GuardValue}

-- by this project's client over its own link; over a route by these terms, in clear; or so, in a protected association
pub data Way : Type 0 where
  Linked : (plan : PlanValue) → Way
  Routed : (route : Route) (terms : TermsValue) → Way
  Secured : (route : Route) (terms : TermsValue) → Way

abbrev pub way_of : WayOf → Way
way_of (by.Linked plan) = Linked (plan_of plan)
way_of (by.Routed route terms) = Routed route (terms_of terms)
way_of (by.Secured route terms) = Secured route (terms_of terms)

-- its seconds are those of the clock, and its addresses are in their ranges
abbrev pub IsWay : Way → Type 0
IsWay (Linked plan) = AreSeconds plan.after plan.until
IsWay (Routed route terms) = IsRoute route × AreSeconds terms.after terms.until
IsWay (Secured route terms) = IsRoute route × AreSeconds terms.after terms.until

-- whether a connection outlasts an association over it, and an answer that did not come
abbrev pub outlasts : Way → Bool
outlasts (Linked plan) = true
outlasts (Routed route terms) = route_outlasts route
outlasts (Secured route terms) = route_outlasts route

-- ---- the client that asks for texts

-- the secret that a client sends: the public client sends none
abbrev pub secret_by : Client → List ℕ → Option (List ℕ)
secret_by Public secret = None
secret_by Management secret = Some secret
secret_by Reader secret = Some secret

-- it asks the meter that is polled, with the secret of the poll: over the link the meter at address 1
abbrev pub asker_of : Way → PlanOfClient
asker_of (Linked plan) = record {
  route = Hdlc (sap_of plan.client) (One 1) None;
  secret = secret_by plan.client plan.secret;
  size = SIZE;
}
asker_of (Routed route terms) = record { route = route; secret = terms.secret; size = SIZE }
asker_of (Secured route terms) = record { route = route; secret = terms.secret; size = SIZE }

-- ---- a poll that is done

abbrev pub rows_of : DonePoll → List Row
rows_of (done.Linked poller) = poller.talk.rows
rows_of (done.Routed end) = end.poll.talk.rows

-- A poll over the route, by these terms, is done in an association that a guard protected.
abbrev pub IsPolledSecured : Route → TermsValue → PollEndValue → Type 0
IsPolledSecured route terms end = (guard : GuardValue) × IsPolledOver route terms (Some guard) end

-- It was made in this way, and is done: it took an acceptance and answers that spell its rows, and over the link the answer to the
-- release. In a way that asks for protection it had a guard: it is never done in clear.
abbrev pub IsDoneBy : Way → DonePoll → Type 0
IsDoneBy (Linked plan) (done.Linked poller) = IsDonePoll plan poller
IsDoneBy (Linked plan) (done.Routed end) = ⊥
IsDoneBy (Routed route terms) (done.Linked poller) = ⊥
IsDoneBy (Routed route terms) (done.Routed end) = IsPolledOver route terms None end
IsDoneBy (Secured route terms) (done.Linked poller) = ⊥
IsDoneBy (Secured route terms) (done.Routed end) = IsPolledSecured route terms end
