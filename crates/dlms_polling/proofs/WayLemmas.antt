-- A poll over the link, in a poll that is made in either way.
use Rattle.std.proofs.Common.{refl, sym, subst, ◌≡◌, ℕ, Bool, true, false, List, [], ◌∷◌, ◌++◌, Option, Some, None, Ok, Err}
use Rattle.dlms_carrier.specs.declared.any.Route.{Route}
use Rattle.dlms_ends.specs.BothEnds.{IsPolled}
use Rattle.dlms_ends.specs.Calling.{calls_of}
use Rattle.dlms_ends.specs.Moments.{Moment}
use Rattle.dlms_ends.specs.PollEnds.{PollEndValue}
use Rattle.dlms_ends.specs.declared.fault.RunFault.{RunFault}
use Rattle.dlms_frame.specs.declared.client.Client.{Client}
use Rattle.dlms_headend.specs.Asking.{PlanValue}
use Rattle.dlms_headend.specs.CarrierPollValue.{TermsValue}
use Rattle.dlms_headend.specs.PollRun.{Call}
use Rattle.dlms_headend.specs.PollRun.Call.{Next, On}
use Rattle.dlms_headend.specs.PollerValue.{PollerValue}
use Rattle.dlms_headend.specs.Polling.{fresh_poll}
use Rattle.dlms_headend.specs.declared.row.Row.{Row}
use Rattle.dlms_headend.specs.declared.step.PollStep.TheVariants as step
use Rattle.dlms_lines.specs.Watching.{Sight}
use Rattle.dlms_polling.specs.Captures.{calls_in}
use Rattle.dlms_polling.specs.Doing.{Does, DoesLinked, DoesSecured}
use Rattle.dlms_polling.specs.Guards.{Guarding}
use Rattle.dlms_polling.specs.Polled.{plan_after, secret_in, way_by}
use Rattle.dlms_polling.specs.Ways.{Way, Linked, Secured}
use Rattle.dlms_polling.specs.declared.way.DonePoll.{DonePoll}
use Rattle.dlms_polling.specs.declared.way.DonePoll.TheVariants as done

-- a poll without a route that is done is one over the link, with these calls
pub record OverLink (client : Client) (secret : List ℕ) (rows : List Row) (until : Option ℕ) (old new : Option (List Moment)) (result : DonePoll) (calls : List Call) : Type 0 where
  pub poller : PollerValue
  pub same : result ≡ done.Linked poller
  pub polled : IsPolled old new (fresh_poll (plan_after client secret rows until)) poller
  pub calls_are : calls ≡ (Next polled.called.frame ∷ calls_of polled.front) ++ On polled.frame (Ok step.Done) ∷ []

pub over_link : (is_protected : Bool) (route : Option Route) → is_protected ≡ false → route ≡ None → (client : Client) (secret : Option (List ℕ)) (rows : List Row) (until : Option ℕ) (seconds : ℕ) (old new : Option (List Moment)) (v w : Option (List Sight)) (given given' : Option (List Guarding)) (result : DonePoll)
    (does : Does seconds old new v w given given' (way_by is_protected route client secret rows until) (Ok (Some result)))
    → OverLink client (secret_in secret) rows until old new result (calls_in seconds old new v w given given' (way_by is_protected route client secret rows until) result does)
over_link true route is none client secret rows until seconds old new v w given given' result does = absurd (cc)
over_link false None is none client secret rows until seconds old new v w given given' (done.Linked poller) does = record { poller = poller; same = refl; polled = does.0.0; calls_are = refl }
over_link false None is none client secret rows until seconds old new v w given given' (done.Routed end) does = absurd does
over_link false (Some route) is none client secret rows until seconds old new v w given given' result does = absurd (cc)

-- ---- a poll in one of the ways, by what is known of its parts

pub linked_fails : (seconds : ℕ) (old new : Option (List Moment)) (v w : Option (List Sight)) (given : Option (List Guarding)) (way : Way) (plan : PlanValue) (poller : PollerValue) (fault : RunFault)
    → way ≡ Linked plan → poller ≡ fresh_poll plan → DoesLinked seconds old new v w poller (Err fault) → Does seconds old new v w given given way (Err fault)
linked_fails seconds old new v w given way plan poller fault is fresh does =
    subst (λ (x : Way). Does seconds old new v w given given x (Err fault)) (sym is) (subst (λ (p : PollerValue). DoesLinked seconds old new v w p (Err fault)) fresh does, refl)

pub secured_done : (seconds : ℕ) (old new : Option (List Moment)) (v w : Option (List Sight)) (given given' : Option (List Guarding)) (way : Way) (route : Route) (terms again : TermsValue) (found : Option PollEndValue) (end : PollEndValue)
    → way ≡ Secured route terms → again ≡ terms → found ≡ Some end → DoesSecured route again seconds old new v w given given' (Ok found) → Does seconds old new v w given given' way (Ok (Some (done.Routed end)))
secured_done seconds old new v w given given' way route terms again found end is same one does =
    subst (λ (x : Way). Does seconds old new v w given given' x (Ok (Some (done.Routed end)))) (sym is)
    (subst (λ (t : TermsValue). DoesSecured route t seconds old new v w given given' (Ok (Some end))) same
    (subst (λ (f : Option PollEndValue). DoesSecured route again seconds old new v w given given' (Ok f)) one does))

pub secured_late : (seconds : ℕ) (old new : Option (List Moment)) (v w : Option (List Sight)) (given given' : Option (List Guarding)) (way : Way) (route : Route) (terms again : TermsValue) (found : Option PollEndValue)
    → way ≡ Secured route terms → again ≡ terms → found ≡ None → DoesSecured route again seconds old new v w given given' (Ok found) → Does seconds old new v w given given' way (Ok None)
secured_late seconds old new v w given given' way route terms again found is same none does =
    subst (λ (x : Way). Does seconds old new v w given given' x (Ok None)) (sym is)
    (subst (λ (t : TermsValue). DoesSecured route t seconds old new v w given given' (Ok None)) same
    (subst (λ (f : Option PollEndValue). DoesSecured route again seconds old new v w given given' (Ok f)) none does))

pub secured_fails : (seconds : ℕ) (old new : Option (List Moment)) (v w : Option (List Sight)) (given given' : Option (List Guarding)) (way : Way) (route : Route) (terms again : TermsValue) (fault : RunFault)
    → way ≡ Secured route terms → again ≡ terms → DoesSecured route again seconds old new v w given given' (Err fault) → Does seconds old new v w given given' way (Err fault)
secured_fails seconds old new v w given given' way route terms again fault is same does =
    subst (λ (x : Way). Does seconds old new v w given given' x (Err fault)) (sym is)
    (subst (λ (t : TermsValue). DoesSecured route t seconds old new v w given given' (Err fault)) same does)
