use Rattle.std.proofs.Common.{sym, subst, Ok}
use Rattle.dlms_link.specs.Client.{client_step}
use Rattle.dlms_headend.specs.PollerValue.{PollerValue, plan_of}
use Rattle.dlms_headend.specs.Polling.{PollsBy}
use Rattle.dlms_headend.specs.declared.step.PollStep.TheVariants.{Send}
use Rattle.dlms_headend.specs.Talk.{FitsTalk}
use Rattle.dlms_headend.proofs.PollLemmas.{up_sends}
use Rattle.dlms_headend.proofs.poller.Poller.running.Goals as goal

pub returns-in-Up-clause-polls : goal.returns-in-Up-clause-polls
returns-in-Up-clause-polls g c = λ apdus h.
    let i = c.self.inside in
    let before : PollerValue = record { plan = plan_of i.plan; link = i.link; course = i.course; talk = i.talk } in
    let after = client_step i.link c.args.frame.now in
    subst (λ (at : PollerValue). PollsBy (client_step at.link c.args.frame.now).1 (client_step at.link c.args.frame.now).0 apdus at (Ok (Send c.go_on.result)) c.go_on.new.self) c.self.view_is
    (up_sends after.1 after.0 c.on.new.self apdus before c.go_on.new.self c.go_on.result c.in-Up.ensures.out c.in-Up.ensures.after
    (c.go_on.ensures apdus (subst (λ (at : PollerValue). FitsTalk at.plan.columns at.talk apdus) (sym c.self.view_is) h.0)))
