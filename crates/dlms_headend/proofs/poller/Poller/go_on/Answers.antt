use Rattle.std.proofs.Common.{refl}
use Rattle.dlms_headend.specs.PollerValue.{PollerValue, plan_of}
use Rattle.dlms_headend.proofs.PollLemmas.{opened_sends_on}
use Rattle.dlms_headend.proofs.poller.Poller.go_on.Goals as goal

pub returns : goal.returns
returns g c = λ apdus h.
    let i = c.self.inside in
    let before : PollerValue = record { plan = plan_of i.plan; link = i.link; course = i.course; talk = i.talk } in
    let after : PollerValue = record { plan = plan_of i.plan; link = c.due.new.link; course = i.course; talk = i.talk } in
    opened_sends_on c.args.self.now before after apdus c.stage.result c.due.result c.self.view_is c.requires.running c.requires.idle h c.stage.ensures c.due.ensures refl refl refl
