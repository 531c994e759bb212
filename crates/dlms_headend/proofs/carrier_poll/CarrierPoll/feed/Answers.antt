use Rattle.dlms_headend.specs.CarrierPollValue.{CarrierPollValue, terms_of}
use Rattle.dlms_headend.specs.declared.stage.PollCourse.TheVariants.{Connecting, Running}
use Rattle.dlms_headend.proofs.CarrierLemmas.{fed_under_way}
use Rattle.dlms_headend.proofs.carrier_poll.CarrierPoll.feed.Goals as goal

pub returns-in-Connecting-clause-feeds : goal.returns-in-Connecting-clause-feeds
returns-in-Connecting-clause-feeds g c = λ apdus fits.
    let i = c.self.inside in
    let before : CarrierPollValue g.row.C.Denot = record { terms = terms_of i.terms; carrier = i.carrier; course = i.course; talk = i.talk } in
    fed_under_way g.C.Carrier.steps g.C.Carrier.apdu_of apdus before c.args.self.now Connecting c.args.octets.now c.read.result.count c.read.result.result c.read.new.self c.self.view_is c.in-Connecting.is tt (c.read.ensures.hears apdus fits)

pub returns-in-Running-clause-feeds : goal.returns-in-Running-clause-feeds
returns-in-Running-clause-feeds g c = λ apdus fits.
    let i = c.self.inside in
    let before : CarrierPollValue g.row.C.Denot = record { terms = terms_of i.terms; carrier = i.carrier; course = i.course; talk = i.talk } in
    fed_under_way g.C.Carrier.steps g.C.Carrier.apdu_of apdus before c.args.self.now Running c.args.octets.now c.read-in-Running.result.count c.read-in-Running.result.result c.read-in-Running.new.self c.self.view_is c.in-Running.is tt (c.read-in-Running.ensures.hears apdus fits)
