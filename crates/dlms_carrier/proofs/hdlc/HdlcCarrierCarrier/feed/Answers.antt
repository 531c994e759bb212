use Rattle.std.proofs.Common.{arith, refl}
use Rattle.dlms_carrier.proofs.HdlcLemmas.{heard_none, heard_some, is_up}
use Rattle.dlms_carrier.proofs.hdlc.HdlcCarrierCarrier.feed.Goals as goal

pub returns-in-Nothing-clause-steps : goal.returns-in-Nothing-clause-steps
returns-in-Nothing-clause-steps g c =
    heard_none _ _ _ c.args.octets.now c.feed-count.result c.feed-count.new.self.frame c.feed-count.new.self.bytes c.self.view_is c.feed-count.ensures.takes c.in-Nothing.ensures.handles c.clear.ensures refl

pub returns-in_default : goal.returns-in_default
returns-in_default g c = record {
  len = omega arith;
  some = λ some. some;
  steps =
      heard_some _ _ _ c.args.octets.now c.feed-count.result c.feed-count.new.self.frame c.feed-count.new.self.bytes c.handle-output.result c.report.result c.self.view_is c.feed-count.ensures.takes c.handle-output.ensures.handles c.handle-output.ensures.answers c.in_default.not-Nothing c.report.ensures c.idle.ensures.bytes;
  up = is_up c.handle-output.result c.report.result _ c.handle-output.new.link c.report.ensures c.handle-output.ensures.up;
}
