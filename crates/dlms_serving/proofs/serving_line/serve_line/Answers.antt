use Rattle.std.proofs.Common.{refl, ap, ◌∙◌, inl, inr}
use Rattle.dlms_ends.proofs.PollLemmas.{system_told}
use Rattle.dlms_meter.specs.Run.{events_of}
use Rattle.dlms_serving.specs.Connection.{timed}
use Rattle.dlms_serving.specs.ServingLine.{HasServed, NotBegun}
use Rattle.dlms_lines.specs.declared.fault.FieldFault.TheVariants.{Other, System}
use Rattle.dlms_serving.specs.declared.ticks.Ticks.{Ticks}
use Rattle.dlms_serving.proofs.serving_line.serve_line.Goals as goal

pub returns-in-Err-clause-serves : goal.returns-in-Err-clause-serves
returns-in-Err-clause-serves g c = NotBegun (Other c.from.result) (inl (c.from.result, refl, system_told c.from.result c.in-Err.error c.from.ensures))

pub returns-in-Err-open_line-clause-serves : goal.returns-in-Err-open_line-clause-serves
returns-in-Err-open_line-clause-serves g c = NotBegun (System c.args.serving.now.address c.in-Err-open_line.error) (inr (c.in-Err-open_line.error, (refl, refl)))

pub returns-in-Err-announce-clause-serves : goal.returns-in-Err-announce-clause-serves
returns-in-Err-announce-clause-serves g c =
    NotBegun (Other c.from-in-Err-announce.result) (inl (c.from-in-Err-announce.result, refl, system_told c.from-in-Err-announce.result c.in-Err-announce.error c.from-in-Err-announce.ensures))

pub returns-clause-serves : goal.returns-clause-serves
returns-clause-serves g c =
    HasServed _ _ c.new-server.result.ticks c.serve_turns.result (timed c.serve_turns.new.meter c.serve_turns.new.server.ticks)
    (λ w stands. ap (λ (t : Ticks). t.first) c.new-server.ensures ∙ c.new-ticks.ensures.first ∙ c.last.ensures.after (events_of w) (c.state.ensures w stands)) (ap (λ (t : Ticks). t.told) c.new-server.ensures ∙ c.new-ticks.ensures.none)
    (ap (λ (t : Ticks). t.watts) c.new-server.ensures ∙ c.new-ticks.ensures.watts) c.serve_turns.ensures.serves
