use Rattle.std.proofs.Common.{option_map}
use Rattle.dlms_classes.specs.Choice.{selection_of}
use Rattle.dlms_classes.proofs.Sendable.{answer_can_be_sent}
use Rattle.dlms_classes.proofs.reading.get.Goals as goal

pub returns-clause-sendable : goal.returns-clause-sendable
returns-clause-sendable g c =
    answer_can_be_sent c.args.state.now c.args.client c.args.descriptor (option_map (λ s. selection_of s.now) c.args.selector) c.answer.result c.has_events.ensures c.answer.ensures
