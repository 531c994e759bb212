use Rattle.std.proofs.Common.{◌∙◌, ap}
use Rattle.dlms_data.specs.Value.{Values, push_value}
use Rattle.dlms_data.specs.View.{value_of, values_of}
use Rattle.dlms_data.proofs.Loop.{values_of-push_value}
use Rattle.dlms_data.proofs.data.Items.push.Goals as goal

pub returns-clause-ok : goal.returns-clause-ok
returns-clause-ok g c =
    ap values_of c.in_ok-push.ensures.items ∙ values_of-push_value c.self.inside.items.items c.args.value ∙ ap (λ (vs : Values). push_value vs (value_of c.args.value)) c.self.view_is
