use Rattle.std.proofs.Common.{◌∙◌, sym}
use Rattle.std.proofs.lemmas.Bool.{eqb-false, eqb-true}
use Rattle.dlms_keys.proofs.Sizes.{size_of_map}
use Rattle.dlms_keys.proofs.stations.is_single.Goals as goal

pub returns-clause-yes : goal.returns-clause-yes
returns-clause-yes c same =
    size_of_map c.args.table.now ∙ sym c.len.ensures.len ∙ eqb-true c.len.result 1 same

pub returns-clause-no : goal.returns-clause-no
returns-clause-no c differ same =
    eqb-false c.len.result 1 differ (c.len.ensures.len ∙ sym (size_of_map c.args.table.now) ∙ same)
