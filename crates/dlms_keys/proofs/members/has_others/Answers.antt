use Rattle.std.proofs.Common.{◌∙◌, sym}
use Rattle.std.proofs.lemmas.Bool.{eqb-false, eqb-true}
use Rattle.dlms_keys.proofs.Sizes.{not_false, not_true, size_of_map}
use Rattle.dlms_keys.proofs.members.has_others.Goals as goal

pub returns-clause-yes : goal.returns-clause-yes
returns-clause-yes c differ same =
    eqb-false c.len.result c.known.result (not_true _ differ)
    (c.len.ensures.len ∙ sym (size_of_map c.args.table.now) ∙ same ∙ sym c.known.ensures.count)

pub returns-clause-no : goal.returns-clause-no
returns-clause-no c same =
    size_of_map c.args.table.now ∙ sym c.len.ensures.len
    ∙ eqb-true c.len.result c.known.result (not_false _ same) ∙ c.known.ensures.count
