use Rattle.std.proofs.Common.{subst, sym}
use Rattle.dlms_journal.specs.declared.kind.PageKind.TheVariants.{Ring}
use Rattle.dlms_store.specs.Page.{HasPage}
use Rattle.dlms_store.specs.declared.page.Edition.{Edition}
use Rattle.dlms_store.proofs.Looking.{match_more}
use Rattle.dlms_store.proofs.page.present_rows.Goals as goal

pub returns-in-Columns : goal.returns-in-Columns
returns-in-Columns c =
    match_more c.payload_in.result _ _ _ _
    (λ none payload version has. none payload (subst (λ (e : Edition). HasPage Ring c.args.index e payload c.args.page.now) (sym c.present.ensures) has))
    (λ payload has. (c.in-Columns.is, subst (λ (e : Edition). HasPage Ring c.args.index e payload.now c.args.page.now) c.present.ensures has)) c.payload_in.ensures
