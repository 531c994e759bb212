use Rattle.dlms_store.proofs.Looking.{match_more}
use Rattle.dlms_store.proofs.page.older_rows.Goals as goal

pub returns : goal.returns
returns c = match_more c.payload_in.result _ _ _ _ (λ none payload serves has. none payload has) (λ payload has. (c.if-not-serves.false, has)) c.payload_in.ensures
