use Rattle.dlms_identity.proofs.Lemmas.{shows_so}
use Rattle.dlms_identity.proofs.showing.shows.Goals as goal

pub returns-in-Ok : goal.returns-in-Ok
returns-in-Ok g c = shows_so _ _ _ c.args.expected.now c.in-Ok.told c.is_text.result c.is_text.ensures c.in-Ok.ensures
