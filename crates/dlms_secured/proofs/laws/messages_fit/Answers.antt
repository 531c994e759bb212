use Rattle.dlms_secured.proofs.Sizes.{messages_fit}
use Rattle.dlms_secured.proofs.laws.messages_fit.Goals as goal

pub returns : goal.returns
returns c = messages_fit
