use Rattle.std.proofs.Common.{refl}
use Rattle.dlms_link.proofs.Taking.{meter_takes, client_takes, cut, anew}
use Rattle.dlms_link.proofs.ClientCut.{client_cut, client_anew}
use Rattle.dlms_link.proofs.laws.segments_are_taken.Goals as goal

pub returns : goal.returns
returns c = record { meter = meter_takes; client = client_takes; cut = cut; anew = anew; client_cut = client_cut; client_anew = client_anew; answered = λ r answer. refl }
