use Rattle.std.proofs.Common.{◌++◌, sym, subst}
use Rattle.dlms_telegram.specs.Cutting.{IsPart}
use Rattle.dlms_telegram.specs.Telegram.{dropped}
use Rattle.dlms_telegram.proofs.PartLemmas.{part_of}
use Rattle.dlms_telegram.proofs.laws.octets_of_the_line.Goals as goal

pub returns : goal.returns
returns c old new taken takes =
    subst (λ r. IsPart ((dropped old).octets ++ taken) r.octets) (sym takes.kept) (part_of taken (dropped old))
