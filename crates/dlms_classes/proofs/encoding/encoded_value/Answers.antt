use Rattle.std.proofs.Common.{refl}
use Rattle.std.proofs.lemmas.Result.{IfOk-weaker}
use Rattle.dlms_data.specs.View.{value_of}
use Rattle.dlms_classes.specs.Shown.{whole}
use Rattle.dlms_classes.proofs.encoding.encoded_value.Goals as goal

pub write-requires : goal.write-requires
write-requires g c = (c.requires.sendable (value_of c.in_ok-value.value) (c.in_ok-value.ensures.shows whole refl)).fits

pub returns : goal.returns
returns g c = IfOk-weaker c.write.result _ _ (λ out is. (value_of c.in_ok-value.value, c.in_ok-value.ensures.shows whole refl, is)) c.write.ensures.canonical
