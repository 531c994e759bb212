use Rattle.std.proofs.Common.{refl}
use Rattle.test_layers.proofs.data.put_structure.Goals as goal

pub same-items : goal.same-items
same-items c = refl
