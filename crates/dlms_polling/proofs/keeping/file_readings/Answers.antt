use Rattle.std.proofs.Common.{refl}
use Rattle.dlms_polling.specs.Keeping.{Unkept}
use Rattle.dlms_polling.proofs.keeping.file_readings.Goals as goal

pub returns-in_default-clause-fails : goal.returns-in_default-clause-fails
returns-in_default-clause-fails g c = Unkept refl c.in_default.ensures.memory refl refl refl
