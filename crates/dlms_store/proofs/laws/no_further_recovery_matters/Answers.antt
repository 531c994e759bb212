use Rattle.std.proofs.Common.{refl, sym}
use Rattle.dlms_store.specs.World.StoreWorld.{Rests}
use Rattle.dlms_store.proofs.Runs.{after_open, stays_found}
use Rattle.dlms_store.proofs.laws.no_further_recovery_matters.Goals as goal

pub returns-clause-opened : goal.returns-clause-opened
returns-clause-opened c before mid now quiet first found next is run = sym (stays_found quiet first found mid now is (after_open before mid first next) run)

pub returns-clause-failed : goal.returns-clause-failed
returns-clause-failed c before now quiet events found next is run = sym (stays_found quiet events found (Rests events) now is refl run)
