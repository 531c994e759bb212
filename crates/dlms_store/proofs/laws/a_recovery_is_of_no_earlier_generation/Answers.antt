use Rattle.dlms_store.proofs.Later.{last_over_close, reopened}
use Rattle.dlms_store.proofs.laws.a_recovery_is_of_no_earlier_generation.Goals as goal

pub returns-clause-generation : goal.returns-clause-generation
returns-clause-generation g c leaves opened = reopened c.args._old.now c.args._new.now (g.P.Pages.view c.args._device.now) (λ h. g.met.P.Pages.rules c.args._device.now h) leaves opened

pub returns-clause-spent : goal.returns-clause-spent
returns-clause-spent g c leaves opened last = last_over_close c.args._old.now c.args._new.now (g.P.Pages.view c.args._device.now) (λ h. g.met.P.Pages.rules c.args._device.now h) leaves opened last
