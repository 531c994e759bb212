use Rattle.dlms_meter.proofs.HistoryLemmas.{caused, go_well}
use Rattle.dlms_meter.proofs.message_laws.calls_are_a_history.Goals as goal

pub returns-clause-caused : goal.returns-clause-caused
returns-clause-caused g c calls w made stands = caused calls c.args._old.now c.args._new.now w made stands

pub returns-clause-healthy : goal.returns-clause-healthy
returns-clause-healthy g c calls w made healthy stands = go_well calls c.args._old.now c.args._new.now w made healthy stands
