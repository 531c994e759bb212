use Rattle.dlms_meter.proofs.OwnRecords.{calls_own, first_own, own_in_lives, recovered_own, stay_own}
use Rattle.dlms_meter.proofs.laws.records_stay_own.Goals as goal

pub returns-clause-begins : goal.returns-clause-begins
returns-clause-begins g c = (first_own, recovered_own)

pub returns-clause-runs : goal.returns-clause-runs
returns-clause-runs g c = stay_own

pub returns-clause-lives : goal.returns-clause-lives
returns-clause-lives g c = own_in_lives

pub returns-clause-calls : goal.returns-clause-calls
returns-clause-calls g c calls w made stands own = calls_own calls c.args._old.now c.args._new.now w made stands own
