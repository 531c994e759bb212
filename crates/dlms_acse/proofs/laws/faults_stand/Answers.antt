use Rattle.dlms_acse.proofs.Faulty.{tells_fields, tells_another, tells_repeated, tells_cut, tells_length}
use Rattle.dlms_acse.proofs.laws.faults_stand.Goals as goal

pub returns-clause-fields : goal.returns-clause-fields
returns-clause-fields c = tells_fields

pub returns-clause-another : goal.returns-clause-another
returns-clause-another c = tells_another

pub returns-clause-repeated : goal.returns-clause-repeated
returns-clause-repeated c = tells_repeated

pub returns-clause-cut : goal.returns-clause-cut
returns-clause-cut c = tells_cut

pub returns-clause-length : goal.returns-clause-length
returns-clause-length c = tells_length
