use Rattle.dlms_values.specs.View.{value_of}
use Rattle.dlms_values.proofs.Takes.{read_found, read_only}
use Rattle.dlms_values.proofs.reading.read.Goals as goal

pub returns-clause-found : goal.returns-clause-found
returns-clause-found c = read_found (λ x. value_of x.0) (λ x. x.1.now) c.value_with.result c.args.bytes.now c.value_with.ensures

pub returns-clause-only : goal.returns-clause-only
returns-clause-only c = read_only (λ x. value_of x.0) (λ x. x.1.now) c.value_with.result c.args.bytes.now c.value_with.ensures
