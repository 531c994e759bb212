use Rattle.std.proofs.Common.{[], refl}
use Rattle.dlms_dissect.proofs.ParameterLemmas.{left-step}
use Rattle.dlms_dissect.proofs.parameters.group.Goals as goal

pub group-init : goal.group-init
group-init c = ([], (refl, c.none-parameters.ensures))

pub group-preserved : goal.group-preserved
group-preserved c =
    left-step c.args.bytes.now c.group.parameters c.group.rest.now c.in-Some.id c.in-Some.value.now c.in-Some.behind.now c.with-parameters.result
    c.in-Some.ensures.found c.with-parameters.ensures c.group.invariant
