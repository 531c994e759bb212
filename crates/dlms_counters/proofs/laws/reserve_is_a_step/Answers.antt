use Rattle.dlms_counters.proofs.StepLemmas.{reserve_inside, reserve_leads}
use Rattle.dlms_counters.proofs.laws.reserve_is_a_step.Goals as goal

pub returns-clause-step : goal.returns-clause-step
returns-clause-step g c w fits = reserve_leads c.args.file.now c.reserve.new.self w fits c.args.step c.reserve.result c.reserve.ensures.changes c.reserve.ensures.end

pub returns-clause-inside : goal.returns-clause-inside
returns-clause-inside g c w fits = reserve_inside c.args.file.now c.reserve.new.self w fits c.args.step c.reserve.result (g.met.P.Pages.rules c.args.file.now.device fits.honest) c.reserve.ensures.changes
