use Rattle.dlms_counters.proofs.StepLemmas.{accept_inside, accept_leads}
use Rattle.dlms_counters.proofs.laws.accept_is_a_step.Goals as goal

pub returns-clause-step : goal.returns-clause-step
returns-clause-step g c w fits = accept_leads c.args.file.now c.accept.new.self w fits c.args.title.now c.args.counter c.accept.result c.accept.ensures

pub returns-clause-inside : goal.returns-clause-inside
returns-clause-inside g c w fits = accept_inside c.args.file.now c.accept.new.self w fits c.args.title.now c.args.counter c.accept.result (g.met.P.Pages.rules c.args.file.now.device fits.honest) c.accept.ensures
