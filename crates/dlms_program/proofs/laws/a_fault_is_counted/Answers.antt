use Rattle.dlms_program.proofs.RiseLemmas.{goes_on, met_on_any, met_on_honest}
use Rattle.dlms_program.proofs.laws.a_fault_is_counted.Goals as goal

pub returns-clause-later : goal.returns-clause-later
returns-clause-later g c = goes_on c.args._start.now c.args._finish.now

pub returns-clause-any : goal.returns-clause-any
returns-clause-any g c = met_on_any c.args._start.now c.args._finish.now

pub returns-clause-honest : goal.returns-clause-honest
returns-clause-honest g c w at runs = met_on_honest (λ device honest. g.met.P.Pages.rules device honest) c.args._start.now c.args._finish.now (w, at, runs)
