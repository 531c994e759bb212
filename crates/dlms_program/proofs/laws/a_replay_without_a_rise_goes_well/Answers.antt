use Rattle.std.proofs.Common.{inl, inr, true}
use Rattle.std.specs.Prelude.{Some}
use Rattle.dlms_program.specs.Health.{MeetsFault}
use Rattle.dlms_program.proofs.RiseLemmas.{goes_well_by, met_on_any, met_on_honest}
use Rattle.dlms_program.proofs.laws.a_replay_without_a_rise_goes_well.Goals as goal

pub returns-clause-honest : goal.returns-clause-honest
returns-clause-honest g c w number lines written end last at runs steady some =
    let start = c.args._start.now in
    let finish = c.args._finish.now in
    let Fault : Type 0 = MeetsFault (Some start) (Some finish) in
    let none : Fault → ⊥ = λ fault. elim (met_on_honest (λ device honest. g.met.P.Pages.rules device honest) start finish (w, at, runs) fault) [
      | inl rose ↦ steady rose
      | inr spent ↦ some spent
    ] in
    goes_well_by Fault true w number lines written end last none runs

pub returns-clause-any : goal.returns-clause-any
returns-clause-any g c honest w number lines written end last runs steady some =
    let start = c.args._start.now in
    let finish = c.args._finish.now in
    let Fault : Type 0 = MeetsFault (Some start) (Some finish) in
    let none : Fault → ⊥ = λ fault. elim (met_on_any start finish fault) [
      | inl rose ↦ steady rose
      | inr ended ↦ some ended
    ] in
    goes_well_by Fault honest w number lines written end last none runs
