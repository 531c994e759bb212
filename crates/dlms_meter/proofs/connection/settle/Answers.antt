use Rattle.std.proofs.Common.{◌≡◌, ◌≤◌, refl, sym, subst, arith, ℕ, [], ◌∷◌, Option, None, Ok, Err}
use Rattle.std.proofs.lemmas.Result.{err_from_is_err_and}
use Rattle.dlms_state.specs.declared.event.Event.{Event}
use Rattle.dlms_service.specs.Session.{listed}
use Rattle.dlms_service.specs.Planned.{Passes}
use Rattle.dlms_store.specs.Store.{state_in, refusal_in}
use Rattle.dlms_store.proofs.Going.{Added, Committed, add_goes}
use Rattle.dlms_meter.specs.Settled.{Settled}
use Rattle.dlms_meter.proofs.Settling.{add_may_fail, commit_may_fail, add_failed, commit_alone, commit_alone_failed, commit_behind, commit_behind_failed}
use Rattle.dlms_meter.proofs.Sparing as sparing
use Rattle.dlms_meter.proofs.Sparing.{IsNear}
use Rattle.dlms_meter.proofs.connection.settle.Goals as goal
use Rattle.dlms_meter.proofs.connection.settle.Goals.{in-Some+in_ok-add, in_default}

pub returns-in_err-add-clause-settled : goal.returns-in_err-add-clause-settled
returns-in_err-add-clause-settled g c before knows =
    let store = c.args.store.now in
    let new = c.add.new.self in
    let e = c.in-Some.event in
    let x = c.in_err-add.ensures in
    let fault = c.in_err-add.field-0.0 in
    let p = err_from_is_err_and c.from_residual.result c.from_residual.ensures.1 in
    let passes : refusal_in store e ≡ None = subst (Passes (state_in store)) c.in-Some.is c.requires.passes in
    let added : Added (Err fault) e store new = record {
      run = x.run;
      joins = x.joins;
      joins_alone = x.joins_alone;
      runs = x.runs;
      stopped = x.stopped;
      device = x.device;
      unchanged = x.unchanged;
      page = x.page;
      refused = x.refused;
      exhausted = x.exhausted;
    } in
    subst (λ r. Settled r before (listed c.args.event) store new) (sym p.1)
    (subst (λ (o : Option Event). Settled (Err p.0) before (listed o) store new) (sym c.in-Some.is)
    (add_failed fault p.0 e before store new (add_goes (Err fault) e before store new knows added) (add_may_fail fault e store new passes added)))

pub returns-clause-settled : goal.returns-clause-settled
returns-clause-settled g c before knows =
    let store = c.args.store.now in
    let mid = c.match-event.store in
    let new = c.commit.new.self in
    let x = c.in_ok-commit.ensures in
    let committed : Committed (Ok tt) mid new = record {
      run = x.run;
      settles = x.settles;
      runs = x.runs;
      stopped = x.stopped;
      device = x.device;
      unchanged = x.unchanged;
      exhausted = x.exhausted;
    } in
    elim c.match-event.branch [
      | in-Some+in_ok-add w ↦ (
          let e = w.in-Some.event in
          let y = w.in_ok-add.ensures in
          let added : Added (Ok tt) e store w.add.new.self = record {
            run = y.run;
            joins = y.joins;
            joins_alone = y.joins_alone;
            runs = y.runs;
            stopped = y.stopped;
            device = y.device;
            unchanged = y.unchanged;
            page = y.page;
            refused = y.refused;
            exhausted = y.exhausted;
          } in
          subst (λ (o : Option Event). Settled (Ok tt) before (listed o) store new) (sym w.in-Some.is)
          (commit_behind e before store w.add.new.self new (add_goes (Ok tt) e before store w.add.new.self knows added) (subst (λ z. Committed (Ok tt) z new) w.store-is committed))
          )
      | in_default w ↦ (
          subst (λ (o : Option Event). Settled (Ok tt) before (listed o) store new) (sym w.in_default.is)
          (commit_alone before store new knows (subst (λ z. Committed (Ok tt) z new) w.store-is committed))
          )
    ]

pub returns-in_err-commit-clause-settled : goal.returns-in_err-commit-clause-settled
returns-in_err-commit-clause-settled g c before knows =
    let store = c.args.store.now in
    let mid = c.match-event.store in
    let new = c.commit.new.self in
    let x = c.in_err-commit.ensures in
    let fault = c.in_err-commit.field-0.0 in
    let p = err_from_is_err_and c.from_residual-in_err-commit.result c.from_residual-in_err-commit.ensures.1 in
    let committed : Committed (Err fault) mid new = record {
      run = x.run;
      settles = x.settles;
      runs = x.runs;
      stopped = x.stopped;
      device = x.device;
      unchanged = x.unchanged;
      exhausted = x.exhausted;
    } in
    subst (λ r. Settled r before (listed c.args.event) store new) (sym p.1) (elim c.match-event.branch [
      | in-Some+in_ok-add w ↦ (
          let e = w.in-Some.event in
          let y = w.in_ok-add.ensures in
          let between = w.add.new.self in
          let added : Added (Ok tt) e store between = record {
            run = y.run;
            joins = y.joins;
            joins_alone = y.joins_alone;
            runs = y.runs;
            stopped = y.stopped;
            device = y.device;
            unchanged = y.unchanged;
            page = y.page;
            refused = y.refused;
            exhausted = y.exhausted;
          } in
          let is : Committed (Err fault) between new = subst (λ z. Committed (Err fault) z new) w.store-is committed in
          subst (λ (o : Option Event). Settled (Err p.0) before (listed o) store new) (sym w.in-Some.is)
          (commit_behind_failed fault p.0 e before store between new (add_goes (Ok tt) e before store between knows added) is
          (commit_may_fail (e ∷ []) fault store between new w.add.ensures.later.device.faults (λ stopped. absurd (y.runs stopped)) is))
          )
      | in_default w ↦ (
          let is : Committed (Err fault) store new = subst (λ z. Committed (Err fault) z new) w.store-is committed in
          subst (λ (o : Option Event). Settled (Err p.0) before (listed o) store new) (sym w.in_default.is)
          (commit_alone_failed fault p.0 before store new knows is (commit_may_fail [] fault store store new same (λ stopped. stopped) is))
          )
    ])
  where
    same : {n : ℕ} → n ≤ n
    same = omega arith

pub returns-in_err-add-clause-spares : goal.returns-in_err-add-clause-spares
returns-in_err-add-clause-spares g c = (let x = c.in_err-add.ensures in sparing.add_failed c.args.store.now c.add.new.self c.in_err-add.field-0.0 _ refl x.device x.unchanged)

pub returns-clause-spares : goal.returns-clause-spares
returns-clause-spares g c runs free ring =
    let store = c.args.store.now in
    let mid = c.match-event.store in
    let x = c.in_ok-commit.ensures in
    let near : IsNear store mid = elim c.match-event.branch [
      | in-Some+in_ok-add w ↦ (let y = w.in_ok-add.ensures in subst (IsNear store) (sym w.store-is) (sparing.added store w.add.new.self w.in-Some.event y.joins_in_memory y.takes_page free ring))
      | in_default w ↦ subst (IsNear store) (sym w.store-is) (sparing.itself store)
    ] in
    sparing.committed store mid c.commit.new.self near (λ none. (x.nothing (sparing.running mid.stopped (λ is. absurd (cc (x.stopped.1 is)))) none).1) x.takes_page free

pub returns-in_err-commit-clause-spares : goal.returns-in_err-commit-clause-spares
returns-in_err-commit-clause-spares g c runs free ring =
    let store = c.args.store.now in
    let mid = c.match-event.store in
    let x = c.in_err-commit.ensures in
    let near : IsNear store mid = elim c.match-event.branch [
      | in-Some+in_ok-add w ↦ (let y = w.in_ok-add.ensures in subst (IsNear store) (sym w.store-is) (sparing.added store w.add.new.self w.in-Some.event y.joins_in_memory y.takes_page free ring))
      | in_default w ↦ subst (IsNear store) (sym w.store-is) (sparing.itself store)
    ] in
    sparing.near_still store mid c.commit.new.self near (sparing.commit_failed mid c.commit.new.self c.in_err-commit.field-0.0 _ refl x.device x.unchanged runs)
