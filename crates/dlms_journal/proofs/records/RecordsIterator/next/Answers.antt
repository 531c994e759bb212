use Rattle.std.proofs.Common.{◌≡◌, ◌∷◌, ◌∙◌, [], sym, arith}
use Rattle.dlms_journal.specs.Reading.{events_in}
use Rattle.dlms_journal.proofs.Lists.{next_some, next_none}
use Rattle.dlms_journal.proofs.records.RecordsIterator.next.Goals as goal

pub invariant_of-self : goal.invariant_of-self
invariant_of-self c =
    (next_some c.self.inside.rest.now c.in-Some.rest.now c.in-Some.event (events_in c.self.inside.rest.now) c.self.invariant (sym c.in-Some.ensures.exact)).1

pub returns-in-Some-clause-steps : goal.returns-in-Some-clause-steps
returns-in-Some-clause-steps c =
    sym c.self.view_is ∙ (next_some c.self.inside.rest.now c.in-Some.rest.now c.in-Some.event (events_in c.self.inside.rest.now) c.self.invariant (sym c.in-Some.ensures.exact)).0

pub returns-in-Some-clause-goes : goal.returns-in-Some-clause-goes
returns-in-Some-clause-goes c =
    let steps : c.args.self.now ≡ c.in-Some.event ∷ events_in c.in-Some.rest.now =
    sym c.self.view_is ∙ (next_some c.self.inside.rest.now c.in-Some.rest.now c.in-Some.event (events_in c.self.inside.rest.now) c.self.invariant (sym c.in-Some.ensures.exact)).0 in
    rw steps (record { on = λ _. (tt, tt, omega arith); keeps = tt; rests = λ _. tt })

pub returns-in-None-clause-steps : goal.returns-in-None-clause-steps
returns-in-None-clause-steps c =
    let none : c.args.self.now ≡ [] = sym c.self.view_is ∙ next_none c.self.inside.rest.now (events_in c.self.inside.rest.now) c.self.invariant (sym c.in-None.ensures.exact) in
    (none, none)
