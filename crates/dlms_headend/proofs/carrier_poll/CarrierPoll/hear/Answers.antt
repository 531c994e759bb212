use Rattle.std.proofs.Common.{sym, subst, ℕ, List, [], ◌∷◌, ◌++◌, Ok, Err}
use Rattle.dlms_headend.specs.CarrierPollValue.{CarrierPollValue, terms_of}
use Rattle.dlms_headend.specs.CarrierPolling.{Fits, IsAsking, IsOdd, TakesOver}
use Rattle.dlms_headend.specs.Talk.{Takes}
use Rattle.dlms_headend.proofs.CarrierLemmas.{ended_over, taken_over}
use Rattle.dlms_headend.proofs.carrier_poll.CarrierPoll.hear.Goals as goal

pub returns-in-Ok : goal.returns-in-Ok
returns-in-Ok g c =
    let i = c.self.inside in
    let before : CarrierPollValue g.row.C.Denot = record { terms = terms_of i.terms; carrier = i.carrier; course = i.course; talk = i.talk } in
    let apdu : List ℕ = g.C.Carrier.apdu_of i.carrier in
    let asking : IsAsking before = subst (λ (at : CarrierPollValue g.row.C.Denot). IsAsking at) (sym c.self.view_is) c.requires.asking in
    let even : IsOdd apdu before → ⊥ = λ odd. c.requires.even (subst (λ (at : CarrierPollValue g.row.C.Denot). IsOdd (g.C.Carrier.apdu_of at.carrier) at) c.self.view_is odd) in
    subst (λ (at : CarrierPollValue g.row.C.Denot). (apdus : List (List ℕ)) → Fits at apdus → TakesOver g.C.Carrier.steps (g.C.Carrier.apdu_of at.carrier) apdus at c.go_on.result c.go_on.new.self) c.self.view_is
    (λ apdus fits. taken_over g.C.Carrier.steps before c.go_on.new.self c.take.new.self apdu apdus c.go_on.result asking even fits
    (λ there can. subst (λ (bytes : List ℕ). Takes before.terms.columns before.talk apdus bytes (Ok tt) c.take.new.self) c.apdu.ensures (c.in-Ok.ensures apdus there can))
    (λ there. c.go_on.ensures (apdus ++ apdu ∷ []) there))

pub returns-in-Err : goal.returns-in-Err
returns-in-Err g c =
    let i = c.self.inside in
    let before : CarrierPollValue g.row.C.Denot = record { terms = terms_of i.terms; carrier = i.carrier; course = i.course; talk = i.talk } in
    let apdu : List ℕ = g.C.Carrier.apdu_of i.carrier in
    let asking : IsAsking before = subst (λ (at : CarrierPollValue g.row.C.Denot). IsAsking at) (sym c.self.view_is) c.requires.asking in
    let even : IsOdd apdu before → ⊥ = λ odd. c.requires.even (subst (λ (at : CarrierPollValue g.row.C.Denot). IsOdd (g.C.Carrier.apdu_of at.carrier) at) c.self.view_is odd) in
    subst (λ (at : CarrierPollValue g.row.C.Denot). (apdus : List (List ℕ)) → Fits at apdus → TakesOver g.C.Carrier.steps (g.C.Carrier.apdu_of at.carrier) apdus at c.fail.result c.fail.new.self) c.self.view_is
    (λ apdus fits. ended_over g.C.Carrier.steps before c.fail.new.self c.take.new.self apdu apdus c.fail.result asking even fits c.in-Err.fault
    (λ there can. subst (λ (bytes : List ℕ). Takes before.terms.columns before.talk apdus bytes (Err c.in-Err.fault) c.take.new.self) c.apdu.ensures (c.in-Err.ensures apdus there can)) c.fail.ensures)
