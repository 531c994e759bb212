use Rattle.std.proofs.Common.{refl, sym, subst, ℕ, List, [], ◌∷◌, ◌++◌, Ok}
use Rattle.dlms_headend.specs.PollerValue.{PollerValue, plan_of}
use Rattle.dlms_headend.specs.Polling.{Answers, SendsOn}
use Rattle.dlms_headend.specs.declared.step.PollStep.TheVariants.{Send}
use Rattle.dlms_headend.specs.Talk.{FitsTalk, CanTake}
use Rattle.dlms_headend.proofs.PollLemmas.{took}
use Rattle.dlms_headend.proofs.poller.Poller.take.Goals as goal

pub returns-in-Ok-clause-answers : goal.returns-in-Ok-clause-answers
returns-in-Ok-clause-answers g c = λ apdus h can.
    let i = c.self.inside in
    let before : PollerValue = record { plan = plan_of i.plan; link = i.link; course = i.course; talk = i.talk } in
    let mid : PollerValue = record { plan = plan_of i.plan; link = i.link; course = i.course; talk = c.take.new.self } in
    subst (λ (at : PollerValue). Answers at apdus (Ok (Send c.go_on.result)) c.go_on.new.self) c.self.view_is
    (let taken = c.in-Ok.ensures apdus (subst (λ (at : PollerValue). FitsTalk at.plan.columns at.talk apdus) (sym c.self.view_is) h) (subst (λ (at : PollerValue). CanTake at.talk.stage) (sym c.self.view_is) can) in
    took before mid c.go_on.new.self apdus c.go_on.result refl refl
    (subst (λ (bytes : List ℕ). SendsOn mid.plan (apdus ++ bytes ∷ []) mid.link c.go_on.result c.go_on.new.self) c.apdu.ensures.value (c.go_on.ensures (apdus ++ c.apdu.result.now ∷ []) taken.0)))
