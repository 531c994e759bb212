-- Each challenge goes out in one association request, and is answered once.
use Rattle.std.proofs.Common.{◌≡◌, ◌∙◌, sym, ap, subst, arith, ℕ, ◌+◌, ◌≤◌, List, [], ◌∷◌, ◌++◌, length, length-append}
use Rattle.std.specs.Prelude.{filter}
use Rattle.std.proofs.lemmas.List.Elements.{filter-append}
use Rattle.dlms_carrier.specs.Carrying.{Call as CarrierCall, Meaning, given}
use Rattle.dlms_secured.specs.Messages.{begins}
use Rattle.dlms_secured.specs.Run.{Call, Share, AreShares, carried_in, requests, unused, awaited, answered_in, set_by, handed_by, renewals, answers}
use Rattle.dlms_secured.specs.Run.{ChallengesAreUsedOnce}
use Rattle.dlms_secured.specs.Steps.{Guarded}
use Rattle.dlms_secured.proofs.Sharing.{given_append, runs_lead}

requests_append : (xs ys : List CarrierCall) → requests (given (xs ++ ys)) ≡ requests (given xs) + requests (given ys)
requests_append xs ys = ap requests (given_append xs ys)
    ∙ ap (λ (l : List (List ℕ)). length l) (filter-append (begins 0x60) (given xs) (given ys))
    ∙ length-append (filter (begins 0x60) (given xs)) (filter (begins 0x60) (given ys))

nothing : (n : ℕ) → 0 + n ≤ n + 0
nothing n = omega arith

asked_sum : (all a b u v w r s : ℕ) → all ≡ a + b → a + v ≤ u + r → b + w ≤ v + s → all + w ≤ u + (r + s)
asked_sum all a b u v w r s e h k = omega arith

answered_sum : (all a b u v w x y : ℕ) → all ≡ a + b → x + v ≤ u + a → y + w ≤ v + b → (x + y) + w ≤ u + all
answered_sum all a b u v w x y e h k = omega arith

asked : {C : Type 0} (m : Meaning C) (calls : List Call) (shares : List Share) (old new : Guarded C) → AreShares m old calls shares new
    → requests (given (carried_in shares)) + unused new.guard ≤ unused old.guard + renewals calls
asked {C} m [] [] old new h = subst (λ (v : Guarded C). 0 + unused v.guard ≤ unused old.guard + 0) (sym h) (nothing (unused old.guard))
asked m [] (share ∷ shares) old new h = absurd h
asked m (call ∷ calls) [] old new h = absurd h
asked m (call ∷ calls) (share ∷ shares) old new h =
    asked_sum (requests (given (share.carried ++ carried_in shares))) (requests (given share.carried)) (requests (given (carried_in shares)))
    (unused old.guard) (unused h.0.guard) (unused new.guard) (set_by call) (renewals calls) (requests_append share.carried (carried_in shares))
    h.1.asked (asked m calls shares h.0 new h.2)

answered : {C : Type 0} (m : Meaning C) (calls : List Call) (shares : List Share) (old new : Guarded C) → AreShares m old calls shares new
    → answers calls shares + awaited new.guard.stage ≤ awaited old.guard.stage + requests (given (carried_in shares))
answered {C} m [] [] old new h = subst (λ (v : Guarded C). 0 + awaited v.guard.stage ≤ awaited old.guard.stage + 0) (sym h)
    (nothing (awaited old.guard.stage))
answered m [] (share ∷ shares) old new h = absurd h
answered m (call ∷ calls) [] old new h = absurd h
answered m (call ∷ calls) (share ∷ shares) old new h =
    answered_sum (requests (given (share.carried ++ carried_in shares))) (requests (given share.carried)) (requests (given (carried_in shares)))
    (awaited old.guard.stage) (awaited h.0.guard.stage) (awaited new.guard.stage) (answered_in share.stage (handed_by call)) (answers calls shares)
    (requests_append share.carried (carried_in shares)) h.1.answered (answered m calls shares h.0 new h.2)

pub used_once : {C : Type 0} (m : Meaning C) → ChallengesAreUsedOnce m
used_once m old new calls runs =
    let beside = runs_lead m old new calls runs in
    record { beside = beside; asked = asked m calls beside.shares old new beside.each; answered = answered m calls beside.shares old new beside.each }
