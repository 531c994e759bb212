use Rattle.std.proofs.Common.{[], ◌∷◌, ◌++◌, ◌∙◌, refl, sym, ap, subst}
use Rattle.dlms_store.specs.World.{StoreRun}
use Rattle.dlms_store.specs.World.StoreWorld.{Runs, Rests}
use Rattle.dlms_store.specs.World.StoreStep.{Opens}
use Rattle.dlms_store.proofs.Runs.{ends_at_rest, stays_found}
use Rattle.dlms_store.proofs.laws.no_further_stop_matters.Goals as goal

pub returns : goal.returns
returns c steps quiet at_stop now found before is run =
    let rest = ends_at_rest steps (Runs [] []) at_stop before in
    let same = stays_found quiet rest.0 found (Rests rest.0) now is refl (subst (λ w. StoreRun w (quiet ++ Opens found ∷ []) now) rest.1 run) in
    rest.1 ∙ ap Rests (sym same)
