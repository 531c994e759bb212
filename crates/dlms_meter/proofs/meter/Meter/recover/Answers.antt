use Rattle.dlms_meter.proofs.StoreLemmas.{carried}
use Rattle.dlms_store.specs.Fitting.{IsRefusal}
use Rattle.dlms_store.specs.Steady.{Steady}
use Rattle.dlms_meter.proofs.meter.Meter.recover.Goals as goal

pub returns-in_err-store-clause-steady : goal.returns-in_err-store-clause-steady
returns-in_err-store-clause-steady g c = λ events honest each.
    carried _ (λ e. Steady events (g.P.Pages.view c.args.device) (g.P.Pages.view e.0)) c.from_residual.result c.in_err-store.field-0.0 c.from_residual.ensures.1 (c.in_err-store.ensures.steady events honest each)

pub returns-in_err-store-clause-finds : goal.returns-in_err-store-clause-finds
returns-in_err-store-clause-finds g c = λ events honest stands.
    carried _ (λ e. IsRefusal e.1) c.from_residual.result c.in_err-store.field-0.0 c.from_residual.ensures.1 (c.in_err-store.ensures.stands events honest stands)

pub returns-clause-steady : goal.returns-clause-steady
returns-clause-steady g c = λ events honest each. rw c.over.ensures.store (c.in_ok-store.ensures.steady events honest each)

pub returns-clause-fixes : goal.returns-clause-fixes
returns-clause-fixes g c = λ settled pending honest each. rw c.over.ensures.store (c.in_ok-store.ensures.fixes settled pending honest each)
