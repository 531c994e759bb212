use Rattle.std.proofs.Common.{inl, inr, refl, option_map}
use Rattle.std.proofs.lemmas.Result.{err_from_is_err_and}
use Rattle.dlms_classes.specs.Choice.{selection_of}
use Rattle.dlms_classes.proofs.Answering.{refused, lacking, showing}
use Rattle.dlms_classes.proofs.reading.answer.Goals as goal

pub returns-in_err-choice : goal.returns-in_err-choice
returns-in_err-choice g c =
    let p = err_from_is_err_and c.from_residual-in_err-choice.result c.from_residual-in_err-choice.ensures.1 in
    let selection = option_map (λ s. selection_of s.now) c.args.selector in
    rw (p.1, p.2) (inl (refused c.args.state.now c.args.client c.args.descriptor selection c.in_ok-attribute.attribute _ c.in_ok-attribute.ensures (rw (← c.columns.ensures.value) c.in_err-choice.ensures.choice)))

pub returns-in_err-value : goal.returns-in_err-value
returns-in_err-value g c =
    let p = err_from_is_err_and c.from_residual-in_err-value.result c.from_residual-in_err-value.ensures.1 in
    let selection = option_map (λ s. selection_of s.now) c.args.selector in
    rw (p.1, p.2) (inr (
      lacking c.args.state.now c.args.client c.args.descriptor selection c.in_ok-attribute.attribute c.in_ok-choice.choice c.in_ok-attribute.ensures
          (rw (← c.columns.ensures.value) c.in_ok-choice.ensures.choice) (rw (← c.columns.ensures.value) c.in_ok-choice.ensures.proper) (λ p picks. c.in_err-value.ensures.lacks p picks refl),
      refl,
    ))

pub returns : goal.returns
returns g c =
    let selection = option_map (λ s. selection_of s.now) c.args.selector in
    showing c.args.state.now c.args.client c.args.descriptor selection c.in_ok-attribute.attribute c.in_ok-choice.choice c.in_ok-value.field-0 c.in_ok-attribute.ensures
    (rw (← c.columns.ensures.value) c.in_ok-choice.ensures.choice) (rw (← c.columns.ensures.value) c.in_ok-choice.ensures.proper) c.in_ok-value.ensures.shows
