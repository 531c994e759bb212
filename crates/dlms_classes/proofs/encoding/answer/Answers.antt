use Rattle.std.proofs.Common.{inl, inr, refl, option_map}
use Rattle.std.proofs.lemmas.Result.{err_from_is_err_and}
use Rattle.dlms_classes.specs.Choice.{selection_of}
use Rattle.dlms_classes.proofs.Answering.{refused, granted_by, encoding, all_sendable, few_columns}
use Rattle.dlms_classes.proofs.encoding.answer.Goals as goal

pub encoded-requires-clause-columns : goal.encoded-requires-clause-columns
encoded-requires-clause-columns g c = few_columns c.args.state.now c.requires

pub encoded-requires-clause-sendable : goal.encoded-requires-clause-sendable
encoded-requires-clause-sendable g c = λ v shows. all_sendable c.args.state.now c.args.client c.args.descriptor c.in_ok-attribute.attribute v c.requires c.in_ok-attribute.ensures shows

pub returns-in_err-choice-clause-refusal : goal.returns-in_err-choice-clause-refusal
returns-in_err-choice-clause-refusal g c =
    let p = err_from_is_err_and c.from_residual-in_err-choice.result c.from_residual-in_err-choice.ensures.1 in
    let selection = option_map (λ s. selection_of s.now) c.args.selector in
    rw (p.1, p.2) (inl (refused c.args.state.now c.args.client c.args.descriptor selection c.in_ok-attribute.attribute _ c.in_ok-attribute.ensures (rw (← c.columns.ensures.value) c.in_err-choice.ensures.choice)))

pub returns-in_err-encoded-clause-refusal : goal.returns-in_err-encoded-clause-refusal
returns-in_err-encoded-clause-refusal g c =
    let p = err_from_is_err_and c.from_residual-in_err-encoded.result c.from_residual-in_err-encoded.ensures.1 in
    let selection = option_map (λ s. selection_of s.now) c.args.selector in
    rw (p.1, p.2) (inr (
      granted_by c.args.state.now.columns c.args.client c.args.descriptor selection c.in_ok-attribute.attribute c.in_ok-choice.choice c.in_ok-attribute.ensures
          (rw (← c.columns.ensures.value) c.in_ok-choice.ensures.choice) (rw (← c.columns.ensures.value) c.in_ok-choice.ensures.proper),
      refl,
    ))

pub returns-clause-encoding : goal.returns-clause-encoding
returns-clause-encoding g c =
    let selection = option_map (λ s. selection_of s.now) c.args.selector in
    encoding c.args.state.now c.args.client c.args.descriptor selection c.in_ok-attribute.attribute c.in_ok-choice.choice c.in_ok-encoded.field-0.items c.requires c.in_ok-attribute.ensures
    (rw (← c.columns.ensures.value) c.in_ok-choice.ensures.choice) (rw (← c.columns.ensures.value) c.in_ok-choice.ensures.proper) c.in_ok-encoded.ensures
