use Rattle.std.proofs.Common.{subst, option_map, IfOk, IfErr}
use Rattle.std.proofs.lemmas.Result.{IfOk-weaker}
use Rattle.dlms_state.specs.StateValue.{StateValue}
use Rattle.dlms_classes.specs.Answer.{wanted}
use Rattle.dlms_classes.specs.Choice.{selection_of}
use Rattle.dlms_classes.specs.Encoded.{Encodes, IsRefused}
use Rattle.dlms_classes.proofs.Answering.{short_encoding}
use Rattle.dlms_classes.proofs.encoding.get_encoded.Goals as goal

pub returns-clause-encoding : goal.returns-clause-encoding
returns-clause-encoding g c = λ E is.
    subst (λ (s : StateValue). IfOk c.answer.result (λ out. Encodes s c.args.client c.args.descriptor (wanted c.args.client c.args.descriptor (option_map (λ s. selection_of s.now) c.args.selector)) out.items))
    is.value c.answer.ensures.encoding

pub returns-clause-refusal : goal.returns-clause-refusal
returns-clause-refusal g c = λ E is.
    subst (λ (s : StateValue). IfErr c.answer.result (λ r. IsRefused s c.args.client c.args.descriptor (wanted c.args.client c.args.descriptor (option_map (λ s. selection_of s.now) c.args.selector)) r))
    is.value c.answer.ensures.refusal

pub returns-clause-short : goal.returns-clause-short
returns-clause-short g c =
    IfOk-weaker c.answer.result _ _
    (λ out h. short_encoding c.args.state.now c.args.client c.args.descriptor (wanted c.args.client c.args.descriptor (option_map (λ s. selection_of s.now) c.args.selector)) out.items h) c.answer.ensures.encoding
