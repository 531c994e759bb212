use Rattle.std.proofs.Common.{subst}
use Rattle.std.specs.Prelude.{Option}
use Rattle.clap.specs.Words.{Text}
use Rattle.dlms_words.specs.Words.{Says}
use Rattle.dlms_words.proofs.values.number_for.Goals as goal

pub returns : goal.returns
returns c = λ rows met. subst (λ (said : Option Text). Says 32 c.args.other said c.number.result) (c.value_for.ensures rows met) c.number.ensures
