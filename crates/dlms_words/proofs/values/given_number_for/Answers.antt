use Rattle.std.proofs.Common.{subst}
use Rattle.std.specs.Prelude.{Option}
use Rattle.clap.specs.Words.{Text}
use Rattle.dlms_words.specs.Words.{MaySay}
use Rattle.dlms_words.proofs.values.given_number_for.Goals as goal

pub returns : goal.returns
returns c = λ rows met. subst (λ (said : Option Text). MaySay said c.given_number.result) (c.value_for.ensures rows met) c.given_number.ensures
