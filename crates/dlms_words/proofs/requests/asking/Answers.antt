use Rattle.std.proofs.Common.{subst}
use Rattle.std.specs.Prelude.{Option}
use Rattle.clap.specs.Words.{Text}
use Rattle.dlms_words.specs.Words.{IsSaid}
use Rattle.dlms_words.proofs.requests.asking.Goals as goal

pub returns : goal.returns
returns c = λ rows met. record {
  meter = c.meter.ensures rows met;
  client = c.number_for.ensures rows met;
  verbose = subst (λ (said : Option Text). IsSaid said c.is_given-verbose.result) (c.value_for.ensures rows met) c.is_given-verbose.ensures;
  most = c.number_for-2.ensures rows met;
}
