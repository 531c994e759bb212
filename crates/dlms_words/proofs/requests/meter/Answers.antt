use Rattle.std.proofs.Common.{rules, subst}
use Rattle.std.specs.Prelude.{Option}
use Rattle.clap.specs.Words.{Text}
use Rattle.dlms_words.specs.Words.{IsSaid}
use Rattle.dlms_words.proofs.requests.meter.Goals as goal

pub returns : goal.returns
returns c = λ rows met.
    let place = c.value_for-3.ensures rows met in
    record {
      place = search rules;
      server = c.value_for-4.ensures rows met;
      wide = subst (λ (said : Option Text). IsSaid said c.is_given-wide.result) (c.value_for.ensures rows met) c.is_given-wide.ensures;
      wrapper = subst (λ (said : Option Text). IsSaid said c.is_given-wrapper.result) (c.value_for-2.ensures rows met) c.is_given-wrapper.ensures;
      information = c.given_number_for.ensures rows met;
      secret = c.value_for-5.ensures rows met;
      security = c.value_for-6.ensures rows met;
      counter = c.value_for-7.ensures rows met;
      timeout = c.number_for.ensures rows met;
      retries = c.given_number_for-2.ensures rows met;
    }
