use Rattle.std.proofs.Common.{rules, refl, subst}
use Rattle.std.specs.Prelude.{Option}
use Rattle.clap.specs.Words.{Text}
use Rattle.dlms_words.specs.Words.{IsSaid}
use Rattle.dlms_words.proofs.requests.get_job.Goals as goal

pub returns : goal.returns
returns c = λ rows met.
    let names = c.value_for-3.ensures rows met in (
      rows,
      refl,
      c.asking.ensures rows met,
      search rules,
      c.number_for.ensures rows met,
      (
        c.is_given-raw.result,
        c.is_given-json.result,
        subst (λ (said : Option Text). IsSaid said c.is_given-raw.result) (c.value_for.ensures rows met) c.is_given-raw.ensures,
        subst (λ (said : Option Text). IsSaid said c.is_given-json.result) (c.value_for-2.ensures rows met) c.is_given-json.ensures,
        c.value_format.ensures,
      ),
    )
