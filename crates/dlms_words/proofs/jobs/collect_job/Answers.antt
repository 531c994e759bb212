use Rattle.std.proofs.Common.{rules, refl, subst}
use Rattle.std.specs.Prelude.{Option}
use Rattle.clap.specs.Words.{Text}
use Rattle.dlms_words.specs.Words.{IsSaid}
use Rattle.dlms_words.proofs.jobs.collect_job.Goals as goal

pub returns : goal.returns
returns c = λ rows met.
    let list = c.value_for-5.ensures rows met in (
      rows,
      refl,
      search rules,
      c.value_for-6.ensures rows met,
      c.value_for-7.ensures rows met,
      subst (λ (said : Option Text). IsSaid said c.is_given-clock.result) (c.value_for-3.ensures rows met) c.is_given-clock.ensures,
      subst (λ (said : Option Text). IsSaid said c.is_given-set.result) (c.value_for-4.ensures rows met) c.is_given-set.ensures,
      c.number_for.ensures rows met,
      c.value_for-8.ensures rows met,
      c.given_number_for.ensures rows met,
      c.number_for-2.ensures rows met,
      c.number_for-3.ensures rows met,
      c.given_number_for-2.ensures rows met,
      c.number_for-4.ensures rows met,
      c.value_for-9.ensures rows met,
      subst (λ (said : Option Text). IsSaid said c.is_given-quiet.result) (c.value_for.ensures rows met) c.is_given-quiet.ensures,
      (
        c.is_given-json.result,
        subst (λ (said : Option Text). IsSaid said c.is_given-json.result) (c.value_for-2.ensures rows met) c.is_given-json.ensures,
        c.output_format.ensures,
      ),
    )
