use Rattle.std.proofs.Common.{refl, subst}
use Rattle.std.specs.Prelude.{Option}
use Rattle.clap.specs.Words.{Text}
use Rattle.dlms_words.specs.Words.{IsSaid, SaysAhead}
use Rattle.dlms_words.proofs.jobs.poll_job.Goals as goal

pub returns : goal.returns
returns c = λ rows met. (
  rows,
  refl,
  c.meter.ensures rows met,
  c.value_for-7.ensures rows met,
  (
    c.is_given-public.result,
    c.is_given-reader.result,
    subst (λ (said : Option Text). IsSaid said c.is_given-public.result) (c.value_for.ensures rows met) c.is_given-public.ensures,
    subst (λ (said : Option Text). IsSaid said c.is_given-reader.result) (c.value_for-2.ensures rows met) c.is_given-reader.ensures,
    c.asker.ensures,
  ),
  c.given_number_for.ensures rows met,
  c.number_for.ensures rows met,
  c.given_number_for-2.ensures rows met,
  (
    c.is_given-checks.result,
    subst (λ (said : Option Text). IsSaid said c.is_given-checks.result) (c.value_for-3.ensures rows met) c.is_given-checks.ensures,
    subst (λ (said : Option Text). SaysAhead c.is_given-checks.result said c.ahead.result) (c.value_for-8.ensures rows met) c.ahead.ensures,
  ),
  subst (λ (said : Option Text). IsSaid said c.is_given-strict.result) (c.value_for-4.ensures rows met) c.is_given-strict.ensures,
  c.expecting.ensures rows met,
  subst (λ (said : Option Text). IsSaid said c.is_given-quiet.result) (c.value_for-5.ensures rows met) c.is_given-quiet.ensures,
  (
    c.is_given-json.result,
    subst (λ (said : Option Text). IsSaid said c.is_given-json.result) (c.value_for-6.ensures rows met) c.is_given-json.ensures,
    c.output_format.ensures,
  ),
)
