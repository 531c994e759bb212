use Rattle.std.proofs.Common.{arith}
use Rattle.jiff.proofs.SpanFacts.{signed_arith}
use Rattle.jiff_core.proofs.DateLemmas.{civil}
use Rattle.dlms_data.proofs.Days.{day-2000, midnight, year_from, year_to}
use Rattle.dlms_data.proofs.date_time.second_of.Goals as goal
use Rattle.dlms_data.proofs.date_time.second_of.Goals.{then-year-lt2000-via-then-year-lt2000, then-year-lt2000-via-else-year-lt2000+then-year-gt2099}

pub returns-then-year-lt2000-clause-none : goal.returns-then-year-lt2000-clause-none
returns-then-year-lt2000-clause-none c s h e =
    let from = year_from _ _ _ (civil c.args.date) (omega (arith, signed_arith, day-2000, e)) in
    let to = year_to _ _ _ (civil c.args.date) (omega (arith, signed_arith, day-2000, e, h)) in
    elim c.then-year-lt2000.branch [
      | then-year-lt2000-via-then-year-lt2000 w ↦ omega (arith, signed_arith, from, w.if-year-lt2000.true)
      | then-year-lt2000-via-else-year-lt2000+then-year-gt2099 w ↦ omega (arith, signed_arith, to, w.if-year-gt2099.true)
    ]

pub overflow_cast-result : goal.overflow_cast-result
overflow_cast-result c =
    let m = midnight c.args.date _ _ _ (omega (arith, signed_arith)) (omega (arith, signed_arith)) c.first_day.ensures c.duration_since.ensures c.as_secs-midnight.ensures in
    (omega (arith, signed_arith), omega (arith, signed_arith))

pub overflow_add-result : goal.overflow_add-result
overflow_add-result c =
    let m = midnight c.args.date _ _ _ (omega (arith, signed_arith)) (omega (arith, signed_arith)) c.first_day.ensures c.duration_since.ensures c.as_secs-midnight.ensures in
    omega (arith, signed_arith)

pub returns-clause-some : goal.returns-clause-some
returns-clause-some c =
    let m = midnight c.args.date _ _ _ (omega (arith, signed_arith)) (omega (arith, signed_arith)) c.first_day.ensures c.duration_since.ensures c.as_secs-midnight.ensures in
    (omega (arith, signed_arith), omega (arith, signed_arith))
