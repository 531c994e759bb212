use Rattle.std.proofs.Common.{arith}
use Rattle.jiff.proofs.SpanFacts.{can_add-days, date_add-days, signed_arith}
use Rattle.jiff_core.proofs.DateLemmas.{civil}
use Rattle.dlms_data.proofs.Days.{day-2000, year_from, year_to}
use Rattle.dlms_data.proofs.date_time.date_after.Goals as goal

pub add-requires : goal.add-requires
add-requires c = (can_add-days c.first_day.result _ c.days.result c.days.ensures).1 (omega (arith, signed_arith, day-2000), omega (arith, signed_arith, day-2000))

pub returns-clause-day : goal.returns-clause-day
returns-clause-day c =
    let moved = date_add-days c.first_day.result _ c.days.result c.days.ensures in
    omega (arith, signed_arith, day-2000)

pub returns-clause-year : goal.returns-clause-year
returns-clause-year c =
    let moved = date_add-days c.first_day.result _ c.days.result c.days.ensures in
    let date = civil c.add.result in
    (year_from _ _ _ date (omega (arith, signed_arith, day-2000)), year_to _ _ _ date (omega (arith, signed_arith, day-2000)))
