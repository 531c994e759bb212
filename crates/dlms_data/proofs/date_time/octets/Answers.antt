use Rattle.std.proofs.Common.{arith, sym}
use Rattle.jiff.proofs.SpanFacts.{signed_arith}
use Rattle.jiff_core.proofs.CalendarLemmas.{days_in_month_bounds}
use Rattle.dlms_data.proofs.Days.{names_second}
use Rattle.dlms_data.proofs.date_time.octets.Goals as goal

pub returns-clause-second : goal.returns-clause-second
returns-clause-second c =
    names_second c.date_after-date.result c.year_octets.result _ _ _ c.args.secs c.requires c.date_after-date.ensures.day
    (sym c.year_octets.ensures.value, omega (arith, signed_arith), omega (arith, signed_arith, days_in_month_bounds))
