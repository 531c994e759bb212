use Rattle.std.proofs.Common.{rules, arith, ap, ap₂, subst, ◌∙◌, ◌≡◌, ◌+◌, ◌*◌, ℕ, pos}
use Rattle.std.proofs.lemmas.Option.{IfSome_then}
use Rattle.jiff_core.specs.Calendar.{days_from_civil, IsCivilDate}
use Rattle.dlms_data.specs.DateTime.{day_of, month_of, second_at, time_of_day, year_of}
use Rattle.dlms_data.proofs.Days.{of_parts}
use Rattle.dlms_data.proofs.date_time.secs.Goals as goal

pub returns-clause-some : goal.returns-clause-some
returns-clause-some c =
    let octets = c.args.bytes.now in
    let year : c.from.result * 256 + c.from-2.result ≡ year_of octets = omega (arith, c.from.ensures, c.from-2.ensures) in
    let time : c.from-3.result * 3600 + c.from-4.result * 60 + c.from-5.result ≡ time_of_day octets =
    omega (arith, c.from-3.ensures, c.from-4.ensures, c.from-5.ensures) in
    let parts = of_parts c.in_ok-date.date (c.from.result * 256 + c.from-2.result) (month_of octets) (day_of octets) c.in_ok-date.ensures.some in
    IfSome_then c.second_of.result c.second_of.ensures.some (λ s h. record {
      size = search rules;
      date = subst (λ (y : ℕ). IsCivilDate (pos y) (month_of octets) (day_of octets)) year parts.0;
      time = search rules;
      deviation = c.is_deviation.ensures.0 (search rules);
      range = h.0;
      value = h.1 ∙ ap₂ second_at (parts.1 ∙ ap (λ (y : ℕ). days_from_civil (pos y) (month_of octets) (day_of octets)) year) time;
    })
