use Rattle.std.proofs.Common.{List, filter, sym, subst}
use Rattle.std.proofs.lemmas.List.Elements.{All-append, All-filter}
use Rattle.dlms_headend.specs.Rows.{IsReading, AreReadings}
use Rattle.dlms_headend.specs.Merged.{is_later, readings_in}
use Rattle.dlms_headend.specs.declared.row.Row.{Row}
use Rattle.dlms_headend.proofs.Files.{readings_are}
use Rattle.dlms_headend.proofs.readings.Readings.merge.Goals as goal

pub invariant_of-self : goal.invariant_of-self
invariant_of-self g c =
    let given = All-filter (is_later c.last-last.result) IsReading (readings_in c.args.rows.now) (readings_are c.args.rows.now c.have_registers.ensures) in
    subst (λ (rows : List Row). AreReadings rows) (sym (c.in-Ok.ensures.ok)) (All-append IsReading c.self.inside.rows.items (filter (is_later c.last-last.result) (readings_in c.args.rows.now)) c.self.invariant given)
