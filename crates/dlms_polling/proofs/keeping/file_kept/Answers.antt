use Rattle.std.proofs.Common.{refl, sym, ap, subst, ◌∙◌, ◌≡◌, ℕ, List, Ok, Err}
use Rattle.dlms_filing.specs.Filing.{FilesRows}
use Rattle.dlms_headend.specs.declared.row.Row.{Row}
use Rattle.dlms_headend.specs.Rows.{AreReadings}
use Rattle.dlms_polling.specs.Risers.{count_left_out}
use Rattle.dlms_polling.specs.Keeping.{ReportsCount, Unfiled, Unreported}
use Rattle.dlms_polling.proofs.RiserLemmas.{risers_are_readings}
use Rattle.dlms_polling.proofs.keeping.file_kept.Goals as goal

pub file_rows-requires : goal.file_rows-requires
file_rows-requires g c = subst AreReadings (sym c.requires.kept) (risers_are_readings c.args.rows.now c.requires.are)

pub returns-in-Err-clause-fails : goal.returns-in-Err-clause-fails
returns-in-Err-clause-fails g c =
    let count : c.left_out-count.result ≡ count_left_out c.args.readings.now c.args.rows.now = c.left_out-count.ensures ∙ ap (λ (r : List Row). count_left_out r c.args.rows.now) c.rows.ensures in
    Unreported c.in-Err.fault
    (subst (λ (n : ℕ). ReportsCount {T = Unit {0}} n (g.E.Output.printed c.args.errors.now) (g.E.Output.printed c.report_any.new.errors) (Err c.in-Err.fault)) count c.in-Err.ensures) refl refl refl

pub returns-in-Err-file_rows-clause-fails : goal.returns-in-Err-file_rows-clause-fails
returns-in-Err-file_rows-clause-fails g c =
    let count : c.left_out-count.result ≡ count_left_out c.args.readings.now c.args.rows.now = c.left_out-count.ensures ∙ ap (λ (r : List Row). count_left_out r c.args.rows.now) c.rows.ensures in
    Unfiled
    (subst (λ (n : ℕ). ReportsCount {T = Unit {0}} n (g.E.Output.printed c.args.errors.now) (g.E.Output.printed c.report_any.new.errors) (Ok tt)) count c.in-Ok.ensures)
    c.in-Err-file_rows.fault c.file_rows.new.readings
    (subst (λ (rows : List Row). FilesRows {T = Unit {0}} (g.F.Filing.asked c.args.place.now) (g.F.Filing.asked c.file_rows.new.place) (g.O.Output.printed c.args.output.now) (g.O.Output.printed c.file_rows.new.output) c.args.readings.now rows (Err c.in-Err-file_rows.fault) c.file_rows.new.readings) c.requires.kept c.in-Err-file_rows.ensures)
    c.filing_fault.ensures

pub returns-in-Ok-file_rows-clause-files : goal.returns-in-Ok-file_rows-clause-files
returns-in-Ok-file_rows-clause-files g c =
    let count : c.left_out-count.result ≡ count_left_out c.args.readings.now c.args.rows.now = c.left_out-count.ensures ∙ ap (λ (r : List Row). count_left_out r c.args.rows.now) c.rows.ensures in
    record {
      reports = subst (λ (n : ℕ). ReportsCount {T = Unit {0}} n (g.E.Output.printed c.args.errors.now) (g.E.Output.printed c.report_any.new.errors) (Ok tt)) count c.in-Ok.ensures;
      after = c.file_rows.new.readings;
      files = subst (λ (rows : List Row). FilesRows {T = Unit {0}} (g.F.Filing.asked c.args.place.now) (g.F.Filing.asked c.file_rows.new.place) (g.O.Output.printed c.args.output.now) (g.O.Output.printed c.file_rows.new.output) c.args.readings.now rows (Ok tt) c.file_rows.new.readings) c.requires.kept c.in-Ok-file_rows.ensures;
    }
