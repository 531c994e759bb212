use Rattle.std.proofs.Common.{◌*◌, ◌∙◌, ap, length}
use Rattle.dlms_profile.specs.declared.rows.Row.{Row}
use Rattle.dlms_checkpoint.proofs.Rows.{row_count}
use Rattle.dlms_checkpoint.proofs.row_reading.fits_at.Goals as goal

pub is_in_time-requires : goal.is_in_time-requires
is_in_time-requires c =
    ap (λ (r : Row). length r.values.items) c.row_of-row.ensures ∙ row_count (length c.args.columns.now) (4 * length c.args.columns.now * c.args.index) c.args.rows.now
