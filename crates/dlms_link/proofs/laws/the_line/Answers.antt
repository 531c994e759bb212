use Rattle.dlms_link.proofs.LineLaws.{apdus_come_up, line_is_silent, one_frame_at_most}
use Rattle.dlms_link.proofs.laws.the_line.Goals as goal

pub returns : goal.returns
returns c = record { comes_up = apdus_come_up; silent = line_is_silent; one_frame = one_frame_at_most }
