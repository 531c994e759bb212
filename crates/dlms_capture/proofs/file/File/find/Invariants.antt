use Rattle.std.proofs.Common.{length}
use Rattle.dlms_capture.specs.Reading.{LeadsTo, reading_of}
use Rattle.dlms_capture.proofs.file.File.find.Given as goal

-- no packet has been passed
abbrev pub invariant-steps : goal.invariant-steps
invariant-steps g l = LeadsTo (reading_of l.fn.self) (reading_of l.self)

abbrev pub decreases-steps : goal.decreases-steps
decreases-steps g l = length (reading_of l.self).rest
