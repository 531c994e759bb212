use Rattle.dlms_capture.specs.Reading.{reading_of}
use Rattle.dlms_capture.proofs.Leads.{starts, one_more}
use Rattle.dlms_capture.proofs.file.File.find.Goals as goal

pub steps-init : goal.steps-init
steps-init g c = starts (reading_of c.args.self.now)

pub steps-preserved : goal.steps-preserved
steps-preserved g c =
    let found = rw c.in-Passed.is at c.in_ok-found.ensures.ok in
    one_more c.steps.invariant found.0
