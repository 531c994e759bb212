use Rattle.std.proofs.Common.{length}
use Rattle.dlms_dissect.proofs.SurveyLemmas.{IsSurveyed}
use Rattle.dlms_dissect.specs.Walk.{pending_of}
use Rattle.dlms_dissect.proofs.survey.survey_of.Given as goal

abbrev pub invariant-fields : goal.invariant-fields
invariant-fields l = IsSurveyed (pending_of l.fn.walk) l.fn.walk.rest.now l.survey (pending_of l.left) l.left.rest.now

abbrev pub decreases-fields : goal.decreases-fields
decreases-fields l = length l.left.rest.now
