use Rattle.dlms_dissect.proofs.SurveyLemmas.{left-nothing, not-empty, surveyed-more, surveyed-none}
use Rattle.dlms_dissect.specs.Walk.{pending_of, told_of}
use Rattle.dlms_dissect.proofs.survey.survey_of.Goals as goal

pub returns-in_err-event : goal.returns-in_err-event
returns-in_err-event c =
    rw c.from_residual.ensures
    (surveyed-none (pending_of c.args.walk) c.args.walk.rest.now c.fields.survey (pending_of c.fields.left) c.fields.left.rest.now c.fields.invariant c.in_err-event.ensures.next)

pub fields-preserved : goal.fields-preserved
fields-preserved c =
    surveyed-more (pending_of c.args.walk) c.args.walk.rest.now c.fields.survey c.with-survey.result (pending_of c.fields.left) (pending_of c.in_ok-event.behind) c.fields.left.rest.now
    c.in_ok-event.behind.rest.now (told_of c.in_ok-event.event) c.fields.invariant c.in_ok-event.ensures.next c.with-survey.ensures

pub returns-else-is_empty : goal.returns-else-is_empty
returns-else-is_empty c =
    surveyed-none (pending_of c.args.walk) c.args.walk.rest.now c.fields.survey (pending_of c.fields.left) c.fields.left.rest.now c.fields.invariant
    (left-nothing (pending_of c.fields.left) c.fields.left.rest.now (c.is_done.ensures.done c.fields-test.false) (not-empty c.fields.left.rest.now c.is_empty.result c.is_empty.ensures c.if-is_empty.false))
