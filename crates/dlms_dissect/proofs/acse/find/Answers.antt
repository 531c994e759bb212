use Rattle.std.proofs.Common.{sym}
use Rattle.dlms_dissect.proofs.AcseLemmas.{behind-more}
use Rattle.dlms_dissect.proofs.acse.find.Goals as goal

pub fields-preserved : goal.fields-preserved
fields-preserved c = (
  _,
  behind-more c.args.tag c.args.fields.now c.fields.invariant.0 c.fields.rest.now c.in-Some.behind.now c.in-Some.found c.in-Some.value.now c.fields.invariant.1
      (sym c.in-Some.ensures.exact) c.if-found-tag.false,
)
