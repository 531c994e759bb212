-- The reported content of an association request.
use Rattle.std.specs.Prelude.{is_some}
use Rattle.dlms_acse.specs.Verdict.{Request}
use Rattle.dlms_dissect.specs.declared.association.Association.{Association}

-- all that it says, but of the secret only whether there is one
abbrev pub told_of : Request → Association
told_of r = record {
  context = r.context;
  mechanism = r.mechanism;
  has_secret = is_some r.secret;
  initiate = r.initiate;
}
