-- The contract's view of an association.
use Rattle.std.specs.Prelude.{◌≤◌, Option, IfSome}
use Rattle.dlms_blocks.specs.Going.{Going}
use Rattle.dlms_blocks.specs.Joining.{Joining}
use Rattle.dlms_association.specs.Terms.{TermsValue, IsTerms, terms_of}
use Rattle.dlms_association.specs.declared.fault.Fault.{Fault}
use Rattle.dlms_association.specs.declared.granted.Granted.{Granted}
use Rattle.dlms_association.specs.declared.requests.TheConstants.{MOST_RAW}
use Rattle.dlms_association.specs.declared.stage.Stage.{Stage}
use Rattle.dlms_association.specs.declared.terms.Terms.{Terms as TermsOf}

pub record AssociationValue : Type 0 where
  pub terms : TermsValue
  pub stage : Stage
  -- why it is over, if it is
  pub failed : Option Fault
  -- what the meter granted last
  pub granted : Granted
  -- what was joined of the last GET's value
  pub blocks : Joining
  -- the encoding that goes out in blocks with the last request, if it does
  pub sent : Option Going

-- each block of a request fits into an APDU
pub record IsStanding (terms : TermsOf) (sent : Option Going) : Type 0 where
  pub is_terms : IsTerms (terms_of terms)
  pub room : IfSome sent (λ going. going.room ≤ MOST_RAW)
