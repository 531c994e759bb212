-- The contract's view of a client: an association, and the carrier of its APDUs.
use Rattle.std.specs.Prelude.{Bool}
use Rattle.dlms_association.specs.AssociationValue.{AssociationValue}

pub record ClientValue (C : Type 0) : Type 0 where
  pub carrier : C
  pub association : AssociationValue
  -- the connection's end was requested
  pub leaving : Bool
