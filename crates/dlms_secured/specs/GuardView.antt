-- The contract's view of a guard.
use Rattle.std.specs.Prelude.{List, ℕ, Result, Ok, Err}
use Rattle.arrayvec.specs.ArrayVec.{ArrayVec}
use Rattle.dlms_secured.specs.Guard.{GuardValue, Taken, Hands, Sends}
use Rattle.dlms_secured.specs.declared.fault.SecuredFault.{SecuredFault}
use Rattle.dlms_secured.specs.declared.guard.Guard.TheInside.{Inside}
use Rattle.dlms_secured.specs.declared.taken.Taken.{Taken as Given}
use Rattle.dlms_secured.specs.declared.taken.Taken.TheVariants as given

abbrev pub value_of : Inside → GuardValue
value_of g = record {
  security = g.security;
  dedicated = g.dedicated;
  key = g.key;
  authentication = g.authentication;
  form = g.form;
  challenge = g.challenge.items;
  unused = g.unused;
  stage = g.stage;
  initiate = g.initiate.items;
  handed = g.handed.items;
}

abbrev pub taken_of : Given → Taken
taken_of given.Hand = Hands
taken_of (given.Send message) = Sends message.items

abbrev pub taken_result : Result Given SecuredFault → Result Taken SecuredFault
taken_result (Ok given) = Ok (taken_of given)
taken_result (Err why) = Err why

abbrev pub octets_of : Result (ArrayVec ℕ) SecuredFault → Result (List ℕ) SecuredFault
octets_of (Ok octets) = Ok octets.items
octets_of (Err why) = Err why
