use Rattle.dlms_secured.proofs.Sizes.{associations_begin, messages_are_handed_up, sessions_are_handed_up}
use Rattle.dlms_secured.proofs.laws.associations_exist.Goals as goal

pub returns : goal.returns
returns c = record {
  begin = associations_begin;
  hand_up = messages_are_handed_up c.round_trip.ensures;
  session = sessions_are_handed_up c.round_trip.ensures;
}
