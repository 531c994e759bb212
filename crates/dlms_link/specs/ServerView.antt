-- How the meter's link is seen.
use Rattle.std.specs.Prelude.{◌<◌, ◌≤◌, unwrap_or}
use Rattle.dlms_frame.specs.Frame.{IsAddress}
use Rattle.dlms_frame.specs.declared.frame.Address.TheVariants.{One}
use Rattle.dlms_link.specs.declared.server.ServerLink.TheInside.{Inside}
use Rattle.dlms_link.specs.Server.{ServerRecord}
use Rattle.dlms_link.specs.declared.segments.TheConstants.{MOST_BYTES}

abbrev pub record_of : Inside → ServerRecord
record_of s = record {
  client = s.client;
  up = s.up;
  send_next = s.send_next;
  receive_next = s.receive_next;
  last = s.last;
  took_information = s.took_information;
  kept = s.kept;
  apdu = s.apdu.items;
  unsent = s.unsent.items;
  size = s.size;
  waits = s.waits;
}

pub record IsInRange (s : Inside) : Type 0 where
  pub send : s.send_next < 8
  pub receive : s.receive_next < 8
  pub least : 32 ≤ s.size
  pub most : s.size ≤ MOST_BYTES
  pub waits : IsAddress (unwrap_or s.waits (One 1))
