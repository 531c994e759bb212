-- A connection's end is the end of its links: no client's link is up at the first octet of the next one.
use Rattle.std.specs.Prelude.{◌≡◌, ◌≢◌, [], false}
use Rattle.dlms_frame.specs.Client.{sap_of}
use Rattle.dlms_frame.specs.Frame.{Parts}
use Rattle.dlms_frame.specs.declared.client.Client.{Client}
use Rattle.dlms_frame.specs.declared.frame.Address.TheVariants.{One}
use Rattle.dlms_meter.specs.ClientRecord.{ClientRecord}
use Rattle.dlms_meter.specs.Own.{AreOwn}
use Rattle.dlms_meter.specs.Run.{MeterWorld, Stands}
use Rattle.dlms_meter.specs.declared.meter.Meter.{Meter}
use Rattle.dlms_pages.specs.declared.device.Pages.{Ghosts}
use Rattle.dlms_service.specs.Session.{fresh}
use Rattle.dlms_serving.specs.declared.hanging_up.TheConstants.{DISC, METER}

-- the frame with which a client ends its link (IEC 62056-46, 6.4.3.3): DISC, from its service access point to the meter
abbrev pub disc_of : Client → Parts
disc_of who = record {
  segmented = false;
  dest = One METER;
  src = One (sap_of who);
  control = DISC;
  info = [];
}

-- a client's link is down, with no association and no transfer
pub record IsDown (own : ClientRecord) : Type 0 where
  pub link : own.link.up ≡ false
  pub session : own.session ≡ fresh own.session.client

-- one client's link has ended: what is kept of the others, and the store, are as they were
pub record HasEnded (who : Client) (w w' : MeterWorld) : Type 0 where
  pub down : IsDown (w'.records who)
  pub others : (other : Client) → other ≢ who → w'.records other ≡ w.records other
  pub own : AreOwn w'
  pub store : w'.store ≡ w.store

abbrev pub EndsLink : {P A : Type 0} → {ghosts : Ghosts P} → Client → Meter P A ghosts
    → Meter P A ghosts → Type 0
EndsLink who old new = (w : MeterWorld) → Stands old w → AreOwn w
    → (w' : MeterWorld) × Stands new w' × HasEnded who w w'

-- every client's link has ended, nothing of a frame is left, and the store is as it was
pub record AllEnded (w w' : MeterWorld) : Type 0 where
  pub down : (who : Client) → IsDown (w'.records who)
  pub own : AreOwn w'
  pub store : w'.store ≡ w.store
  pub silent : w'.stretch ≡ []

abbrev pub HangsUp : {P A : Type 0} → {ghosts : Ghosts P} → Meter P A ghosts → Meter P A ghosts
    → Type 0
HangsUp old new = (w : MeterWorld) → Stands old w → AreOwn w
    → (w' : MeterWorld) × Stands new w' × AllEnded w w'
