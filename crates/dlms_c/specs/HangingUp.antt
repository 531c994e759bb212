-- A connection's end is the end of its links: each client's DISC is taken, which ends its link, and with it association and transfers.
use Rattle.std.specs.Prelude.{ℕ, List, [], Option, false}
use Rattle.dlms_frame.specs.Client.{sap_of}
use Rattle.dlms_frame.specs.Frame.{Parts, spelling}
use Rattle.dlms_frame.specs.declared.client.Client.{Client}
use Rattle.dlms_frame.specs.declared.client.Client.TheVariants.{Public, Management, Reader}
use Rattle.dlms_frame.specs.declared.frame.Address.TheVariants.{One}
use Rattle.dlms_meter.specs.Run.{Fed, MayChoose, MeterWorld, Stands, silent}
use Rattle.dlms_meter.specs.declared.meter.Meter.{Meter}
use Rattle.dlms_pages.specs.declared.device.Pages.{Ghosts}
use Rattle.dlms_store.specs.World.{StoreStep}
use Rattle.dlms_c.specs.declared.hanging_up.TheConstants.{DISC, METER}

-- the frame with which a client ends its link (IEC 62056-46, 6.4.3.3): DISC, from its service access point to the meter
abbrev pub disc_of : Client → Parts
disc_of who = record {
  segmented = false;
  dest = One METER;
  src = One (sap_of who);
  control = DISC;
  info = [];
}

-- nothing comes for a while, so that half a frame is forgotten
abbrev pub Silences : {P A : Type 0} → {ghosts : Ghosts P} → Meter P A ghosts → Meter P A ghosts
    → Type 0
Silences old new = (w : MeterWorld) → Stands old w → Stands new (silent w)

-- and then the meter takes all octets of a client's DISC
abbrev pub TakesDisc : {P A : Type 0} → {ghosts : Ghosts P} → Client → Meter P A ghosts
    → Meter P A ghosts → Type 0
TakesDisc who old new = (w : MeterWorld) → Stands old (silent w)
    → (w' : MeterWorld) × (steps : List StoreStep) × (reply : Option (List ℕ))
    × Fed (MayChoose old.store new.store) (silent w) (spelling (disc_of who)) reply steps w'
    × Stands new w'

abbrev pub EndsLink : {P A : Type 0} → {ghosts : Ghosts P} → Client → Meter P A ghosts
    → Meter P A ghosts → Type 0
EndsLink {P} {A} {ghosts} who old new = (mid : Meter P A ghosts) × Silences old mid
    × TakesDisc who mid new

-- so of every client, and nothing of a frame is left
abbrev pub HangsUp : {P A : Type 0} → {ghosts : Ghosts P} → Meter P A ghosts → Meter P A ghosts
    → Type 0
HangsUp {P} {A} {ghosts} old new = (a : Meter P A ghosts) × (b : Meter P A ghosts)
    × (d : Meter P A ghosts)
    × EndsLink Public old a × EndsLink Management a b × EndsLink Reader b d × Silences d new
