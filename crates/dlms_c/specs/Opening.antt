-- How a meter begins: with nothing, or with the contents of slots; and why it does not begin.
use Rattle.std.specs.Prelude.{◌≡◌, ◌⊎◌, ℕ, List, [], None, false, MatchOption}
use Rattle.rtrb.specs.Ring.{received}
use Rattle.dlms_meter.specs.Run.{Stands, first_world, recovered}
use Rattle.dlms_meter.specs.declared.meter.Meter.{Meter}
use Rattle.dlms_pages.specs.Device.{Image}
use Rattle.dlms_pages.specs.declared.device.Pages.{Ghosts}
use Rattle.dlms_relay.specs.Loaded.{IsLoaded}
use Rattle.dlms_state.specs.declared.event.Event.{Event}
use Rattle.dlms_store.specs.Cause.{IsCause}
use Rattle.dlms_store.specs.Fitting.{IsOpened, IsRefusal, StoreFits}
use Rattle.dlms_store.specs.Image.{IsLeftFor}
use Rattle.dlms_store.specs.Store.{Remembers, view_of}
use Rattle.dlms_store.specs.World.StoreWorld.{Runs}
use Rattle.dlms_store.specs.Writing.{IsFormatted, Leaves}
use Rattle.dlms_store.specs.declared.fault.OpenFault.{OpenFault}
use Rattle.dlms_store.specs.declared.fault.OpenFault.TheVariants as opening
use Rattle.dlms_store.specs.declared.layout.TheConstants.{PAGES}
use Rattle.dlms_c.specs.Codes.{open_code}
use Rattle.dlms_c.specs.declared.kept_meter.KeptMeter.{KeptMeter}

-- before the first call: no reply waits, and no page was lost or handed out
pub record Begins (k : KeptMeter) : Type 0 where
  pub reply : k.reply ≡ None
  pub is_lost : k.is_lost ≡ false
  pub relay : received k.relay ≡ []

-- Nothing has happened: no octet came, no client has a link, and no event was taken. Its pages are those of a device that was just
-- made empty.
pub record IsNew {P A : Type 0} {ghosts : Ghosts P} (meter : Meter P A ghosts) : Type 0 where
  pub stands : Stands meter first_world
  pub fits : StoreFits meter.store (Runs [] [])
  pub formatted : Leaves (view_of meter.store) IsFormatted

abbrev pub IsNewKept : KeptMeter → Type 0
IsNewKept k = Begins k × MatchOption k.meter ⊥ (λ meter. IsNew meter)

-- It was opened from the pages in these slots, and has the state of the events that they represent, all links down. If a store left
-- them for events, these are settled in it; and a stop at any moment since leaves what represents them too.
pub record IsOpenedFrom {P A : Type 0} {ghosts : Ghosts P} (slots : List ℕ)
    (meter : Meter P A ghosts) : Type 0 where
  pub image : Image
  pub loaded : IsLoaded slots PAGES image
  pub opened : IsOpened image meter.store
  pub stands : (events : List Event) → Remembers events [] meter.store
      → Stands meter (recovered events)
  pub fits : (events : List Event) → IsLeftFor events image → StoreFits meter.store (Runs events [])
  pub any_moment : (events : List Event) → IsLeftFor events image → (left : Image)
      → (view_of meter.store).left_since 0 left → IsLeftFor events left

abbrev pub IsRecovered : List ℕ → KeptMeter → Type 0
IsRecovered slots k = Begins k × MatchOption k.meter ⊥ (λ meter. IsOpenedFrom slots meter)

-- The contents of these slots are why they are not opened, or the device failed. If a store left them for events, it is out of
-- memory, a failed device or the last generation.
pub record IsUnopened (slots : List ℕ) (fault : OpenFault) : Type 0 where
  pub image : Image
  pub loaded : IsLoaded slots PAGES image
  pub cause : IsCause fault image
  pub left : (events : List Event) → IsLeftFor events image → IsRefusal fault
  pub size : fault ≡ opening.Size → ⊥

-- a growth was refused, or this is the code of why
abbrev pub IsUnrecovered : List ℕ → ℕ → Type 0
IsUnrecovered slots code = (code ≡ 32)
    ⊎ ((fault : OpenFault) × (code ≡ open_code fault) × IsUnopened slots fault)
