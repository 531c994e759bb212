-- A worked example: register 0 is set to be the only column of the load profile, a row is captured, and the buffer is read
-- (capture_objects, capture and buffer of class Profile generic, Blue Book 4.3.6).
use Rattle.std.specs.Prelude.{ℕ, List, [], ◌∷◌, Some, None}
use Rattle.dlms_blocks.specs.Coming.{nothing}
use Rattle.dlms_frame.specs.declared.client.Client.TheVariants.{Management}
use Rattle.dlms_state.specs.declared.event.Event.{Event}
use Rattle.dlms_state.specs.declared.event.Event.TheVariants.{Pulses, SetColumns}
use Rattle.dlms_service.specs.Session.{SessionValue, Outcome}

-- management, with an association of get, set and action
abbrev pub session : SessionValue
session = record {
  client = Management;
  opened = Some (record { conformance = record { 0 = 0x19 }; size = 1024 });
  getting = None;
  target = None;
  coming = nothing;
}

-- SET of attribute 3 to an array of one structure: class 3, name 1.0.1.8.0.255, attribute 2, data index 0
abbrev pub set_bytes : List ℕ
set_bytes =
    0xC1 ∷ 0x01 ∷ 0xC1 ∷ 0x00 ∷ 0x07 ∷ 0x01 ∷ 0x00 ∷ 0x63 ∷ 0x01 ∷ 0x00 ∷ 0xFF ∷ 0x03 ∷ 0x00 ∷ 0x01
    ∷ 0x01 ∷ 0x02 ∷ 0x04 ∷ 0x12 ∷ 0x00 ∷ 0x03
    ∷ 0x09 ∷ 0x06 ∷ 0x01 ∷ 0x00 ∷ 0x01 ∷ 0x08 ∷ 0x00 ∷ 0xFF ∷ 0x0F ∷ 0x02 ∷ 0x12 ∷ 0x00 ∷ 0x00 ∷ []

-- ACTION of method 2, and GET of attribute 2
abbrev pub capture_bytes : List ℕ
capture_bytes = 0xC3 ∷ 0x01 ∷ 0xC1 ∷ 0x00 ∷ 0x07 ∷ 0x01 ∷ 0x00 ∷ 0x63 ∷ 0x01 ∷ 0x00 ∷ 0xFF ∷ 0x02
    ∷ 0x00 ∷ []

abbrev pub get_bytes : List ℕ
get_bytes = 0xC0 ∷ 0x01 ∷ 0xC1 ∷ 0x00 ∷ 0x07 ∷ 0x01 ∷ 0x00 ∷ 0x63 ∷ 0x01 ∷ 0x00 ∷ 0xFF ∷ 0x02
    ∷ 0x00 ∷ []

-- 42 pulses on channel 0, then what the requests before led to
abbrev pub pulses : Event
pulses = Pulses 0 42

abbrev pub one_column : Event
one_column = SetColumns (record { items = 1 ∷ [] })

-- answered so, and nothing is kept but the association
abbrev pub answered : List ℕ → List Event → Outcome
answered bytes accepted = record { own = session; answer = bytes; accepted = accepted }
