-- How the octets of a connection reach the meter, by the carrier of its APDUs.
use Rattle.std.specs.Prelude.{◌≡◌, ◌==◌, ℕ, List, [], ◌∷◌, Option, Some, None, if◌then◌else◌, option_map}
use Rattle.dlms_frame.specs.Client.{client_of}
use Rattle.dlms_frame.specs.declared.client.Client.{Client}
use Rattle.dlms_frame.specs.declared.frame.Address.TheVariants.{One}
use Rattle.dlms_meter.specs.Histories.{AnyCalls, AnyCall, IsAnyCall, Requested}
use Rattle.dlms_meter.specs.Steps.{Call, Calls, IsCall}
use Rattle.dlms_meter.specs.Steps.Call.{Fed}
use Rattle.dlms_meter.specs.declared.meter.Meter.{Meter}
use Rattle.dlms_pages.specs.declared.device.Pages.{Ghosts}
use Rattle.dlms_wrapper.specs.Message.{Parts, message_bytes}
use Rattle.dlms_wrapper.specs.Stream.{IsRefused, Kept, Takes}
use Rattle.dlms_serving.specs.Refusals.{SaysFirst, outcome_of, result_of}
use Rattle.dlms_serving.specs.declared.carrier.Carrier.{Carrier}
use Rattle.dlms_serving.specs.declared.carrier.Carrier.TheVariants.{Hdlc, Wrapper}
use Rattle.dlms_serving.specs.declared.refusals.Outcome.{Outcome}
use Rattle.dlms_serving.specs.declared.wrapped.TheConstants.{METER_PORT}

-- ---- messages

-- The client of a message (IEC 62056-47): its source port is the client's service access point, and its destination port that of
-- the meter's management logical device.
abbrev pub sender_of : Parts → Option Client
sender_of m = if m.dest == METER_PORT then client_of m.source else None

-- the octets of an answer: a message with the ports swapped
abbrev pub answer_to : Parts → List ℕ → List ℕ
answer_to m answer = message_bytes (record { source = m.dest; dest = m.source; apdu = answer })

-- A client's message is one call of request, and its answer goes back; one of nobody does nothing.
abbrev pub DeliversFrom : {P A : Type 0} → {ghosts : Ghosts P} → Option Client → Parts
    → Meter P A ghosts → Option (List ℕ) → Meter P A ghosts → Type 0
DeliversFrom None m old reply new = (new ≡ old) × (reply ≡ None)
DeliversFrom (Some who) m old reply new = (answer : List ℕ)
    × IsAnyCall old (Requested who m.apdu answer) new × (reply ≡ Some (answer_to m answer))

abbrev pub Delivers : {P A : Type 0} → {ghosts : Ghosts P} → Option Parts → Meter P A ghosts
    → Option (List ℕ) → Meter P A ghosts → Type 0
Delivers None old reply new = (new ≡ old) × (reply ≡ None)
Delivers (Some m) old reply new = DeliversFrom (sender_of m) m old reply new

-- no message can be answered any more: the one that came has no octets, or none came and the next header is refused
abbrev pub IsBadBy : Kept → Option Parts → Type 0
IsBadBy kept None = IsRefused kept.limit kept.bytes
IsBadBy kept (Some m) = m.apdu ≡ []

abbrev pub IsBad : Kept → Type 0
IsBad kept = IsBadBy kept kept.message

-- the octets are read, at most to the end of a message
abbrev pub ReadsInto : Kept → List ℕ → Kept → Type 0
ReadsInto kept taken kept' =
    Takes kept.limit kept.bytes (record { taken = taken; found = kept'.message }) kept'.bytes
    × (kept'.limit ≡ kept.limit)

-- what a message of the meter says of an association, if it says so: as its APDU does in a frame
abbrev pub outcome_in_message : Parts → Option Outcome
outcome_in_message m = option_map (λ (number : ℕ). outcome_of number (One m.dest))
    (result_of (0xE6 ∷ 0xE7 ∷ 0x00 ∷ m.apdu))

-- ---- either carrier

-- Octets reach the meter: over HDLC in one call of feed; over the wrapper they are read, and a message that ends with them is
-- delivered. What is kept of a message that has begun is of the wrapper alone.
abbrev pub Carries : {P A : Type 0} → {ghosts : Ghosts P} → Carrier → Kept → Meter P A ghosts
    → (taken : List ℕ) → (reply : Option (List ℕ)) → Kept → Meter P A ghosts → Type 0
Carries Hdlc kept old taken reply kept' new = IsCall old (Fed taken reply) new × (kept' ≡ kept)
Carries Wrapper kept old taken reply kept' new = ReadsInto kept taken kept' × (IsBad kept' → ⊥)
    × Delivers kept'.message old reply new

-- a reply says this of an association, if it says so
abbrev pub Says : Carrier → List ℕ → Option Outcome → Type 0
Says Hdlc reply outcome = SaysFirst reply outcome
Says Wrapper reply outcome = (m : Parts) × (reply ≡ message_bytes m)
    × (outcome ≡ outcome_in_message m)

-- the calls of a meter that serves over a carrier: over HDLC those of a run alone
abbrev pub Made : {P A : Type 0} → {ghosts : Ghosts P} → Carrier → Meter P A ghosts
    → Meter P A ghosts → Type 0
Made Hdlc old new = (calls : List Call) × Calls old calls new
Made Wrapper old new = (calls : List AnyCall) × AnyCalls old calls new
