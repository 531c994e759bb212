-- The carrier that a route chooses: each call is that carrier's.
use Rattle.std.specs.Prelude.{◌≡◌, refl, ℕ, ◌<◌, Bool, true, false, List, IsSome, IfSome}
use Rattle.std.proofs.Common.{ap}
use Rattle.dlms_frame.specs.Frame.{IsAddress}
use Rattle.dlms_link.specs.Client.{IsDown, IsIdle}
use Rattle.dlms_link.specs.Parameters.{IsProposable}
use Rattle.dlms_carrier.specs.Carrying.{Input, Feed}
use Rattle.dlms_carrier.specs.Hdlc.{HdlcValue, IsFresh as IsFreshHdlc, Steps as HdlcSteps}
use Rattle.dlms_carrier.specs.Tcp.{TcpValue, Steps as TcpSteps, fresh, last_apdu}
use Rattle.dlms_carrier.specs.declared.any.AnyCarrier.TheInside.{Inside}
use Rattle.dlms_carrier.specs.declared.any.Chosen.{Chosen}
use Rattle.dlms_carrier.specs.declared.any.Chosen.TheVariants as chosen
use Rattle.dlms_carrier.specs.declared.any.Route.{Route}
use Rattle.dlms_carrier.specs.declared.any.Route.TheVariants as by
use Rattle.dlms_carrier.specs.declared.event.Event.{Event}
use Rattle.dlms_carrier.specs.declared.event.Event.TheVariants.{Apdu}
use Rattle.dlms_carrier.specs.declared.phase.Phase.TheVariants.{Down, Idle, Waiting}

-- the carrier that was chosen
pub data AnyValue : Type 0 where
  Hdlc : (carrier : HdlcValue) → AnyValue
  Tcp : (carrier : TcpValue) → AnyValue

abbrev pub chosen_by : {A : Type 0} → Chosen A → AnyValue
chosen_by (chosen.Hdlc c) = Hdlc c
chosen_by (chosen.Tcp c) = Tcp c

abbrev pub value_of : {A : Type 0} → Inside A → AnyValue
value_of c = chosen_by c.chosen

-- over HDLC a client's address is 1 to 127, each part of the meter's has its bits, and a size that is
-- proposed has its range; wrapper port 0 is no station's
abbrev pub IsRoute : Route → Type 0
IsRoute (by.Hdlc own server proposal) =
    (0 < own) × (own < 128) × IsAddress server × IfSome proposal IsProposable
IsRoute (by.Tcp own server) = 0 < own

-- Whether a connection outlasts an association over it, and an answer that did not come. Over the
-- wrapper it does not: the association ends with its connection (IEC 62056-47), and a late answer
-- could be taken for that to the next request.
abbrev pub outlasts : Route → Bool
outlasts (by.Hdlc own server proposal) = true
outlasts (by.Tcp own server) = false

abbrev pub IsFresh : Route → AnyValue → Type 0
IsFresh (by.Hdlc own server proposal) (Hdlc c) = IsFreshHdlc own server proposal c
IsFresh (by.Hdlc own server proposal) (Tcp c) = ⊥
IsFresh (by.Tcp own server) (Hdlc c) = ⊥
IsFresh (by.Tcp own server) (Tcp c) = c ≡ fresh own server

abbrev pub Steps : AnyValue → Input → Event → AnyValue → Type 0
Steps (Hdlc c) input event (Hdlc new) = HdlcSteps c input event new
Steps (Hdlc c) input event (Tcp new) = ⊥
Steps (Tcp c) input event (Hdlc new) = ⊥
Steps (Tcp c) input event (Tcp new) = TcpSteps c input event new

abbrev pub out_of : AnyValue → List ℕ
out_of (Hdlc c) = c.text
out_of (Tcp c) = c.text

abbrev pub apdu_of : AnyValue → List ℕ
apdu_of (Hdlc c) = c.link.apdu
apdu_of (Tcp c) = last_apdu c

abbrev pub is_down : AnyValue → Type 0
is_down (Hdlc c) = IsDown c.link
is_down (Tcp c) = c.phase ≡ Down

abbrev pub is_idle : AnyValue → Type 0
is_idle (Hdlc c) = IsIdle c.link
is_idle (Tcp c) = c.phase ≡ Idle

abbrev pub is_waiting : AnyValue → Type 0
is_waiting (Hdlc c) = IsSome c.link.waits
is_waiting (Tcp c) = c.phase ≡ Waiting

-- what the trait asks of every carrier: an APDU is handed up only while an answer is awaited, and then the connection is idle
pub awaited : (old new : AnyValue) (octets : List ℕ) (count : ℕ) → Steps old (Feed octets count) Apdu new → is_waiting old
awaited (Hdlc old) (Hdlc new) octets count h = (h.answers refl).0
awaited (Hdlc old) (Tcp new) octets count h = absurd h
awaited (Tcp old) (Hdlc new) octets count h = absurd h
awaited (Tcp old) (Tcp new) octets count h = h.comes.0.0

pub settled : (old new : AnyValue) (octets : List ℕ) (count : ℕ) → Steps old (Feed octets count) Apdu new → is_idle new
settled (Hdlc old) (Hdlc new) octets count h = (h.answers refl).1
settled (Hdlc old) (Tcp new) octets count h = absurd h
settled (Tcp old) (Hdlc new) octets count h = absurd h
settled (Tcp old) (Tcp new) octets count h = ap (λ (c : TcpValue). c.phase) h.comes.2
