-- The carrier over an HDLC link: the frames of a stream (IEC 62056-46), as the client's link handles them.
use Rattle.std.specs.Prelude.{◌≡◌, ℕ, ◌≤◌, List, [], length, take, Option, Some, None, IsSome, IsNone}
use Rattle.dlms_frame.specs.Frame.{FrameSpelling, Parts}
use Rattle.dlms_frame.specs.Stream.{Fits, Takes}
use Rattle.dlms_frame.specs.declared.frame.Address.{Address}
use Rattle.dlms_link.specs.Client.{ClientRecord, IsDown, IsIdle, client_connect, client_disconnect, client_send, client_step, client_timeout, disc_of, fresh_proposing, snrm_of}
use Rattle.dlms_link.specs.declared.out.ClientOut.{ClientOut}
use Rattle.dlms_link.specs.declared.out.ClientOut.TheVariants as out
use Rattle.dlms_wrapper.specs.declared.message.TheConstants.{MOST_APDU}
use Rattle.dlms_carrier.specs.Carrying.{Input, Begin, Give, Feed, Wait, End}
use Rattle.dlms_carrier.specs.declared.event.Event.{Event}
use Rattle.dlms_carrier.specs.declared.event.Event.TheVariants as event
use Rattle.dlms_carrier.specs.declared.hdlc.HdlcCarrier.TheInside.{Inside}

pub record HdlcValue : Type 0 where
  -- the octets that were read, in which a frame may begin
  pub kept : List ℕ
  pub link : ClientRecord
  -- the octets to write after the last call
  pub text : List ℕ

abbrev pub value_of : {A : Type 0} → Inside A → HdlcValue
value_of c = record { kept = c.deframer.bytes; link = c.link; text = c.text.items }

-- no octet was read
abbrev pub IsClear : HdlcValue → Type 0
IsClear c = Fits c.kept [] 0

-- a carrier from this client to the meter at this address, with this proposal, without a connection
pub record IsFresh (own : ℕ) (server : Address) (proposal : Option ℕ) (c : HdlcValue) : Type 0 where
  pub clear : IsClear c
  pub link : c.link ≡ fresh_proposing own server proposal
  pub text : c.text ≡ []

-- a frame is handled by the link if one of its own is out, and is ignored otherwise
pub record IsHandled (frame : Parts) (old : ClientRecord) (result : ClientOut) (new : ClientRecord) : Type 0 where
  pub awaited : IsSome old.waits → (result ≡ (client_step old frame).1) × (new ≡ (client_step old frame).0)
  pub ignored : IsNone old.waits → (result ≡ out.Nothing) × (new ≡ old)

-- the link's output for the frame that was found, if one was
abbrev pub Handles : Option Parts → ClientRecord → ClientOut → ClientRecord → Type 0
Handles None old result new = (result ≡ out.Nothing) × (new ≡ old)
Handles (Some frame) old result new = IsHandled frame old result new

-- the link's output is this event, and these octets go out
abbrev pub Reports : ClientOut → Event → List ℕ → Type 0
Reports out.Nothing result text = (result ≡ event.Nothing) × (text ≡ [])
Reports out.Up result text = (result ≡ event.Up) × (text ≡ [])
Reports (out.Send frame) result text = (result ≡ event.Nothing) × FrameSpelling text frame
Reports out.Apdu result text = (result ≡ event.Apdu) × (text ≡ [])
Reports out.Down result text = (result ≡ event.Down) × (text ≡ [])

-- after an output the other octets that arrived with the frame are dropped
abbrev pub IsReadAfter : ClientOut → (kept : List ℕ) → (taken count arrived : ℕ) → HdlcValue → Type 0
IsReadAfter out.Nothing kept taken count arrived new = (count ≡ taken) × (new.kept ≡ kept)
IsReadAfter out.Up kept taken count arrived new = (count ≡ arrived) × IsClear new
IsReadAfter (out.Send frame) kept taken count arrived new = (count ≡ arrived) × IsClear new
IsReadAfter out.Apdu kept taken count arrived new = (count ≡ arrived) × IsClear new
IsReadAfter out.Down kept taken count arrived new = (count ≡ arrived) × IsClear new

-- Octets arrived: the deframer takes them up to the end of the next frame, which the link handles. An APDU is handed up only while a
-- frame is out, and then the link is idle.
pub record Hears (c : HdlcValue) (octets : List ℕ) (count : ℕ) (result : Event) (new : HdlcValue) : Type 0 where
  pub taken : ℕ
  pub kept : List ℕ
  pub frame : Option Parts
  pub output : ClientOut
  pub takes : Takes c.kept (take taken octets) frame kept
  pub handles : Handles frame c.link output new.link
  pub reports : Reports output result new.text
  pub reads : IsReadAfter output kept taken count (length octets) new
  pub answers : result ≡ event.Apdu → IsSome c.link.waits × IsIdle new.link

-- a timeout: the frame goes out again, or the link is down
abbrev pub Repeats : Option Parts → Event → List ℕ → Type 0
Repeats (Some frame) result text = (result ≡ event.Nothing) × FrameSpelling text frame
Repeats None result text = (result ≡ event.TimedOut) × (text ≡ [])

pub record Begins (c : HdlcValue) (result : Event) (new : HdlcValue) : Type 0 where
  pub down : IsDown c.link
  pub none : result ≡ event.Nothing
  pub link : new.link ≡ client_connect c.link
  pub text : FrameSpelling new.text (snrm_of c.link)
  pub clear : IsClear new

pub record Gives (c : HdlcValue) (apdu : List ℕ) (result : Event) (new : HdlcValue) : Type 0 where
  pub idle : IsIdle c.link
  pub short : length apdu ≤ MOST_APDU
  pub none : result ≡ event.Nothing
  pub link : new.link ≡ (client_send c.link apdu).0
  pub text : FrameSpelling new.text (client_send c.link apdu).1
  pub kept : new.kept ≡ c.kept

pub record TimesOut (c : HdlcValue) (result : Event) (new : HdlcValue) : Type 0 where
  pub waits : IsSome c.link.waits
  pub link : new.link ≡ (client_timeout c.link).0
  pub repeats : Repeats (client_timeout c.link).1 result new.text
  pub clear : IsClear new

pub record Ends (c : HdlcValue) (result : Event) (new : HdlcValue) : Type 0 where
  pub idle : IsIdle c.link
  pub none : result ≡ event.Nothing
  pub link : new.link ≡ client_disconnect c.link
  pub text : FrameSpelling new.text (disc_of c.link)
  pub kept : new.kept ≡ c.kept

-- What each call does, and when it may be made.
abbrev pub Steps : HdlcValue → Input → Event → HdlcValue → Type 0
Steps c Begin result new = Begins c result new
Steps c (Give apdu) result new = Gives c apdu result new
Steps c (Feed octets count) result new = Hears c octets count result new
Steps c Wait result new = TimesOut c result new
Steps c End result new = Ends c result new
