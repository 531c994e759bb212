-- The steps of a listener over the octets of a line.
use Rattle.std.specs.Prelude.{◌≡◌, ◌⊎◌, ◌==◌, ◌||◌, if◌then◌else◌, ℕ, List, [], ◌∷◌, ◌++◌, Option, Some, None, IfSome, IfNone, option_map}
use Rattle.std.specs.Option.{option_or}
use Rattle.dlms_frame.specs.Frame.{Parts}
use Rattle.dlms_frame.specs.Stream as frames
use Rattle.dlms_telegram.specs.Telegram as telegrams
use Rattle.dlms_telegram.specs.declared.reader.Found.TheVariants as outcome
use Rattle.dlms_telegram.specs.declared.reader.Found as telegram_found
use Rattle.dlms_wrapper.specs.Message as wrapper
use Rattle.dlms_wrapper.specs.Stream as messages
use Rattle.dlms_wrapper.specs.declared.fault.HeaderFault.{HeaderFault}
use Rattle.dlms_transfer.specs.Blocks.{Blocked, block_in, kept_after}
use Rattle.dlms_listen.specs.Joined.{Outcome, Segment, Segmented, outcome_of, segment_of}
use Rattle.dlms_listen.specs.declared.carrier.Carrier.{Carrier}
use Rattle.dlms_listen.specs.declared.carrier.Carrier.TheVariants.{Hdlc, Wrapper, Telegrams}
use Rattle.dlms_listen.specs.declared.fault.Skip.{Skip}
use Rattle.dlms_listen.specs.declared.fault.Skip.TheVariants as skip
use Rattle.dlms_listen.specs.declared.listener.Found.{Found}
use Rattle.dlms_listen.specs.declared.listener.Found.TheVariants as place

-- the octets of a line up to now: those of frames, messages and telegrams that have not ended, the segments and blocks of APDUs that have not,
-- the place of the APDU that the last call completed, and the cause of octets left out
pub record Line : Type 0 where
  pub carrier : Option Carrier
  pub frames : frames.Kept
  pub messages : messages.Kept
  pub segments : Segmented
  pub blocks : Blocked
  pub telegrams : telegrams.Kept
  pub found : Found
  pub skipped : Option Skip

-- the APDU that was found in one of these
abbrev pub apdu_at : Found → List ℕ → Option wrapper.Parts → List ℕ → Option (List ℕ)
apdu_at place.Nothing segments message blocks = None
apdu_at place.Frame segments message blocks = Some segments
apdu_at place.Message segments message blocks = option_map (λ m. m.apdu) message
apdu_at place.Blocks segments message blocks = Some blocks

abbrev pub apdu_in : Line → Option (List ℕ)
apdu_in line = apdu_at line.found line.segments.octets line.messages.message line.blocks.octets

-- the part of a line that its frames and messages change
pub record Joined : Type 0 where
  pub segments : Segmented
  pub blocks : Blocked
  pub found : Found
  pub skipped : Option Skip

abbrev pub joined_in : Line → Joined
joined_in line =
    record {
      segments = line.segments;
      blocks = line.blocks;
      found = line.found;
      skipped = line.skipped;
    }

abbrev pub nothing_found : Segmented → Blocked → Option Skip → Joined
nothing_found segments blocks skipped =
    record { segments = segments; blocks = blocks; found = place.Nothing; skipped = skipped }

-- the place of an APDU once it is complete: its frame or message, or its blocks if it is the last one
abbrev pub found_after : Found → Option Outcome → Found
found_after found None = found
found_after found (Some outcome) = if outcome.complete then place.Blocks else place.Nothing

-- what was left out before an APDU, or with it if it is a block
abbrev pub skip_after : Option Skip → Option Outcome → Option Skip
skip_after before None = before
skip_after before (Some outcome) = option_or outcome.skip before

-- what an APDU brings that is complete in a frame or in a message
abbrev pub with_apdu : Segmented → Blocked → Found → Option Skip → List ℕ → Joined
with_apdu segments blocks found before apdu = record {
  segments = segments;
  blocks = kept_after blocks (block_in apdu);
  found = found_after found (outcome_of blocks (block_in apdu));
  skipped = skip_after before (outcome_of blocks (block_in apdu));
}

abbrev pub with_segment : Blocked → Segment → Joined
with_segment blocks s =
    if s.outcome.complete then with_apdu s.kept blocks place.Frame s.outcome.skip s.kept.octets
    else nothing_found s.kept blocks s.outcome.skip

-- what a frame brings, if there is one
abbrev pub with_frame : Segmented → Blocked → Option Parts → Joined
with_frame segments blocks None = nothing_found segments blocks None
with_frame segments blocks (Some frame) = with_segment blocks (segment_of segments frame)

-- what a message of the wrapper brings, if there is one
abbrev pub with_message : Segmented → Blocked → Option wrapper.Parts → Joined
with_message segments blocks None = nothing_found segments blocks None
with_message segments blocks (Some message) =
    with_apdu segments blocks place.Message None message.apdu

-- what a call did with the octets that it took of frames
pub record TakesFrames (old : Line) (taken : List ℕ) (new : Line) : Type 0 where
  pub carrier : new.carrier ≡ Some Hdlc
  pub frames : frames.Takes old.frames.bytes taken new.frames.frame new.frames.bytes
  pub messages : new.messages ≡ old.messages
  pub telegrams : new.telegrams ≡ old.telegrams
  pub joined : joined_in new ≡ with_frame old.segments old.blocks new.frames.frame

-- The octets after a refused header are taken and not read. The call that reads the header reports the cause.
abbrev pub SkipsHeader : Line → (read : List ℕ) → Line → Type 0
SkipsHeader old read new =
    ((read ≡ []) × (new.skipped ≡ None))
    ⊎ ((why : HeaderFault) × messages.IsRefusedFor new.messages.limit new.messages.bytes why
    × (new.skipped ≡ Some (skip.Header why)))

-- what a call did with the octets that it took of messages
pub record TakesMessages (old : Line) (taken : List ℕ) (new : Line) : Type 0 where
  pub carrier : new.carrier ≡ Some Wrapper
  pub frames : new.frames ≡ old.frames
  pub telegrams : new.telegrams ≡ old.telegrams
  pub limit : new.messages.limit ≡ old.messages.limit
  pub read : List ℕ
  pub left : List ℕ
  pub text : taken ≡ read ++ left
  pub takes : messages.Takes old.messages.limit old.messages.bytes
      (record { taken = read; found = new.messages.message }) new.messages.bytes
  pub all : (left ≡ []) ⊎ messages.IsRefused new.messages.limit new.messages.bytes
  pub segments : new.segments ≡ old.segments
  pub blocks : new.blocks ≡ (with_message old.segments old.blocks new.messages.message).blocks
  pub found : new.found ≡ (with_message old.segments old.blocks new.messages.message).found
  pub stops : messages.IsRefused old.messages.limit old.messages.bytes → read ≡ []
  pub skipped : IfSome new.messages.message (λ m. new.skipped
      ≡ skip_after None (outcome_of old.blocks (block_in m.apdu)))
  pub header : IfNone new.messages.message (messages.IsRefused new.messages.limit new.messages.bytes
      → SkipsHeader old read new)
  pub quiet : IfNone new.messages.message
      (¬ messages.IsRefused new.messages.limit new.messages.bytes → new.skipped ≡ None)

-- the telegram that was found, in clear or ciphered
abbrev pub telegram_at : telegram_found.Found → List ℕ → Option (List ℕ)
telegram_at outcome.Nothing octets = None
telegram_at outcome.Telegram octets = Some octets
telegram_at outcome.Sealed octets = Some octets
telegram_at outcome.WrongCheck octets = None
telegram_at outcome.Long octets = None

abbrev pub telegram_in : telegrams.Kept → Option (List ℕ)
telegram_in kept = telegram_at kept.found kept.octets

-- why a telegram is left out
abbrev pub skip_of : telegram_found.Found → Option Skip
skip_of outcome.Nothing = None
skip_of outcome.Telegram = None
skip_of outcome.Sealed = None
skip_of outcome.WrongCheck = Some skip.WrongCheck
skip_of outcome.Long = Some skip.LongTelegram

-- what a call did with the octets that it took of telegrams
pub record TakesTelegrams (old : Line) (taken : List ℕ) (new : Line) : Type 0 where
  pub carrier : new.carrier ≡ Some Telegrams
  pub takes : telegrams.Takes old.telegrams taken new.telegrams
  pub frames : new.frames ≡ old.frames
  pub messages : new.messages ≡ old.messages
  pub joined : joined_in new ≡ nothing_found old.segments old.blocks (skip_of new.telegrams.found)

-- The carrier of a line, which the first octet says if none is given: a message of the wrapper begins with 0 (IEC 62056-47), a telegram
-- with / (IEC 62056-21), a ciphered one with DB (IEC 62056-5-3).
abbrev pub carrier_of : ℕ → Carrier
carrier_of first =
    if first == 0 then Wrapper else if (first == 0x2F) || (first == 0xDB) then Telegrams else Hdlc

abbrev pub carrier_in : Option Carrier → List ℕ → Option Carrier
carrier_in (Some carrier) octets = Some carrier
carrier_in None [] = None
carrier_in None (first ∷ rest) = Some (carrier_of first)

abbrev pub TakesBy : Option Carrier → Line → List ℕ → Line → Type 0
TakesBy None old taken new = new ≡ record old { found = place.Nothing; skipped = None }
TakesBy (Some Hdlc) old taken new = TakesFrames old taken new
TakesBy (Some Wrapper) old taken new = TakesMessages old taken new
TakesBy (Some Telegrams) old taken new = TakesTelegrams old taken new

-- what a call did with the octets that it took
abbrev pub Takes : Line → List ℕ → Line → Type 0
Takes old taken new = TakesBy (carrier_in old.carrier taken) old taken new
