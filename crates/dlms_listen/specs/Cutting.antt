-- The calls of a listener, one after another, and the APDUs of a line's frames and messages.
use Rattle.std.specs.Prelude.{◌≡◌, ℕ, List, [], ◌∷◌, ◌++◌, Option, Some, None, option_to_list}
use Rattle.std.specs.List.{flat_map}
use Rattle.dlms_frame.specs.Frame.{Parts}
use Rattle.dlms_frame.specs.Stream.{Fits}
use Rattle.dlms_telegram.specs.Telegram.{nothing}
use Rattle.dlms_telegram.specs.declared.reader.Found.TheVariants.{Nothing}
use Rattle.dlms_wrapper.specs.Message as wrapper
use Rattle.dlms_listen.specs.Joined.{Segmented}
use Rattle.dlms_transfer.specs.Blocks.{Blocked}
use Rattle.dlms_listen.specs.Line.{Joined, Line, Takes, apdu_at, apdu_in, with_frame, with_message}
use Rattle.dlms_listen.specs.declared.carrier.Carrier.{Carrier}

-- a call of feed, as its caller sees it: the octets that it took, and the APDU that it completed, if any
pub record Call : Type 0 where
  pub taken : List ℕ
  pub apdu : Option (List ℕ)

-- these calls, one after another, may lead from one state of a line to another
abbrev pub Feeds : Line → List Call → Line → Type 0
Feeds old [] new = new ≡ old
Feeds old (call ∷ calls) new =
    (mid : Line) × Takes old call.taken mid × (call.apdu ≡ apdu_in mid) × Feeds mid calls new

-- the octets of the calls, and their APDUs in order
abbrev pub octets_of : List Call → List ℕ
octets_of calls = flat_map (λ call. call.taken) calls

abbrev pub apdus_of : List Call → List (List ℕ)
apdus_of calls = flat_map (λ call. option_to_list call.apdu) calls

-- the APDU that a frame or message completes, if it does, and those after it
abbrev pub found_in : Joined → Option wrapper.Parts → List (List ℕ)
found_in j message = option_to_list (apdu_at j.found j.segments.octets message j.blocks.octets)

-- the APDUs of frames, joined of segments and blocks
abbrev pub apdus_of_frames : Segmented → Blocked → List Parts → List (List ℕ)
apdus_of_frames segments blocks [] = []
apdus_of_frames segments blocks (frame ∷ frames) =
    let j = with_frame segments blocks (Some frame) in
    found_in j None ++ apdus_of_frames j.segments j.blocks frames

-- the APDUs of messages of the wrapper, joined of blocks
abbrev pub apdus_of_messages : Segmented → Blocked → List wrapper.Parts → List (List ℕ)
apdus_of_messages segments blocks [] = []
apdus_of_messages segments blocks (message ∷ messages) =
    let j = with_message segments blocks (Some message) in
    found_in j (Some message) ++ apdus_of_messages j.segments j.blocks messages

-- no octet of a line of this carrier has come
pub record IsStart (of : Option Carrier) (line : Line) : Type 0 where
  pub carrier : line.carrier ≡ of
  pub frames : Fits line.frames.bytes [] 0
  pub messages : line.messages ≡ record { limit = 1024; bytes = []; message = None }
  pub segments : line.segments ≡ record { octets = []; ends = None }
  pub blocks : line.blocks ≡ record { octets = []; last = 0 }
  pub telegrams : line.telegrams ≡ nothing Nothing
