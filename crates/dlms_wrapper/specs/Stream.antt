-- The messages of a stream, one after another, and the rest, which begins with no whole message.
use Rattle.std.specs.Prelude.{◌≡◌, ℕ, ◌+◌, ◌≤◌, List, [], ◌∷◌, ◌++◌, length, Option, Some, None, All}
use Rattle.std.specs.List.{flat_map, filter_map}
use Rattle.dlms_wrapper.specs.declared.fault.HeaderFault.{HeaderFault}
use Rattle.dlms_wrapper.specs.declared.header.Header.{Header}
use Rattle.dlms_wrapper.specs.Message.{Begins, IsAccepted, IsMessage, Parts, RefusesHeader, message_bytes}

-- the octets of these messages, one after another
abbrev pub stream_of : List Parts → List ℕ
stream_of ms = flat_map message_bytes ms

-- the octets do not begin with a whole message
abbrev pub HasNoMessage : ℕ → List ℕ → Type 0
HasNoMessage limit bytes = (m : Parts) (after : List ℕ) → IsMessage limit m → bytes ≡ message_bytes m ++ after → ⊥

-- the octets begin with a header that is refused
pub record IsRefused (limit : ℕ) (bytes : List ℕ) : Type 0 where
  pub header : Header
  pub begins : Begins bytes header
  pub refused : IsAccepted limit header → ⊥

-- the octets begin with a header that is refused, for this cause
pub record IsRefusedFor (limit : ℕ) (bytes : List ℕ) (why : HeaderFault) : Type 0 where
  pub header : Header
  pub begins : Begins bytes header
  pub refused : RefusesHeader limit header why

-- the stream is these messages, and a rest that begins with no whole message
pub record Splits (limit : ℕ) (stream : List ℕ) (ms : List Parts) (rest : List ℕ) : Type 0 where
  pub text : stream ≡ stream_of ms ++ rest
  pub each : All (IsMessage limit) ms
  pub partial : HasNoMessage limit rest

-- The value of a reader: the most octets of an APDU, the octets of a message that is not whole yet, and the message that the last
-- call completed, if it completed one.
pub record Kept : Type 0 where
  pub limit : ℕ
  pub bytes : List ℕ
  pub message : Option Parts

-- the octets of the message, if there is one
abbrev pub found_bytes : Option Parts → List ℕ
found_bytes None = []
found_bytes (Some m) = message_bytes m

-- no accepted message ends within the next `count` octets, except at their end
abbrev pub StopsAt : ℕ → List ℕ → ℕ → Type 0
StopsAt limit kept count =
    (more : List ℕ) (h : Header) → length more ≤ count → Begins (kept ++ more) h → IsAccepted limit h → length (kept ++ more) ≤ 8 + h.len

-- the octets are the message with this header
pub record IsWhole (limit : ℕ) (bytes : List ℕ) (h : Header) : Type 0 where
  pub begins : Begins bytes h
  pub accepted : IsAccepted limit h
  pub len : length bytes ≡ 8 + h.len

-- a call of feed, as its caller sees it: the octets that it read, and the message that it completed, if any
pub record Call : Type 0 where
  pub taken : List ℕ
  pub found : Option Parts

-- a message that was completed, if there is one, is within the limit
abbrev pub IsFound : ℕ → Option Parts → Type 0
IsFound limit None = Unit {0}
IsFound limit (Some m) = IsMessage limit m

-- what a call did: the octets kept before it and those it read are the message that it completed, and the octets kept after it
pub record Takes (limit : ℕ) (old : List ℕ) (call : Call) (new : List ℕ) : Type 0 where
  pub text : old ++ call.taken ≡ found_bytes call.found ++ new
  pub message : IsFound limit call.found
  pub rest : HasNoMessage limit new

-- these calls, one after another, may lead from the octets kept before to those kept after
abbrev pub Feeds : ℕ → List ℕ → List Call → List ℕ → Type 0
Feeds limit old [] new = new ≡ old
Feeds limit old (call ∷ calls) new = (mid : List ℕ) × Takes limit old call mid × Feeds limit mid calls new

-- the octets of the calls, one after another
abbrev pub bytes_of : List Call → List ℕ
bytes_of calls = flat_map (λ call. call.taken) calls

-- the messages of the calls, in their order
abbrev pub messages_of : List Call → List Parts
messages_of calls = filter_map (λ call. call.found) calls
