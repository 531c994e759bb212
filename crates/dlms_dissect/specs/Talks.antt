-- The state of a session, from one frame to the next (IEC 62056-46, 6.4.3: each end's information frames are numbered modulo 8, and
-- each frame states the number that its end awaits next).
use Rattle.std.specs.Prelude.{◌≡◌, ℕ, ◌==◌, ◌&&◌, ◌||◌, not, if◌then◌else◌, Bool, true, false, List, Option, Some, None, is_some, nat_le, bytes_eq, [], ◌∷◌, ◌++◌, length, position, remove}
use Rattle.dlms_dissect.specs.declared.parties.Parties.{Parties}
use Rattle.dlms_dissect.specs.declared.parties.Side.{Side}
use Rattle.dlms_dissect.specs.declared.parties.Side.TheVariants.{Client, Meter}
use Rattle.dlms_dissect.specs.declared.segments.Came.{Came}
use Rattle.dlms_dissect.specs.declared.segments.Came.TheVariants as came
use Rattle.dlms_dissect.specs.declared.talks.Numbers.{Numbers}
use Rattle.dlms_dissect.specs.declared.talks.TheConstants.{MOST_TALKS}
use Rattle.dlms_dissect.specs.declared.talks.Talk.{Talk}
use Rattle.dlms_dissect.specs.Following.{Following}
use Rattle.dlms_dissect.specs.Segments.{JoinsFrame, begun, behind_llc, expected, is_again, is_known, is_next, opened, passed, taken, without_rest}
use Rattle.dlms_dissect.specs.Services.{idle, unasked}

-- before its first frame
abbrev pub new_talk : {A : Type 0} → Parties → Bool → Talk A
new_talk parties raw = record {
  parties = parties;
  client = begun None;
  meter = begun None;
  services = idle raw;
}

-- the same session, whose requested object and transfers are no longer known
abbrev pub uncertain : {A : Type 0} → Talk A → Talk A
uncertain t = record t { services = idle t.services.raw }

-- the link goes down, or is asked for
abbrev pub forgotten : {A : Type 0} → Talk A → Talk A
forgotten t = record t { client = begun None; meter = begun None; services = idle t.services.raw }

-- the link is up
abbrev pub opened_talk : {A : Type 0} → Talk A → Talk A
opened_talk t = record t {
  client = opened t.client;
  meter = opened t.meter;
  services = idle t.services.raw;
}

-- The meter awaits this number of the client next. Where that is another one than was known, frames of the client are missing.
abbrev pub awaited : {A : Type 0} → Talk A → ℕ → Talk A
awaited t number =
    if is_known t.client.next number then t
    else record t {
      client = begun (Some number);
      meter = without_rest t.meter;
      services = idle t.services.raw;
    }

-- the frame is the client's last one again, with the same APDU
abbrev pub is_apdu : Option (List ℕ) → List ℕ → Bool
is_apdu None apdu = false
is_apdu (Some octets) apdu = bytes_eq octets apdu

abbrev pub is_repeated : Following → ℕ → List ℕ → Bool
is_repeated f number info = is_again f.next number && is_apdu (behind_llc (Some Client) info) f.apdu

-- No frame is missing before this one: it has the number that is next, and awaits the one that is next of the other end; or it
-- is the frame before once more.
abbrev pub is_certain : {A : Type 0} → Talk A → Option Side → Numbers → List ℕ → Bool
is_certain t (Some Client) n info =
    (is_known t.client.next n.send && is_known t.meter.next n.receive)
    || is_repeated t.client n.send info
is_certain t (Some Meter) n info =
    is_known t.client.next n.receive && (is_known t.meter.next n.send
    || is_again t.meter.next n.send)
is_certain t None n info = false

-- Of the client's frames those are taken that the meter takes. After a whole APDU of the client no older answer is awaited.
abbrev pub asked_anew : {A : Type 0} → Talk A → Bool → Talk A
asked_anew t true = t
asked_anew t false = record t { meter = without_rest t.meter; services = unasked t.services }

abbrev pub taken_next : {A : Type 0} → Talk A → Numbers → Bool → List ℕ → Came × Talk A
taken_next t n follows info =
    let c = taken t.client (Some Client) n.send follows info in
    (c.0, asked_anew (record t { client = c.1; meter = expected t.meter n.receive }) follows)

abbrev pub taken_of_client : {A : Type 0} → Talk A → Numbers → Bool → List ℕ → Came × Talk A
taken_of_client t n follows info =
    if not n.poll then (came.NoPoll, t)
    else if is_next t.client.next n.send && is_next t.meter.next n.receive
    then taken_next t n follows info
    else (passed t.client.next (Some Client) n.send follows info, t)

abbrev pub taken_of_meter : {A : Type 0} → Talk A → Numbers → Bool → List ℕ → Came × Talk A
taken_of_meter t n follows info = let c = taken t.meter (Some Meter) n.send follows info in
    (c.0, record t { meter = c.1 })

abbrev pub taken_of_either : {A : Type 0} → Talk A → Numbers → Bool → List ℕ → Came × Talk A
taken_of_either t n follows info = let c = taken t.client None n.send follows info in
    (c.0, record t { client = c.1 })

-- A frame of the client that has the number of its last one and begins another APDU: though it is not taken, no segment of an
-- older answer is awaited any more.
abbrev pub asks_anew : Following → ℕ → List ℕ → Bool
asks_anew f number info = is_again f.next number && (is_some (behind_llc (Some Client) info) && not
    (is_repeated f number info))

abbrev pub without_answer : {A : Type 0} → Talk A → Talk A
without_answer t = record t { meter = without_rest t.meter }

abbrev pub taken_of : {A : Type 0} → Talk A → Option Side → Numbers → Bool → List ℕ → Came × Talk A
taken_of t (Some Client) n follows info = taken_of_client (if asks_anew t.client n.send info
    then without_answer t else t) n follows info
taken_of t (Some Meter) n follows info = taken_of_meter (awaited t n.receive) n follows info
taken_of t None n follows info = taken_of_either t n follows info

-- A frame is taken. Where frames are missing before it, what was asked for is forgotten first.
abbrev pub talk_behind : {A : Type 0} → Talk A → Option Side → Numbers → Bool → List ℕ
    → Came × Talk A
talk_behind t side n follows info = taken_of (if is_certain t side n info then t
    else uncertain t) side n follows info

-- Octets of a frame are joined to those of its APDU: those of a client's frame only if the meter takes it.
abbrev pub JoinsOfClient : {A : Type 0} → Talk A → Numbers → List ℕ → Type 0
JoinsOfClient t n info =
    (n.poll ≡ true) × (is_next t.client.next n.send ≡ true)
    × (is_next t.meter.next n.receive ≡ true) × JoinsFrame t.client (Some Client) n.send info

abbrev pub JoinsOctets : {A : Type 0} → Talk A → Option Side → Numbers → List ℕ → Type 0
JoinsOctets t (Some Client) n info = JoinsOfClient t n info
JoinsOctets t (Some Meter) n info = JoinsFrame (awaited t n.receive).meter (Some Meter) n.send info
JoinsOctets t None n info = JoinsFrame t.client None n.send info

-- The same ends: the lower part of the meter's address distinguishes two meters on one line, if each frame has it.
abbrev pub may_be : Option ℕ → Option ℕ → Bool
may_be None lower = true
may_be (Some a) None = true
may_be (Some a) (Some b) = a == b

abbrev pub are_same : Parties → Parties → Bool
are_same a b = (a.client == b.client) && ((a.meter == b.meter) && may_be a.lower b.lower)

-- the place of the session of these ends
abbrev pub place_of : {A : Type 0} → List (Talk A) → Parties → Option ℕ
place_of talks parties = position (λ t. are_same t.parties parties) talks

-- of too many the first is let go, which was longest silent
abbrev pub with_last : {T : Type 0} → List T → T → List T
with_last items item = (if nat_le MOST_TALKS (length items) then remove items 0
    else items) ++ item ∷ []

abbrev pub with_talk : {A : Type 0} → List (Talk A) → Talk A → List (Talk A)
with_talk talks t = with_last talks t
