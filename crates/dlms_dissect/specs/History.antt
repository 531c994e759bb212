-- Sessions as lists of their events, whichever of them a log contains.
use Rattle.std.specs.Prelude.{◌≡◌, ◌⊎◌, ℕ, Bool, true, List, [], ◌∷◌, Option, Some}
use Rattle.dlms_apdu.specs.declared.request.Request.{Request}
use Rattle.dlms_apdu.specs.declared.response.Response.{Response}
use Rattle.dlms_dissect.specs.declared.named.Asked.{Asked}
use Rattle.dlms_dissect.specs.declared.parties.Side.{Side}
use Rattle.dlms_dissect.specs.declared.talks.Numbers.{Numbers}
use Rattle.dlms_dissect.specs.declared.talks.Talk.{Talk}
use Rattle.dlms_dissect.specs.Foreign.{asked_by}
use Rattle.dlms_dissect.specs.Said.{asked_of}
use Rattle.dlms_dissect.specs.declared.foreign.Foreign.{Foreign}
use Rattle.dlms_dissect.specs.Segments.{is_known}
use Rattle.dlms_dissect.specs.Services.{behind_request, behind_response, heard, unasked}
use Rattle.dlms_dissect.specs.Talks.{awaited, forgotten, is_certain, opened_talk, talk_behind, uncertain}

-- an information frame; the APDU that it ends: a request, a response, one of another form, one of the client that is not
-- readable, or another one; a number that the meter awaits; the link
-- goes down, or comes up
pub data Step (A : Type 0) : Type 0 where
  frame : Option Side → Numbers → Bool → List ℕ → Step A
  asks : Request A → Step A
  answers : Response A → Step A
  hears : Foreign → Step A
  unread : Step A
  says : Step A
  awaits : ℕ → Step A
  goes_down : Step A
  comes_up : Step A

abbrev pub talk_after : {A : Type 0} → Talk A → Step A → Talk A
talk_after t (frame side n follows info) = (talk_behind t side n follows info).1
talk_after t (asks request) = record t { services = behind_request t.services request }
talk_after t (answers response) = record t { services = behind_response t.services response }
talk_after t (hears foreign) = record t { services = heard t.services foreign }
talk_after t unread = uncertain t
talk_after t says = record t { services = unasked t.services }
talk_after t (awaits number) = awaited t number
talk_after t goes_down = forgotten t
talk_after t comes_up = opened_talk t

abbrev pub talk_after_all : {A : Type 0} → Talk A → List (Step A) → Talk A
talk_after_all t [] = t
talk_after_all t (s ∷ ss) = talk_after_all (talk_after t s) ss

-- no frame is missing before the step, and the link goes neither down nor up
abbrev pub IsUnbroken : {A : Type 0} → Talk A → Step A → Type 0
IsUnbroken t (frame side n follows info) = is_certain t side n info ≡ true
IsUnbroken t (asks request) = Unit {0}
IsUnbroken t (answers response) = Unit {0}
IsUnbroken t (hears foreign) = Unit {0}
IsUnbroken t unread = Unit {0}
IsUnbroken t says = Unit {0}
IsUnbroken t (awaits number) = is_known t.client.next number ≡ true
IsUnbroken t goes_down = ⊥
IsUnbroken t comes_up = ⊥

abbrev pub AreUnbroken : {A : Type 0} → Talk A → List (Step A) → Type 0
AreUnbroken t [] = Unit {0}
AreUnbroken t (s ∷ ss) = IsUnbroken t s × AreUnbroken (talk_after t s) ss

-- the step is a request that names it
abbrev pub Names : {A : Type 0} → Step A → Asked → Type 0
Names (asks request) a = asked_of request ≡ Some a
Names (hears foreign) a = asked_by foreign.survey ≡ Some a
Names _ a = ⊥

-- a request among the steps named it, and since then no frame was missing, and the link went neither down nor up
abbrev pub WasAsked : {A : Type 0} → Talk A → List (Step A) → Asked → Type 0
WasAsked t [] a = ⊥
WasAsked t (s ∷ ss) a = (Names s a × AreUnbroken (talk_after t s) ss)
    ⊎ WasAsked (talk_after t s) ss a

-- the answer that comes next, or a value in blocks, is known to be of it
abbrev pub IsKept : {A : Type 0} → Talk A → Asked → Type 0
IsKept t a = (t.services.asked ≡ Some a)
    ⊎ ((t.services.transfers.got_of ≡ Some a) ⊎ (t.services.transfers.put_of ≡ Some a))
