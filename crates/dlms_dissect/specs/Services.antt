-- The state of the services of a session, from one APDU to the next.
use Rattle.std.specs.Prelude.{◌≡◌, ◌<◌, length, Bool, true, false, Option, Some, None}
use Rattle.dlms_blocks.specs.Coming.{first_answer, first_after, more_answer, more_after}
use Rattle.dlms_blocks.specs.Joining.{is_next}
use Rattle.dlms_apdu.specs.declared.request.Request.{Request}
use Rattle.dlms_apdu.specs.declared.request.Request.TheVariants.{GetNormal, GetNext, SetFirst, SetBlock, ActionFirst, ActionBlock}
use Rattle.dlms_apdu.specs.declared.response.Response.{Response}
use Rattle.dlms_apdu.specs.declared.response.Response.TheVariants as answer
use Rattle.dlms_dissect.specs.declared.joining.Joined.{Joined}
use Rattle.dlms_dissect.specs.declared.named.Asked.{Asked}
use Rattle.dlms_dissect.specs.declared.services.Services.{Services}
use Rattle.dlms_dissect.specs.Asked.{of_invoke, of_service}
use Rattle.dlms_dissect.specs.Foreign.{asked_by, role_of}
use Rattle.dlms_dissect.specs.declared.foreign.Foreign.{Foreign}
use Rattle.dlms_dissect.specs.declared.foreign.Role.{Role}
use Rattle.dlms_dissect.specs.declared.foreign.Role.TheVariants.{Asks, Answers, AnswersUnfollowed, Says}
use Rattle.dlms_dissect.specs.declared.survey.Survey.{Survey}
use Rattle.dlms_dissect.specs.Joining.{begun, dropped, got_after, got_answer, none, put_answer, read_of}
use Rattle.dlms_dissect.specs.Said.{asked_of, asks}
use Rattle.dlms_dissect.specs.Transfers.{TwoTransfers}

-- nothing is asked for, and no value is under way in blocks
abbrev pub idle : {A : Type 0} → Bool → Services A
idle raw = record { transfers = none; asked = None; raw = raw }

-- no answer is awaited
abbrev pub unasked : {A : Type 0} → Services A → Services A
unasked s = record s { asked = None }

-- The transfers after a request. A first block begins a value of the object that its request names, a further one continues it; a
-- GET of another value ends the one that is read in blocks, and neither a SET nor an ACTION does.
abbrev pub transfers_behind : {A : Type 0} → TwoTransfers → Request A → TwoTransfers
transfers_behind t (GetNormal invoke d s) = dropped t
transfers_behind t (SetFirst invoke d s last n raw) = record t {
  put = first_after last n raw.now;
  put_of = asks invoke d false;
}
transfers_behind t (SetBlock invoke last n raw) =
    record t {
      put = more_after t.put.taken t.put last n raw.now;
      put_of = of_service t.put_of invoke false;
    }
transfers_behind t (ActionFirst invoke d last n raw) = record t {
  put = first_after last n raw.now;
  put_of = asks invoke d true;
}
transfers_behind t (ActionBlock invoke last n raw) =
    record t {
      put = more_after t.put.taken t.put last n raw.now;
      put_of = of_service t.put_of invoke true;
    }
transfers_behind t _ = t

-- the object awaited after it: the one that it names, or that of the value which it continues
abbrev pub awaited_behind : {A : Type 0} → TwoTransfers → Request A → Option Asked
awaited_behind t (GetNext invoke n) = of_invoke t.got_of invoke
awaited_behind t (SetBlock invoke last n raw) = of_service t.put_of invoke false
awaited_behind t (ActionBlock invoke last n raw) = of_service t.put_of invoke true
awaited_behind t request = asked_of request

abbrev pub behind_request : {A : Type 0} → Services A → Request A → Services A
behind_request s request = record s {
  transfers = transfers_behind s.transfers request;
  asked = awaited_behind s.transfers request;
}

-- what a request's block is among those before it
abbrev pub put_joined : {A : Type 0} → TwoTransfers → Request A → Option Joined
put_joined t (SetFirst invoke d s last n raw) = Some (put_answer (first_answer last n raw.now))
put_joined t (SetBlock invoke last n raw) =
    Some (put_answer (more_answer t.put.taken t.put.joined last n raw.now))
put_joined t (ActionFirst invoke d last n raw) = Some (put_answer (first_answer last n raw.now))
put_joined t (ActionBlock invoke last n raw) =
    Some (put_answer (more_answer t.put.taken t.put.joined last n raw.now))
put_joined t _ = None

-- After a response nothing is awaited. The block with number 1 begins a value of the requested object.
abbrev pub transfers_behind_response : {A : Type 0} → TwoTransfers → Option Asked → Response A
    → TwoTransfers
transfers_behind_response t asked (answer.GetBlock invoke last n raw) =
    record t { got = got_after (begun t.got n) last n raw.now; got_of = read_of t asked invoke n }
transfers_behind_response t asked _ = t

abbrev pub behind_response : {A : Type 0} → Services A → Response A → Services A
behind_response s response =
    record s { transfers = transfers_behind_response s.transfers s.asked response; asked = None }

-- a response is the next block of the value under way, and has octets to be joined
abbrev pub JoinsBlock : {A : Type 0} → TwoTransfers → Response A → Type 0
JoinsBlock t (answer.GetBlock invoke last n raw) = (is_next (begun t.got n) n ≡ true)
    × (0 < length raw.now)
JoinsBlock t _ = ⊥

abbrev pub got_joined : {A : Type 0} → TwoTransfers → Response A → Option Joined
got_joined t (answer.GetBlock invoke last n raw) = Some (got_answer (begun t.got n) last n raw.now)
got_joined t _ = None

-- After a request of another form no transfer continues, and its object is awaited; after such a response nothing is.
abbrev pub heard_as : {A : Type 0} → Role → Services A → Survey → Services A
heard_as Asks s survey = record (idle s.raw) { asked = asked_by survey }
heard_as Answers s survey = unasked s
heard_as AnswersUnfollowed s survey = unasked s
heard_as Says s survey = s

abbrev pub heard : {A : Type 0} → Services A → Foreign → Services A
heard s f = heard_as (role_of f.tag) s f.survey
