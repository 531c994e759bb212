-- The state that the meter keeps of one client above the link: its association, and its transfers of long values (IEC 62056-5-3:
-- the association is that of COSEM-OPEN and COSEM-RELEASE, the transfers are those of GET, SET and ACTION with datablocks).
use Rattle.std.specs.Prelude.{ℕ, ◌≤◌, ◌==◌, not, Bool, bit_and, List, [], ◌∷◌, Option, Some, None}
use Rattle.dlms_blocks.specs.Coming.{Coming, nothing}
use Rattle.dlms_blocks.specs.Going.{Going}
use Rattle.dlms_frame.specs.declared.client.Client.{Client}
use Rattle.dlms_apdu.specs.Forms.{ResponseForm, exception}
use Rattle.dlms_apdu.specs.Writing.{response_bytes}
use Rattle.dlms_state.specs.declared.event.Event.{Event}
use Rattle.dlms_service.specs.declared.association.Association.{Association}
use Rattle.dlms_service.specs.declared.target.Target.{Target}
use Rattle.dlms_acse.specs.declared.judging.TheConstants.{LEAST_SIZE, MOST_SIZE}

pub record SessionValue : Type 0 where
  pub client : Client
  -- the open association, if there is one
  pub opened : Option Association
  -- the value that goes out in blocks
  pub getting : Option Going
  -- what the value is for that comes in blocks, and what of it has come
  pub target : Option Target
  pub coming : Coming

-- no association, and no transfer
abbrev pub fresh : Client → SessionValue
fresh client = record {
  client = client;
  opened = None;
  getting = None;
  target = None;
  coming = nothing;
}

-- without the value that goes out
abbrev pub without_get : SessionValue → SessionValue
without_get s = record s { getting = None }

-- without the value that comes
abbrev pub without_put : SessionValue → SessionValue
without_put s = record s { target = None; coming = nothing }

-- the service of this bit is one that both ends have (the conformance block, bit 0 the highest of 24)
abbrev pub has : Association → ℕ → Bool
has a bit = not (bit_and a.conformance.0 bit == 0)

-- blocks with get (bit 11), with set (12) and with action (13); get (19), set (20), selective access (21) and action (23)
abbrev pub blocks_with_get : ℕ
blocks_with_get = 0x1000

abbrev pub blocks_with_set : ℕ
blocks_with_set = 0x0800

abbrev pub blocks_with_action : ℕ
blocks_with_action = 0x0400

abbrev pub get_service : ℕ
get_service = 0x10

abbrev pub set_service : ℕ
set_service = 0x08

abbrev pub selective_access : ℕ
selective_access = 0x04

abbrev pub action_service : ℕ
action_service = 0x01

-- the size of an association is one that a client may ask for
abbrev pub HasSize : Option Association → Type 0
HasSize None = Unit {0}
HasSize (Some a) = (LEAST_SIZE ≤ a.size) × (a.size ≤ MOST_SIZE)

-- The outcome of an APDU: the state kept of the client, the answering APDU, and the accepted event, if any.
pub record Outcome : Type 0 where
  pub own : SessionValue
  pub answer : List ℕ
  pub accepted : List Event

abbrev pub listed : Option Event → List Event
listed None = []
listed (Some event) = event ∷ []

-- what a call shows of it
abbrev pub outcome_of : SessionValue → List ℕ → Option Event → Outcome
outcome_of own answer event = record { own = own; answer = answer; accepted = listed event }

-- an answer alone
abbrev pub says : SessionValue → ResponseForm → Outcome
says s form = record { own = s; answer = response_bytes form; accepted = [] }

-- the service is not possible without an association
abbrev pub not_associated : SessionValue → Outcome
not_associated s = says s (exception 1 1)

-- the service is not one that both ends have
abbrev pub not_supported : SessionValue → Outcome
not_supported s = says s (exception 1 2)

-- no service can be read here
abbrev pub unknown_service : SessionValue → Outcome
unknown_service s = says s (exception 2 2)

-- the service can't be done: it is too long, or there is no memory for it; nothing changes
abbrev pub not_possible : SessionValue → Outcome
not_possible s = says s (exception 1 3)
