-- What each call of an association does.
use Rattle.std.specs.Prelude.{◌≡◌, ◌⊎◌, ℕ, ◌-◌, ◌<◌, ◌≤◌, min, ◌==◌, if◌then◌else◌, List, [], length, Option, Some, None, Result, Ok, Err}
use Rattle.dlms_acse.specs.Writing.{release_request}
use Rattle.dlms_apdu.specs.Forms.{RequestForm, get_next, set_normal, set_first, set_block, action_normal, action_first, action_block}
use Rattle.dlms_apdu.specs.Writing.{request_bytes}
use Rattle.dlms_blocks.specs.Block.{BlockValue, block}
use Rattle.dlms_blocks.specs.BlockView.{view_of}
use Rattle.dlms_blocks.specs.declared.block.Block.{Block as BlockOf}
use Rattle.dlms_blocks.specs.Going.{Going, beginning, answer, after}
use Rattle.dlms_blocks.specs.Joining.{Joining, empty}
use Rattle.dlms_blocks.specs.declared.block.TheConstants.{LEAST_SIZE}
use Rattle.dlms_blocks.specs.declared.put_out.TheConstants.{PUT_HEAD}
use Rattle.dlms_data.specs.Writing.{canonical}
use Rattle.dlms_association.specs.Association.{association_bytes, granted_at, released_at}
use Rattle.dlms_association.specs.AssociationValue.{AssociationValue}
use Rattle.dlms_association.specs.Hearing.{Hears}
use Rattle.dlms_association.specs.Terms.{TermsValue}
use Rattle.dlms_association.specs.declared.ask_fault.AskFault.{AskFault}
use Rattle.dlms_association.specs.declared.ask_fault.AskFault.TheVariants.{TooLong, Memory}
use Rattle.dlms_association.specs.declared.fault.Fault.{Fault}
use Rattle.dlms_association.specs.declared.fault.Fault.TheVariants.{Block}
use Rattle.dlms_association.specs.declared.granted.Granted.{Granted}
use Rattle.dlms_association.specs.declared.hearing.Heard.{Heard}
use Rattle.dlms_association.specs.declared.hearing.Heard.TheVariants.{More, Told}
use Rattle.dlms_association.specs.declared.requests.TheConstants.{INVOKE}
use Rattle.dlms_association.specs.declared.stage.Asked.{Asked}
use Rattle.dlms_association.specs.declared.stage.Asked.TheVariants.{Get, Set, Action}
use Rattle.dlms_association.specs.declared.stage.Stage.{Stage}
use Rattle.dlms_association.specs.declared.stage.Stage.TheVariants.{Closed, Associating, Free, Asking, Releasing, Released}
use Rattle.dlms_association.specs.declared.step.Step.{Step}
use Rattle.dlms_association.specs.declared.step.Step.TheVariants as step

-- nothing is granted yet
abbrev pub no_grant : Granted
no_grant = record { conformance = record { 0 = 0 }; size = 0 }

abbrev pub fresh : TermsValue → AssociationValue
fresh terms = record {
  terms = terms;
  stage = Closed;
  failed = None;
  granted = no_grant;
  blocks = empty;
  sent = None;
}

-- it is over for good: nothing else of it changes
pub record HasFailed {X : Type 0} (at : AssociationValue) (fault : Fault) (result : Result X Fault)
    (new : AssociationValue) : Type 0 where
  pub answer : result ≡ Err fault
  pub after : new ≡ record at { failed = Some fault }

-- nothing happens
pub record IsPassedOver (old : AssociationValue) (result : Result Step Fault)
    (new : AssociationValue) : Type 0 where
  pub answer : result ≡ Ok step.Nothing
  pub after : new ≡ old

-- this APDU goes out; then this is awaited
pub record Sends (at : AssociationValue) (apdu : List ℕ) (stage : Stage) (given : List ℕ)
    (new : AssociationValue) : Type 0 where
  pub goes_out : given ≡ apdu
  pub after : new ≡ record at { stage = stage }

-- ---- the association request

-- the association request may be sent
pub record IsClosed (c : AssociationValue) : Type 0 where
  pub whole : c.failed ≡ None
  pub closed : c.stage ≡ Closed

abbrev pub Opens : AssociationValue → List ℕ → AssociationValue → Type 0
Opens old given new = Sends old (association_bytes old.terms) Associating given new

-- ---- an APDU of the meter

-- the answer to the association request
abbrev pub OpensBy : Result Granted Fault → AssociationValue → Result Step Fault → AssociationValue
    → Type 0
OpensBy (Ok granted) at result new = (result ≡ Ok step.Associated)
    × (new ≡ record at { stage = Free; granted = granted })
OpensBy (Err fault) at result new = HasFailed at fault result new

-- the answer to the release
abbrev pub ReleasesBy : Result (Unit {0}) Fault → AssociationValue → Result Step Fault
    → AssociationValue → Type 0
ReleasesBy (Ok u) at result new = (result ≡ Ok step.Released) × (new ≡ record at { stage = Released })
ReleasesBy (Err fault) at result new = HasFailed at fault result new

-- the bytes of a further block of a value to set, and of a method's parameter
abbrev pub next_of_set : BlockValue → List ℕ
next_of_set b = request_bytes (set_block INVOKE b.last b.number b.bytes)

abbrev pub next_of_action : BlockValue → List ℕ
next_of_action b = request_bytes (action_block INVOKE b.last b.number b.bytes)

-- the block of the outgoing value after the one with this number, and the rest
abbrev pub block_in : Result BlockValue ℕ → Option BlockValue
block_in (Ok b) = Some b
block_in (Err code) = None

abbrev pub HasNext : Option Going → ℕ → Option BlockValue → AssociationValue → AssociationValue
    → Type 0
HasNext None number result old new = (result ≡ None) × (new ≡ old)
HasNext (Some going) number result old new = (result ≡ block_in (answer going number))
    × (new ≡ record old { sent = Some (after going number) })

-- after a block that was accepted the next one is sent, or it was another than the last one sent
abbrev pub GivesBlock : Result BlockValue ℕ → (BlockValue → List ℕ) → Asked → AssociationValue
    → Result Step Fault → AssociationValue → Type 0
GivesBlock (Ok b) spelled asked at result new = (given : List ℕ) × (result ≡ Ok (step.Send given))
    × Sends at (spelled b) (Asking asked) given new
GivesBlock (Err code) spelled asked at result new = HasFailed at Block result new

abbrev pub GivesNext : Option Going → ℕ → (BlockValue → List ℕ) → Asked → AssociationValue
    → Result Step Fault → AssociationValue → Type 0
GivesNext None number spelled asked at result new = HasFailed at Block result new
GivesNext (Some going) number spelled asked at result new =
    GivesBlock (answer going number) spelled asked
    (record at { sent = Some (after going number) }) result new

-- a GET of the block after the one with this number
abbrev pub next_bytes : ℕ → List ℕ
next_bytes number = request_bytes (get_next INVOKE number)

-- the request after a block with this number
abbrev pub AsksMore : Asked → ℕ → AssociationValue → Result Step Fault → AssociationValue → Type 0
AsksMore Get number at result new = (given : List ℕ) × (result ≡ Ok (step.Send given))
    × Sends at (next_bytes number) (Asking Get) given new
AsksMore Set number at result new = GivesNext at.sent number next_of_set Set at result new
AsksMore Action number at result new = GivesNext at.sent number next_of_action Action at result new

-- how the answer to a request is handled: the next block is requested, or sent; the answer is returned; or it is over
abbrev pub GoesOn : Result Heard Fault → Asked → AssociationValue → Result Step Fault
    → AssociationValue → Type 0
GoesOn (Ok (More number)) asked at result new = AsksMore asked number at result new
GoesOn (Ok (Told answer)) asked at result new = (result ≡ Ok (step.Answered answer))
    × (new ≡ record at { stage = Free })
GoesOn (Err fault) asked at result new = HasFailed at fault result new

abbrev pub Answers : Asked → AssociationValue → List ℕ → Result Step Fault → AssociationValue
    → Type 0
Answers asked at apdu result new = (heard : Result Heard Fault) × (blocks : Joining)
    × Hears asked at.blocks apdu heard blocks
    × GoesOn heard asked (record at { blocks = blocks }) result new

-- an APDU, by what is awaited; while nothing is awaited it is ignored
abbrev pub TakesAt : Stage → AssociationValue → List ℕ → Result Step Fault → AssociationValue
    → Type 0
TakesAt Associating at apdu result new = OpensBy (granted_at apdu) at result new
TakesAt (Asking asked) at apdu result new = Answers asked at apdu result new
TakesAt Releasing at apdu result new = ReleasesBy (released_at apdu) at result new
TakesAt Closed at apdu result new = IsPassedOver at result new
TakesAt Free at apdu result new = IsPassedOver at result new
TakesAt Released at apdu result new = IsPassedOver at result new

-- after a fault it is the same fault again
abbrev pub TakesUnless : Option Fault → AssociationValue → List ℕ → Result Step Fault
    → AssociationValue → Type 0
TakesUnless None old apdu result new = TakesAt old.stage old apdu result new
TakesUnless (Some fault) old apdu result new = (result ≡ Err fault) × (new ≡ old)

abbrev pub Takes : AssociationValue → List ℕ → Result Step Fault → AssociationValue → Type 0
Takes old apdu result new = TakesUnless old.failed old apdu result new

-- ---- requests

-- a request may be made
pub record IsFree (c : AssociationValue) : Type 0 where
  pub whole : c.failed ≡ None
  pub free : c.stage ≡ Free

-- the most bytes of an outgoing APDU: as many as the meter takes, if it states a limit, and as the terms allow
abbrev pub most_bytes : AssociationValue → ℕ
most_bytes c = if c.granted.size == 0 then c.terms.size else min c.granted.size c.terms.size

-- the value of the last GET, and what went out in blocks, are dropped then
abbrev pub emptied : AssociationValue → Option Going → AssociationValue
emptied c sent = record c { blocks = empty; sent = sent }

-- the encoding that may go in blocks: that of a value to set without a selector, or of a method's parameter
abbrev pub long_value : RequestForm → Option (List ℕ)
long_value (set_normal invoke d None v) = Some (canonical v)
long_value (action_normal invoke d (Some v)) = Some (canonical v)
long_value form = None

-- the request with its first block
abbrev pub first_request : RequestForm → BlockValue → List ℕ
first_request (set_normal invoke d s v) b =
    request_bytes (set_first INVOKE d None b.last b.number b.bytes)
first_request (action_normal invoke d p) b =
    request_bytes (action_first INVOKE d b.last b.number b.bytes)
first_request form b = []

-- an encoding goes in blocks that fit into this many bytes
pub record GoesInBlocks (form : RequestForm) (most : ℕ) (encoding : List ℕ) : Type 0 where
  pub long : most < length (request_bytes form)
  pub encodes : long_value form ≡ Some encoding
  pub least : LEAST_SIZE ≤ most
  pub short : length encoding ≤ 65536

-- an encoding begins to go in blocks
abbrev pub Starts : List ℕ → AssociationValue → Result BlockOf AskFault → AssociationValue → Type 0
Starts encoding old (Ok first) new = (LEAST_SIZE ≤ most_bytes old) × (length encoding ≤ 65536)
    × (view_of first ≡ block encoding (most_bytes old - PUT_HEAD) 1)
    × (new ≡ emptied old (Some (after (beginning encoding (most_bytes old - PUT_HEAD)) 0)))
Starts encoding old (Err TooLong) new = (LEAST_SIZE ≤ most_bytes old → length encoding ≤ 65536 → ⊥)
    × (new ≡ old)
Starts encoding old (Err Memory) new = new ≡ old

-- A request goes out in one piece if it fits; otherwise its value goes in blocks, the first of them now; and if it may not either,
-- it is too long.
abbrev pub Asks : Asked → RequestForm → AssociationValue → Result (List ℕ) AskFault
    → AssociationValue → Type 0
Asks asked form old (Ok given) new =
    ((length (request_bytes form) ≤ most_bytes old)
    × Sends (emptied old None) (request_bytes form) (Asking asked) given new)
    ⊎ ((encoding : List ℕ) × GoesInBlocks form (most_bytes old) encoding
    × Sends (emptied old (Some (after (beginning encoding (most_bytes old - PUT_HEAD)) 0)))
    (first_request form (block encoding (most_bytes old - PUT_HEAD) 1)) (Asking asked) given new)
Asks asked form old (Err TooLong) new = (most_bytes old < length (request_bytes form))
    × ((encoding : List ℕ) → GoesInBlocks form (most_bytes old) encoding → ⊥) × (new ≡ old)
Asks asked form old (Err Memory) new = new ≡ old

abbrev pub Releases : AssociationValue → List ℕ → AssociationValue → Type 0
Releases old given new = Sends old release_request Releasing given new

-- ---- the connection

-- the connection ended as requested: another association may be opened
abbrev pub Closes : AssociationValue → AssociationValue → Type 0
Closes old new = new ≡ record old { stage = Closed }

-- the connection failed, and the association with it, for good
abbrev pub Breaks : AssociationValue → Fault → AssociationValue → Type 0
Breaks old fault new = new ≡ record old { failed = Some fault }
