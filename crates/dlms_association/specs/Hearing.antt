-- The meaning of an APDU as an answer to a request, if these blocks of a GET were joined before it.
use Rattle.std.specs.Prelude.{◌≡◌, ℕ, ◌<◌, ◌==◌, ◌&&◌, if◌then◌else◌, Bool, true, false, List, ◌∷◌, ◌++◌, length, Option, Some, None, Result, Ok, Err}
use Rattle.dlms_apdu.specs.Fault.{fault_of}
use Rattle.dlms_apdu.specs.Forms.{ResponseForm, get_result, get_block, get_block_result, set_result, set_block_taken, set_last, action_result, action_block_taken}
use Rattle.dlms_apdu.specs.Reading.{response_at}
use Rattle.dlms_apdu.specs.declared.fault.ApduFault.TheVariants.{Data}
use Rattle.dlms_apdu.specs.declared.fault.Refusal.{Refusal}
use Rattle.dlms_blocks.specs.Joining.{Joining, is_next, with_block}
use Rattle.dlms_values.specs.Spelling.{IsSpelling}
use Rattle.dlms_values.specs.Value.{Value}
use Rattle.dlms_association.specs.Association.{denial_of}
use Rattle.dlms_association.specs.declared.answer.Answer.{Answer}
use Rattle.dlms_association.specs.declared.answer.Answer.TheVariants.{Value as ValueCame, Result as HasResult, Denied}
use Rattle.dlms_association.specs.declared.answer.Denial.{Denial}
use Rattle.dlms_association.specs.declared.fault.Fault.{Fault}
use Rattle.dlms_association.specs.declared.fault.Fault.TheVariants.{Unread, Form, Block, Memory, Refused, Denied as IsDenied, Association, Down, Line, Insecure}
use Rattle.dlms_association.specs.declared.hearing.Heard.{Heard}
use Rattle.dlms_association.specs.declared.hearing.Heard.TheVariants.{More, Told}
use Rattle.dlms_association.specs.declared.stage.Asked.{Asked}
use Rattle.dlms_association.specs.declared.stage.Asked.TheVariants.{Get, Set, Action}

-- the bytes are the encoding of a value of any type of Data
abbrev pub IsEncoding : List ℕ → Type 0
IsEncoding bytes = (v : Value) × IsSpelling bytes v

-- What becomes of a block of a value that has this answer once it is whole. A value in one piece is a first block, and the last.
abbrev pub Joins : Joining → Bool → ℕ → List ℕ → Answer → Result Heard Fault → Joining → Type 0
Joins old last number bytes whole (Ok (More n)) new = (n ≡ number) × (last ≡ false)
    × (is_next old number ≡ true) × (new ≡ with_block old false number bytes)
Joins old last number bytes whole (Ok (Told answer)) new = (answer ≡ whole) × (last ≡ true)
    × (is_next old number ≡ true) × (new ≡ with_block old true number bytes)
    × IsEncoding (old.joined ++ bytes)
Joins old last number bytes whole (Err Block) new = (is_next old number ≡ false) × (new ≡ old)
Joins old last number bytes whole (Err Memory) new = (is_next old number ≡ true)
    × (0 < length bytes) × (new ≡ old)
Joins old last number bytes whole (Err (Unread fault)) new = (fault ≡ Data) × (last ≡ true)
    × (is_next old number ≡ true) × (new ≡ with_block old true number bytes)
    × (IsEncoding (old.joined ++ bytes) → ⊥)
Joins old last number bytes whole (Err Form) new = ⊥
Joins old last number bytes whole (Err (Refused diagnostic initiate)) new = ⊥
Joins old last number bytes whole (Err (IsDenied denial)) new = ⊥
Joins old last number bytes whole (Err (Association fault)) new = ⊥
Joins old last number bytes whole (Err Down) new = ⊥
Joins old last number bytes whole (Err Line) new = ⊥
Joins old last number bytes whole (Err Insecure) new = ⊥

-- a GET may have its value in one piece (GET-Response-Normal with data): the octets of the value
abbrev pub data_at : List ℕ → Option (List ℕ)
data_at (tag ∷ form ∷ invoke ∷ choice ∷ bytes) =
    if (tag == 0xC4) && (form == 1) && (choice == 0) then Some bytes else None
data_at _ = None

-- a response to a GET: its value in one piece, a block of it, or a result in place of either
abbrev pub GetHears : Option (List ℕ) → Joining → Result ResponseForm Refusal → Result Heard Fault
    → Joining → Type 0
GetHears (Some bytes) old read result new = Joins old true 1 bytes ValueCame result new
GetHears None old (Ok (get_block invoke last number raw)) result new =
    Joins old last number raw ValueCame result new
GetHears None old (Ok (get_result invoke code)) result new =
    (result ≡ Ok (Told (HasResult code))) × (new ≡ old)
GetHears None old (Ok (get_block_result invoke number code)) result new =
    (result ≡ Ok (Told (HasResult code))) × (new ≡ old)
GetHears None old (Ok form) result new = (result ≡ Err Form) × (new ≡ old)
GetHears None old (Err refusal) result new = (result ≡ Err (Unread (fault_of refusal)))
    × (new ≡ old)

-- to a SET: if a block was accepted, the next one is sent
abbrev pub set_heard : Result ResponseForm Refusal → Result Heard Fault
set_heard (Ok (set_result invoke code)) = Ok (Told (HasResult code))
set_heard (Ok (set_last invoke code number)) = Ok (Told (HasResult code))
set_heard (Ok (set_block_taken invoke number)) = Ok (More number)
set_heard (Ok form) = Err Form
set_heard (Err refusal) = Err (Unread (fault_of refusal))

-- to an ACTION
abbrev pub action_heard : Result ResponseForm Refusal → Result Heard Fault
action_heard (Ok (action_result invoke code)) = Ok (Told (HasResult code))
action_heard (Ok (action_block_taken invoke number)) = Ok (More number)
action_heard (Ok form) = Err Form
action_heard (Err refusal) = Err (Unread (fault_of refusal))

-- an ACTION may return a value with its result (Action-Response-With-Optional-Data): the result, and the bytes after it
abbrev pub returned_at : List ℕ → Option (ℕ × List ℕ)
returned_at (tag ∷ form ∷ invoke ∷ code ∷ some ∷ choice ∷ bytes) =
    if (tag == 0xC7) && (form == 1) && (some == 1) && (choice == 0) then Some (code, bytes)
    else None
returned_at _ = None

abbrev pub ActionHears : Option (ℕ × List ℕ) → Joining → Result ResponseForm Refusal
    → Result Heard Fault → Joining → Type 0
ActionHears (Some (code, bytes)) old read result new =
    Joins old true 1 bytes (HasResult code) result new
ActionHears None old read result new = (result ≡ action_heard read) × (new ≡ old)

-- an exception or a service error answers each of them
abbrev pub HearsBy : Option Denial → Asked → Joining → List ℕ → Result Heard Fault → Joining
    → Type 0
HearsBy (Some denial) asked old apdu result new = (result ≡ Ok (Told (Denied denial))) × (new ≡ old)
HearsBy None Get old apdu result new =
    GetHears (data_at apdu) old (response_at apdu) result new
HearsBy None Set old apdu result new = (result ≡ set_heard (response_at apdu)) × (new ≡ old)
HearsBy None Action old apdu result new =
    ActionHears (returned_at apdu) old (response_at apdu) result new

abbrev pub Hears : Asked → Joining → List ℕ → Result Heard Fault → Joining → Type 0
Hears asked old apdu result new = HearsBy (denial_of apdu) asked old apdu result new
