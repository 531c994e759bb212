-- How a poll handles an answer to GET: a block with others to follow, or the rows, or a fault.
use Rattle.std.specs.Prelude.{◌≡◌, ℕ, ◌+◌, false, List, ◌++◌, Result, Ok, Err}
use Rattle.dlms_apdu.specs.declared.fault.Refusal.{Refusal}
use Rattle.dlms_apdu.specs.Forms.{ResponseForm}
use Rattle.dlms_apdu.specs.Reading.{response_at}
use Rattle.dlms_blocks.specs.Joining.{Joining}
use Rattle.dlms_headend.specs.declared.get_answer.GetAnswer.{GetAnswer}
use Rattle.dlms_headend.specs.declared.get_answer.GetAnswer.TheVariants.{More, Rows}
use Rattle.dlms_headend.specs.declared.poll_fault.PollFault.{PollFault}
use Rattle.dlms_headend.specs.declared.poll_fault.PollFault.TheVariants.{Refused, Result as BadResult, Line, Protocol, Columns, Memory}
use Rattle.dlms_headend.specs.Rows.{IsEncoded, NoEncoding, AreReadings}
use Rattle.dlms_headend.specs.Poll.{IsMoreBy, SpellsBy, FailsBy, NeedsBy}

-- so many blocks were joined, and others are to come
pub record HasTaken (old : Joining) (taken : ℕ) : Type 0 where
  pub count : old.taken ≡ taken
  pub open_end : old.over ≡ false

abbrev pub joined_on : Joining → ℕ → List ℕ → Joining
joined_on old taken bytes = record { joined = old.joined ++ bytes; taken = taken + 1; over = false }

-- out of memory, if it may be, or the poll fails
abbrev pub FailsOrWants : ℕ → List ℕ → Result ResponseForm Refusal → PollFault → Type 0
FailsOrWants taken joined read Memory = NeedsBy taken joined read
FailsOrWants taken joined read (Refused diagnostic) = FailsBy taken joined read (Refused diagnostic)
FailsOrWants taken joined read (BadResult code) = FailsBy taken joined read (BadResult code)
FailsOrWants taken joined read Line = FailsBy taken joined read Line
FailsOrWants taken joined read Columns = FailsBy taken joined read Columns
FailsOrWants taken joined read Protocol = FailsBy taken joined read Protocol

-- rows that an answer brought are readings
abbrev pub BringsReadings : {A : Type 0} → Result (GetAnswer A) PollFault → Type 0
BringsReadings (Ok (More number)) = Unit {0}
BringsReadings (Ok (Rows rows)) = AreReadings rows.items
BringsReadings (Err fault) = Unit {0}

-- of a whole encoding
abbrev pub LastHeard : {A : Type 0} → List ℕ → Result (GetAnswer A) PollFault → Type 0
LastHeard bytes (Ok (More number)) = ⊥
LastHeard bytes (Ok (Rows rows)) = IsEncoded bytes rows.items
LastHeard bytes (Err fault) = NoEncoding bytes fault

abbrev pub HearsBy : {A : Type 0} → ℕ → Joining → Result ResponseForm Refusal
    → Result (GetAnswer A) PollFault → Joining → Type 0
HearsBy taken old read (Ok (More number)) new = (number ≡ taken + 1)
    × ((bytes : List ℕ) × IsMoreBy taken read bytes × (new ≡ joined_on old taken bytes))
HearsBy taken old read (Ok (Rows rows)) new = SpellsBy taken old.joined read rows.items
HearsBy taken old read (Err fault) new = FailsOrWants taken old.joined read fault

abbrev pub Hears : {A : Type 0} → ℕ → Joining → List ℕ → Result (GetAnswer A) PollFault → Joining
    → Type 0
Hears taken old apdu result new = HasTaken old taken
    → HearsBy taken old (response_at apdu) result new
