-- The answer of GET.
use Rattle.std.specs.Prelude.{◌≡◌, ◌⊎◌, ◌≤◌, ℕ, ◌+◌, ◌*◌, List, length, Option, Result, Ok, Err, MatchResult}
use Rattle.dlms_data.specs.Value.{Value}
use Rattle.dlms_data.specs.Writing.{canonical, Fits}
use Rattle.dlms_data.specs.declared.data.Data.{Data}
use Rattle.dlms_data.specs.declared.descriptor.Descriptor.{Descriptor}
use Rattle.dlms_data.specs.View.{value_of}
use Rattle.dlms_frame.specs.declared.client.Client.{Client}
use Rattle.dlms_profile.specs.declared.rows.TheConstants.{CAPACITY}
use Rattle.dlms_state.specs.declared.event.Event.{Event}
use Rattle.dlms_state.specs.StateValue.{StateValue, state_of}
use Rattle.dlms_classes.specs.declared.access.AccessResult.{AccessResult}
use Rattle.dlms_classes.specs.declared.access.AccessResult.TheVariants.{TemporaryFailure, OtherReason}
use Rattle.dlms_classes.specs.declared.table.Content.{Content}
use Rattle.dlms_classes.specs.Access.{◌>>=◌, readable}
use Rattle.dlms_classes.specs.Choice.{Selection, part_of, HasPart}
use Rattle.dlms_classes.specs.Shown.{Part, Shows, shown, TakesMemory}

-- an attribute, and which part of it
pub record Wanted : Type 0 where
  pub content : Content
  pub part : Part

-- what GET asks for, or the first refusal that fits: name, class, attribute, right, selector, and the types and values of
-- its parameters
abbrev pub wanted : Client → Descriptor → Option Selection → Result Wanted AccessResult
wanted client d selection =
    readable client d >>= λ a.
    part_of a.content selection >>= λ p.
    Ok (record { content = a.content; part = p })

-- The value that a state has for the request; or the refusal, which is for another reason if the state's columns have no such part.
abbrev pub IsShown : StateValue → Client → Descriptor → Result Wanted AccessResult
    → Result Value AccessResult → Type 0
IsShown s client d (Err r) result = result ≡ Err r
IsShown s client d (Ok w) result = MatchResult result (λ v. HasPart s.columns w.part
    × Shows (shown s client d w.part w.content) v) (λ r. (r ≡ OtherReason)
    × ¬ (HasPart s.columns w.part))

-- nothing refuses it in a state of these columns
abbrev pub IsGranted : (columns : List ℕ) → Result Wanted AccessResult → Type 0
IsGranted columns (Err r) = ⊥
IsGranted columns (Ok w) = HasPart columns w.part

-- and it takes memory to show it
abbrev pub NeedsMemory : StateValue → Result Wanted AccessResult → Type 0
NeedsMemory s (Err r) = ⊥
NeedsMemory s (Ok w) = HasPart s.columns w.part × TakesMemory s w.part w.content

-- a call's answer: the value, or out of memory if it takes memory
abbrev pub IsAnswer : {A : Type 0} → StateValue → Client → Descriptor → Result Wanted AccessResult
    → Result (Data A) AccessResult → Type 0
IsAnswer s client d w result =
    MatchResult result (λ v. IsShown s client d w (Ok (value_of v)))
    (λ r. IsShown s client d w (Err r) ⊎ (NeedsMemory s w × (r ≡ TemporaryFailure)))

-- the answer after a list of events: the state is that of the definitions of settings, registers, clock and buffer
abbrev pub AnswersAfter : {A : Type 0} → List Event → Client → Descriptor → Option Selection
    → Result (Data A) AccessResult → Type 0
AnswersAfter E client d selection result =
    IsAnswer (state_of E) client d (wanted client d selection) result

-- The bytes of the whole buffer when it is full: an array of structures of a time and three numbers. No attribute has more.
abbrev pub most_bytes : ℕ
most_bytes = 4 + 31 * CAPACITY

-- the value has a spelling, and it is not longer than that of the full buffer
pub record IsSendable (v : Value) : Type 0 where
  pub fits : Fits v
  pub size : length (canonical v) ≤ most_bytes
