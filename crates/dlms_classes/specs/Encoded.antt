-- The answer of GET as it is sent: bytes in place of a value.
use Rattle.std.specs.Prelude.{◌≡◌, ◌⊎◌, ℕ, ◌++◌, Bool, true, List, Option, Result, Ok, Err}
use Rattle.dlms_data.specs.Spelling.{IsSpelling}
use Rattle.dlms_data.specs.Value.{Value, Values}
use Rattle.dlms_data.specs.Writing.{canonical, all_canonical}
use Rattle.dlms_data.specs.declared.descriptor.Descriptor.{Descriptor}
use Rattle.dlms_frame.specs.declared.client.Client.{Client}
use Rattle.dlms_profile.specs.Rows.{is_between}
use Rattle.dlms_profile.specs.declared.rows.Row.{Row}
use Rattle.dlms_state.specs.declared.event.Event.{Event}
use Rattle.dlms_state.specs.StateValue.{StateValue, state_of}
use Rattle.dlms_classes.specs.declared.access.AccessResult.{AccessResult}
use Rattle.dlms_classes.specs.declared.access.AccessResult.TheVariants.{TemporaryFailure}
use Rattle.dlms_classes.specs.declared.choosing.Choice.{Choice}
use Rattle.dlms_classes.specs.declared.choosing.Choice.TheVariants.{Whole, Between, Cut}
use Rattle.dlms_classes.specs.Answer.{Wanted, wanted, IsShown, IsGranted, IsSendable}
use Rattle.dlms_classes.specs.Choice.{Selection}
use Rattle.dlms_classes.specs.Shown.{Match}

-- ---- the answer

-- the bytes spell the value that shows what is wanted of a state, and canonically
pub record Encodes (s : StateValue) (client : Client) (d : Descriptor)
    (w : Result Wanted AccessResult) (bytes : List ℕ) : Type 0 where
  pub value : Value
  pub shown : IsShown s client d w (Ok value)
  pub sendable : IsSendable value
  pub spelled : IsSpelling bytes value
  pub canonically : bytes ≡ canonical value

-- The request is refused; or memory is, which every encoding takes.
abbrev pub IsRefused : StateValue → Client → Descriptor → Result Wanted AccessResult → AccessResult
    → Type 0
IsRefused s client d w r = IsShown s client d w (Err r)
    ⊎ (IsGranted s.columns w × (r ≡ TemporaryFailure))

-- the same after a list of events
abbrev pub EncodesAfter : List Event → Client → Descriptor → Option Selection → List ℕ → Type 0
EncodesAfter E client d selection bytes =
    Encodes (state_of E) client d (wanted client d selection) bytes

abbrev pub IsRefusedAfter : List Event → Client → Descriptor → Option Selection → AccessResult
    → Type 0
IsRefusedAfter E client d selection r =
    IsRefused (state_of E) client d (wanted client d selection) r

-- ---- its parts, for private functions alone

-- what is appended spells a value of which this holds
abbrev pub IsPut : (Value → Type 0) → (old new : List ℕ) → Type 0
IsPut P old new = (v : Value) × P v × (new ≡ old ++ canonical v)

-- what is appended spells values that show elements, one after the other
abbrev pub ArePut : {X : Type 0} → (X → Value → Type 0) → List X → (old new : List ℕ) → Type 0
ArePut R xs old new = (vs : Values) × Match R xs vs × (new ≡ old ++ all_canonical vs)

-- the row is in the selected range; each one is if no range is selected
abbrev pub chooses : Choice → Row → Bool
chooses (Between place from to) row = is_between place from to row
chooses Whole row = true
chooses (Cut first last first_col last_col) row = true
