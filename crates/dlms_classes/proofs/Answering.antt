-- The answer of GET, step by step.
use Rattle.std.proofs.Common.{◌≡◌, refl, sym, ap, subst, ℕ, ◌≤◌, List, [], length, Option, None, Result, Ok, Err}
use Rattle.dlms_data.specs.Value.{Value}
use Rattle.dlms_data.specs.Writing.{canonical}
use Rattle.dlms_data.proofs.Written.{spelled_behind}
use Rattle.dlms_data.specs.declared.data.Data.{Data}
use Rattle.dlms_data.specs.declared.descriptor.Descriptor.{Descriptor}
use Rattle.dlms_data.specs.View.{value_of}
use Rattle.dlms_frame.specs.declared.client.Client.{Client}
use Rattle.dlms_state.specs.StateValue.{StateValue, FitsTypes, HasEvents}
use Rattle.dlms_state.proofs.Types.{FitsTypes-legal}
use Rattle.dlms_classes.specs.declared.access.AccessResult.{AccessResult}
use Rattle.dlms_classes.specs.declared.access.AccessResult.TheVariants.{TemporaryFailure}
use Rattle.dlms_classes.specs.declared.choosing.Choice.{Choice}
use Rattle.dlms_classes.specs.declared.choosing.Choice.TheVariants.{Whole, Between, Cut}
use Rattle.dlms_classes.specs.declared.table.Attribute.{Attribute}
use Rattle.dlms_classes.specs.declared.table.Content.{Content}
use Rattle.dlms_classes.specs.Access.{◌>>=◌, readable}
use Rattle.dlms_classes.specs.Answer.{IsAnswer, IsGranted, IsSendable, IsShown, NeedsMemory, Wanted, most_bytes, wanted}
use Rattle.dlms_classes.specs.Encoded.{Encodes, IsPut}
use Rattle.dlms_classes.proofs.Sendable.{can_be_sent}
use Rattle.dlms_classes.specs.Choice.{Selection, part_of, Picks, HasPart, IsProper, IsChoice}
use Rattle.dlms_classes.specs.Shown.{Part, whole, between, cut, Shows, shown, TakesMemory}

abbrev err_of : {X : Type 0} → Result X AccessResult → AccessResult
err_of (Ok x) = TemporaryFailure
err_of (Err r) = r

-- a part that was picked is there
has_part : (columns : List ℕ) (p : Part) (choice : Choice) → Picks columns p choice → IsProper columns choice → HasPart columns p
has_part columns whole choice h proper = tt
has_part columns (between first last) (Between place from to) h proper = record { place = place; is_column = h.0; from = from; to = to; names_from = h.1; names_to = h.2 }
has_part columns (between first last) Whole h proper = absurd h
has_part columns (between first last) (Cut a b c d) h proper = absurd h
has_part columns (cut first last first_col last_col) Whole h proper = absurd cc
has_part columns (cut first last first_col last_col) (Between place from to) h proper = absurd cc
has_part columns (cut first last first_col last_col) (Cut a b c d) h proper = (subst (IsProper columns) h proper).2

abbrev pub told : Content → Result Part AccessResult → Result Wanted AccessResult
told content parts = parts >>= λ p. Ok (record { content = content; part = p })

refused_at : (s : StateValue) (client : Client) (d : Descriptor) (content : Content) (parts : Result Part AccessResult) (r : AccessResult) → IsChoice s.columns parts (Err r)
    → IsShown s client d (told content parts) (Err r)
refused_at s client d content (Err q) r h = ap Err (ap err_of h)
refused_at s client d content (Ok p) r h = h

lacking_at : (s : StateValue) (content : Content) (parts : Result Part AccessResult) (choice : Choice) → IsChoice s.columns parts (Ok choice) → IsProper s.columns choice
    → ((p : Part) → Picks s.columns p choice → TakesMemory s p content) → NeedsMemory s (told content parts)
lacking_at s content (Err q) choice h proper takes = absurd cc
lacking_at s content (Ok p) choice h proper takes = (has_part s.columns p choice h proper, takes p h)

showing_at : {A : Type 0} (s : StateValue) (client : Client) (d : Descriptor) (content : Content) (parts : Result Part AccessResult) (choice : Choice) (v : Data A) → IsChoice s.columns parts (Ok choice)
    → IsProper s.columns choice → ((p : Part) → Picks s.columns p choice → Shows (shown s client d p content) (value_of v)) → IsAnswer s client d (told content parts) (Ok v)
showing_at s client d content (Err q) choice v h proper shows = absurd cc
showing_at s client d content (Ok p) choice v h proper shows = (has_part s.columns p choice h proper, shows p h)

-- refused for its selector
pub refused : (s : StateValue) (client : Client) (d : Descriptor) (selection : Option Selection) (a : Attribute) (r : AccessResult) → Ok a ≡ readable client d
    → IsChoice s.columns (part_of a.content selection) (Err r) → IsShown s client d (wanted client d selection) (Err r)
refused s client d selection a r e h = rw (← e) (refused_at s client d a.content (part_of a.content selection) r h)

-- refused for want of memory
pub lacking : (s : StateValue) (client : Client) (d : Descriptor) (selection : Option Selection) (a : Attribute) (choice : Choice) → Ok a ≡ readable client d
    → IsChoice s.columns (part_of a.content selection) (Ok choice) → IsProper s.columns choice → ((p : Part) → Picks s.columns p choice → TakesMemory s p a.content) → NeedsMemory s (wanted client d selection)
lacking s client d selection a choice e h proper takes = rw (← e) (lacking_at s a.content (part_of a.content selection) choice h proper takes)

-- answered by a value
pub showing : {A : Type 0} (s : StateValue) (client : Client) (d : Descriptor) (selection : Option Selection) (a : Attribute) (choice : Choice) (v : Data A) → Ok a ≡ readable client d
    → IsChoice s.columns (part_of a.content selection) (Ok choice) → IsProper s.columns choice → ((p : Part) → Picks s.columns p choice → Shows (shown s client d p a.content) (value_of v))
    → IsAnswer s client d (wanted client d selection) (Ok v)
showing s client d selection a choice v e h proper shows = rw (← e) (showing_at s client d a.content (part_of a.content selection) choice v h proper shows)

-- ---- the answer as bytes

granted_at : (columns : List ℕ) (content : Content) (parts : Result Part AccessResult) (choice : Choice) → IsChoice columns parts (Ok choice) → IsProper columns choice → IsGranted columns (told content parts)
granted_at columns content (Err q) choice h proper = absurd cc
granted_at columns content (Ok p) choice h proper = has_part columns p choice h proper

-- nothing refused it
pub granted_by : (columns : List ℕ) (client : Client) (d : Descriptor) (selection : Option Selection) (a : Attribute) (choice : Choice) → Ok a ≡ readable client d
    → IsChoice columns (part_of a.content selection) (Ok choice) → IsProper columns choice → IsGranted columns (wanted client d selection)
granted_by columns client d selection a choice e h proper = rw (← e) (granted_at columns a.content (part_of a.content selection) choice h proper)

spelled_at : (s : StateValue) (client : Client) (d : Descriptor) (content : Content) (parts : Result Part AccessResult) (choice : Choice) (bytes : List ℕ) → IsChoice s.columns parts (Ok choice)
    → IsProper s.columns choice → ((p : Part) → Picks s.columns p choice → IsPut (Shows (shown s client d p content)) [] bytes)
    → (v : Value) × IsShown s client d (told content parts) (Ok v) × (bytes ≡ canonical v)
spelled_at s client d content (Err q) choice bytes h proper puts = absurd cc
spelled_at s client d content (Ok p) choice bytes h proper puts = let put = puts p h in (put.0, (has_part s.columns p choice h proper, put.1), put.2)

spelled_by : (s : StateValue) (client : Client) (d : Descriptor) (selection : Option Selection) (a : Attribute) (choice : Choice) (bytes : List ℕ) → Ok a ≡ readable client d
    → IsChoice s.columns (part_of a.content selection) (Ok choice) → IsProper s.columns choice → ((p : Part) → Picks s.columns p choice → IsPut (Shows (shown s client d p a.content)) [] bytes)
    → (v : Value) × IsShown s client d (wanted client d selection) (Ok v) × (bytes ≡ canonical v)
spelled_by s client d selection a choice bytes e h proper puts = rw (← e) (spelled_at s client d a.content (part_of a.content selection) choice bytes h proper puts)

-- answered by bytes
pub encoding : (s : StateValue) (client : Client) (d : Descriptor) (selection : Option Selection) (a : Attribute) (choice : Choice) (bytes : List ℕ) → HasEvents s → Ok a ≡ readable client d
    → IsChoice s.columns (part_of a.content selection) (Ok choice) → IsProper s.columns choice → ((p : Part) → Picks s.columns p choice → IsPut (Shows (shown s client d p a.content)) [] bytes)
    → Encodes s client d (wanted client d selection) bytes
encoding s client d selection a choice bytes has e h proper puts =
    let (v, is_shown, is) = spelled_by s client d selection a choice bytes e h proper puts in
    let sends = can_be_sent s client d selection v has is_shown in
    record { value = v; shown = is_shown; sendable = sends; spelled = spelled_behind v [] bytes sends.fits refl is; canonically = is }

-- of an attribute all may be sent
pub all_sendable : (s : StateValue) (client : Client) (d : Descriptor) (a : Attribute) (v : Value) → HasEvents s → Ok a ≡ readable client d → Shows (shown s client d whole a.content) v → IsSendable v
all_sendable s client d a v has e h =
    let is_shown : IsShown s client d (wanted client d None) (Ok v) = rw (← e) (tt, h) in
    can_be_sent s client d None v has is_shown

pub few_columns : (s : StateValue) → HasEvents s → length s.columns ≤ 4
few_columns s has =
    let fits : FitsTypes s = subst FitsTypes (sym has.state.value) (FitsTypes-legal has.events has.state.legal) in
    fits.columns.count

pub short_encoding : (s : StateValue) (client : Client) (d : Descriptor) (w : Result Wanted AccessResult) (bytes : List ℕ) → Encodes s client d w bytes → length bytes ≤ most_bytes
short_encoding s client d w bytes h = subst (λ (l : List ℕ). length l ≤ most_bytes) (sym h.canonically) h.sendable.size
