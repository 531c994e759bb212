-- What GET shows is one answer, and nothing refuses what a value shows.
use Rattle.std.proofs.Common.{◌≡◌, ◌∙◌, sym, ap, Option, Result, Ok, Err}
use Rattle.dlms_data.specs.Value.{Value}
use Rattle.dlms_data.specs.declared.descriptor.Descriptor.{Descriptor}
use Rattle.dlms_frame.specs.declared.client.Client.{Client}
use Rattle.dlms_state.specs.StateValue.{StateValue}
use Rattle.dlms_classes.specs.Answer.{Wanted, wanted, IsShown, IsGranted}
use Rattle.dlms_classes.specs.Choice.{Selection}
use Rattle.dlms_classes.specs.Shown.{shown}
use Rattle.dlms_classes.specs.declared.access.AccessResult.{AccessResult}
use Rattle.dlms_classes.proofs.OneValue.{one_value}

shown_once_of : (s : StateValue) (client : Client) (d : Descriptor) (w : Wanted) (x y : Result Value AccessResult)
    → IsShown s client d (Ok w) x → IsShown s client d (Ok w) y → x ≡ y
shown_once_of s client d w (Ok v) (Ok u) h k = ap Ok (one_value (shown s client d w.part w.content) v u h.1 k.1)
shown_once_of s client d w (Ok v) (Err r) h k = absurd (k.1 h.0)
shown_once_of s client d w (Err q) (Ok u) h k = absurd (h.1 k.0)
shown_once_of s client d w (Err q) (Err r) h k = ap Err (h.0 ∙ sym k.0)

shown_once_for : (s : StateValue) (client : Client) (d : Descriptor) (want : Result Wanted AccessResult) (x y : Result Value AccessResult)
    → IsShown s client d want x → IsShown s client d want y → x ≡ y
shown_once_for s client d (Err r) x y h k = h ∙ sym k
shown_once_for s client d (Ok w) x y h k = shown_once_of s client d w x y h k

pub shown_once : (s : StateValue) (client : Client) (d : Descriptor) (selection : Option Selection) (x y : Result Value AccessResult)
    → IsShown s client d (wanted client d selection) x → IsShown s client d (wanted client d selection) y → x ≡ y
shown_once s client d selection x y h k = shown_once_for s client d (wanted client d selection) x y h k

granted_for : (s : StateValue) (client : Client) (d : Descriptor) (want : Result Wanted AccessResult) (v : Value) → IsShown s client d want (Ok v) → IsGranted s.columns want
granted_for s client d (Err r) v h = absurd cc
granted_for s client d (Ok w) v h = h.0

-- what a value shows is refused by nothing
pub granted : (s : StateValue) (client : Client) (d : Descriptor) (selection : Option Selection) (v : Value)
    → IsShown s client d (wanted client d selection) (Ok v) → IsGranted s.columns (wanted client d selection)
granted s client d selection v h = granted_for s client d (wanted client d selection) v h
