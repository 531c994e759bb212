-- What GET shows, whole or in blocks.
use Rattle.std.specs.Prelude.{◌≡◌, ℕ, ◌+◌, ◌-◌, nat_le, if◌then◌else◌, List, length, Option, Some, None, option_map, Result, Ok, Err}
use Rattle.dlms_blocks.specs.Block.{BlockValue}
use Rattle.dlms_blocks.specs.Going.{Going, beginning, answer, after}
use Rattle.dlms_data.specs.Value.{Value, null}
use Rattle.dlms_data.specs.Writing.{canonical}
use Rattle.dlms_data.specs.declared.descriptor.Descriptor.{Descriptor}
use Rattle.dlms_apdu.specs.Forms.{ResponseForm, get_data, get_result, get_block, get_block_result}
use Rattle.dlms_apdu.specs.Forms as apdu
use Rattle.dlms_state.specs.declared.event.Event.{Event}
use Rattle.dlms_state.specs.StateValue.{state_of}
use Rattle.dlms_frame.specs.declared.client.Client.{Client}
use Rattle.dlms_classes.specs.declared.access.AccessResult.{AccessResult}
use Rattle.dlms_classes.specs.declared.access.AccessResult.TheVariants.{OtherReason}
use Rattle.dlms_classes.specs.Access.{number_of}
use Rattle.dlms_classes.specs.Answer.{Wanted, wanted, IsShown, IsSendable}
use Rattle.dlms_classes.specs.Choice.{Selection}
use Rattle.dlms_service.specs.declared.association.Association.{Association}
use Rattle.dlms_service.specs.Session.{SessionValue, Outcome, says, without_get, has, blocks_with_get, selective_access}
use Rattle.dlms_blocks.specs.declared.block.TheConstants.{NO_LONG_GET}
use Rattle.dlms_blocks.specs.declared.get_out.TheConstants.{GET_HEAD}

-- a selector, as the objects see it
abbrev pub selection : apdu.Selection → Selection
selection s = record { number = s.number; value = s.value }

-- without selective access each selector is one that no attribute takes
abbrev pub no_selection : Selection
no_selection = record { number = 0; value = null }

abbrev pub seen : Association → Option apdu.Selection → Option Selection
seen a selector = if has a selective_access then option_map selection selector
    else option_map (λ s. no_selection) selector

-- what a GET asks for, or the first refusal that fits
abbrev pub asked : Client → Association → Descriptor → Option apdu.Selection
    → Result Wanted AccessResult
asked client a d selector = wanted client d (seen a selector)

-- a block in an answer, or the result that ends the transfer
abbrev pub block_form : ℕ → ℕ → Result BlockValue ℕ → ResponseForm
block_form invoke number (Ok b) = get_block invoke b.last b.number b.bytes
block_form invoke number (Err code) = get_block_result invoke number code

-- the first block of an encoding
abbrev pub in_blocks : SessionValue → Association → ℕ → List ℕ → Outcome
in_blocks s a invoke encoding =
    let transfer = beginning encoding (a.size - GET_HEAD) in
    says (record s { getting = Some (after transfer 0) }) (block_form invoke 0 (answer transfer 0))

-- An answer that fits the client's size goes whole; a longer one in blocks, where both ends have them.
abbrev pub sent : SessionValue → Association → ℕ → Value → Outcome
sent s a invoke v =
    if nat_le (4 + length (canonical v)) a.size then says s (get_data invoke v)
    else if has a blocks_with_get then in_blocks s a invoke (canonical v)
    else says s (get_result invoke (number_of OtherReason))

-- The value has a spelling, no longer than that of the full buffer, and is sent.
abbrev pub Sends : SessionValue → Association → ℕ → Value → Outcome → Type 0
Sends s a invoke v o = IsSendable v × (o ≡ sent s a invoke v)

abbrev pub Gives : SessionValue → Association → ℕ → Result Value AccessResult → Outcome → Type 0
Gives s a invoke (Err r) o = o ≡ says s (get_result invoke (number_of r))
Gives s a invoke (Ok v) o = Sends s a invoke v o

-- GET of an attribute after these events. It drops the value that goes out, whatever it is answered.
abbrev pub Gets : List Event → SessionValue → Association → ℕ → Descriptor → Option apdu.Selection
    → Outcome → Type 0
Gets E s a invoke d selector o =
    (result : Result Value AccessResult)
    × IsShown (state_of E) s.client d (asked s.client a d selector) result
    × Gives (without_get s) a invoke result o

-- GET of the next block; if no value is going out, the result for a get that is not in progress
abbrev pub next_answer : Option Going → ℕ → Result BlockValue ℕ
next_answer None number = Err NO_LONG_GET
next_answer (Some g) number = answer g number

abbrev pub next_after : Option Going → ℕ → Option Going
next_after None number = None
next_after (Some g) number = Some (after g number)

abbrev pub goes_on : SessionValue → ℕ → ℕ → Outcome
goes_on s invoke number = says (record s { getting = next_after s.getting number })
    (block_form invoke number (next_answer s.getting number))
