use Rattle.std.proofs.Common.{◌≡◌, ◌∙◌, List, ℕ, [], ap}
use Rattle.dlms_state.specs.StateValue.{state_of_parts}
use Rattle.dlms_checkpoint.specs.Bodies.{first_said}
use Rattle.dlms_checkpoint.specs.Reading.{first_page, parts_at}
use Rattle.dlms_checkpoint.proofs.Refilled.{begun, given}
use Rattle.dlms_checkpoint.proofs.reading.Joined.refilling.Goals as goal

pub returns-clause-begun : goal.returns-clause-begun
returns-clause-begun g c =
    let bytes = c.self.inside.bytes.items in
    let first : c.first_of.result ≡ first_said bytes = c.first_of.ensures.value ∙ ap first_said c.as_slice-bytes.ensures.value in
    let parts : state_of_parts c.parts_of.result c.first_of.result ≡ parts_at bytes (first_said bytes) =
    c.parts_of.ensures c.first_of.result ∙ ap (λ (l : List ℕ). parts_at l c.first_of.result) c.as_slice-bytes.ensures.value ∙ ap (parts_at bytes) first in
    begun bytes c.first_page_of-page.result c.ok-state.result c.self.invariant (c.first_page_of-page.ensures ∙ ap first_page c.as_slice-bytes.ensures.value)
    (given c.restore.result c.ok-state.result (state_of_parts c.parts_of.result c.first_of.result) (parts_at bytes (first_said bytes)) c.ok-state.ensures.value c.restore.ensures.ok parts)

pub invariant_of-result : goal.invariant_of-result
invariant_of-result g c = ([], returns-clause-begun g c)
