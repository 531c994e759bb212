use Rattle.std.proofs.Common.{◌≤◌, List, length, arith}
use Rattle.std.proofs.lemmas.List.{length-drop}
use Rattle.dlms_state.specs.declared.event.Event.{Event}
use Rattle.dlms_state.specs.Events.{kept_after}
use Rattle.dlms_state.proofs.laws.the_buffer_holds_its_capacity.Goals as goal
use Rattle.dlms_profile.specs.declared.rows.TheConstants.{CAPACITY}

buffer_is_short : (E : List Event) → length (kept_after CAPACITY E) ≤ CAPACITY
unfolding kept_after
buffer_is_short E = simp length-drop (omega arith)

pub returns : goal.returns
returns c = buffer_is_short
