use Rattle.dlms_world.proofs.PollCallsAreTurns.{new_is_first, next_is_turn, on_is_turn, timeout_is_turn}
use Rattle.dlms_world.proofs.Renewed.{new_is_turn, merge_is_turn}
use Rattle.dlms_world.proofs.laws.calls_are_turns.Goals as goal

pub returns : goal.returns
returns c = record { new = new_is_first; again = new_is_turn; next = next_is_turn; on = on_is_turn; timeout = timeout_is_turn; merge = merge_is_turn }
