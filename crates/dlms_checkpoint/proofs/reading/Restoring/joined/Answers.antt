use Rattle.std.proofs.Common.{◌≡◌, ◌∙◌, List, ℕ, ap, sym, subst, length, arith}
use Rattle.dlms_state.specs.StateValue.{StateValue}
use Rattle.dlms_checkpoint.specs.Bodies.{awaited}
use Rattle.dlms_checkpoint.specs.Layouts.{IsCheckpointOf, as_present}
use Rattle.dlms_checkpoint.specs.Reading.{HasHead, Taken}
use Rattle.dlms_checkpoint.specs.declared.version.Version.TheVariants.{Columns}
use Rattle.dlms_checkpoint.proofs.Bodies.{held_bytes}
use Rattle.dlms_checkpoint.proofs.Filled.{all_there}
use Rattle.dlms_checkpoint.proofs.reading.Restoring.joined.Goals as goal

pub present_of-bytes-requires-clause-long : goal.present_of-bytes-requires-clause-long
present_of-bytes-requires-clause-long c =
    omega (arith, (held_bytes c.self.inside.version c.self.inside.bytes.items c.self.invariant).long, ap length c.as_slice.ensures.value)

pub present_of-bytes-requires-clause-room : goal.present_of-bytes-requires-clause-room
present_of-bytes-requires-clause-room c =
    omega (arith, (held_bytes c.self.inside.version c.self.inside.bytes.items c.self.invariant).room, ap length c.as_slice.ensures.value)

pub invariant_of-result : goal.invariant_of-result
invariant_of-result c =
    let bytes = c.present_of-bytes.result.items in
    let same : bytes ≡ as_present c.self.inside.version c.self.inside.bytes.items = c.present_of-bytes.ensures ∙ ap (as_present c.self.inside.version) c.as_slice.ensures.value in
    let has : HasHead bytes = subst HasHead (sym same) c.self.invariant in
    let none : awaited bytes ≡ 0 = ap awaited same ∙ ap (λ (t : Taken). awaited (as_present t.version t.bytes)) c.self.view_is ∙ c.requires in
    let told : (s : StateValue) × IsCheckpointOf Columns s bytes = subst (λ (l : List ℕ). (s : StateValue) × IsCheckpointOf Columns s l) c.as_slice-2.ensures.value (c.are_spelled.ensures.yes c.if-not-are_spelled.false) in
    record { head = has; all = all_there bytes has none; spelled = told }
