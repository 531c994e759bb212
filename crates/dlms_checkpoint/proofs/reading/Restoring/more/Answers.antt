use Rattle.std.proofs.Common.{◌≡◌, ◌∙◌, List, ℕ, ap, sym, subst, length, arith}
use Rattle.dlms_checkpoint.specs.Bodies.{awaited}
use Rattle.dlms_checkpoint.specs.Layouts.{as_present}
use Rattle.dlms_checkpoint.specs.Reading.{HasHead, Taken}
use Rattle.dlms_checkpoint.proofs.Bodies.{more_room, grown_present}
use Rattle.dlms_checkpoint.proofs.reading.Restoring.more.Goals as goal

pub append-requires : goal.append-requires
append-requires c =
    let long : length c.args.body.now ≡ awaited (as_present c.self.inside.version c.self.inside.bytes.items) =
    c.if-body-awaited.false ∙ c.awaited.ensures ∙ ap (λ (t : Taken). awaited (as_present t.version t.bytes)) (sym c.self.view_is) in
    (omega arith, omega (arith, more_room c.self.inside.version c.self.inside.bytes.items c.args.body.now c.self.invariant long))

pub invariant_of-self : goal.invariant_of-self
invariant_of-self c =
    let long : length c.args.body.now ≡ awaited (as_present c.self.inside.version c.self.inside.bytes.items) =
    c.if-body-awaited.false ∙ c.awaited.ensures ∙ ap (λ (t : Taken). awaited (as_present t.version t.bytes)) (sym c.self.view_is) in
    subst (λ (l : List ℕ). HasHead (as_present c.self.inside.version l)) (sym c.append.ensures.items)
    (grown_present c.self.inside.version c.self.inside.bytes.items c.args.body.now c.self.invariant long)
