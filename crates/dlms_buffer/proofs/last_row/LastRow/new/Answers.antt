use Rattle.std.proofs.Common.{◌≡◌, ℕ, List, [], ◌∷◌, ◌++◌, map, length, replicate, sym, ◌∙◌, ap, arith, refl}
use Rattle.std.proofs.lemmas.List.{map-append, length-map, length-replicate}
use Rattle.dlms_values.specs.Value.{null}
use Rattle.dlms_buffer.specs.View.{Shown, cell_view}
use Rattle.dlms_buffer.proofs.Stepping.{shows-none, replicate-more}
use Rattle.dlms_buffer.proofs.last_row.LastRow.new.Goals as goal

pub loop-init : goal.loop-init
loop-init g c = rw c.in_ok-cells.ensures.items refl

pub loop-preserved : goal.loop-preserved
loop-preserved g c =
    rw (c.in_ok-push.ensures.items, map-append cell_view c.loop.cells.items (_ ∷ []), c.loop.invariant) (replicate-more c.loop.counter (null, 0))

pub returns : goal.returns
returns g c =
    let n : c.loop.counter ≡ c.args.width = omega arith in
    let many : length c.loop.cells.items ≡ c.args.width =
    omega (arith, length-map c.loop.cells.items cell_view, ap length c.loop.invariant, length-replicate {A = Shown} c.loop.counter (null, 0)) in
    (many, shows-none (map cell_view c.loop.cells.items) c.loop.counter c.loop.invariant)
