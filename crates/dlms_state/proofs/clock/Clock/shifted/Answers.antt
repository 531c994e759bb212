use Rattle.std.proofs.Common.{◌≡◌, ◌+ℤ◌, ◌≤ℤ◌, pos, to_z, of_z, w16, arith}
use Rattle.std.proofs.lemmas.Int.{ints, to_z-of_z}
use Rattle.dlms_state.proofs.Shifts.{shift_keeps_range}
use Rattle.dlms_state.proofs.clock.Clock.shifted.Goals as goal
use Rattle.dlms_state.specs.declared.event.TheConstants.{LAST_SECOND}

pub returns-clause-in_range : goal.returns-clause-in_range
returns-clause-in_range c =
    let by : to_z w16 (of_z w16 c.args.by) ≡ c.args.by = to_z-of_z w16 c.args.by c.ranges.by in
    let fits = shift_keeps_range c.args.self.last c.args.self.offset c.args.by c.requires.passes in
    let low : pos 0 ≤ℤ (pos c.args.self.last +ℤ (c.args.self.offset +ℤ c.args.by)) = fits.0 in
    let high : (pos c.args.self.last +ℤ (c.args.self.offset +ℤ c.args.by)) ≤ℤ pos LAST_SECOND = fits.1 in
    record { not_before = omega (arith, ints, c.from.ensures); not_after = omega (arith, ints, c.from.ensures) }
