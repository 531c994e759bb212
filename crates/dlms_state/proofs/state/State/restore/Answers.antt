use Rattle.std.proofs.Common.{◌≡◌, ℤ, Bool, true, false, SFits, w64, rules}
use Rattle.std.proofs.lemmas.Int.{to_z-of_z}
use Rattle.dlms_profile.specs.Rows.{RowsValue}
use Rattle.dlms_state.specs.StateValue.{StateValue, IsWithinLimits}
use Rattle.dlms_state.proofs.state.State.restore.Goals as goal

was_false : (b : Bool) → b ≡ false → b ≡ true → ⊥
was_false b off on = absurd (cc (off, on))

-- the same state, by parts that are the same
as_well : (s : StateValue) (offset : ℤ) (rows : RowsValue) → offset ≡ s.offset → rows ≡ s.rows → IsWithinLimits s → IsWithinLimits (record s { offset = offset; rows = rows })
as_well s offset rows same also within = rw (same, also) within

pub returns-then-not-are_within_limits-clause-limits :
    goal.returns-then-not-are_within_limits-clause-limits
returns-then-not-are_within_limits-clause-limits g c within e =
    was_false c.are_within_limits.result c.if-not-are_within_limits.true ((c.are_within_limits.ensures c.args.first).1 within)

pub returns-in_default-clause-within : goal.returns-in_default-clause-within
returns-in_default-clause-within g c e = (c.are_within_limits.ensures c.args.first).0 c.if-not-are_within_limits.false

pub invariant_of-state : goal.invariant_of-state
invariant_of-state g c =
    let small : SFits w64 c.args.parts.offset = search rules in
    as_well _ _ c.in-Ok.rows (to_z-of_z w64 c.args.parts.offset small) c.in-Ok.ensures ((c.are_within_limits.ensures c.args.first).0 c.if-not-are_within_limits.false)

pub returns-clause-within : goal.returns-clause-within
returns-clause-within g c e = (c.are_within_limits.ensures c.args.first).0 c.if-not-are_within_limits.false
