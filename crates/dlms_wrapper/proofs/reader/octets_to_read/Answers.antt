use Rattle.std.proofs.Common.{◌<◌, ◌+◌, ◌-◌, arith, length, refl, sym, subst}
use Rattle.dlms_wrapper.specs.Stream.{StopsAt}
use Rattle.dlms_wrapper.proofs.HeaderLemmas.{no_message_short, stops_at}
use Rattle.dlms_wrapper.proofs.reader.octets_to_read.Goals as goal

short : (c : goal.After-from) → length c.args.kept.now < 8 + c.from.result
short c =
    let less = no_message_short c.args.limit c.args.kept.now c.in-Some.header c.requires.open c.in-Some.ensures.some (c.if-is_accepted.ensures.0 refl) in
    omega (arith, less, c.from.ensures)

pub overflow_sub-result : goal.overflow_sub-result
overflow_sub-result c = omega (arith, short c)

pub returns-then-is_accepted-clause-stops : goal.returns-then-is_accepted-clause-stops
returns-then-is_accepted-clause-stops c =
    subst (λ n. StopsAt c.args.limit c.args.kept.now (8 + n - length c.args.kept.now)) (sym c.from.ensures)
    (stops_at c.args.limit c.args.kept.now c.in-Some.header c.in-Some.ensures.some (omega (arith, short c, c.from.ensures)))

pub returns-then-is_accepted-clause-some : goal.returns-then-is_accepted-clause-some
returns-then-is_accepted-clause-some c = λ open_still. omega (arith, short c)
