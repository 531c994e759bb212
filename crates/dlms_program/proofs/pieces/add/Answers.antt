use Rattle.std.proofs.Common.{rules, arith, refl, ◌-◌, take, length-take-le}
use Rattle.dlms_program.proofs.PieceLemmas.{first_other, no_feed_less}
use Rattle.dlms_program.proofs.pieces.add.Goals as goal

pub returns-then-room-eq0-clause-piece : goal.returns-then-room-eq0-clause-piece
returns-then-room-eq0-clause-piece c =
    let first = first_other c.args.shown.now c.before_feed-count.result (omega arith) c.before_feed-count.ensures.within c.before_feed-count.ensures.none in
    (first.0, first.1, first.2, refl, search rules)

pub returns-clause-piece : goal.returns-clause-piece
returns-clause-piece c =
    let room = 8192 - c.len-room.result in (
      take room c.args.shown.now,
      no_feed_less c.args.shown.now room c.before_feed-count.result (omega arith) c.before_feed-count.ensures.none,
      omega (arith, length-take-le room c.args.shown.now (omega arith)),
      refl,
      search rules,
    )
