use Rattle.std.proofs.Common.{inl}
use Rattle.dlms_loopback.specs.declared.rounds.TheConstants.{SECRET}
use Rattle.dlms_loopback.proofs.RoundLemmas.{loops, prints_none, unlooped}
use Rattle.dlms_loopback.proofs.rounds.loopback.Goals as goal

pub returns-in-Ok-clause-loops : goal.returns-in-Ok-clause-loops
returns-in-Ok-clause-loops g c =
    loops _ _ _ SECRET.now c.args.stops _ _ _ _ (g.O.Output.printed c.args.output.now) (g.O.Output.printed c.print.new.output) c.in-Ok.readings c.print.result c.in-Ok.ensures.polled c.print.ensures

pub returns-in-Err-clause-fails : goal.returns-in-Err-clause-fails
returns-in-Err-clause-fails g c = inl (c.in-Err.ensures.fails, prints_none (g.O.Output.printed c.args.output.now))

pub returns-in-Ok-clause-fails : goal.returns-in-Ok-clause-fails
returns-in-Ok-clause-fails g c =
    unlooped _ _ _ SECRET.now c.args.stops _ _ _ _ (g.O.Output.printed c.args.output.now) (g.O.Output.printed c.print.new.output) c.in-Ok.readings c.print.result c.in-Ok.ensures.polled c.print.ensures
