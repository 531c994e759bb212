use Rattle.std.proofs.Common.{◌∙◌, rules, arith}
use Rattle.std.specs.Prelude.{IsTrue}
use Rattle.dlms_counters.proofs.CreateLemmas.{begins_put}
use Rattle.dlms_counters.proofs.create.begin.Goals as goal

pub returns-in_err-put-clause-begins : goal.returns-in_err-put-clause-begins
returns-in_err-put-clause-begins g c honest =
    let view = g.P.Pages.view in
    let e = c.in_ok-unused.ensures in
    let unused : IsTrue c.in_ok-unused.unused = first_of (search (rules, c.if-not-unused.false), grind (arith, c.if-not-unused.false)) in
    let puts = c.put.ensures.puts (e.goes.honest ∙ honest) in
    begins_put (view c.args.device.now) (view c.is_unused.new.device) (view c.put.new.device) c.args.first.now c.slot_of-page.result
    (e.spares honest) (e.fixed honest) c.requires.two ((e.unused honest).0 unused) c.slot_of-page.ensures c.requires.turn puts.any_moment puts.after

pub returns-clause-begins : goal.returns-clause-begins
returns-clause-begins g c honest =
    let view = g.P.Pages.view in
    let e = c.in_ok-unused.ensures in
    let unused : IsTrue c.in_ok-unused.unused = first_of (search (rules, c.if-not-unused.false), grind (arith, c.if-not-unused.false)) in
    let puts = c.put.ensures.puts (e.goes.honest ∙ honest) in
    begins_put (view c.args.device.now) (view c.is_unused.new.device) (view c.put.new.device) c.args.first.now c.slot_of-page.result
    (e.spares honest) (e.fixed honest) c.requires.two ((e.unused honest).0 unused) c.slot_of-page.ensures c.requires.turn puts.any_moment puts.after
