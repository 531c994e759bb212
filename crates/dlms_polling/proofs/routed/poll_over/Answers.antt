use Rattle.std.proofs.Common.{subst, Bool, Ok, option_map}
use Rattle.dlms_headend.specs.CarrierPollValue.{terms_of}
use Rattle.dlms_polling.specs.Doing.{PollsUntil}
use Rattle.dlms_polling.proofs.RoutedLemmas.{until_done}
use Rattle.dlms_polling.proofs.routed.poll_over.Goals as goal

pub returns-in-Ok-true-clause-done : goal.returns-in-Ok-true-clause-done
returns-in-Ok-true-clause-done g c =
    until_done c.args.seconds _ _ _ _ c.args.route (terms_of c.args.terms) (option_map (λ kept. kept.value) c.args.guard) c.poll_until-told.new.oldest c.in-Ok.poll c.poll_until-told.new.poll c.in-Ok.ensures.is_new
    (subst (λ (b : Bool). PollsUntil c.args.seconds (g.S.End.past c.args.line.now) (g.S.End.past c.poll_until-told.new.line) (g.T.Timer.seen c.args.timer.now) (g.T.Timer.seen c.poll_until-told.new.timer) c.in-Ok.poll (Ok b) c.poll_until-told.new.oldest c.poll_until-told.new.poll) c.in-Ok-true.field-0-test c.in-Ok-true.ensures)
