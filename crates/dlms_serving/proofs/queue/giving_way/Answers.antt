use Rattle.std.proofs.Common.{◌≡◌, ◌<◌, ◌≤◌, ◌+◌, arith, subst, Option, Some, None, true, false, sym, ◌∙◌}
use Rattle.dlms_serving.specs.Queue.{IsMost, NobodyWaits, NotTaken, OfUnknown, ServedLast, rounds_of}
use Rattle.dlms_serving.specs.Guesses.{is_known}
use Rattle.dlms_serving.specs.declared.queue.Found.{Found}
use Rattle.dlms_serving.specs.declared.queue.Place.{Place}
use Rattle.dlms_serving.proofs.QueueLemmas.{none_wait}
use Rattle.dlms_serving.proofs.queue.giving_way.Goals as goal

pub returns-then-round-saturating_sub : goal.returns-then-round-saturating_sub
returns-then-round-saturating_sub c =
    let most : IsMost (rounds_of c.args.places.now) (Some c.in-Some.found) = subst (λ (o : Option Found). IsMost (rounds_of c.args.places.now) o) c.in-Some.is c.last_served.ensures in
    ServedLast c.in-Some.found most (omega (arith, c.if-round-saturating_sub.true, c.saturating_sub.ensures))

pub returns-then-is_known : goal.returns-then-is_known
returns-then-is_known c =
    let most : IsMost (rounds_of c.args.places.now) (Some c.in-Some.found) = subst (λ (o : Option Found). IsMost (rounds_of c.args.places.now) o) c.in-Some.is c.last_served.ensures in
    let known : is_known c.args.guesses.now.proofs.items c.args.origin c.args.now ≡ true = sym c.is_known.ensures ∙ c.if-is_known.true in
    OfUnknown c.in-Some.found c.last_unknown.result most (omega (arith, c.if-round-saturating_sub.false, c.saturating_sub.ensures)) known c.last_unknown.ensures

pub returns-else-is_known : goal.returns-else-is_known
returns-else-is_known c =
    let most : IsMost (rounds_of c.args.places.now) (Some c.in-Some.found) = subst (λ (o : Option Found). IsMost (rounds_of c.args.places.now) o) c.in-Some.is c.last_served.ensures in
    let known : is_known c.args.guesses.now.proofs.items c.args.origin c.args.now ≡ false = sym c.is_known.ensures ∙ c.if-is_known.false in
    NotTaken c.in-Some.found most (omega (arith, c.if-round-saturating_sub.false, c.saturating_sub.ensures)) known

pub returns-in-None : goal.returns-in-None
returns-in-None c =
    let most : IsMost (rounds_of c.args.places.now) None = subst (λ (o : Option Found). IsMost (rounds_of c.args.places.now) o) c.in-None.is c.last_served.ensures in
    NobodyWaits (none_wait (λ (place : Place). place.round) c.args.places.now most)
