use Rattle.dlms_classes.specs.Listing.{listed_method}
use Rattle.dlms_classes.proofs.Listed.{listed_more}
use Rattle.dlms_classes.proofs.listing.listed_methods.Goals as goal

pub loop-i-preserved : goal.loop-i-preserved
loop-i-preserved g c =
    listed_more (listed_method c.args.client) c.args.methods.now c.loop-i.i _ c.loop-i.items c.push.new.self _ c.loop-i-test.true c.in_ok-push.ensures.ok c.in_ok-listed_method.ensures c.loop-i.invariant
