use Rattle.dlms_classes.specs.Listing.{listed}
use Rattle.dlms_classes.specs.Table.{entry_of}
use Rattle.dlms_classes.proofs.Listed.{mapped_more}
use Rattle.dlms_classes.proofs.listing.object_list.Goals as goal

pub loop-object-preserved : goal.loop-object-preserved
loop-object-preserved g c =
    mapped_more (listed c.args.client) entry_of _ c.loop-object.object-index _ c.loop-object.items c.push.new.self _ c.loop-object-test.true c.in_ok-push.ensures.ok c.in_ok-listed.ensures c.loop-object.invariant
