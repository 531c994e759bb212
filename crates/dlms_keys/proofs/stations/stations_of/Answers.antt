use Rattle.dlms_keys.proofs.Says.{says_more, refused_at}
use Rattle.dlms_keys.proofs.stations.stations_of.Goals as goal

pub returns-in-Err : goal.returns-in-Err
returns-in-Err c =
    refused_at c.args.values.now c.loop-i.i c.index-values-i.result c.in-Err.fault c.loop-i-test.true c.index-values-i.is c.in-Err.ensures

pub loop-i-preserved : goal.loop-i-preserved
loop-i-preserved c =
    rw c.in-Ok-push.ensures.items
    (says_more c.args.values.now c.loop-i.i c.index-values-i.result c.loop-i.stations.items c.in-Ok.station c.loop-i-test.true c.index-values-i.is c.loop-i.invariant c.in-Ok.ensures)
