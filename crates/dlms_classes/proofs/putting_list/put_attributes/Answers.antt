use Rattle.std.proofs.Common.{◌++◌, ◌∷◌, length}
use Rattle.dlms_data.specs.Writing.{short_length}
use Rattle.dlms_classes.specs.Listing.{listed_attribute}
use Rattle.dlms_classes.proofs.Appending.{listed_put, all_listed}
use Rattle.dlms_classes.proofs.putting_list.put_attributes.Goals as goal

pub loop-i-preserved : goal.loop-i-preserved
loop-i-preserved g c =
    listed_put (listed_attribute c.args.client) c.args.attributes.now c.loop-i.i _ (c.args.out.now.items ++ 1 ∷ short_length (length c.args.attributes.now)) c.loop-i.out.items c.put_attribute.new.out.items c.loop-i-test.true
    c.loop-i.invariant c.in_ok-put_attribute.ensures

pub returns : goal.returns
returns g c = all_listed (listed_attribute c.args.client) c.args.attributes.now c.loop-i.i c.args.out.now.items c.loop-i.out.items c.loop-i-test.false c.loop-i.invariant
