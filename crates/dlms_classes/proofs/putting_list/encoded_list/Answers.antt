use Rattle.std.proofs.Common.{◌∷◌, refl}
use Rattle.dlms_data.specs.Writing.{short_length}
use Rattle.dlms_classes.specs.Listing.{listed}
use Rattle.dlms_classes.specs.Table.{entry_of}
use Rattle.dlms_classes.proofs.Appending.{mapped_put, list_put}
use Rattle.dlms_classes.proofs.putting_list.encoded_list.Goals as goal

pub loop-object-preserved : goal.loop-object-preserved
loop-object-preserved g c =
    mapped_put (listed c.args.client) entry_of _ c.loop-object.object-index _ (1 ∷ short_length 9) c.loop-object.out.items c.put_object.new.out.items c.loop-object-test.true c.loop-object.invariant c.in_ok-put_object.ensures

pub returns : goal.returns
returns g c = list_put c.args.client _ c.loop-object.object-index c.loop-object.out.items c.loop-object-test.false refl c.loop-object.invariant
