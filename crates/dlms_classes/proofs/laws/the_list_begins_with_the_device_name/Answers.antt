use Rattle.std.proofs.Common.{refl}
use Rattle.dlms_data.specs.Writing.{short_length}
use Rattle.dlms_classes.specs.Listing.{object_list}
use Rattle.dlms_classes.proofs.laws.the_list_begins_with_the_device_name.Goals as goal

pub returns-clause-public : goal.returns-clause-public
unfolding object_list short_length
returns-clause-public c = refl

pub returns-clause-management : goal.returns-clause-management
unfolding object_list short_length
returns-clause-management c = refl

pub returns-clause-reader : goal.returns-clause-reader
unfolding object_list short_length
returns-clause-reader c = refl
