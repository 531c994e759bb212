use Rattle.std.proofs.Common.{refl}
use Rattle.std.proofs.lemmas.Result.{IfOk-weaker}
use Rattle.dlms_data.specs.Value.{array}
use Rattle.dlms_classes.specs.Listing.{map_values, object_list}
use Rattle.dlms_classes.specs.Shown.{column_value}
use Rattle.dlms_classes.specs.Table.{object_of_column}
use Rattle.dlms_classes.proofs.Appending.{other_shown}
use Rattle.dlms_classes.proofs.encoding.encoded.Goals as goal

pub returns-in-ObjectList : goal.returns-in-ObjectList
returns-in-ObjectList g c = λ p picks. rw c.in-ObjectList.is (IfOk-weaker c.encoded_list.result _ _ (λ out is. (object_list c.args.client, refl, is)) c.encoded_list.ensures)

pub returns-in-CaptureObjects : goal.returns-in-CaptureObjects
returns-in-CaptureObjects g c = λ p picks.
    rw (c.in-CaptureObjects.is, ← c.columns-in-CaptureObjects.ensures.value)
    (IfOk-weaker c.encoded_columns.result _ _ (λ out is. (array (map_values (λ id. column_value (object_of_column id)) c.columns-in-CaptureObjects.result.now), refl, is)) c.encoded_columns.ensures)

pub returns-in_default : goal.returns-in_default
returns-in_default g c = λ p picks.
    IfOk-weaker c.encoded_value.result _ _
    (λ out put. (put.0, other_shown c.args.state.now c.args.client c.args.descriptor p c.args.content put.0 c.in_default.not-Buffer put.1, put.2)) c.encoded_value.ensures
