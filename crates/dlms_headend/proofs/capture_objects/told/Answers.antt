use Rattle.dlms_headend.proofs.ColumnForms.{told_data, told_unread}
use Rattle.dlms_headend.proofs.capture_objects.told.Goals as goal

pub returns-in-Ok-GetData : goal.returns-in-Ok-GetData
returns-in-Ok-GetData g c = told_data c.args.apdu.now c.behind_head.result.now _ _ c.judge_columns.result (rw c.in-Ok-GetData.field-0-is at c.in-Ok-GetData.ensures).exact c.behind_head.ensures c.judge_columns.ensures

pub returns-in-Err-Memory : goal.returns-in-Err-Memory
returns-in-Err-Memory g c =
    told_unread c.args.apdu.now c.behind_head-in-Err-Memory.result.now c.judge_columns-in-Err-Memory.result (rw c.in-Err-Memory.field-0-is at c.in-Err-Memory.ensures).exact c.behind_head-in-Err-Memory.ensures c.judge_columns-in-Err-Memory.ensures
