use Rattle.dlms_values.proofs.Next.{count_read}
use Rattle.dlms_values.proofs.items.Items.len.Goals as goal

pub returns : goal.returns
returns c = count_read c.args.self.now.levels c.args.self.now.count c.args.self.now.bytes.now c.args.self.now.spelled
