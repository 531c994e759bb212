use Rattle.std.proofs.Common.{sym}
use Rattle.dlms_data.proofs.Bitwise.{length-view}
use Rattle.dlms_values.proofs.bits.Bits.len.Goals as goal

pub returns : goal.returns
returns c = sym (length-view c.args.self.now.count c.args.self.now.bytes.now c.args.self.now.enough)
