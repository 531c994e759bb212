use Rattle.dlms_data.proofs.Bitwise.{holds}
use Rattle.dlms_values.proofs.bits.Bits.as_bytes.Goals as goal

pub returns : goal.returns
returns c = holds c.args.self.now.count c.args.self.now.bytes.now c.args.self.now.enough
