use Rattle.dlms_filing.proofs.NameLemmas.{sixteen_digits}
use Rattle.dlms_filing.proofs.host_disk.hexadecimal.Goals as goal

pub returns : goal.returns
returns c = rw (c.in_radix.ensures, c.laid_out.ensures, sixteen_digits) at c.format.ensures.ok
