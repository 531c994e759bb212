use Rattle.std.proofs.Common.{rules}
use Rattle.dlms_telegram.proofs.numbers.number_in.Goals as goal

pub returns : goal.returns
returns c = record {
  number = c.parted.result.0.now;
  whole = c.parted-2.result.0.now;
  fraction = c.parted-2.result.1.now;
  united = c.parted.ensures;
  pointed = c.parted-2.ensures;
  some = search rules;
  whole_digits = search rules;
  fraction_digits = search rules;
  mantissa_is = search rules;
  decimals_is = search rules;
}
