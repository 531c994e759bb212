use Rattle.std.proofs.Common.{subst, sym}
use Rattle.dlms_text.specs.Values.{NeedsMemory, Writes}
use Rattle.dlms_text.specs.declared.kind.Kind.{Kind}
use Rattle.dlms_text.specs.declared.kind.Kind.TheVariants as kind
use Rattle.dlms_text.proofs.ValueLemmas.{err_of_kind}
use Rattle.dlms_text.proofs.value.value_as.Goals as goal

pub returns-in-Bool-clause-err : goal.returns-in-Bool-clause-err
returns-in-Bool-clause-err g c = err_of_kind c.boolean.result c.args.kind kind.Bool c.args.text.now c.in-Bool.is c.boolean.ensures.err

pub returns-in-Hex-clause-err : goal.returns-in-Hex-clause-err
returns-in-Hex-clause-err g c = err_of_kind c.octets.result c.args.kind kind.Hex c.args.text.now c.in-Hex.is c.octets.ensures.err

pub returns-in-Raw-clause-err : goal.returns-in-Raw-clause-err
returns-in-Raw-clause-err g c = err_of_kind c.raw.result c.args.kind kind.Raw c.args.text.now c.in-Raw.is c.raw.ensures.err

pub returns-in-Unsigned-clause-err : goal.returns-in-Unsigned-clause-err
returns-in-Unsigned-clause-err g c = err_of_kind c.numeral.result c.args.kind kind.Unsigned c.args.text.now c.in-Unsigned.is c.numeral.ensures.err

pub returns-in-LongUnsigned-clause-err : goal.returns-in-LongUnsigned-clause-err
returns-in-LongUnsigned-clause-err g c = err_of_kind c.numeral-in-LongUnsigned.result c.args.kind kind.LongUnsigned c.args.text.now c.in-LongUnsigned.is c.numeral-in-LongUnsigned.ensures.err

pub returns-in-DoubleLongUnsigned-clause-err : goal.returns-in-DoubleLongUnsigned-clause-err
returns-in-DoubleLongUnsigned-clause-err g c = err_of_kind c.numeral-in-DoubleLongUnsigned.result c.args.kind kind.DoubleLongUnsigned c.args.text.now c.in-DoubleLongUnsigned.is c.numeral-in-DoubleLongUnsigned.ensures.err

pub returns-in-Long64Unsigned-clause-err : goal.returns-in-Long64Unsigned-clause-err
returns-in-Long64Unsigned-clause-err g c = err_of_kind c.numeral-in-Long64Unsigned.result c.args.kind kind.Long64Unsigned c.args.text.now c.in-Long64Unsigned.is c.numeral-in-Long64Unsigned.ensures.err

pub returns-in-Integer-clause-err : goal.returns-in-Integer-clause-err
returns-in-Integer-clause-err g c = err_of_kind c.numeral-in-Integer.result c.args.kind kind.Integer c.args.text.now c.in-Integer.is c.numeral-in-Integer.ensures.err

pub returns-in-Long-clause-err : goal.returns-in-Long-clause-err
returns-in-Long-clause-err g c = err_of_kind c.numeral-in-Long.result c.args.kind kind.Long c.args.text.now c.in-Long.is c.numeral-in-Long.ensures.err

pub returns-in-DoubleLong-clause-err : goal.returns-in-DoubleLong-clause-err
returns-in-DoubleLong-clause-err g c = err_of_kind c.numeral-in-DoubleLong.result c.args.kind kind.DoubleLong c.args.text.now c.in-DoubleLong.is c.numeral-in-DoubleLong.ensures.err

pub returns-in-Long64-clause-err : goal.returns-in-Long64-clause-err
returns-in-Long64-clause-err g c = err_of_kind c.numeral-in-Long64.result c.args.kind kind.Long64 c.args.text.now c.in-Long64.is c.numeral-in-Long64.ensures.err

pub returns-in-Enum-clause-err : goal.returns-in-Enum-clause-err
returns-in-Enum-clause-err g c = err_of_kind c.numeral-in-Enum.result c.args.kind kind.Enum c.args.text.now c.in-Enum.is c.numeral-in-Enum.ensures.err
