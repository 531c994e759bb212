use Rattle.dlms_data.specs.View.{value_of}
use Rattle.dlms_dissect.specs.Whole.{IsNoValue}
use Rattle.dlms_dissect.proofs.WholeLemmas.{left, refused, told-unknown, told-open}
use Rattle.dlms_dissect.proofs.whole.whole_of.Goals.{in-Unknown, in-Open}
use Rattle.dlms_dissect.proofs.whole.whole_of.Goals as goal

pub returns-in-Ok-2-clause-told : goal.returns-in-Ok-2-clause-told
returns-in-Ok-2-clause-told g c =
    let none : IsNoValue c.args.octets.now = left (value_of c.in-Ok.value) c.in-Ok.len c.args.octets.now c.if-len-octets.false c.in-Ok.ensures.only in
    elim c.match-secrecy.branch [
      | in-Unknown w ↦ told-unknown _ c.args.secrecy c.args.octets.now c.value_fault.result w.in-Unknown.is (none, c.value_fault.ensures)
      | in-Open w ↦ told-open _ c.args.secrecy c.args.octets.now c.value_fault.result w.in-Open.is (none, c.value_fault.ensures)
    ]

pub returns-in_default : goal.returns-in_default
returns-in_default g c =
    let none : IsNoValue c.args.octets.now = refused c.in-Err.fault c.args.octets.now c.in_default.not-Memory c.in-Err.ensures.only in
    record {
      told = elim c.match-secrecy.branch [
        | in-Unknown w ↦ told-unknown _ c.args.secrecy c.args.octets.now c.value_fault-in_default.result w.in-Unknown.is (none, c.value_fault-in_default.ensures)
        | in-Open w ↦ told-open _ c.args.secrecy c.args.octets.now c.value_fault-in_default.result w.in-Open.is (none, c.value_fault-in_default.ensures)
      ];
      memory = tt;
    }
