use Rattle.std.proofs.Common.{arith, ◌≡◌, ℕ, refl, subst}
use Rattle.dlms_call.specs.Talking.{ListensOn}
use Rattle.dlms_call.specs.Talking.ListensOn.{NoRead, OneMore}
use Rattle.dlms_call.specs.Talking.Settles.{IsTold, Tires}
use Rattle.dlms_call.specs.declared.client_end.TheConstants.{READS}
use Rattle.dlms_client.specs.declared.outcome.Outcome.TheVariants.{Nothing, Associated, Answered, Down}
use Rattle.dlms_call.proofs.TalkingLemmas.{heard_as}
use Rattle.dlms_call.proofs.client_end.ClientEnd.settle.Goals as goal

pub reads-init : goal.reads-init
reads-init g c = NoRead

pub returns-in-Ok-Associated : goal.returns-in-Ok-Associated
returns-in-Ok-Associated g c = IsTold c.reads._read _ _ c.reads.invariant (heard_as _ _ _ _ _ c.in-Ok-Associated.field-0 Associated c.in-Ok-Associated.field-0-is c.in-Ok-Associated.ensures) tt

pub returns-in-Ok-Answered : goal.returns-in-Ok-Answered
returns-in-Ok-Answered g c = IsTold c.reads._read _ _ c.reads.invariant (heard_as _ _ _ _ _ c.in-Ok-Answered.field-0 (Answered c.in-Ok-Answered.answer) c.in-Ok-Answered.field-0-is c.in-Ok-Answered.ensures) tt

pub returns-in-Ok-Down : goal.returns-in-Ok-Down
returns-in-Ok-Down g c = IsTold c.reads._read _ _ c.reads.invariant (heard_as _ _ _ _ _ c.in-Ok-Down.field-0 Down c.in-Ok-Down.field-0-is c.in-Ok-Down.ensures) tt

pub returns-in-Err : goal.returns-in-Err
returns-in-Err g c = IsTold c.reads._read _ _ c.reads.invariant c.in-Err.ensures tt

pub reads-preserved : goal.reads-preserved
reads-preserved g c = OneMore c.reads._read _ _ _ _ c.reads.invariant (heard_as _ _ _ _ _ c.in-Ok-Nothing.field-0 Nothing c.in-Ok-Nothing.field-0-is c.in-Ok-Nothing.ensures)

pub returns : goal.returns
returns g c =
    let all : c.reads._read ≡ READS = omega (arith, c.reads-test.false, c.reads.auto._read-end) in
    Tires refl (subst (λ (n : ℕ). ListensOn c.args.most (g.S.End.past c.args.end.now) c.args.self.now n (g.S.End.past c.reads.end) c.reads.self) all c.reads.invariant)
