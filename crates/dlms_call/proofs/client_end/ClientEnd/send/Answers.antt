use Rattle.std.proofs.Common.{◌∙◌, ap, sym}
use Rattle.dlms_call.specs.Carried.{out_of}
use Rattle.dlms_call.specs.Talking.{ClientAt, TalkValue}
use Rattle.dlms_call.proofs.TalkingLemmas.{writes, writes_nothing}
use Rattle.dlms_call.proofs.client_end.ClientEnd.send.Goals as goal
use Rattle.dlms_call.proofs.client_end.ClientEnd.send.Goals.{in-None, in-Some}

pub returns-clause-goes : goal.returns-clause-goes
returns-clause-goes g c = elim c.match-secured_fault.branch [
  | in-Some w ↦ rw w.result-is (rw w.end-is (writes_nothing _ _ w.in-Some.fault (sym c.secured_fault.ensures ∙ w.in-Some.is)))
  | in-None w ↦
      let client = w.deref.ensures ∙ ap (λ (t : TalkValue). t.client) c.self.view_is in
      rw w.result-is (rw w.end-is (writes _ _ c.args.self.now.client w.out.result.now w.send.result (sym c.secured_fault.ensures ∙ w.in-None.is)
      (w.out.ensures ∙ ap (λ (at : ClientAt). out_of at.carrier) client) w.send.ensures))
]
