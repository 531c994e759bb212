use Rattle.std.proofs.Common.{◌∙◌, ap, sym}
use Rattle.dlms_ends.specs.Carried.{out_of}
use Rattle.dlms_ends.specs.PollEnds.{PollAt, PollEndValue}
use Rattle.dlms_ends.proofs.PollEndLemmas.{writes, writes_nothing}
use Rattle.dlms_ends.proofs.poll_end.PollEnd.send.Goals as goal
use Rattle.dlms_ends.proofs.poll_end.PollEnd.send.Goals.{in-None, in-Some}

pub returns-clause-goes : goal.returns-clause-goes
returns-clause-goes g c = elim c.match-secured_fault.branch [
  | in-Some w ↦ rw w.result-is (rw w.end-is (writes_nothing _ _ w.in-Some.fault (sym c.secured_fault.ensures ∙ w.in-Some.is)))
  | in-None w ↦
      let poll = w.deref.ensures ∙ ap (λ (t : PollEndValue). t.poll) c.self.view_is in
      rw w.result-is (rw w.end-is (writes _ _ c.args.self.now.poll w.out.result.now w.send.result (sym c.secured_fault.ensures ∙ w.in-None.is)
      (w.out.ensures ∙ ap (λ (at : PollAt). out_of at.carrier) poll) w.send.ensures))
]
