use Rattle.std.proofs.Common.{rules}
use Rattle.dlms_inquiries.proofs.AskLemmas.{all_is_read, done_in, none_yet, one_more}
use Rattle.dlms_inquiries.proofs.ask_job.AskJob.read_piece.Goals as goal

pub calls-init : goal.calls-init
calls-init g c = none_yet g.S.Script.follows _ _ _

pub returns-in-Ok-Done : goal.returns-in-Ok-Done
returns-in-Ok-Done g c = done_in g.S.Script.follows c.args.out.now.items _ _ c.args.self.now _ _ c.args.bytes.now _ _ _ (search rules) c.read_once-count.ensures.reads

pub calls-preserved : goal.calls-preserved
calls-preserved g c = one_more g.S.Script.follows _ _ _ _ _ _ _ _ _ _ (search rules) c.calls.invariant c.read_once-count.ensures.reads

pub returns : goal.returns
returns g c = all_is_read g.S.Script.follows _ _ _ _ _ _ c.calls.invariant (search rules)
