use Rattle.std.proofs.Common.{inr}
use Rattle.dlms_identity.proofs.Lemmas.{tells_so}
use Rattle.dlms_identity.proofs.showing.shown_text.Goals as goal

pub returns-in-Err : goal.returns-in-Err
returns-in-Err g c = inr c.in-Err.ensures.fails

pub returns : goal.returns
returns g c =
    tells_so _ _ _ c.args.name c.ask_text-text.result
    (record {
      opened = g.S.End.past c.begin.new.line;
      told = g.S.End.past c.ask_text-text.new.line;
      first = c.in-Ok.head;
      mid = c.ask_text-text.new.head;
      last = c.end-ended.new.head;
      ended = c.end-ended.result;
      opens = c.in-Ok.ensures.opens;
      reads = c.ask_text-text.ensures;
      ends = c.end-ended.ensures;
    })
