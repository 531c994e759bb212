use Rattle.std.proofs.Common.{rules}
use Rattle.dlms_state.specs.StateValue.{IsWithinLimits, FitsTypes}
use Rattle.dlms_state.proofs.Reached.{HasEvents-within}
use Rattle.dlms_state.proofs.state.State.has_events.Goals as goal

pub returns : goal.returns
returns g c =
    let types : FitsTypes c.args.self.now = rw (← c.self.view_is) (record {
      count = c.words_fit.ensures.count;
      registers = c.words_fit.ensures.fit;
      last = search rules;
      text = search rules;
      secret = search rules;
      reader_secret = search rules;
      columns = search rules;
      room = c.len-count.ensures.within;
      order = c.next_number-next.ensures.order;
      rows = c.len-count.ensures.fit;
    }) in
    let limits : IsWithinLimits c.args.self.now = rw (← c.self.view_is) c.self.invariant in
    HasEvents-within _ limits types
