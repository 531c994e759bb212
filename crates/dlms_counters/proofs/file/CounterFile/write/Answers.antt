use Rattle.std.proofs.Common.{refl, ◌∙◌}
use Rattle.dlms_counters.proofs.file.CounterFile.write.Goals as goal

pub returns-in-Ok : goal.returns-in-Ok
returns-in-Ok g c =
    let goes = c.in-Ok.ensures.goes in
    record {
      device = record { honest = goes.honest; count = goes.count; faults = goes.later };
      done = (refl, c.requires.runs);
      failed = tt;
      fault = tt;
      stores = λ s. let x = c.in-Ok.ensures.stores c.args.self.now.counters s c.requires.turn in
          record { any_moment = x.any_moment; after = x.after; at_last = x.at_last };
      settled = λ s. let x = c.in-Ok.ensures.stores c.args.self.now.counters s c.requires.turn in
          record { honest = goes.honest ∙ s.honest; each = x.at_last };
    }

pub returns-in-Err : goal.returns-in-Err
returns-in-Err g c =
    let goes = c.in-Err.ensures.goes in
    record {
      device = record { honest = goes.honest; count = goes.count; faults = goes.later };
      done = tt;
      failed = (refl, refl, goes.fault);
      fault = refl;
      stores = λ s. let x = c.in-Err.ensures.stores c.args.self.now.counters s c.requires.turn in
          record { any_moment = x.any_moment; after = x.after; at_last = tt };
      settled = λ s. tt;
    }
