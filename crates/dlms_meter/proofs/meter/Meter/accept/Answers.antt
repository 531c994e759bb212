use Rattle.std.proofs.Common.{refl}
use Rattle.dlms_store.proofs.Going.{Added}
use Rattle.dlms_frame.specs.declared.client.Client.TheVariants.{Public, Management, Reader}
use Rattle.dlms_meter.proofs.Judging.{judged}
use Rattle.dlms_meter.proofs.meter.Meter.accept.Goals as goal

pub returns-clause-judges : goal.returns-clause-judges
returns-clause-judges g c w stands =
    let x = c.add.ensures in
    let old = c.args.self.now in
    let is : Added c.add.result c.args.event old.store c.add.new.self = record {
      run = x.run;
      joins = x.joins;
      joins_alone = x.joins_alone;
      runs = x.runs;
      stopped = x.stopped;
      device = x.device;
      unchanged = x.unchanged;
      page = x.page;
      refused = x.refused;
      exhausted = x.exhausted;
    } in
    judged c.add.result c.args.event w old (record { alloc = old.alloc; deframer = old.deframer; public = old.public; management = old.management; reader = old.reader; store = c.add.new.self }) stands is refl
    (λ who. elim who [
      | Public ↦ refl
      | Management ↦ refl
      | Reader ↦ refl
    ])
