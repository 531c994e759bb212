-- The first steps of a poll.
use Rattle.std.proofs.Common.{arith, [], refl}
use Rattle.dlms_frame.specs.Frame.{Parts}
use Rattle.dlms_headend.specs.Asking.{PlanValue}
use Rattle.dlms_link.specs.Client.{to_meter}
use Rattle.dlms_link.specs.Server.{fresh_server}
use Rattle.dlms_link.proofs.Rows.{row_of-snrm}
use Rattle.dlms_service.specs.Serves.{FindsMemory}
use Rattle.dlms_meter.specs.Run.{Served}
use Rattle.dlms_service.specs.Session.{fresh}
use Rattle.dlms_store.specs.World.StoreWorld.{Runs}
use Rattle.dlms_world.specs.World.{World, first_world}
use Rattle.dlms_world.specs.Turn.{Run, Stays, Goes, Begins, Arrives, Takes, silent}
use Rattle.dlms_world.specs.Possible.{CanBegin}
use Rattle.dlms_world.proofs.Lawful.{none_legal}

abbrev begun : PlanValue → World
begun plan = record (first_world plan) { link = Rattle.dlms_link.specs.World.happens (first_world plan).link Rattle.dlms_link.specs.World.Connect; ours = Rattle.std.specs.Prelude.false; served = []; course = Rattle.dlms_headend.specs.declared.stage.Course.TheVariants.Running }

abbrev snrm : PlanValue → Parts
snrm plan = to_meter plan.client 147 Rattle.std.specs.Prelude.false []

takes_snrm : (plan : PlanValue) → Takes (begun plan) (snrm plan) (Served FindsMemory) (silent (fresh plan.client)) (Runs [] [])
takes_snrm plan = record {
  on = tt;
  answers = rw (row_of-snrm (fresh_server plan.client)) refl;
  short = omega arith;
  remembers = record { steps = []; usual = tt; run = refl; all = refl; legal = none_legal };
  promise = λ given. refl;
}

pub can_begin : CanBegin
can_begin plan =
    let first : Run (first_world plan) (begun plan) = Goes (first_world plan) (begun plan) Stays (Begins (first_world plan) refl) in
    let turn = Arrives (begun plan) (snrm plan) [] (Served FindsMemory) (silent (fresh plan.client)) (Runs [] []) refl (takes_snrm plan) in
    (_, Goes (begun plan) _ first turn, refl, rw (row_of-snrm (fresh_server plan.client)) refl)
