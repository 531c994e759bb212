use Rattle.std.proofs.Common.{[]}
use Rattle.dlms_store.specs.World.StoreWorld.{Runs}
use Rattle.dlms_store.proofs.Runs.{recovers, at_start}
use Rattle.dlms_store.proofs.laws.recovers_a_beginning.Goals as goal

pub returns : goal.returns
returns c steps found now run =
    let is = recovers steps (Runs [] []) now found [] [] at_start run in
    record { missing = is.missing; beginning = is.beginning; answered = is.answered; page = is.page }
