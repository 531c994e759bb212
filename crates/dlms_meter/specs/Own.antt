-- A meter's record of each client is that client's own.
use Rattle.std.specs.Prelude.{◌≡◌, List}
use Rattle.dlms_frame.specs.declared.client.Client.{Client}
use Rattle.dlms_meter.specs.Run.{MeterWorld, first_world}
use Rattle.dlms_meter.specs.Steps.{Step, Run}
use Rattle.dlms_meter.specs.Lives.{Leg, Lives}

-- each client's link is that client's own
abbrev pub AreOwn : MeterWorld → Type 0
AreOwn w = (who : Client) → (w.records who).link.client ≡ who

-- no run makes it another's
abbrev pub StayOwn : Type 0
StayOwn = (w w' : MeterWorld) (steps : List Step) → Run w steps w' → AreOwn w → AreOwn w'

-- this is true in every life of a formatted meter, over stops and recoveries
abbrev pub AreOwnInLives : Type 0
AreOwnInLives = (w last : MeterWorld) (legs : List Leg) (steps : List Step)
    → Lives first_world legs w → Run w steps last → AreOwn last
