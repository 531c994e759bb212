-- The readings file of a meter that is collected, and the meter.
use Rattle.std.specs.Prelude.{List, ℕ, [], ◌∷◌, Option, None}
use Rattle.dlms_carrier.specs.declared.any.Route.{Route}
use Rattle.dlms_ends.specs.PollEnds.{IsPolledOver, PollEndValue}
use Rattle.dlms_filing.specs.Filing.{PlaceCall, Asks}
use Rattle.dlms_filing.specs.Filing.PlaceCall.{Lays, Puts}
use Rattle.dlms_filing.specs.Printing.{Printed}
use Rattle.dlms_frame.specs.declared.client.Client.{Client}
use Rattle.dlms_headend.specs.CarrierPollValue.{TermsValue}
use Rattle.dlms_headend.specs.CarrierRun.{carried_in, passages}
use Rattle.dlms_headend.specs.Lines.{IsFile}
use Rattle.dlms_headend.specs.declared.row.Row.{Row}
use Rattle.dlms_meter.specs.Run.{MeterWorld, Stands}
use Rattle.dlms_meter.specs.declared.meter.Meter.{Meter}
use Rattle.dlms_pages.specs.declared.device.Pages.{Ghosts}
use Rattle.dlms_polling.specs.Keeping.{FilesPolled}
use Rattle.dlms_world.specs.Carrier.{Delivers, Holds, Life, served_to}

-- A poll in clear is done and its rows were filed; its carrier delivered what passed between it and a client's end of a meter, in a
-- life of the meter since the poll began; and the meter held the rows of the file before. Then the meter holds the rows of the text
-- that was put in the file's place.
abbrev pub WhatIsCollectedIsHeld : {P A : Type 0} → {ghosts : Ghosts P} → Meter P A ghosts → Type 0
WhatIsCollectedIsHeld new =
    (route : Route) (terms : TermsValue) (job : PollEndValue)
    (poll : IsPolledOver route terms None job)
    (asked asked' : Option (List PlaceCall)) (printed printed' errors errors' : Printed)
    (before : List Row)
    → FilesPolled asked asked' printed printed' errors errors' before job.poll.talk.rows
    → (who : Client) (m m' : MeterWorld) (life : Life m m')
    → Delivers (passages (carried_in poll.beside.shares)) (served_to who m m' life)
    → Stands new m' → Holds m before
    → (text : List ℕ) × (rows : List Row)
    × Asks asked asked' (Lays text None ∷ Puts None ∷ []) × IsFile text rows × Holds m' rows
