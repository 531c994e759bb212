-- What may be on the line in a run of both ends, and when an APDU is handed up.
use Rattle.std.specs.Prelude.{◌≡◌, ℕ, ◌+◌, ◌≤◌, List, [], ◌∷◌, length, true, Option, None, IfSome}
use Rattle.dlms_frame.specs.declared.client.Client.{Client}
use Rattle.dlms_frame.specs.Frame.{Parts}
use Rattle.dlms_link.specs.declared.phase.Phase.TheVariants.{Open}
use Rattle.dlms_link.specs.declared.out.LinkOut.TheVariants.{Apdu}
use Rattle.dlms_link.specs.Parameters.{IsProposable}
use Rattle.dlms_link.specs.Server.{ServerRecord, server_on}
use Rattle.dlms_link.specs.World.{LinkWorld, LinkEvent, run, start_proposing}

-- the oldest frame on the way to the meter is one at which it hands an APDU up
abbrev pub HandsUpAt : ServerRecord → List Parts → Type 0
HandsUpAt r [] = ⊥
HandsUpAt r (f ∷ rest) = (server_on r f).1 ≡ Apdu

pub record AreUp (w : LinkWorld) : Type 0 where
  pub meter : w.meter.up ≡ true
  pub client : w.client.phase ≡ Open

-- an APDU is handed up only where both ends are up
abbrev pub ApdusComeUp : Type 0
ApdusComeUp = (proposal : Option ℕ) (who : Client) (events : List LinkEvent)
    → IfSome proposal IsProposable → let w = run events (start_proposing proposal who) in
    HandsUpAt w.meter w.up_line → AreUp w

-- if the client awaits nothing, nothing is on the line
abbrev pub LineIsSilent : Type 0
LineIsSilent = (proposal : Option ℕ) (who : Client) (events : List LinkEvent)
    → IfSome proposal IsProposable → let w = run events (start_proposing proposal who) in
    w.client.waits ≡ None → (w.up_line ≡ []) × (w.down_line ≡ [])

-- at most one frame is on the line
abbrev pub OneFrameAtMost : Type 0
OneFrameAtMost = (proposal : Option ℕ) (who : Client) (events : List LinkEvent)
    → IfSome proposal IsProposable → let w = run events (start_proposing proposal who) in
    length w.up_line + length w.down_line ≤ 1
