-- Messages fit, the association reads the plain response, and associations exist.
use Rattle.std.specs.Prelude.{◌≡◌, ℕ, ◌+◌, ◌*◌, ◌<◌, ◌≤◌, true, false, List, [], ◌∷◌, length}
use Rattle.std.specs.Prelude.{Some, None, Ok, IfSome}
use Rattle.dlms_acse.specs.Reading.{aare_at, aarq_at}
use Rattle.dlms_acse.specs.Verdict.{Request}
use Rattle.dlms_acse.specs.declared.aarq.Initiate.{Initiate}
use Rattle.dlms_acse.specs.declared.outcome.Verdict.TheVariants.{Accepted}
use Rattle.dlms_security.specs.Run.{IsState, ArePeers}
use Rattle.dlms_security.specs.Security.{SecurityState, message_for, is_above}
use Rattle.dlms_security.specs.declared.form.Form.{Form}
use Rattle.dlms_security.specs.declared.kind.KeyKind.TheVariants.{Global}
use Rattle.dlms_secured.specs.Guard.{GuardValue, Hands, gives, Takes}
use Rattle.dlms_secured.specs.Messages.{clear_size, plain_aare, secured_aarq, begins}
use Rattle.dlms_secured.specs.declared.messages.TheConstants.{MOST_CARRIED, LEAST_CLEAR}
use Rattle.dlms_secured.specs.declared.stage.Stage.TheVariants.{Closed, Open}

-- the carrier takes the message, and so does the meter; a size of 0 is no limit
pub record FitsIn (size : ℕ) (message : List ℕ) : Type 0 where
  pub carried : length message ≤ MOST_CARRIED
  pub received : 0 < size → length message ≤ size

-- The protected form of an APDU of at most the lowered size fits.
abbrev pub MessagesFit : Type 0
MessagesFit = (s : SecurityState) (form : Form) (apdu message : List ℕ) (size : ℕ) → IsState s
    → length apdu ≤ clear_size size → LEAST_CLEAR ≤ clear_size size
    → message_for s form apdu ≡ Ok message → FitsIn size message

-- In the plain response the association reads the meter's services and the lowered size.
abbrev pub ResponsesAreRead : Type 0
ResponsesAreRead = (high middle low size : ℕ)
    → aare_at (plain_aare (record { services = high ∷ middle ∷ low ∷ []; size = size }))
    ≡ Ok (Accepted (record { 0 = 65536 * high + 256 * middle + low }) (clear_size size))

-- An association request goes out, if the challenge is unused and a counter is left.
abbrev pub AssociationsBegin : Type 0
AssociationsBegin = (g : GuardValue) (apdu : List ℕ) (request : Request) (i : Initiate)
    → IsState g.security → g.stage ≡ Closed → g.unused ≡ true → g.security.kind ≡ Global
    → g.security.next < g.security.reserved → IfSome g.key (λ key. length key ≡ 16)
    → aarq_at apdu ≡ Ok request → request.initiate ≡ Some i
    → (inner : List ℕ)
    × ((gives g apdu).result ≡ Ok (secured_aarq g.security.own g.challenge inner))

-- A message that the meter protects is handed up in the open association, if its counter is above
-- the last accepted one: without a dedicated key, and under it.
abbrev pub MessagesAreHandedUp : Type 0
MessagesAreHandedUp = (g : GuardValue) (meter : SecurityState) (form : Form) (apdu message : List ℕ)
    → g.stage ≡ Open → g.dedicated ≡ None → IsState meter → ArePeers meter g.security
    → is_above g.security.accepted meter.next ≡ true → begins 0x63 message ≡ false
    → message_for meter form apdu ≡ Ok message
    → (h : GuardValue) × Takes g message (Ok Hands) h × (h.handed ≡ apdu)

abbrev pub SessionsAreHandedUp : Type 0
SessionsAreHandedUp = (g : GuardValue) (d meter : SecurityState) (form : Form)
    (apdu message : List ℕ)
    → g.stage ≡ Open → g.dedicated ≡ Some d → IsState meter → ArePeers meter d
    → is_above d.accepted meter.next ≡ true → begins 0x63 message ≡ false
    → message_for meter form apdu ≡ Ok message
    → (h : GuardValue) × Takes g message (Ok Hands) h × (h.handed ≡ apdu)
