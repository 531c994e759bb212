-- Why a call of a meter is refused, by its code. The code 0 is no refusal.
use Rattle.std.specs.Prelude.{ℕ, zero, suc, Bool, true, false, List, [], ◌∷◌, Option, Some, None}
use Rattle.rtrb.specs.Ring.{known_items}
use Rattle.dlms_pages.specs.declared.memory.Call.{Call}
use Rattle.dlms_c.specs.declared.codes.TheConstants.{CLOSED, LOST, PAGES}
use Rattle.dlms_c.specs.declared.kept_meter.KeptMeter.{KeptMeter}

-- a write or a sync could not be done
abbrev pub lost_code : Bool → ℕ
lost_code true = LOST
lost_code false = 0

-- writes or syncs wait to be done
abbrev pub pages_code : List Call → ℕ
pages_code [] = 0
pages_code (call ∷ calls) = PAGES

-- there is no meter any more
abbrev pub closed_code : {X : Type 0} → Option X → ℕ
closed_code None = CLOSED
closed_code (Some meter) = 0

-- the first of two refusals
abbrev pub first_code : ℕ → ℕ → ℕ
first_code zero other = other
first_code (suc code) other = suc code

-- Why no reply is returned: a page was lost, otherwise pages wait. The relay determines in the call which pages wait.
abbrev pub reply_refusal_of : (old new : KeptMeter) → ℕ
reply_refusal_of old new = first_code (lost_code old.is_lost) (pages_code (known_items new.relay))

-- Why octets, an event, a hang-up or a close is refused: a page was lost, otherwise pages wait, otherwise the meter is closed.
abbrev pub refusal_of : (old new : KeptMeter) → ℕ
refusal_of old new = first_code (reply_refusal_of old new) (closed_code old.meter)

-- Why a silence is refused: a page was lost, otherwise the meter is closed. It writes no page, so it need not wait for one.
abbrev pub idle_refusal_of : KeptMeter → ℕ
idle_refusal_of old = first_code (lost_code old.is_lost) (closed_code old.meter)
