-- What a file stands for: of its two slots, the one with the higher sequence number. Slots are
-- written in turn, so a sequence number belongs at the place that is its remainder by 2.
use Rattle.std.specs.Prelude.{◌%◌, ◌==◌, ℕ, nat_lt, List, Option, Some, None, Result, Ok, Err, option_and_then, if◌then◌else◌}
use Rattle.std.specs.Str.{bytes_eq}
use Rattle.dlms_pages.specs.Device.{Image, page_at}
use Rattle.dlms_pages.specs.declared.device.PageRead.{PageRead}
use Rattle.dlms_pages.specs.declared.device.PageRead.TheVariants.{Content, Damaged}
use Rattle.dlms_counters.specs.Slot.{CounterState, counters_in}
use Rattle.dlms_counters.specs.declared.fault.OpenFault.{OpenFault}
use Rattle.dlms_counters.specs.declared.fault.OpenFault.TheVariants as opening

-- the contents, if they belong at this place
abbrev pub of_turn : ℕ → CounterState → Option CounterState
of_turn place c = if c.sequence % 2 == place then Some c else None

-- what a page says at this place
abbrev pub slot_in : ℕ → PageRead → Option CounterState
slot_in place (Content bytes) = option_and_then (of_turn place) (counters_in bytes)
slot_in place Damaged = None

-- the one with the higher sequence number
abbrev pub newer : Option CounterState → Option CounterState → Option CounterState
newer None second = second
newer (Some a) None = Some a
newer (Some a) (Some b) = if nat_lt a.sequence b.sequence then Some b else Some a

-- what a recovery finds
abbrev pub recovered : Image → Option CounterState
recovered image = newer (slot_in 0 (page_at image 0)) (slot_in 1 (page_at image 1))

-- the contents, if they are of this title and key; otherwise why they are refused
abbrev pub opened : (own fingerprint : List ℕ) → Option CounterState → Result CounterState OpenFault
opened own fingerprint None = Err opening.Damaged
opened own fingerprint (Some c) =
    if bytes_eq c.own own then
    (if bytes_eq c.fingerprint fingerprint then Ok c else Err opening.AnotherKey)
    else Err opening.AnotherTitle
