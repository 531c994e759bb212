-- What each call makes of the contents.
use Rattle.std.specs.Prelude.{ℕ, ◌+◌, ◌-◌, ◌^◌, ◌==◌, min, nat_le, Bool, List, length, Option, Some, None, Result, Ok, Err, if◌then◌else◌}
use Rattle.dlms_counters.specs.Slot.{CounterState}
use Rattle.dlms_counters.specs.Table.{is_full, is_known, last_of, with_counter}
use Rattle.dlms_counters.specs.declared.counters.TheConstants.{MOST_PEERS}
use Rattle.dlms_counters.specs.declared.fault.CounterFault.{CounterFault}
use Rattle.dlms_counters.specs.declared.fault.CounterFault.TheVariants.{Stopped, Full, Exhausted}

-- the end of the reservation is raised by a step, up to 2^32 - 1
abbrev pub after_reserve : ℕ → CounterState → CounterState
after_reserve step c = record c {
  sequence = c.sequence + 1;
  reserved = min (c.reserved + step) (2 ^ 32 - 1);
}

-- the peer's last accepted counter is this one
abbrev pub after_accept : List ℕ → ℕ → CounterState → CounterState
after_accept title counter c = record c {
  sequence = c.sequence + 1;
  peers = with_counter title counter c.peers;
}

-- the contents after a reservation, or why they stay
abbrev pub reserving : Bool → ℕ → CounterState → Result CounterState CounterFault
reserving stopped step c =
    if stopped then Err Stopped
    else if c.sequence == 2 ^ 64 - 1 then Err Exhausted
    else Ok (after_reserve step c)

-- The contents after an accepted counter, or why they stay. A counter that is not above the last
-- accepted one changes nothing.
abbrev pub accepting : Bool → List ℕ → ℕ → CounterState → Result (Option CounterState) CounterFault
accepting stopped title counter c =
    if stopped then Err Stopped
    else if is_known (last_of c.peers title) counter then Ok None
    else if is_full (last_of c.peers title) (nat_le MOST_PEERS (length c.peers)) then Err Full
    else if c.sequence == 2 ^ 64 - 1 then Err Exhausted
    else Ok (Some (after_accept title counter c))
