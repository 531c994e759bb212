-- What is kept of an association, and what its counters are judged by.
use Rattle.std.specs.Prelude.{◌≡◌, ◌+◌, ◌-◌, ◌^◌, ◌==◌, ℕ, Bool, true, false, nat_le, nat_lt, List, Option, Some, None, Result, Ok, Err, if◌then◌else◌}
use Rattle.dlms_pages.specs.declared.device.Pages.{Ghosts}
use Rattle.dlms_counters.specs.Change.{accepting, reserving}
use Rattle.dlms_counters.specs.File.{Changes, MayChange}
use Rattle.dlms_counters.specs.Table.{last_of}
use Rattle.dlms_counters.specs.declared.counters.Peer.{Peer}
use Rattle.dlms_counters.specs.declared.fault.CounterFault.{CounterFault}
use Rattle.dlms_counters.specs.declared.fault.CounterFault.TheVariants.{Exhausted}
use Rattle.dlms_counters.specs.declared.file.CounterFile.{CounterFile}
use Rattle.dlms_guards.specs.declared.fault.GuardFault.{GuardFault}
use Rattle.dlms_guards.specs.declared.fault.GuardFault.TheVariants.{Stale, Stored}

-- the counter is above the last one that was accepted, if one was
abbrev pub is_above : Option ℕ → ℕ → Bool
is_above None counter = true
is_above (Some last) counter = nat_lt last counter

-- the first message of an association is newer than those of earlier ones, or there is none
abbrev pub is_fresh : List Peer → Option (List ℕ) → Option ℕ → Bool
is_fresh peers None counter = true
is_fresh peers (Some title) None = true
is_fresh peers (Some title) (Some counter) = is_above (last_of peers title) counter

-- the counter of this peer is accepted, if there are both
abbrev pub Keeps : {P : Type 0} → {ghosts : Ghosts P} → Option (List ℕ) → Option ℕ
    → (old new : CounterFile P ghosts) → Result (Unit {0}) CounterFault → Type 0
Keeps None counter old new result = (result ≡ Ok tt) × (new ≡ old)
Keeps (Some title) None old new result = (result ≡ Ok tt) × (new ≡ old)
Keeps (Some title) (Some counter) old new result =
    MayChange (accepting old.stopped title counter old.counters) old new result

-- the counters up to this one are reserved, where they are not yet; nothing is above the last
abbrev pub SkipsTo : {P : Type 0} → {ghosts : Ghosts P} → Bool → Bool → ℕ
    → (old new : CounterFile P ghosts) → Result (Unit {0}) CounterFault → Type 0
SkipsTo true is_reserved last old new result = (result ≡ Err Exhausted) × (new ≡ old)
SkipsTo false true last old new result = (result ≡ Ok tt) × (new ≡ old)
SkipsTo false false last old new result =
    Changes (reserving old.stopped (last + 1 - old.counters.reserved) old.counters) old new result

abbrev pub Skips : {P : Type 0} → {ghosts : Ghosts P} → ℕ → (old new : CounterFile P ghosts)
    → Result (Unit {0}) CounterFault → Type 0
Skips last old new result =
    SkipsTo (last == 2 ^ 32 - 1) (nat_lt last old.counters.reserved) last old new result

-- the result of a call of the file, as a guard's
abbrev pub as_stored : Result (Unit {0}) CounterFault → Result (Unit {0}) GuardFault
as_stored (Ok done) = Ok done
as_stored (Err fault) = Err (Stored fault)

-- an association that is not fresh is refused, and otherwise its last counter is kept
abbrev pub HeedsIf : {P : Type 0} → {ghosts : Ghosts P} → Bool → Option (List ℕ) → Option ℕ
    → (old new : CounterFile P ghosts) → Result (Unit {0}) GuardFault → Type 0
HeedsIf false title latest old new result = (result ≡ Err Stale) × (new ≡ old)
HeedsIf true title latest old new result = (kept : Result (Unit {0}) CounterFault)
    × Keeps title latest old new kept × (result ≡ as_stored kept)

abbrev pub Heeds : {P : Type 0} → {ghosts : Ghosts P} → Option (List ℕ) → (oldest latest : Option ℕ)
    → (old new : CounterFile P ghosts) → Result (Unit {0}) GuardFault → Type 0
Heeds title oldest latest old new result =
    HeedsIf (is_fresh old.counters.peers title oldest) title latest old new result
