-- The contents after the calls of the instance.
use Rattle.std.proofs.Common.{◌≡◌, ℕ, Bool, true, false, List, Some, Ok, refl, sym, subst}
use Rattle.std.specs.Str.{bytes_eq}
use Rattle.dlms_pages.specs.declared.device.Pages.{Ghosts}
use Rattle.dlms_counters.specs.Slot.{CounterState, first_of}
use Rattle.dlms_counters.specs.Table.{last_of}
use Rattle.dlms_counters.specs.Change.{accepting, after_reserve, reserving}
use Rattle.dlms_counters.specs.File.{Attempts, Changes, MayChange, view_of}
use Rattle.dlms_counters.specs.Instance.{instance_of}
use Rattle.dlms_counters.specs.Writing.{IsSettled}
use Rattle.dlms_counters.specs.declared.file.CounterFile.{CounterFile}
use Rattle.dlms_counters.proofs.RunLemmas.{own_title}

pub instance_settled : {P : Type 0} {ghosts : Ghosts P} (first mid last : CounterFile P ghosts) (end : ℕ) (done : Unit {0}) (own key peer : List ℕ)
    → IsSettled (view_of first) first.counters → first.counters ≡ first_of own key 0 → first.stopped ≡ false
    → Changes (reserving first.stopped 1000 first.counters) first mid (Ok end)
    → MayChange (accepting mid.stopped peer 7 mid.counters) mid last (Ok done)
    → IsSettled (view_of last) (instance_of own key peer)
instance_settled first mid last end done own key peer settled contents runs changes accepts =
    let c = first_of own key 0 in
    let a : Attempts (after_reserve 1000 c) first mid (Ok end) =
    subst (λ (d : CounterState). Changes (reserving false 1000 d) first mid (Ok end)) contents
    (subst (λ (b : Bool). Changes (reserving b 1000 first.counters) first mid (Ok end)) runs changes) in
    let between : IsSettled (view_of mid) mid.counters = subst (IsSettled (view_of mid)) (sym a.done.0) (a.settled settled) in
    let b : Attempts (instance_of own key peer) mid last (Ok done) =
    subst (λ (d : CounterState). MayChange (accepting false peer 7 d) mid last (Ok done)) a.done.0
    (subst (λ (s : Bool). MayChange (accepting s peer 7 mid.counters) mid last (Ok done)) a.done.1 accepts) in
    b.settled between

pub instance_last : (own key peer : List ℕ) → last_of (instance_of own key peer).peers peer ≡ Some 7
instance_last own key peer = let t : bytes_eq peer peer ≡ true = own_title peer in rw t refl
