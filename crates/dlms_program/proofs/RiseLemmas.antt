-- Where the count of faults did not rise between two moments of a replay, and no store was at its end, no call met a fault.
use Rattle.std.proofs.Common.{arith, refl, sym, ap, subst, inl, inr, append-nil, ◌∙◌, ◌≡◌, ◌≤◌, ◌<◌, ◌⊎◌, ◌+◌, ◌^◌, ◌++◌, ℕ, Bool, true, false, List, []}
use Rattle.std.specs.Prelude.{Option, Some, None, Result}
use Rattle.std.proofs.lemmas.Bool.{cases_lt}
use Rattle.dlms_pages.specs.Device.{View, Rose, Rules}
use Rattle.dlms_pages.specs.declared.device.Pages.{Ghosts}
use Rattle.dlms_state.specs.declared.event.Event.{Event}
use Rattle.dlms_state.specs.StateValue.{StateValue, IsStateOf, state_of}
use Rattle.dlms_store.specs.Fitting.{DeviceFits, StoreFits}
use Rattle.dlms_store.specs.Going.{Knows}
use Rattle.dlms_store.specs.Later.{GoesOn, IsLater, IsSpent}
use Rattle.dlms_store.specs.Store.{AddIsExhausted, CommitIsExhausted, IsRunning, IsStopped, Remembers, state_in, view_of}
use Rattle.dlms_store.specs.World.{StoreWorld, Next}
use Rattle.dlms_store.specs.World.StoreWorld.{Runs, InDoubt, Rests}
use Rattle.dlms_store.specs.World.StoreStep.{Closes}
use Rattle.dlms_store.specs.declared.fault.AddFault.{AddFault}
use Rattle.dlms_store.specs.declared.store.Store.{Store}
use Rattle.dlms_store.proofs.Later.{last_over_close, on_and_on, same_later, spent_by_add, spent_by_commit, spent_later, spent_over_close, still}
use Rattle.dlms_meter.specs.declared.meter.Meter.{Meter}
use Rattle.dlms_meter.specs.Run.{MeterWorld, IsRunningIn, Stands, events_in, recovered, silent}
use Rattle.dlms_meter.specs.Steps.{Call, IsCall, Fed, Idled, Told}
use Rattle.dlms_meter.proofs.RunLemmas.{state_known}
use Rattle.dlms_program.specs.Health.{ClosesIll, IsClosed, IsMade, IsRecovered, Leads, MeetsEnd, MeetsFault, Reaches, ServesIll}
use Rattle.dlms_program.specs.Health.MeetsEnd.{AtClose, AtLast}
use Rattle.dlms_program.specs.Health.MeetsFault.{InCall, InClose, InOpen}
use Rattle.dlms_program.specs.Health.Reaches.{Here, Further}
use Rattle.dlms_program.specs.Replay.{End, GoesWell, IsAt, Replays, ReplaysOr}
use Rattle.dlms_program.proofs.HealthLemmas.{exhausted_or_not, found_all, joined, not_stopped, rose_or_not, runs_or_not}
use Rattle.dlms_program.proofs.ReplayLemmas.{opened_runs}

-- ---- counts

rose_before : (a b c : ℕ) → Rose a b → b ≤ c → Rose a c
rose_before a b c rose le = omega (arith, le, rose)

rose_behind : (a b c : ℕ) → a ≤ b → Rose b c → Rose a c
rose_behind a b c le rose = omega (arith, le, rose)

rose_within : (a b c d : ℕ) → a ≤ b → Rose b c → c ≤ d → Rose a d
rose_within a b c d le rose more = rose_before a c d (rose_behind a b c le rose) more

-- ---- stores at their end

module _ {P A : Type 0} {ghosts : Ghosts P} where
  -- what a fault between two moments was
  served_ill : (old new : Store P A ghosts) → ServesIll old new → Rose (view_of old).faults (view_of new).faults ⊎ (IsSpent old ⊎ IsSpent new)
  served_ill old new (inl rose) = inl rose
  served_ill old new (inr (inl commit)) = inr (inr (spent_by_commit new commit))
  served_ill old new (inr (inr (event, inl add))) = inr (inl (spent_by_add old event add))
  served_ill old new (inr (inr (event, inr add))) = inr (inr (spent_by_add new event add))

  closed_ill : (old new : Meter P A ghosts) (device : P) → IsMade device new → ClosesIll old.store (ghosts.view device) → Rose (view_of old.store).faults (view_of new.store).faults ⊎ (IsSpent old.store ⊎ IsSpent new.store)
  closed_ill old new device made (inl rose) = inl (rose_before _ _ _ rose made.later.faults)
  closed_ill old new device made (inr commit) = inr (inl (spent_by_commit old.store commit))

  -- ---- one moment and the next

  later_by : (old new : Meter P A ghosts) (call : Call) → IsCall old call new → IsLater old.store new.store
  later_by old new (Fed taken reply) is = is.1
  later_by old new Idled is = same_later old.store new.store is.1
  later_by old new (Told event outcome) is = is.1

  made_later : (old new : Meter P A ghosts) (device : P) → IsClosed old device → IsMade device new → GoesOn (view_of old.store) (view_of new.store)
  made_later old new device closed made = on_and_on (view_of old.store) (ghosts.view device) (view_of new.store) closed.later made.later

  -- from the one moment to the other the device goes on
  abbrev Later : Option (Meter P A ghosts) → Option (Meter P A ghosts) → Type 0
  Later None new = Unit {0}
  Later (Some old) None = Unit {0}
  Later (Some old) (Some new) = GoesOn (view_of old.store) (view_of new.store)

  later_self : (meter : Option (Meter P A ghosts)) → Later meter meter
  later_self None = tt
  later_self (Some meter) = still (view_of meter.store)

  later_step : (start mid new : Option (Meter P A ghosts)) → Later start mid → Leads mid new → Later start new
  later_step None mid new before leads = tt
  later_step (Some a) mid None before leads = tt
  later_step (Some a) None (Some b) before leads = absurd leads
  later_step (Some a) (Some m) (Some b) before (inl (call, is)) = on_and_on (view_of a.store) (view_of m.store) (view_of b.store) before (later_by m b call is).device
  later_step (Some a) (Some m) (Some b) before (inr (device, closed, made)) = on_and_on (view_of a.store) (view_of m.store) (view_of b.store) before (made_later m b device closed made)

  later_all : (start finish : Option (Meter P A ghosts)) → Reaches start finish → Later start finish
  later_all start finish Here = later_self start
  later_all start finish (Further mid new before leads) = later_step start mid finish (later_all start mid before) leads

  pub goes_on : (old new : Meter P A ghosts) → Reaches (Some old) (Some new) → GoesOn (view_of old.store) (view_of new.store)
  goes_on old new reaches = later_all (Some old) (Some new) reaches

  abbrev IsNone : Option (Meter P A ghosts) → Type 0
  IsNone None = Unit {0}
  IsNone (Some meter) = ⊥

  -- a meter that is gone stays so
  gone : (start finish : Option (Meter P A ghosts)) → IsNone start → Reaches start finish → IsNone finish
  gone start finish none Here = none
  gone start finish none (Further mid new before leads) = nowhere mid finish (gone start mid none before) leads
    where
      nowhere : (mid new : Option (Meter P A ghosts)) → IsNone mid → Leads mid new → IsNone new
      nowhere None new none leads = absurd leads
      nowhere (Some meter) new none leads = absurd none

  -- ---- on any device

  spent_step : (start : Option (Meter P A ghosts)) (m : Meter P A ghosts) (new : Option (Meter P A ghosts)) → Reaches start (Some m) → IsSpent m.store → Leads (Some m) new → MeetsEnd start new
  spent_step start m None before spent (device, closed, recovered) = AtClose m device None before closed recovered Here spent
  spent_step start m (Some n) before spent (inl (call, is)) = AtLast n refl (spent_later m.store n.store (later_by m n call is) spent)
  spent_step start m (Some n) before spent (inr (device, closed, made)) = AtClose m device (Some n) before closed made Here spent

  end_step : (start mid new : Option (Meter P A ghosts)) → Reaches start mid → MeetsEnd start mid → Leads mid new → MeetsEnd start new
  end_step start mid new before (AtLast meter is spent) leads =
      spent_step start meter new (subst (λ (x : Option (Meter P A ghosts)). Reaches start x) is before) spent (subst (λ (x : Option (Meter P A ghosts)). Leads x new) is leads)
  end_step start mid new before (AtClose old device other first closed recovered behind spent) leads = AtClose old device other first closed recovered (Further mid new behind leads) spent

  spent_on : (start : Option (Meter P A ghosts)) (m : Meter P A ghosts) (finish : Option (Meter P A ghosts)) → Reaches start (Some m) → IsSpent m.store → Reaches (Some m) finish → MeetsEnd start finish
  spent_on start m finish before spent Here = AtLast m refl spent
  spent_on start m finish before spent (Further mid new behind leads) = end_step start mid finish (joined start (Some m) mid before behind) (spent_on start m mid before spent behind) leads

  pub met_on_any : (a b : Meter P A ghosts) → MeetsFault (Some a) (Some b) → Rose (view_of a.store).faults (view_of b.store).faults ⊎ MeetsEnd (Some a) (Some b)
  met_on_any a b (InCall old new call before is behind (inl rose)) = inl (rose_within _ _ _ _ (goes_on a old before).faults rose (goes_on new b behind).faults)
  met_on_any a b (InCall old new call before is behind (inr (inl commit))) =
      inr (spent_on (Some a) new (Some b) (Further (Some old) (Some new) before (inl (call, is))) (spent_by_commit new.store commit) behind)
  met_on_any a b (InCall old new call before is behind (inr (inr (event, inl add)))) =
      inr (spent_on (Some a) old (Some b) before (spent_by_add old.store event add) (joined (Some old) (Some new) (Some b) (Further (Some old) (Some new) Here (inl (call, is))) behind))
  met_on_any a b (InCall old new call before is behind (inr (inr (event, inr add)))) =
      inr (spent_on (Some a) new (Some b) (Further (Some old) (Some new) before (inl (call, is))) (spent_by_add new.store event add) behind)
  met_on_any a b (InClose old device None before closed recovered behind ill) = absurd (gone None (Some b) tt behind)
  met_on_any a b (InClose old device (Some new) before closed made behind (inl rose)) =
      inl (rose_within _ _ _ _ (goes_on a old before).faults rose (on_and_on (ghosts.view device) (view_of new.store) (view_of b.store) made.later (goes_on new b behind)).faults)
  met_on_any a b (InClose old device (Some new) before closed made behind (inr commit)) = inr (AtClose old device (Some new) before closed made behind (spent_by_commit old.store commit))
  met_on_any a b (InOpen fault was behind ill) = absurd (gone None (Some b) tt behind)

-- ---- on a device that keeps the rules

running_store : {P A : Type 0} {ghosts : Ghosts P} (store : Store P A ghosts) (w : StoreWorld) → Knows store w → IsRunningIn w → IsRunning store
running_store store (Runs s p) knows is = knows.0
running_store store (InDoubt s p) knows is = absurd is
running_store store (Rests events) knows is = absurd is

stopped_store : {P A : Type 0} {ghosts : Ghosts P} (store : Store P A ghosts) (w : StoreWorld) → Knows store w → (IsRunningIn w → ⊥) → IsStopped store
stopped_store store (Runs s p) knows not = absurd (not tt)
stopped_store store (InDoubt s p) knows not = knows.0
stopped_store store (Rests events) knows not = absurd knows

-- of the same events there are as many rows
same_rows : (E F : List Event) (s t : StateValue) → IsStateOf E s → IsStateOf F t → E ≡ F → s.rows.next ≡ t.rows.next
same_rows E F s t first second same =
    ap (λ (x : StateValue). x.rows.next) first.value ∙ ap (λ (G : List Event). (state_of G).rows.next) same ∙ sym (ap (λ (x : StateValue). x.rows.next) second.value)

module _ {P A : Type 0} {ghosts : Ghosts P} (rules : (device : P) → (ghosts.view device).honest ≡ true → Rules (ghosts.view device)) where
  -- its store runs, and the device's contents represent its world
  abbrev Serves : Meter P A ghosts → Type 0
  Serves meter = (w : MeterWorld) × IsAt true meter w × IsRunningIn w.store

  -- from the one to the other: a fault has come, or it serves still, and a store at its end stays there
  abbrev Follows : Meter P A ghosts → Meter P A ghosts → Type 0
  Follows a b = Serves a → Rose (view_of a.store).faults (view_of b.store).faults ⊎ (Serves b × (IsSpent a.store → IsSpent b.store))

  follows_self : (meter : Meter P A ghosts) → Follows meter meter
  follows_self meter serves = inr (serves, λ spent. spent)

  follows_on : (a b c : Meter P A ghosts) → GoesOn (view_of a.store) (view_of b.store) → GoesOn (view_of b.store) (view_of c.store) → Follows a b → Follows b c → Follows a c
  follows_on a b c one two first second serves =
      elim (first serves) [
        | inl rose ↦ inl (rose_before _ _ _ rose two.faults)
        | inr (mid, still_spent) ↦
            elim (second mid) [
              | inl rose ↦ inl (rose_behind _ _ _ one.faults rose)
              | inr (last, spent) ↦ inr (last, λ is. spent (still_spent is))
            ]
      ]

  -- if a call led to this world
  call_led : (old new : Meter P A ghosts) (w w' : MeterWorld) → IsAt true old w → IsRunningIn w.store → IsLater old.store new.store → Stands new w' → StoreFits new.store w'.store
      → Rose (view_of old.store).faults (view_of new.store).faults ⊎ (Serves new × (IsSpent old.store → IsSpent new.store))
  call_led old new w w' at runs later stands fits =
      elim (runs_or_not w'.store) [
        | inl still_runs ↦ inr ((w', (stands, fits), still_runs), spent_later old.store new.store later)
        | inr not ↦
            elim (later.stops (stopped_store new.store w'.store stands.store not)) [
              | inl stopped ↦ absurd (not_stopped old.store w.store at.0.store runs stopped)
              | inr rose ↦ inl rose
            ]
      ]

  follows_call : (old new : Meter P A ghosts) (call : Call) → IsCall old call new → Follows old new
  follows_call old new (Fed taken reply) is (w, at, runs) = (let led = is.0 w at.0 in call_led old new w led.0 at runs is.1 led.3 (led.4.fits at.1))
  follows_call old new (Told event outcome) is (w, at, runs) = (let led = is.0 w at.0 in call_led old new w led.0 at runs is.1 led.4 (led.5.fits at.1))
  follows_call old new Idled is (w, at, runs) =
      call_led old new w (silent w) at runs (same_later old.store new.store is.1) (is.0 w at.0) (subst (λ (store : Store P A ghosts). StoreFits store w.store) (sym is.1) at.1)

  -- a recovery serves
  made_serves : (new : Meter P A ghosts) (device : P) (closed : StoreWorld) → DeviceFits (ghosts.view device) closed → IsMade device new → Serves new
  made_serves new device closed fits made =
      let opens = made.opens closed fits in
      let there : StoreFits new.store (Runs opens.found []) = subst (λ (x : StoreWorld). StoreFits new.store x) (opened_runs closed opens.now opens.found opens.next) opens.fits in
      (recovered opens.found, (made.stands opens.found there.1, there), tt)

  -- all is found, so the next row has the same number
  rows_still : (old new : Meter P A ghosts) (w : MeterWorld) (device : P) (closed : StoreWorld) → IsAt true old w → IsMade device new → Next w.store Closes closed → DeviceFits (ghosts.view device) closed
      → (state_in old.store).rows.next ≡ (state_in new.store).rows.next
  rows_still old new w device closed at made next fits =
      let opens = made.opens closed fits in
      let there : StoreFits new.store (Runs opens.found []) = subst (λ (x : StoreWorld). StoreFits new.store x) (opened_runs closed opens.now opens.found opens.next) opens.fits in
      let had : IsStateOf (events_in w.store) (state_in old.store) = state_known w.store old.store (state_in old.store) at.0.store (λ s p remembers. remembers.state) in
      let found : opens.found ≡ events_in w.store = found_all w.store closed opens.now opens.found next opens.next in
      same_rows (events_in w.store) (opens.found ++ []) (state_in old.store) (state_in new.store) had there.1.state (sym (append-nil opens.found ∙ found))

  follows_reopen : (old new : Meter P A ghosts) (device : P) → IsClosed old device → IsMade device new → Follows old new
  follows_reopen old new device closed made (w, at, runs) =
      elim (rose_or_not (view_of old.store).faults (ghosts.view device).faults) [
        | inl rose ↦ inl (rose_before _ _ _ rose made.later.faults)
        | inr steady ↦
            let from = closed.from (running_store old.store w.store at.0.store runs) steady w.store at.1 in
            let device_rules = rules device in
            let opened = made.exact from.honest in
            elim (exhausted_or_not old.store) [
              | inl exhausted ↦
                  let serves : Serves new = elim (closed.run w.store at.1) [
                    | inl gives ↦ made_serves new device gives.now gives.fits made
                    | inr gives ↦ made_serves new device gives.now gives.fits made
                  ] in
                  inr (serves, λ spent. last_over_close old.store new.store (ghosts.view device) device_rules from opened exhausted.1.1)
              | inr settles ↦
                  let gives = closed.settles (not_stopped old.store w.store at.0.store runs) steady settles w.store at.1 in
                  let rows = rows_still old new w device gives.now at made gives.next gives.fits in
                  inr (made_serves new device gives.now gives.fits made, λ spent. spent_over_close old.store new.store (ghosts.view device) device_rules from opened rows spent)
            ]
      ]

  abbrev FollowsTo : Option (Meter P A ghosts) → Option (Meter P A ghosts) → Type 0
  FollowsTo None new = Unit {0}
  FollowsTo (Some old) None = Unit {0}
  FollowsTo (Some old) (Some new) = GoesOn (view_of old.store) (view_of new.store) × Follows old new

  to_self : (meter : Option (Meter P A ghosts)) → FollowsTo meter meter
  to_self None = tt
  to_self (Some meter) = (still (view_of meter.store), follows_self meter)

  one_step : (a m b : Meter P A ghosts) → GoesOn (view_of a.store) (view_of m.store) × Follows a m → GoesOn (view_of m.store) (view_of b.store) → Follows m b → GoesOn (view_of a.store) (view_of b.store) × Follows a b
  one_step a m b before later follows = (on_and_on (view_of a.store) (view_of m.store) (view_of b.store) before.0 later, follows_on a m b before.0 later before.1 follows)

  to_step : (start mid new : Option (Meter P A ghosts)) → FollowsTo start mid → Leads mid new → FollowsTo start new
  to_step None mid new before leads = tt
  to_step (Some a) mid None before leads = tt
  to_step (Some a) None (Some b) before leads = absurd leads
  to_step (Some a) (Some m) (Some b) before (inl (call, is)) = one_step a m b before (later_by m b call is).device (follows_call m b call is)
  to_step (Some a) (Some m) (Some b) before (inr (device, closed, made)) = one_step a m b before (made_later m b device closed made) (follows_reopen m b device closed made)

  to_all : (start finish : Option (Meter P A ghosts)) → Reaches start finish → FollowsTo start finish
  to_all start finish Here = to_self start
  to_all start finish (Further mid new before leads) = to_step start mid finish (to_all start mid before) leads

  -- between a and b, old led to new, which met this
  led_on : {X : Type 0} (a old new b : Meter P A ghosts) → FollowsTo (Some a) (Some old) → FollowsTo (Some old) (Some new) → FollowsTo (Some new) (Some b) → (X → Rose (view_of old.store).faults (view_of new.store).faults ⊎ (IsSpent old.store ⊎ IsSpent new.store))
      → X → Serves a → Rose (view_of a.store).faults (view_of b.store).faults ⊎ IsSpent b.store
  led_on a old new b first mid last why ill serves =
      elim (first.1 serves) [
        | inl rose ↦ inl (rose_before _ _ _ rose (on_and_on (view_of old.store) (view_of new.store) (view_of b.store) mid.0 last.0).faults)
        | inr (at_old, to_old) ↦
            elim (mid.1 at_old) [
              | inl rose ↦ inl (rose_within _ _ _ _ first.0.faults rose last.0.faults)
              | inr (at_new, to_new) ↦
                  elim (last.1 at_new) [
                    | inl rose ↦ inl (rose_behind _ _ _ (on_and_on (view_of a.store) (view_of old.store) (view_of new.store) first.0 mid.0).faults rose)
                    | inr (at_b, to_b) ↦
                        elim (why ill) [
                          | inl rose ↦ inl (rose_within _ _ _ _ first.0.faults rose last.0.faults)
                          | inr (inl spent) ↦ inr (to_b (to_new spent))
                          | inr (inr spent) ↦ inr (to_b spent)
                        ]
                  ]
            ]
      ]

  pub met_on_honest : (a b : Meter P A ghosts) → Serves a → MeetsFault (Some a) (Some b) → Rose (view_of a.store).faults (view_of b.store).faults ⊎ IsSpent b.store
  met_on_honest a b serves (InCall old new call before is behind ill) =
      led_on a old new b (to_all (Some a) (Some old) before) ((later_by old new call is).device, follows_call old new call is) (to_all (Some new) (Some b) behind) (served_ill old.store new.store) ill serves
  met_on_honest a b serves (InClose old device None before closed recovered behind ill) = absurd (gone None (Some b) tt behind)
  met_on_honest a b serves (InClose old device (Some new) before closed made behind ill) =
      led_on a old new b (to_all (Some a) (Some old) before) (made_later old new device closed made, follows_reopen old new device closed made) (to_all (Some new) (Some b) behind) (closed_ill old new device made) ill serves
  met_on_honest a b serves (InOpen fault was behind ill) = absurd (gone None (Some b) tt behind)

-- ---- replays

pub goes_well_by : (Fault : Type 0) (honest : Bool) (w : MeterWorld) (number : ℕ) (lines : List (List ℕ)) (written : List ℕ) (end : End) (last : Option MeterWorld) → (Fault → ⊥) → IsRunningIn w.store
    → (r : ReplaysOr Fault honest w number lines written end last) → GoesWell honest w number lines written end last r.0
goes_well_by Fault honest w number lines written end last none runs (replays, well) =
    elim (well runs) [
      | inl goes ↦ goes
      | inr fault ↦ absurd (none fault)
    ]
