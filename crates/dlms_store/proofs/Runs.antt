-- What every run keeps.
use Rattle.std.proofs.Common.{◌≡◌, ◌≤◌, ⊎_elim, ℕ, zero, suc, List, [], ◌∷◌, ◌++◌, take, drop, refl, sym, ◌∙◌, ap, subst, arith, append_assoc, take-append-drop}
use Rattle.std.proofs.lemmas.List.{append-nil, length-append}
use Rattle.std.specs.List.{flat_map}
use Rattle.dlms_state.specs.declared.event.Event.{Event}
use Rattle.dlms_journal.specs.Record.{record_of}
use Rattle.dlms_store.specs.World.{StoreWorld, StoreStep, IsBetween, Next, StoreRun, accept, answer, accepted_after, answered_after, IsBeginning, IsQuiet, record_bytes}
use Rattle.dlms_store.specs.World.StoreWorld.{Runs, InDoubt, Rests}
use Rattle.dlms_store.specs.World.StoreStep.{Adds, AddsBehind, Settles, Refuses, Fails, Closes, ClosesInDoubt, Stops, Opens, OpenFails}

pub record Found (found acc ans : List Event) : Type 0 where
  pub missing : List Event
  pub beginning : found ++ missing ≡ acc
  pub answered : IsBeginning ans found
  pub page : record_bytes missing ≤ 496

pub record Kept (s p acc ans : List Event) : Type 0 where
  pub all : s ++ p ≡ acc
  pub answered : IsBeginning ans s
  pub page : record_bytes p ≤ 496

abbrev pub Good : StoreWorld → List Event → List Event → Type 0
Good (Runs s p) acc ans = Kept s p acc ans
Good (InDoubt s p) acc ans = Kept s p acc ans
Good (Rests e) acc ans = Found e acc ans

-- the records of the remaining events have no more bytes
dropped : (n : ℕ) (p : List Event) → record_bytes (drop n p) ≤ record_bytes p
dropped zero p = omega arith
dropped (suc n) [] = omega arith
dropped (suc n) (e ∷ p) = omega (arith, dropped n p, length-append (record_of e) (flat_map record_of p))

between : (s p acc ans e : List Event) → Kept s p acc ans → IsBetween s p e → Found e acc ans
between s p acc ans e kept is =
    let n = is.0 in
    record {
      missing = drop n p;
      beginning = ap (λ (l : List Event). l ++ drop n p) is.1 ∙ append_assoc s (take n p) (drop n p) ∙ ap (λ (l : List Event). s ++ l) (take-append-drop n p) ∙ kept.all;
      answered = (kept.answered.0 ++ take n p, sym (append_assoc ans kept.answered.0 (take n p)) ∙ ap (λ (l : List Event). l ++ take n p) kept.answered.1 ∙ sym is.1);
      page = omega (arith, kept.page, dropped n p);
    }

whole : (e : List Event) → IsBeginning e e
whole e = ([], append-nil e)

opened : (e : List Event) → Kept e [] e e
opened e = record { all = append-nil e; answered = whole e; page = omega arith }

at : (mid now : StoreWorld) (acc ans : List Event) → mid ≡ now → Good now acc ans → Good mid acc ans
at mid now acc ans same good = subst (λ w. Good w acc ans) (sym same) good

settled : (s p acc ans : List Event) → Kept s p acc ans → Kept (s ++ p) [] acc acc
settled s p acc ans k = record { all = append-nil (s ++ p) ∙ k.all; answered = ([], append-nil acc ∙ sym k.all); page = omega arith }

-- each step keeps it
pub keep : (before : StoreWorld) (step : StoreStep) (mid : StoreWorld) (acc ans : List Event) → Next before step mid → Good before acc ans → Good mid (accept acc step) (answer ans acc step)
keep (Runs s p) (Adds e) mid acc ans next k =
    at mid (Runs s (p ++ e ∷ [])) (acc ++ e ∷ []) ans next.0 (record { all = sym (append_assoc s p (e ∷ [])) ∙ ap (λ (l : List Event). l ++ e ∷ []) k.all; answered = k.answered; page = next.1 })
keep (Runs s p) (AddsBehind e) mid acc ans next k =
    at mid (Runs (s ++ p) (e ∷ [])) (acc ++ e ∷ []) acc next.0 (record { all = ap (λ (l : List Event). l ++ e ∷ []) k.all; answered = ([], append-nil acc ∙ sym k.all); page = next.1 })
keep (Runs s p) Settles mid acc ans next k = at mid (Runs (s ++ p) []) acc acc next (settled s p acc ans k)
keep (Runs s p) Refuses mid acc ans next k = at mid (Runs s p) acc ans next k
keep (Runs s p) Fails mid acc ans next k = at mid (InDoubt s p) acc ans next k
keep (Runs s p) Closes mid acc ans next k =
    at mid (Rests (s ++ p)) acc acc next (record { missing = []; beginning = append-nil (s ++ p) ∙ k.all; answered = ([], append-nil acc ∙ sym k.all); page = omega arith })
keep (Runs s p) ClosesInDoubt mid acc ans next k = at mid (InDoubt s p) acc ans next k
keep (Runs s p) Stops mid acc ans next k = at mid (Rests next.0) acc ans next.2 (between s p acc ans next.0 k next.1)
keep (Runs s p) (Opens e) mid acc ans none k = absurd none
keep (Runs s p) OpenFails mid acc ans none k = absurd none
keep (InDoubt s p) Refuses mid acc ans next k = at mid (InDoubt s p) acc ans next k
keep (InDoubt s p) ClosesInDoubt mid acc ans next k = at mid (InDoubt s p) acc ans next k
keep (InDoubt s p) Stops mid acc ans next k = at mid (Rests next.0) acc ans next.2 (between s p acc ans next.0 k next.1)
keep (InDoubt s p) (Opens e) mid acc ans next k = at mid (Runs e []) e e next.1 (opened e)
keep (InDoubt s p) OpenFails mid acc ans next k = ⊎_elim (λ same. at mid (InDoubt s p) acc ans same k) (λ fixed. at mid (Rests fixed.0) acc ans fixed.2 (between s p acc ans fixed.0 k fixed.1)) next
keep (InDoubt s p) (Adds e) mid acc ans none k = absurd none
keep (InDoubt s p) (AddsBehind e) mid acc ans none k = absurd none
keep (InDoubt s p) Settles mid acc ans none k = absurd none
keep (InDoubt s p) Fails mid acc ans none k = absurd none
keep (InDoubt s p) Closes mid acc ans none k = absurd none
keep (Rests e) Stops mid acc ans next k = at mid (Rests e) acc ans next k
keep (Rests e) (Opens found) mid acc ans next k = at mid (Runs found []) found found next.1 (opened found)
keep (Rests e) OpenFails mid acc ans next k = at mid (Rests e) acc ans next k
keep (Rests e) (Adds x) mid acc ans none k = absurd none
keep (Rests e) (AddsBehind x) mid acc ans none k = absurd none
keep (Rests e) Settles mid acc ans none k = absurd none
keep (Rests e) Refuses mid acc ans none k = absurd none
keep (Rests e) Fails mid acc ans none k = absurd none
keep (Rests e) Closes mid acc ans none k = absurd none
keep (Rests e) ClosesInDoubt mid acc ans none k = absurd none

opens : (before mid : StoreWorld) (found acc ans : List Event) → Next before (Opens found) mid → Good before acc ans → Found found acc ans
opens (Runs s p) mid found acc ans none k = absurd none
opens (InDoubt s p) mid found acc ans next k = between s p acc ans found k next.0
opens (Rests e) mid found acc ans next k = subst (λ l. Found l acc ans) (sym next.0) k

pub recovers : (steps : List StoreStep) (before now : StoreWorld) (found acc ans : List Event) → Good before acc ans → StoreRun before (steps ++ Opens found ∷ []) now → Found found (accepted_after acc steps) (answered_after ans acc steps)
recovers [] before now found acc ans good run = opens before run.0 found acc ans run.1 good
recovers (step ∷ steps) before now found acc ans good run = recovers steps run.0 now found (accept acc step) (answer ans acc step) (keep before step run.0 acc ans run.1 good) run.2

pub at_start : Good (Runs [] []) [] []
at_start = record { all = refl; answered = ([], refl); page = omega arith }

-- a stop leaves a device at rest
after_stop : (before mid : StoreWorld) → Next before Stops mid → (events : List Event) × (mid ≡ Rests events)
after_stop (Runs s p) mid next = (next.0, next.2)
after_stop (InDoubt s p) mid next = (next.0, next.2)
after_stop (Rests e) mid next = (e, next)

pub ends_at_rest : (steps : List StoreStep) (before now : StoreWorld) → StoreRun before (steps ++ Stops ∷ []) now → (events : List Event) × (now ≡ Rests events)
ends_at_rest [] before now run = let rest = after_stop before run.0 run.1 in (rest.0, run.2 ∙ rest.1)
ends_at_rest (step ∷ steps) before now run = ends_at_rest steps run.0 now run.2

-- a world in which these events are settled, and no other is accepted
abbrev pub Only : List Event → StoreWorld → Type 0
Only events (Runs s p) = (s ≡ events) × (p ≡ [])
Only events (InDoubt s p) = (s ≡ events) × (p ≡ [])
Only events (Rests e) = e ≡ events

only_between : (s p events found : List Event) → s ≡ events → p ≡ [] → IsBetween s p found → found ≡ events
only_between s p events found is none between =
    between.1 ∙ ap (λ (l : List Event). s ++ take between.0 l) none ∙ ap (λ (l : List Event). s ++ l) (nothing_taken between.0) ∙ append-nil s ∙ is
  where
    nothing_taken : (n : ℕ) → (let none : List Event = [] in take n none) ≡ []
    nothing_taken zero = refl
    nothing_taken (suc n) = refl

joined : (s p events : List Event) → s ≡ events → p ≡ [] → s ++ p ≡ events
joined s p events is none = ap (λ (l : List Event). s ++ l) none ∙ append-nil s ∙ is

at_world : (events : List Event) (mid now : StoreWorld) → mid ≡ now → Only events now → Only events mid
at_world events mid now same only = subst (Only events) (sym same) only

abbrev pub Quiet : StoreStep → Type 0
Quiet (Adds e) = ⊥
Quiet (AddsBehind e) = ⊥
Quiet _ = Unit {0}

pub only_still : (events : List Event) (before : StoreWorld) (step : StoreStep) (mid : StoreWorld) → Quiet step → Next before step mid → Only events before → Only events mid
only_still events before (Adds e) mid loud next is = absurd loud
only_still events before (AddsBehind e) mid loud next is = absurd loud
only_still events (Runs s p) Settles mid q next is = at_world events mid (Runs (s ++ p) []) next (joined s p events is.0 is.1, refl)
only_still events (Runs s p) Refuses mid q next is = at_world events mid (Runs s p) next is
only_still events (Runs s p) Fails mid q next is = at_world events mid (InDoubt s p) next is
only_still events (Runs s p) Closes mid q next is = at_world events mid (Rests (s ++ p)) next (joined s p events is.0 is.1)
only_still events (Runs s p) ClosesInDoubt mid q next is = at_world events mid (InDoubt s p) next is
only_still events (Runs s p) Stops mid q next is = at_world events mid (Rests next.0) next.2 (only_between s p events next.0 is.0 is.1 next.1)
only_still events (Runs s p) (Opens e) mid q next is = absurd next
only_still events (Runs s p) OpenFails mid q next is = absurd next
only_still events (InDoubt s p) Settles mid q next is = absurd next
only_still events (InDoubt s p) Refuses mid q next is = at_world events mid (InDoubt s p) next is
only_still events (InDoubt s p) Fails mid q next is = absurd next
only_still events (InDoubt s p) Closes mid q next is = absurd next
only_still events (InDoubt s p) ClosesInDoubt mid q next is = at_world events mid (InDoubt s p) next is
only_still events (InDoubt s p) Stops mid q next is = at_world events mid (Rests next.0) next.2 (only_between s p events next.0 is.0 is.1 next.1)
only_still events (InDoubt s p) (Opens e) mid q next is = at_world events mid (Runs e []) next.1 (only_between s p events e is.0 is.1 next.0, refl)
only_still events (InDoubt s p) OpenFails mid q next is =
    ⊎_elim (λ same. at_world events mid (InDoubt s p) same is) (λ fixed. at_world events mid (Rests fixed.0) fixed.2 (only_between s p events fixed.0 is.0 is.1 fixed.1)) next
only_still events (Rests e) Settles mid q next is = absurd next
only_still events (Rests e) Refuses mid q next is = absurd next
only_still events (Rests e) Fails mid q next is = absurd next
only_still events (Rests e) Closes mid q next is = absurd next
only_still events (Rests e) ClosesInDoubt mid q next is = absurd next
only_still events (Rests e) Stops mid q next is = at_world events mid (Rests e) next is
only_still events (Rests e) (Opens found) mid q next is = at_world events mid (Runs found []) next.1 (next.0 ∙ is, refl)
only_still events (Rests e) OpenFails mid q next is = at_world events mid (Rests e) next is

-- one quiet step, and then quiet ones
split_quiet : (step : StoreStep) (steps : List StoreStep) → IsQuiet (step ∷ steps) → Quiet step × IsQuiet steps
split_quiet (Adds e) steps q = absurd q
split_quiet (AddsBehind e) steps q = absurd q
split_quiet Settles steps q = (tt, q)
split_quiet Refuses steps q = (tt, q)
split_quiet Fails steps q = (tt, q)
split_quiet Closes steps q = (tt, q)
split_quiet ClosesInDoubt steps q = (tt, q)
split_quiet Stops steps q = (tt, q)
split_quiet (Opens e) steps q = (tt, q)
split_quiet OpenFails steps q = (tt, q)

found_only : (events : List Event) (before mid : StoreWorld) (found : List Event) → Next before (Opens found) mid → Only events before → found ≡ events
found_only events (Runs s p) mid found next is = absurd next
found_only events (InDoubt s p) mid found next is = only_between s p events found is.0 is.1 next.0
found_only events (Rests e) mid found next is = next.0 ∙ is

pub stays_found : (quiet : List StoreStep) (events found : List Event) (before now : StoreWorld) → IsQuiet quiet → Only events before → StoreRun before (quiet ++ Opens found ∷ []) now → found ≡ events
stays_found [] events found before now q is run = found_only events before run.0 found run.1 is
stays_found (step ∷ steps) events found before now q is run =
    let split = split_quiet step steps q in
    stays_found steps events found run.0 now split.1 (only_still events before step run.0 split.0 run.1 is) run.2

-- what an open found is all that there is
pub after_open : (before mid : StoreWorld) (found : List Event) → Next before (Opens found) mid → Only found mid
after_open (Runs s p) mid found next = absurd next
after_open (InDoubt s p) mid found next = at_world found mid (Runs found []) next.1 (refl, refl)
after_open (Rests e) mid found next = at_world found mid (Runs found []) next.1 (refl, refl)
