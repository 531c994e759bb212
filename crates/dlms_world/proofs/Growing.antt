-- Settled events are never taken back: of two consecutive memories, the settled events of the first are a prefix of those of the
-- second.
use Rattle.std.proofs.Common.{◌≡◌, ⊎_elim, List, [], ◌∷◌, ◌++◌, take, refl, sym, ◌∙◌, ap, subst, append_assoc}
use Rattle.std.proofs.lemmas.List.{append-nil}
use Rattle.dlms_state.specs.declared.event.Event.{Event}
use Rattle.dlms_store.specs.World.{StoreWorld, StoreStep, IsBetween, Next, StoreRun, IsBeginning}
use Rattle.dlms_store.specs.World.StoreWorld.{Runs, InDoubt, Rests}
use Rattle.dlms_store.specs.World.StoreStep.{Adds, AddsBehind, Settles, Refuses, Fails, Closes, ClosesInDoubt, Stops, Opens, OpenFails}
use Rattle.dlms_world.specs.World.{settled_in}
use Rattle.dlms_meter.specs.Run.{pending_in, events_in}

pub same : (e : List Event) → IsBeginning e e
same e = ([], append-nil e)

pub longer : (e f : List Event) → IsBeginning e (e ++ f)
longer e f = (f, refl)

pub through : (e f g : List Event) → IsBeginning e f → IsBeginning f g → IsBeginning e g
through e f g first second = (first.0 ++ second.0, sym (append_assoc e first.0 second.0) ∙ ap (λ (l : List Event). l ++ second.0) first.1 ∙ second.1)

-- settled events, in a memory that is another one
at : (e : List Event) (mid now : StoreWorld) → mid ≡ now → IsBeginning e (settled_in now) → IsBeginning e (settled_in mid)
at e mid now is grown = subst (λ w. IsBeginning e (settled_in w)) (sym is) grown

between : (s p e : List Event) → IsBetween s p e → IsBeginning s e
between s p e is = (take is.0 p, sym is.1)

pub grows : (before : StoreWorld) (step : StoreStep) (after : StoreWorld) → Next before step after → IsBeginning (settled_in before) (settled_in after)
grows (Runs s p) (Adds e) after next = at s after (Runs s (p ++ e ∷ [])) next.0 (same s)
grows (Runs s p) (AddsBehind e) after next = at s after (Runs (s ++ p) (e ∷ [])) next.0 (longer s p)
grows (Runs s p) Settles after next = at s after (Runs (s ++ p) []) next (longer s p)
grows (Runs s p) Refuses after next = at s after (Runs s p) next (same s)
grows (Runs s p) Fails after next = at s after (InDoubt s p) next (same s)
grows (Runs s p) Closes after next = at s after (Rests (s ++ p)) next (longer s p)
grows (Runs s p) ClosesInDoubt after next = at s after (InDoubt s p) next (same s)
grows (Runs s p) Stops after next = at s after (Rests next.0) next.2 (between s p next.0 next.1)
grows (Runs s p) (Opens e) after none = absurd none
grows (Runs s p) OpenFails after none = absurd none
grows (InDoubt s p) Refuses after next = at s after (InDoubt s p) next (same s)
grows (InDoubt s p) ClosesInDoubt after next = at s after (InDoubt s p) next (same s)
grows (InDoubt s p) Stops after next = at s after (Rests next.0) next.2 (between s p next.0 next.1)
grows (InDoubt s p) (Opens e) after next = at s after (Runs e []) next.1 (between s p e next.0)
grows (InDoubt s p) OpenFails after next =
    ⊎_elim (λ is. at s after (InDoubt s p) is (same s)) (λ fixed. at s after (Rests fixed.0) fixed.2 (between s p fixed.0 fixed.1)) next
grows (InDoubt s p) (Adds e) after none = absurd none
grows (InDoubt s p) (AddsBehind e) after none = absurd none
grows (InDoubt s p) Settles after none = absurd none
grows (InDoubt s p) Fails after none = absurd none
grows (InDoubt s p) Closes after none = absurd none
grows (Rests e) Stops after next = at e after (Rests e) next (same e)
grows (Rests e) (Opens found) after next = at e after (Runs found []) next.1 ([], append-nil e ∙ sym next.0)
grows (Rests e) OpenFails after next = at e after (Rests e) next (same e)
grows (Rests e) (Adds x) after none = absurd none
grows (Rests e) (AddsBehind x) after none = absurd none
grows (Rests e) Settles after none = absurd none
grows (Rests e) Refuses after none = absurd none
grows (Rests e) Fails after none = absurd none
grows (Rests e) Closes after none = absurd none
grows (Rests e) ClosesInDoubt after none = absurd none

pub run_grows : (before : StoreWorld) (steps : List StoreStep) (after : StoreWorld) → StoreRun before steps after → IsBeginning (settled_in before) (settled_in after)
run_grows before [] after run = at (settled_in before) after before run (same (settled_in before))
run_grows before (step ∷ steps) after run =
    through (settled_in before) (settled_in run.0) (settled_in after) (grows before step run.0 run.1) (run_grows run.0 steps after run.2)

-- if nothing is pending, all events are settled
pub all_settled : (m : StoreWorld) → pending_in m ≡ [] → events_in m ≡ settled_in m
all_settled (Runs s p) none = ap (λ (l : List Event). s ++ l) none ∙ append-nil s
all_settled (InDoubt s p) none = ap (λ (l : List Event). s ++ l) none ∙ append-nil s
all_settled (Rests e) none = refl

-- what is settled is a beginning of all that is held
pub settled_begins : (m : StoreWorld) → IsBeginning (settled_in m) (events_in m)
settled_begins (Runs s p) = longer s p
settled_begins (InDoubt s p) = longer s p
settled_begins (Rests e) = same e
