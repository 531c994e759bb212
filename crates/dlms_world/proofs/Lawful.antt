-- The meter's events are legal.
use Rattle.std.proofs.Common.{◌≡◌, ⊎_elim, List, [], ◌++◌, take, drop, sym, ◌∙◌, ap, subst, append_assoc, take-append-drop}
use Rattle.std.proofs.lemmas.List.{append-nil}
use Rattle.dlms_state.specs.Refusal.{IsLegal}
use Rattle.dlms_state.specs.declared.event.Event.{Event}
use Rattle.dlms_state.proofs.Legal.{IsLegal-beginning, IsLegal-none}
use Rattle.dlms_store.specs.World.{StoreWorld as Store, StoreStep, IsBetween, Next, IsBeginning}
use Rattle.dlms_store.specs.World.StoreWorld.{Runs, InDoubt, Rests}
use Rattle.dlms_store.specs.World.StoreStep.{Adds, AddsBehind, Settles, Refuses, Fails, Closes, ClosesInDoubt, Stops, Opens, OpenFails}
use Rattle.dlms_world.specs.World.{World, IsUsual}
use Rattle.dlms_meter.specs.Run.{events_in}
use Rattle.dlms_world.specs.Turn.{Turn, Begins, GoesOn, AsksNext, Leaves, Ends, FailsAt, TimedOut, GivesUp, TurnsTo, Merges, LosesUp, LosesDown, Arrives, Intruded, OtherSends, Happens, Works, StopsInside, Restarted}
use Rattle.dlms_world.proofs.Growing.{same}

pub none_legal : IsLegal []
none_legal = IsLegal-none

pub beginning_legal : (B E : List Event) → IsBeginning B E → IsLegal E → IsLegal B
beginning_legal B E begins legal = IsLegal-beginning B begins.0 (subst IsLegal (sym begins.1) legal)

-- held events, in a memory that is another one
at : (mid now : Store) (E : List Event) → mid ≡ now → IsBeginning (events_in now) E → IsBeginning (events_in mid) E
at mid now E is begins = subst (λ m. IsBeginning (events_in m) E) (sym is) begins

runs_none : (e E : List Event) → IsBeginning e E → IsBeginning (e ++ []) E
runs_none e E begins = subst (λ l. IsBeginning l E) (sym (append-nil e)) begins

between : (s p e : List Event) → IsBetween s p e → IsBeginning e (s ++ p)
between s p e is =
    (drop is.0 p, ap (λ (l : List Event). l ++ drop is.0 p) is.1 ∙ append_assoc s (take is.0 p) (drop is.0 p) ∙ ap (λ (l : List Event). s ++ l) (take-append-drop is.0 p))

-- a stop, a close and a recovery find a prefix of the events
pub finds : (before : Store) (step : StoreStep) (after : Store) → (IsUsual step → ⊥) → Next before step after → IsBeginning (events_in after) (events_in before)
finds before (Adds e) after unusual next = absurd (unusual tt)
finds before (AddsBehind e) after unusual next = absurd (unusual tt)
finds before Settles after unusual next = absurd (unusual tt)
finds before Refuses after unusual next = absurd (unusual tt)
finds before Fails after unusual next = absurd (unusual tt)
finds (Runs s p) Closes after unusual next = at after (Rests (s ++ p)) (s ++ p) next (same (s ++ p))
finds (Runs s p) ClosesInDoubt after unusual next = at after (InDoubt s p) (s ++ p) next (same (s ++ p))
finds (Runs s p) Stops after unusual next = at after (Rests next.0) (s ++ p) next.2 (between s p next.0 next.1)
finds (Runs s p) (Opens e) after unusual none = absurd none
finds (Runs s p) OpenFails after unusual none = absurd none
finds (InDoubt s p) Closes after unusual none = absurd none
finds (InDoubt s p) ClosesInDoubt after unusual next = at after (InDoubt s p) (s ++ p) next (same (s ++ p))
finds (InDoubt s p) Stops after unusual next = at after (Rests next.0) (s ++ p) next.2 (between s p next.0 next.1)
finds (InDoubt s p) (Opens e) after unusual next = at after (Runs e []) (s ++ p) next.1 (runs_none e (s ++ p) (between s p e next.0))
finds (InDoubt s p) OpenFails after unusual next =
    ⊎_elim (λ is. at after (InDoubt s p) (s ++ p) is (same (s ++ p))) (λ fixed. at after (Rests fixed.0) (s ++ p) fixed.2 (between s p fixed.0 fixed.1)) next
finds (Rests e) Closes after unusual none = absurd none
finds (Rests e) ClosesInDoubt after unusual none = absurd none
finds (Rests e) Stops after unusual next = at after (Rests e) e next (same e)
finds (Rests e) (Opens found) after unusual next = at after (Runs found []) e next.1 (runs_none found e (subst (λ l. IsBeginning found l) next.0 (same found)))
finds (Rests e) OpenFails after unusual next = at after (Rests e) e next (same e)

pub legal_after : {w now : World} → Turn w now → IsLegal (events_in w.memory) → IsLegal (events_in now.memory)
legal_after (Begins w ready) l = l
legal_after (GoesOn w frame rest runs line own) l = l
legal_after (AsksNext w frame rest apdu short runs line free asks) l = l
legal_after (Leaves w frame rest rows runs line free released) l = l
legal_after (Ends w frame rest rows runs line down released) l = l
legal_after (FailsAt w frame rest fault runs line fails) l = l
legal_after (TimedOut w runs up) l = l
legal_after (GivesUp w fault runs closed) l = l
legal_after (TurnsTo w plan up down) l = l
legal_after (Merges w kept done some) l = l
legal_after (LosesUp w) l = l
legal_after (LosesDown w) l = l
legal_after (Arrives w frame rest choice o memory line takes) l = takes.remembers.legal
legal_after (Intruded w frame choice o memory between closed takes) l = takes.remembers.legal
legal_after (OtherSends w other frame choice own reply answer accepted memory on differs of handles remembers) l = remembers.legal
legal_after (Happens w event memory on follows remembers) l = remembers.legal
legal_after (Works w memory on remembers) l = remembers.legal
legal_after (StopsInside w accepted mid memory on remembers stops) l = beginning_legal (events_in memory) (events_in mid) (finds mid Stops memory (λ usual. usual) stops) remembers.legal
legal_after (Restarted w step memory unusual next) l = beginning_legal (events_in memory) (events_in w.memory) (finds w.memory step memory unusual next) l
