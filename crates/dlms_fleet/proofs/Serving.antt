-- What happened and was done on the lines is a run of the fleet.
use Rattle.std.proofs.Common.{◌≡◌, ◌+◌, ℕ, length, Bool, true, false, List, [], ◌∷◌, ◌++◌, Option, Some, None, refl, sym, ap, subst, append-nil, append_assoc, ◌∙◌}
use Rattle.std.proofs.lemmas.List.{length-append}
use Rattle.dlms_fleet.specs.Acts.{Act, Adds, Serves, TakesAll, TakesOne, acts_in, acts_of}
use Rattle.dlms_fleet.specs.Acts.TakesAll.{IsFull, Rests}
use Rattle.dlms_fleet.specs.Inputs.{Input}
use Rattle.dlms_fleet.specs.Runs.{Event, FleetRun}
use Rattle.dlms_fleet.specs.Seats.{FleetValue}
use Rattle.dlms_fleet.specs.declared.job.JobStep.{JobStep}

adds_none : {X : Type 0} (a : Option (List X)) → Adds a a []
adds_none None = tt
adds_none (Some xs) = sym (append-nil xs)

adds_more : {X : Type 0} (a b c : Option (List X)) (xs ys : List X) → Adds a b xs → Adds b c ys → Adds a c (xs ++ ys)
adds_more None b c xs ys h k = tt
adds_more (Some us) None c xs ys h k = absurd h
adds_more (Some us) (Some bs) None xs ys h k = absurd k
adds_more {X} (Some us) (Some bs) (Some cs) xs ys h k = k ∙ ap (λ (t : List X). t ++ ys) h ∙ append_assoc us xs ys

adds_as : {X : Type 0} (a b : Option (List X)) (xs ys : List X) → xs ≡ ys → Adds a b xs → Adds a b ys
adds_as {X} a b xs ys same adds = subst (λ (t : List X). Adds a b t) same adds

run_more : {T M E : Type 0} (steps : T → Input → JobStep M E → T → Type 0) (a b c : FleetValue T) (xs ys : List (Event T M E)) → FleetRun steps a xs b → FleetRun steps b ys c → FleetRun steps a (xs ++ ys) c
run_more {T} steps a b c [] ys one other = subst (λ (x : FleetValue T). FleetRun steps x ys c) one other
run_more steps a b c (x ∷ xs) ys (mid, does, one) other = (mid, does, run_more steps mid b c xs ys one other)

acts_append : {T M E : Type 0} (xs ys : List (Event T M E)) → acts_in (xs ++ ys) ≡ acts_in xs ++ acts_in ys
acts_append [] ys = refl
acts_append {T} {M} {E} (x ∷ xs) ys = ap (λ (t : List (Act T M E)). acts_of x ++ t) (acts_append xs ys) ∙ sym (append_assoc (acts_of x) (acts_in xs) (acts_in ys))

pub serves_none : {T M E : Type 0} (steps : T → Input → JobStep M E → T → Type 0) (past : Option (List (Act T M E))) (fleet : FleetValue T) → Serves steps past past fleet fleet
serves_none steps past fleet = record { events = []; run = refl; done = adds_none past }

pub serves_more : {T M E : Type 0} (steps : T → Input → JobStep M E → T → Type 0) (a b c : Option (List (Act T M E))) (old mid new : FleetValue T) (took : Bool) → took ≡ true
    → Serves steps a b old mid → TakesOne steps b c mid took new → Serves steps a c old new
serves_more steps a b c old mid new false took so_far one = absurd (cc took)
serves_more steps a b c old mid new true took so_far one = record {
  events = so_far.events ++ Event.Moves one.number one.at one.result ∷ [];
  run = run_more steps old mid new so_far.events (Event.Moves one.number one.at one.result ∷ []) so_far.run (new, one.moves, refl);
  done = adds_as a c (acts_in so_far.events ++ acts_of (Event.Moves one.number one.at one.result)) (acts_in (so_far.events ++ Event.Moves one.number one.at one.result ∷ []))
      (sym (acts_append so_far.events (Event.Moves one.number one.at one.result ∷ []) ∙ ap (λ t. acts_in so_far.events ++ t) (append-nil (acts_of (Event.Moves one.number one.at one.result)))))
      (adds_more a b c (acts_in so_far.events) (acts_of (Event.Moves one.number one.at one.result)) so_far.done one.done);
}

-- this many events were taken so far
pub record Taken {T M E : Type 0} (steps : T → Input → JobStep M E → T → Type 0) (taken : ℕ) (before now : Option (List (Act T M E))) (old fleet : FleetValue T) : Type 0 where
  pub served : Serves steps before now old fleet
  pub count : length served.events ≡ taken

pub taken_none : {T M E : Type 0} (steps : T → Input → JobStep M E → T → Type 0) (past : Option (List (Act T M E))) (fleet : FleetValue T) → Taken steps 0 past past fleet fleet
unfolding serves_none
taken_none steps past fleet = record { served = serves_none steps past fleet; count = refl }

pub taken_more : {T M E : Type 0} (steps : T → Input → JobStep M E → T → Type 0) (count : ℕ) (a b c : Option (List (Act T M E))) (old mid new : FleetValue T) (took : Bool) → took ≡ true
    → Taken steps count a b old mid → TakesOne steps b c mid took new → Taken steps (count + 1) a c old new
unfolding serves_more
taken_more steps count a b c old mid new false is so_far one = absurd (cc is)
taken_more steps count a b c old mid new true is so_far one = record {
  served = serves_more steps a b c old mid new true refl so_far.served one;
  count = length-append so_far.served.events (Event.Moves one.number one.at one.result ∷ []) ∙ ap (λ (n : ℕ). n + 1) so_far.count;
}

pub rests : {T M E : Type 0} (steps : T → Input → JobStep M E → T → Type 0) (count most : ℕ) (a b c : Option (List (Act T M E))) (old mid new : FleetValue T) (took : Bool) → took ≡ false
    → Taken steps count a b old mid → TakesOne steps b c mid took new → TakesAll steps most a c old new
rests steps count most a b c old mid new true is so_far one = absurd (cc is)
rests {T} steps count most a b c old mid new false is so_far one = Rests b (subst (λ (x : FleetValue T). Serves steps a b old x) (sym one.1) so_far.served) one.0

pub is_full : {T M E : Type 0} (steps : T → Input → JobStep M E → T → Type 0) (count most : ℕ) (a b : Option (List (Act T M E))) (old new : FleetValue T) → count ≡ most → Taken steps count a b old new → TakesAll steps most a b old new
is_full steps count most a b old new all taken = IsFull taken.served (taken.count ∙ all)
