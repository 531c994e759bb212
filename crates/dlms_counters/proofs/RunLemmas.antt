-- Over all runs nothing is lost or lowered.
use Rattle.std.proofs.Common.{◌≡◌, ◌<◌, ◌≤◌, ◌^◌, ⊎_elim, ℕ, Bool, true, false, List, [], ◌∷◌, length, ◌-◌, nat_eq, nat_le, Option, Some, None, Ok, Err, refl, sym, ap, ◌∙◌, subst, arith, if◌then◌else◌}
use Rattle.std.specs.Str.{bytes_eq}
use Rattle.std.proofs.lemmas.Slice.Eq.{bytes_eq-Decides}
use Rattle.dlms_counters.specs.Slot.{CounterState}
use Rattle.dlms_counters.specs.Table.{is_full, is_known, last_of, with_counter}
use Rattle.dlms_counters.specs.Change.{accepting, after_accept, after_reserve, reserving}
use Rattle.dlms_counters.specs.declared.counters.Peer.{Peer}
use Rattle.dlms_counters.specs.declared.fault.CounterFault.TheVariants.{Full, Exhausted}
use Rattle.dlms_counters.specs.Run.{World, settled, LeftBy, Event, MayHave, IsStep, AreSteps, IsNotBelow, AtLeast, IsWorld, IsKept, AreKept, NothingIsLost, NothingIsLowered, RestoresAssociations}
use Rattle.dlms_counters.specs.Run.Event.{Reserves, Accepts, Stops}

-- ---- order

same_not_below : (o : Option ℕ) → IsNotBelow o o
same_not_below None = tt
same_not_below (Some a) = omega arith

then_not_below : (a b c : Option ℕ) → IsNotBelow a b → IsNotBelow b c → IsNotBelow a c
then_not_below None b c first second = tt
then_not_below (Some a) None c first second = absurd first
then_not_below (Some a) (Some b) None first second = absurd second
then_not_below (Some a) (Some b) (Some c) first second = omega (arith, first, second)

pub at_least_same : (c : CounterState) → AtLeast c c
at_least_same c = record { reserved = omega arith; peers = λ title. same_not_below (last_of c.peers title) }

at_least_then : (a b c : CounterState) → AtLeast a b → AtLeast b c → AtLeast a c
at_least_then a b c first second = record {
  reserved = let x = first.reserved in let y = second.reserved in omega (arith, x, y);
  peers = λ title. then_not_below (last_of a.peers title) (last_of b.peers title) (last_of c.peers title) (first.peers title) (second.peers title);
}

-- ---- the table

pub own_title : (title : List ℕ) → bytes_eq title title ≡ true
own_title title = (bytes_eq-Decides title title).1 refl

has_counter : (title : List ℕ) (n : ℕ) (ps : List Peer) → last_of (with_counter title n ps) title ≡ Some n
has_counter title n [] = rw (own_title title) refl
has_counter title n (p ∷ ps) = by_title (bytes_eq p.title title) refl (has_counter title n ps)
  where
    by_title : (b : Bool) → bytes_eq p.title title ≡ b → last_of (with_counter title n ps) title ≡ Some n → last_of (with_counter title n (p ∷ ps)) title ≡ Some n
    by_title true t rest = rw (t, own_title title) refl
    by_title false t rest = rw (t, t) rest

other_counter : (title t : List ℕ) (n : ℕ) (ps : List Peer) → bytes_eq title t ≡ false → last_of (with_counter title n ps) t ≡ last_of ps t
other_counter title t n [] other = rw other refl
other_counter title t n (p ∷ ps) other = by_title (bytes_eq p.title title) refl (other_counter title t n ps other)
  where
    by_own : (b : Bool) → bytes_eq p.title t ≡ b → bytes_eq p.title title ≡ false → last_of (with_counter title n ps) t ≡ last_of ps t
        → last_of (with_counter title n (p ∷ ps)) t ≡ last_of (p ∷ ps) t
    by_own true u s rest = rw (s, u) refl
    by_own false u s rest = rw (s, u) rest

    by_title : (b : Bool) → bytes_eq p.title title ≡ b → last_of (with_counter title n ps) t ≡ last_of ps t
        → last_of (with_counter title n (p ∷ ps)) t ≡ last_of (p ∷ ps) t
    by_title true s rest =
        let same : p.title ≡ title = (bytes_eq-Decides p.title title).0 s in
        let also : bytes_eq p.title t ≡ false = ap (λ (x : List ℕ). bytes_eq x t) same ∙ other in
        rw (s, other, also) refl
    by_title false s rest = by_own (bytes_eq p.title t) refl s rest

above_last : (o : Option ℕ) (n : ℕ) → is_known o n ≡ false → IsNotBelow o (Some n)
above_last None n above = tt
above_last (Some last) n above = grind (arith, above)

known_last : (o : Option ℕ) (n : ℕ) → is_known o n ≡ true → IsNotBelow (Some n) o
known_last None n known = absurd (let no : false ≡ true = known in cc)
known_last (Some last) n known = grind (arith, known)

table_at_least : (title t : List ℕ) (n : ℕ) (ps : List Peer) → is_known (last_of ps title) n ≡ false → IsNotBelow (last_of ps t) (last_of (with_counter title n ps) t)
table_at_least title t n ps above = by_title (bytes_eq title t) refl
  where
    by_title : (b : Bool) → bytes_eq title t ≡ b → IsNotBelow (last_of ps t) (last_of (with_counter title n ps) t)
    by_title true s =
        let same : title ≡ t = (bytes_eq-Decides title t).0 s in
        subst (λ (x : List ℕ). IsNotBelow (last_of ps x) (last_of (with_counter title n ps) x)) same
        (subst (IsNotBelow (last_of ps title)) (sym (has_counter title n ps)) (above_last (last_of ps title) n above))
    by_title false s = subst (IsNotBelow (last_of ps t)) (sym (other_counter title t n ps s)) (same_not_below (last_of ps t))

-- ---- one change

reserved_is : (step : ℕ) (c next : CounterState) → reserving false step c ≡ Ok next → next ≡ after_reserve step c
reserved_is step c next e = by_last (nat_eq c.sequence (2 ^ 64 - 1)) refl
  where
    by_last : (b : Bool) → nat_eq c.sequence (2 ^ 64 - 1) ≡ b → next ≡ after_reserve step c
    by_last true t = absurd (let no : Err Exhausted ≡ Ok next = rw t at e in cc)
    by_last false t = let is : Ok (after_reserve step c) ≡ Ok next = rw t at e in cc

module _ (title : List ℕ) (n : ℕ) (c next : CounterState) (e : accepting false title n c ≡ Ok (Some next)) where
  abbrev Is : Type 0
  Is = (next ≡ after_accept title n c) × (is_known (last_of c.peers title) n ≡ false)

  accepted_is : Is
  accepted_is = by_known (is_known (last_of c.peers title) n) refl
    where
      by_last : (b : Bool) → nat_eq c.sequence (2 ^ 64 - 1) ≡ b → is_known (last_of c.peers title) n ≡ false
          → (if nat_eq c.sequence (2 ^ 64 - 1) then Err Exhausted else Ok (Some (after_accept title n c))) ≡ Ok (Some next) → Is
      by_last true t k h = absurd (let no : Err Exhausted ≡ Ok (Some next) = rw t at h in cc)
      by_last false t k h = let is : Ok (Some (after_accept title n c)) ≡ Ok (Some next) = rw t at h in (cc, k)

      by_full : (b : Bool) → is_full (last_of c.peers title) (nat_le 39 (length c.peers)) ≡ b → is_known (last_of c.peers title) n ≡ false
          → (if is_full (last_of c.peers title) (nat_le 39 (length c.peers)) then Err Full else if nat_eq c.sequence (2 ^ 64 - 1) then Err Exhausted else Ok (Some (after_accept title n c))) ≡ Ok (Some next) → Is
      by_full true t k h = absurd (let no : Err Full ≡ Ok (Some next) = rw t at h in cc)
      by_full false t k h = by_last (nat_eq c.sequence (2 ^ 64 - 1)) refl k (rw t at h)

      by_known : (b : Bool) → is_known (last_of c.peers title) n ≡ b → Is
      by_known true t = absurd (let no : Ok None ≡ Ok (Some next) = rw t at e in cc)
      by_known false t = by_full (is_full (last_of c.peers title) (nat_le 39 (length c.peers))) refl t (rw t at e)

-- the next contents are not below these, and their reservation fits
abbrev IsRaised : CounterState → CounterState → Type 0
IsRaised c next = AtLeast c next × (next.reserved < 2 ^ 32)

raised : (step : ℕ) (c next : CounterState) → c.reserved < 2 ^ 32 → reserving false step c ≡ Ok next → IsRaised c next
raised step c next fits e = subst (IsRaised c) (sym (reserved_is step c next e))
    (record { reserved = omega (arith, fits); peers = λ t. same_not_below (last_of c.peers t) }, omega (arith, fits))

accepted : (title : List ℕ) (n : ℕ) (c next : CounterState) → c.reserved < 2 ^ 32 → accepting false title n c ≡ Ok (Some next)
    → IsRaised c next × IsNotBelow (Some n) (last_of next.peers title)
accepted title n c next fits e =
    let is = accepted_is title n c next e in
    subst (λ (d : CounterState). IsRaised c d × IsNotBelow (Some n) (last_of d.peers title)) (sym is.0) (
      (record { reserved = omega arith; peers = λ t. table_at_least title t n c.peers is.1 }, fits),
      subst (IsNotBelow (Some n)) (sym (has_counter title n c.peers)) (omega arith),
    )

-- ---- one event

abbrev Goes : World → Event → World → Type 0
Goes w e v = IsWorld v × AtLeast w.known v.known × IsKept e v.known

still : (w v : World) → IsWorld w → v ≡ w → IsWorld v × AtLeast w.known v.known
still w v is same = subst (λ (x : World). IsWorld x × AtLeast w.known x.known) (sym same) (is, at_least_same w.known)

now_settled : (w v : World) (c : CounterState) → AtLeast w.known c → c.reserved < 2 ^ 32 → v ≡ settled c → IsWorld v × AtLeast w.known v.known
now_settled w v c higher fits same = subst (λ (x : World). IsWorld x × AtLeast w.known x.known) (sym same)
    (record { higher = at_least_same c; known = fits; maybe = fits }, higher)

may_have : (w v : World) (IsNext : CounterState → Type 0) → IsWorld w → ((next : CounterState) → IsNext next → IsRaised w.known next)
    → MayHave w IsNext v → IsWorld v × AtLeast w.known v.known
may_have w v IsNext is raises h = ⊎_elim
    (λ same. still w v is same)
    (λ made. let up = raises made.0 made.1 in subst (λ (x : World). IsWorld x × AtLeast w.known x.known) (sym made.2)
    (record { higher = up.0; known = is.known; maybe = up.1 }, at_least_same w.known))
    h

left_at_least : (w : World) (c : CounterState) → IsWorld w → LeftBy w c → IsRaised w.known c
left_at_least w c is left = ⊎_elim
    (λ same. subst (IsRaised w.known) (sym same) (at_least_same w.known, is.known))
    (λ same. subst (IsRaised w.known) (sym same) (is.higher, is.maybe))
    left

step : (w v : World) (e : Event) → IsWorld w → IsStep w e v → Goes w e v
step w v (Reserves n (Ok end)) is s =
    let up = raised n w.known s.0 is.known s.1 in
    let here = now_settled w v s.0 up.0 up.1 s.3 in
    (here.0, here.1, subst (λ (x : World). end ≤ x.known.reserved) (sym s.3) (let same = s.2 in omega (arith, same)))
step w v (Reserves n (Err fault)) is s =
    let here = may_have w v _ is (λ next e. raised n w.known next is.known e) s in
    (here.0, here.1, tt)
step w v (Accepts title n (Ok done)) is s = ⊎_elim
    (λ known. let here = still w v is known.1 in
    (here.0, here.1, subst (λ (x : World). IsNotBelow (Some n) (last_of x.known.peers title)) (sym known.1) (known_last (last_of w.known.peers title) n known.0)))
    (λ made. let up = accepted title n w.known made.0 is.known made.1 in
    let here = now_settled w v made.0 up.0.0 up.0.1 made.2 in
    (here.0, here.1, subst (λ (x : World). IsNotBelow (Some n) (last_of x.known.peers title)) (sym made.2) up.1))
    s
step w v (Accepts title n (Err fault)) is s =
    let here = may_have w v _ is (λ next e. (accepted title n w.known next is.known e).0) s in
    (here.0, here.1, tt)
step w v Stops is s =
    let up = left_at_least w s.0 is s.1 in
    let here = now_settled w v s.0 up.0 up.1 s.2 in
    (here.0, here.1, tt)

-- ---- runs

kept_up : (e : Event) (c d : CounterState) → IsKept e c → AtLeast c d → IsKept e d
kept_up (Reserves n (Ok end)) c d kept up = let more = up.reserved in omega (arith, kept, more)
kept_up (Reserves n (Err fault)) c d kept up = tt
kept_up (Accepts title n (Ok done)) c d kept up = then_not_below (Some n) (last_of c.peers title) (last_of d.peers title) kept (up.peers title)
kept_up (Accepts title n (Err fault)) c d kept up = tt
kept_up Stops c d kept up = tt

all_kept_up : (events : List Event) (c d : CounterState) → AreKept events c → AtLeast c d → AreKept events d
all_kept_up [] c d kept up = tt
all_kept_up (e ∷ es) c d kept up = (kept_up e c d kept.0 up, all_kept_up es c d kept.1 up)

run : (w v : World) (events : List Event) → IsWorld w → AreSteps w events v → IsWorld v × AtLeast w.known v.known × AreKept events v.known
run w v [] is same = let here = still w v is same in (here.0, here.1, tt)
run w v (e ∷ es) is s =
    let first = step w s.0 e is s.1 in
    let rest = run s.0 v es first.0 s.2 in
    (rest.0, at_least_then w.known s.0.known v.known first.1 rest.1, (kept_up e s.0.known v.known first.2 rest.1, rest.2))

pub nothing_is_lost : NothingIsLost
nothing_is_lost w v events c is steps left =
    let all = run w v events is steps in
    all_kept_up events v.known c all.2 (left_at_least v c all.0 left).0

pub nothing_is_lowered : NothingIsLowered
nothing_is_lowered w v events c is steps left =
    let all = run w v events is steps in
    at_least_then w.known v.known c all.1 (left_at_least v c all.0 left).0

pub restores_associations : RestoresAssociations
restores_associations w v events c reserved peer last is steps left under above =
    let up = nothing_is_lowered w v events c is steps left in
    (let more = up.reserved in omega (arith, under, more), then_not_below last (last_of w.known.peers peer) (last_of c.peers peer) above (up.peers peer))
