-- Refusals of addresses that have proved no secret are a second apart.
use Rattle.std.proofs.Common.{refl, sym, ◌∙◌, ◌≡◌, ◌+◌, ◌<◌, ◌≤◌, ◌⊎◌, ℕ, Bool, true, false, arith, List, [], ◌∷◌, ◌++◌, length, min, Option, Some, Ok, subst, ap}
use Rattle.std.specs.Prelude.{All, nat_le, not, ◌&&◌, ◌||◌, if◌then◌else◌}
use Rattle.std.proofs.lemmas.Bool.Decides.{nat_tests}
use Rattle.std.proofs.lemmas.List.Elements.{All-head, All-tail}
use Rattle.std.specs.List.{list_any}
use Rattle.std.specs.declared.alloc.AllocError.{AllocError}
use Rattle.std.proofs.lemmas.List.Folds.{list_any-append}
use Rattle.dlms_serving.specs.Guesses.{Refuses, have_passed, is_known, is_open, marks_without, may_try, most_wait, same_origin, wait_behind, waits, with_room}
use Rattle.dlms_serving.specs.declared.guesses.TheConstants.{MOST_MARKS}
use Rattle.dlms_serving.specs.declared.guesses.Mark.{Mark}
use Rattle.dlms_serving.specs.declared.guesses.Origin.TheVariants.{Four, Six, Line}
use Rattle.dlms_serving.specs.GuessRuns.{Guessed, Begins, Tries, KnownTries, Knows}
use Rattle.dlms_serving.specs.declared.guesses.Guesses.{Guesses}
use Rattle.dlms_serving.specs.declared.guesses.Origin.{Origin}

open_then : (known gate : Bool) (waiting : Bool) → known ≡ false → (known || gate) && not waiting ≡ true → gate ≡ true
open_then true gate waiting is may = absurd cc
open_then false true waiting is may = refl
open_then false false waiting is may = absurd cc

-- a client that is served and has proved no secret is served after the last refusal
apart : (g : Guesses) (origin : Origin) (is_patient : Bool) (served before : ℕ) → may_try g origin is_patient served ≡ true → is_known g.proofs.items origin served ≡ false → g.last ≡ Some before → before + 1 ≤ served
apart g origin is_patient served before may unknown last =
    let gate : is_open g.last served ≡ true = open_then (is_known g.proofs.items origin served) (is_open g.last served) (waits g.marks.items origin (most_wait (is_known g.proofs.items origin served) is_patient) served) unknown may in
    let behind : nat_le (before + 1) served ≡ true = subst (λ (o : Option ℕ). is_open o served ≡ true) last gate in
    grind (arith, nat_tests, behind)

kept_if : (known : Bool) (old new : Option ℕ) (now : ℕ) → new ≡ (if known then old else Some now) → known ≡ true → new ≡ old
kept_if true old new now is so = is
kept_if false old new now is so = absurd cc

set_if : (known : Bool) (old new : Option ℕ) (now : ℕ) → new ≡ (if known then old else Some now) → known ≡ false → new ≡ Some now
set_if true old new now is so = absurd cc
set_if false old new now is so = is

-- the last refusal is kept
latest : (first last : Guesses) (second : ℕ) (seconds all : List ℕ) → Guessed first all last → all ≡ second ∷ seconds → last.last ≡ Some second
latest first last second seconds all Begins same = absurd cc
latest first last second seconds all (Tries before old new origin is_patient served now outcome run may unknown later still refuses) same =
    let is : now ≡ second = cc in set_if (is_known old.proofs.items origin now) old.last new.last now refuses.last still ∙ ap (λ (n : ℕ). Some n) is
latest first last second seconds all (KnownTries before old new origin now outcome run known refuses) same = kept_if (is_known old.proofs.items origin now) old.last new.last now refuses.last known ∙ latest first old second seconds before run same
latest first last second seconds all (Knows before old new origin now outcome run proves) same = proves.last ∙ latest first old second seconds before run same

abbrev bound_of : List ℕ → ℕ → Type 0
bound_of [] from = Unit {0}
bound_of (second ∷ seconds) from = length (second ∷ seconds) + from ≤ second + 1

next_bound : (now from served : ℕ) (before : List ℕ) → ((second : ℕ) (seconds : List ℕ) → before ≡ second ∷ seconds → second + 1 ≤ served) → served ≤ now → from ≤ now → bound_of before from → bound_of (now ∷ before) from
next_bound now from served [] apart_from later le so = omega (arith, le)
next_bound now from served (second ∷ seconds) apart_from later le so = let a = apart_from second seconds refl in omega (arith, a, later, so)

bounded : (first last : Guesses) (from : ℕ) (all : List ℕ) → Guessed first all last → All (λ second. from ≤ second) all → bound_of all from
bounded first last from all Begins each = tt
bounded first last from all (Tries before old new origin is_patient served now outcome run may unknown later still refuses) each =
    next_bound now from served before (λ second seconds is. apart old origin is_patient served second may unknown (latest first old second seconds before run is)) later (All-head (λ second. from ≤ second) now before each)
    (bounded first old from before run (All-tail (λ second. from ≤ second) now before each))
bounded first last from all (KnownTries before old new origin now outcome run known refuses) each = bounded first old from before run each
bounded first last from all (Knows before old new origin now outcome run proves) each = bounded first old from before run each

pub one_a_second : (first last : Guesses) (from latest_one : ℕ) (seconds : List ℕ) → Guessed first (latest_one ∷ seconds) last → All (λ second. from ≤ second) (latest_one ∷ seconds) → length (latest_one ∷ seconds) + from ≤ latest_one + 1
one_a_second first last from latest_one seconds run each = bounded first last from (latest_one ∷ seconds) run each

-- ---- a refusal is waited for

same_self : (o : Origin) → same_origin o o ≡ true
same_self (Four a) = grind (arith, nat_tests)
same_self (Six a b c d) = grind (arith, nat_tests)
same_self Line = refl

not_passed : (seconds since now : ℕ) → now < since + seconds → have_passed seconds since now ≡ false
not_passed seconds since now early = grind (arith, nat_tests, early)

its_mark : (origin : Origin) (now wait at : ℕ) → at < now + wait → wait ≤ 900 → (same_origin origin origin && not (have_passed (min wait 900) now at)) ≡ true
its_mark origin now wait at early le =
    let least : min wait 900 ≡ wait = omega (arith, le) in
    let before : have_passed (min wait 900) now at ≡ false = rw least (not_passed wait now at early) in
    rw (same_self origin, before) refl

any_or : (a b : Bool) → b ≡ true → (a || b) ≡ true
any_or true b is = refl
any_or false b is = is

not_then : (known gate waiting : Bool) → waiting ≡ true → ((known || gate) && not waiting) ≡ false
not_then true gate true is = refl
not_then false true true is = refl
not_then false false true is = refl
not_then known gate false is = absurd cc

waits_behind : (others marks : List Mark) (origin : Origin) (now wait at : ℕ) → marks ≡ others ++ (record { origin = origin; last = now; wait = wait }) ∷ [] → at < now + wait → wait ≤ 900 → waits marks origin 900 at ≡ true
waits_behind others marks origin now wait at are early le =
    let test = λ (mark : Mark). same_origin mark.origin origin && not (have_passed (min mark.wait 900) mark.last at) in
    let mark : Mark = record { origin = origin; last = now; wait = wait } in
    let last : list_any test (mark ∷ []) ≡ true = rw (its_mark origin now wait at early le) refl in
    subst (λ (l : List Mark). list_any test l ≡ true) (sym are) (list_any-append test others (mark ∷ []) ∙ any_or (list_any test others) (list_any test (mark ∷ [])) last)

pub waited_for : (old new : Guesses) (origin : Origin) (now at : ℕ) → Refuses {E = AllocError} old origin now (Ok tt) new → is_known new.proofs.items origin at ≡ false → at < now + wait_behind old.marks.items origin now
    → wait_behind old.marks.items origin now ≤ 900 → may_try new origin false at ≡ false
waited_for old new origin now at refuses unknown early le =
    let waiting : waits new.marks.items origin 900 at ≡ true = waits_behind (with_room MOST_MARKS (marks_without origin old.marks.items)) new.marks.items origin now (wait_behind old.marks.items origin now) at refuses.marks early le in
    let most : waits new.marks.items origin (most_wait (is_known new.proofs.items origin at) false) at ≡ true = subst (λ (b : Bool). waits new.marks.items origin (most_wait b false) at ≡ true) (sym unknown) waiting in
    not_then (is_known new.proofs.items origin at) (is_open new.last at) (waits new.marks.items origin (most_wait (is_known new.proofs.items origin at) false) at) most
