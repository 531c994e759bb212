-- Events taken one after another.
use Rattle.std.proofs.Common.{◌≡◌, ◌<◌, ◌∙◌, ◌++◌, ◌∷◌, [], ℕ, List, Bool, false, length, ap, sym, arith, append_assoc}
use Rattle.std.specs.Bool.{◌==◌}
use Rattle.std.proofs.lemmas.Bool.Decides.{nat_tests}
use Rattle.std.proofs.lemmas.Grind.{common_steps}
use Rattle.std.proofs.lemmas.List.{append-nil}
use Rattle.dlms_state.specs.declared.event.Event.{Event}
use Rattle.dlms_state.specs.Refusal.{IsLegal, MayFollow}
use Rattle.dlms_journal.specs.Record.{Holds}

-- bytes that are there hold an event
pub holds_some : (bytes : List ℕ) (events : List Event) → Holds bytes events → 0 < length bytes → 0 < length events
holds_some bytes [] is some = absurd (omega (arith, ap length is.text, some))
holds_some bytes (e ∷ events) is some = omega arith

pub not_empty : (bytes : List ℕ) (b : Bool) → b ≡ (length bytes == 0) → b ≡ false → 0 < length bytes
not_empty bytes b is none = grind (arith, nat_tests, common_steps)

-- one event more was taken of those that are left
pub one_more_of : (done left rest all : List Event) (event : Event) → done ++ left ≡ all → left ≡ event ∷ rest → (done ++ event ∷ []) ++ rest ≡ all
one_more_of done left rest all event so_far next = append_assoc done (event ∷ []) rest ∙ ap (λ (l : List Event). done ++ l) (sym next) ∙ so_far

-- and in a legal list it may come next
pub may_follow_next : (before done left rest all : List Event) (event : Event) → done ++ left ≡ all → left ≡ event ∷ rest → IsLegal (before ++ all) → MayFollow (before ++ done) event
may_follow_next before done left rest all event so_far next legal =
    legal.each (before ++ done) event rest (ap (λ (l : List Event). before ++ l) (sym so_far ∙ ap (λ (l : List Event). done ++ l) next) ∙ sym (append_assoc before done (event ∷ rest)))

-- the events applied, one more, and those after it are the whole
pub more_behind : (before done left rest all : List Event) (event : Event) → done ++ left ≡ all → left ≡ event ∷ rest → ((before ++ done) ++ event ∷ []) ++ rest ≡ before ++ all
more_behind before done left rest all event so_far next =
    ap (λ (l : List Event). l ++ rest) (append_assoc before done (event ∷ [])) ∙ append_assoc before (done ++ event ∷ []) rest ∙ ap (λ (l : List Event). before ++ l) (one_more_of done left rest all event so_far next)

-- if none is left, all were applied
pub all_of_them : (done left all : List Event) → done ++ left ≡ all → left ≡ [] → done ≡ all
all_of_them done left all so_far none = sym (append-nil done) ∙ ap (λ (l : List Event). done ++ l) (sym none) ∙ so_far
