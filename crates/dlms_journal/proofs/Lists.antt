-- Records one after another.
use Rattle.std.proofs.Common.{◌≡◌, ℕ, zero, suc, ◌≤◌, List, [], ◌∷◌, ◌++◌, length, Some, None, refl, sym, ap, subst, ◌∙◌, append_assoc, arith, All}
use Rattle.std.proofs.lemmas.List.{append-nil, length-append}
use Rattle.std.proofs.lemmas.List.Elements.{All-append}
use Rattle.std.proofs.lemmas.Grind.{flat_map-append}
use Rattle.std.specs.List.{flat_map}
use Rattle.dlms_state.specs.declared.event.Event.{Event}
use Rattle.dlms_state.specs.Types.{FitsType}
use Rattle.dlms_journal.specs.Record.{Holds, record_of}
use Rattle.dlms_journal.specs.Reading.{event_at, events_from, events_in}
use Rattle.dlms_journal.proofs.Again.{read_again}
use Rattle.dlms_journal.proofs.Found.{has_byte}

pair_is : {A B : Type 0} {x y : A × B} → Some x ≡ Some y → (x.0 ≡ y.0) × (x.1 ≡ y.1)
pair_is e = (cc, cc)

pub prefix_free : (e f : Event) (behind after : List ℕ) → FitsType e → FitsType f → record_of e ++ behind ≡ record_of f ++ after → (e ≡ f) × (behind ≡ after)
prefix_free e f behind after h g same =
    pair_is (sym (read_again e behind h) ∙ ap event_at same ∙ read_again f after g)

pub first_fits : (e : Event) (E : List Event) → All FitsType (e ∷ E) → FitsType e
first_fits e E fit = fit 0 e (omega arith)

pub others_fit : (e : Event) (E : List Event) → All FitsType (e ∷ E) → All FitsType E
others_fit e E fit k d low = fit (suc k) d (omega (arith, low))

from_nothing : (n : ℕ) → events_from n [] ≡ []
unfolding event_at
from_nothing zero = refl
from_nothing (suc n) = refl

-- with enough steps, the events that are there are read
read_all : (E : List Event) (n : ℕ) → length (flat_map record_of E) ≤ n → All FitsType E → events_from n (flat_map record_of E) ≡ E
read_all [] n room fit = from_nothing n
read_all (e ∷ E) zero room fit =
    absurd (omega (arith, has_byte e, length-append (record_of e) (flat_map record_of E)))
read_all (e ∷ E) (suc n) room fit =
    let less : length (flat_map record_of E) ≤ n = omega (arith, has_byte e, length-append (record_of e) (flat_map record_of E)) in
    rw (read_again e (flat_map record_of E) (first_fits e E fit), read_all E n less (others_fit e E fit)) refl

pub held : (bytes : List ℕ) (E : List Event) → Holds bytes E → events_in bytes ≡ E
unfolding events_in
held bytes E h =
    ap (λ (b : List ℕ). events_from (length b) b) h.text ∙ read_all E (length (flat_map record_of E)) (omega arith) h.fit

pub one : (bytes : List ℕ) (E F : List Event) → Holds bytes E → Holds bytes F → E ≡ F
one bytes E F h g = sym (held bytes E h) ∙ held bytes F g

pub joined : (front back : List ℕ) (E F : List Event) → Holds front E → Holds back F → Holds (front ++ back) (E ++ F)
joined front back E F h g = record {
  text = rw (h.text, g.text) (sym (flat_map-append record_of E F));
  fit = All-append FitsType E F h.fit g.fit;
}

-- if bytes hold events, the first is read, and the others follow it
pub first_read : (bytes : List ℕ) (e : Event) (E : List Event) → Holds bytes (e ∷ E) → (event_at bytes ≡ Some (e, flat_map record_of E)) × Holds (flat_map record_of E) E
first_read bytes e E h =
    (ap event_at h.text ∙ read_again e (flat_map record_of E) (first_fits e E h.fit), record { text = refl; fit = others_fit e E h.fit })

-- ---- reading on and on

-- events were read, and these bytes follow them
abbrev pub Behind : List ℕ → List ℕ → Type 0
Behind bytes rest = (E : List Event) × (bytes ≡ flat_map record_of E ++ rest) × All FitsType E

pub nothing_read : (bytes : List ℕ) → Behind bytes bytes
nothing_read bytes = ([], refl, λ k d low. absurd (omega (arith, low)))

one_fits : (e : Event) → FitsType e → All FitsType (e ∷ [])
one_fits e fit zero d low = fit
one_fits e fit (suc k) d low = absurd (omega (arith, low))

pub one_more : (bytes rest behind : List ℕ) (e : Event) → Behind bytes rest → rest ≡ record_of e ++ behind → FitsType e → Behind bytes behind
one_more bytes rest behind e h r fit =
    let E : List Event = h.0 in
    let text : bytes ≡ flat_map record_of (E ++ e ∷ []) ++ behind =
    h.1 ∙ ap (λ (w : List ℕ). flat_map record_of E ++ w) r ∙ sym (append_assoc (flat_map record_of E) (record_of e) behind)
    ∙ ap (λ (w : List ℕ). w ++ behind) (ap (λ (w : List ℕ). flat_map record_of E ++ w) (sym (append-nil (record_of e))) ∙ sym (flat_map-append record_of E (e ∷ []))) in
    (E ++ e ∷ [], text, All-append FitsType E (e ∷ []) h.2 (one_fits e fit))

pub all_read : (bytes : List ℕ) → Behind bytes [] → (E : List Event) × Holds bytes E
all_read bytes h = (h.0, record { text = h.1 ∙ append-nil (flat_map record_of h.0); fit = h.2 })

-- what follows events that were read is that of the others
others_stand : (E F : List Event) (rest : List ℕ) → All FitsType E → All FitsType F → flat_map record_of F ≡ flat_map record_of E ++ rest → (G : List Event) × Holds rest G
others_stand [] F rest h g same = (F, record { text = sym same; fit = g })
others_stand (e ∷ E) [] rest h g same =
    absurd (omega (arith, has_byte e, ap length same, length-append (record_of e) (flat_map record_of E), length-append (flat_map record_of (e ∷ E)) rest))
others_stand (e ∷ E) (f ∷ F) rest h g same =
    let first = prefix_free f e (flat_map record_of F) (flat_map record_of E ++ rest) (first_fits f F g) (first_fits e E h)
    (same ∙ append_assoc (record_of e) (flat_map record_of E) rest) in
    others_stand E F rest (others_fit e E h) (others_fit f F g) first.1

-- if no record is at the front of some bytes, no events are there
pub never : (bytes rest : List ℕ) → Behind bytes rest → 1 ≤ length rest → event_at rest ≡ None → (F : List Event) → Holds bytes F → ⊥
never bytes rest h some none F g = from (others_stand h.0 F rest h.2 g.fit (sym g.text ∙ h.1))
  where
    from : (G : List Event) × Holds rest G → ⊥
    from ([], s) = omega (arith, some, ap length s.text)
    from (e ∷ G, s) = let r = first_read rest e G s in absurd cc

-- ---- an iterator over records

pub whole_holds : (bytes : List ℕ) → (E : List Event) × Holds bytes E → Holds bytes (events_in bytes)
whole_holds bytes (E, h) = subst (Holds bytes) (sym (held bytes E h)) h

nothing_at : event_at [] ≡ None
unfolding event_at
nothing_at = refl

none_is : {A : Type 0} {x : A} → None ≡ Some x → ⊥
none_is e = cc

pub next_some : (rest behind : List ℕ) (e : Event) (E : List Event) → Holds rest E → event_at rest ≡ Some (e, behind) → (E ≡ e ∷ events_in behind) × Holds behind (events_in behind)
next_some rest behind e [] h r = absurd (none_is (sym nothing_at ∙ sym (ap event_at h.text) ∙ r))
next_some rest behind e (f ∷ F) h r =
    let first = first_read rest f F h in
    let same = pair_is (sym first.0 ∙ r) in
    let others : Holds behind F = subst (λ (w : List ℕ). Holds w F) same.1 first.1 in
    (ap (λ (g : Event). g ∷ F) same.0 ∙ ap (λ (G : List Event). e ∷ G) (sym (held behind F others)), whole_holds behind (F, others))

pub next_none : (rest : List ℕ) (E : List Event) → Holds rest E → event_at rest ≡ None → E ≡ []
next_none rest [] h r = refl
next_none rest (f ∷ F) h r = absurd (none_is (sym r ∙ (first_read rest f F h).0))
