-- A page that was read is one of the single image; and what bytes of a state await.
use Rattle.std.proofs.Common.{◌≡◌, ◌∙◌, ◌*◌, ℕ, List, [], ◌++◌, length, drop, ap, sym, subst, arith, refl, Some, Result, Ok, Err, OnOk, IsOk, is_err, true, false, IsErr, IsErrAnd, MatchResult, Option, None, MatchOption}
use Rattle.std.proofs.lemmas.List.{length-take, length-drop, append-nil}
use Rattle.dlms_pages.specs.Device.{View, Image, Rules, Goes, Reads, page_at}
use Rattle.dlms_pages.specs.Stops.{IsFixed, Looks}
use Rattle.dlms_pages.specs.declared.device.DeviceFault.{DeviceFault}
use Rattle.dlms_pages.specs.declared.device.PageRead.{PageRead}
use Rattle.dlms_pages.specs.declared.device.PageRead.TheVariants.{Content, Damaged}
use Rattle.dlms_pages.proofs.Moments.{seen_is, looks_read, looks_on}
use Rattle.dlms_journal.specs.declared.kind.PageKind.{PageKind}
use Rattle.dlms_state.specs.declared.event.Event.{Event}
use Rattle.dlms_state.specs.Events.{captures}
use Rattle.dlms_state.specs.Refusal.{IsLegal}
use Rattle.dlms_state.specs.StateValue.{StateValue, state_of}
use Rattle.dlms_state.proofs.Limits.{IsWithinLimits-legal}
use Rattle.dlms_state.proofs.Types.{FitsTypes-legal}
use Rattle.dlms_state.proofs.Captures.{captures-le}
use Rattle.dlms_checkpoint.specs.Checkpoint.{IsLegalState}
use Rattle.dlms_checkpoint.specs.Layouts.{IsCheckpointOf, as_present}
use Rattle.dlms_checkpoint.specs.declared.version.Version.{Version}
use Rattle.dlms_checkpoint.specs.Bodies.{awaited, body_at}
use Rattle.dlms_checkpoint.proofs.Bodies.{further_is_taken, all_bodies, some_bodies}
use Rattle.dlms_store.specs.declared.page.Edition.{Edition}
use Rattle.dlms_store.specs.Image.{IsWithinRing}
use Rattle.dlms_store.specs.Page.{HasPage}

pub page_is : (index : ℕ) (v : View) (image : Image) (page : PageRead) → IsFixed v image → Rules v → page ≡ page_at v.seen index → page ≡ page_at image index
page_is index v image page fixed rules read = read ∙ ap (λ (i : Image). page_at i index) (seen_is v image fixed rules)

-- by another name of its place
pub page_there : (index place : ℕ) (v : View) (image : Image) (page : PageRead) → IsFixed v image → Rules v → page ≡ page_at v.seen index → index ≡ place → page ≡ page_at image place
page_there index place v image page fixed rules read same = page_is index v image page fixed rules read ∙ ap (λ (k : ℕ). page_at image k) same

some_inj : {A : Type 0} (x y : A) → Some x ≡ Some y → x ≡ y
some_inj x y e = cc

pub one_payload : (kind : PageKind) (index : ℕ) (g h : Edition) (a b : List ℕ) (page : PageRead) → HasPage kind index g a page → HasPage kind index h b page → a ≡ b
one_payload kind index g h a b Damaged is also = absurd is
one_payload kind index g h a b (Content bytes) is also = some_inj a b (sym is.payload_is ∙ also.payload_is)

-- what is known of an option, told otherwise
pub match_more : {A : Type 0} (r : Option A) (N M : Type 0) (S T : A → Type 0) → (N → M) → ((x : A) → S x → T x) → MatchOption r N S → MatchOption r M T
match_more None N M S T f g is = f is
match_more (Some x) N M S T f g is = g x is

pub was_none : {A : Type 0} (r : Option A) (N : Type 0) (S : A → Type 0) → r ≡ None → MatchOption r N S → N
was_none None N S none is = is
was_none (Some x) N S none is = absurd (cc none)

-- one read more
pub read_on : (index : ℕ) (old mid new : View) (image : Image) (result : Result PageRead DeviceFault) → Looks old mid image → Rules mid → Goes mid new result → Reads index mid new result → Looks old new image
read_on index old mid new image result so_far rules goes reads = looks_on old mid new image so_far (looks_read index mid new image result so_far.fixed rules goes reads)

pub was_ok : {T E P : Type 0} (r : Result T E) → false ≡ is_err r → OnOk r P → P
was_ok (Ok x) none p = p
was_ok (Err e) none p = absurd cc

pub when_ok : {T E P : Type 0} (r : Result T E) → false ≡ is_err r → (IsOk r → P) → P
when_ok (Ok x) none p = p refl
when_ok (Err e) none p = absurd cc

pub not_ok : {T E : Type 0} (r : Result T E) → true ≡ is_err r → IsOk r → ⊥
not_ok (Ok x) some ok = absurd cc
not_ok (Err e) some ok = absurd cc

-- after all bytes of a state no body is awaited
pub none_awaited : (version : Version) (bytes : List ℕ) (s : StateValue) → IsCheckpointOf version s bytes → awaited (as_present version bytes) ≡ 0
none_awaited version bytes s is =
    let few = (some_bodies version bytes s is).1 in
    let nothing : length (body_at 2 bytes) ≡ 0 = omega (arith, few, length-take 496 (drop (496 * 2) bytes), length-drop (496 * 2) bytes) in
    ap (λ (b : List ℕ). awaited (as_present version b)) (sym (all_bodies bytes 2 few)) ∙ further_is_taken version bytes s 2 is (omega arith) ∙ nothing

-- a fault carried on is that fault
pub carried : {T E : Type 0} (r : Result T E) (e : E) (Q : T → Type 0) (P : E → Type 0) → IsErr r × IsErrAnd r (λ f. f ≡ e) → P e → MatchResult r Q P
carried (Ok x) e Q P (is, same) p = absurd cc
carried (Err f) e Q P (is, same) p = subst P (sym same) p

-- ---- the state of a legal list

-- events that others may follow within the ring
pub base_within : (base events : List Event) → IsWithinRing base events → IsWithinRing base []
base_within base events within =
    let same : length (captures (base ++ [])) ≡ length (captures base) = ap (λ (E : List Event). length (captures E)) (append-nil base) in
    record { few = omega (arith, same); numbers = omega (arith, same, captures-le base events, within.numbers) }

pub legal_state : (base : List Event) → IsLegal base → IsWithinRing base [] → IsLegalState (state_of base)
legal_state base legal within =
    let same : length (captures (base ++ [])) ≡ length (captures base) = ap (λ (E : List Event). length (captures E)) (append-nil base) in
    record { within = IsWithinLimits-legal base legal; fits = FitsTypes-legal base legal; numbers = omega (arith, same, within.numbers) }
