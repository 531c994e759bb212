-- The fields before one that is not shown as it is.
use Rattle.std.proofs.Common.{◌≡◌, ℕ, ◌≤◌, true, false, List, [], ◌∷◌, ◌++◌, length, Option, Some, None, refl, sym, subst, ap, arith}
use Rattle.dlms_dissect.specs.Acse.{field_at}
use Rattle.dlms_dissect.specs.Openly.{AreOpen, IsOpened, Leaves, StandOpen, is_open, is_open_tag}
use Rattle.dlms_dissect.specs.Walk.{IsRead, Told, next_of}
use Rattle.dlms_dissect.proofs.WalkLemmas.{next-same, read-more, read-shorter}
use Rattle.dlms_dissect.specs.declared.secrecy.Secrecy.{Secrecy}
use Rattle.dlms_dissect.specs.declared.walk.Step.{Step}

open-more : (known : Secrecy) (ts : List Told) (t : Told) → AreOpen known ts → is_open known t ≡ true → AreOpen known (ts ++ (t ∷ []))
open-more known [] t are is = (is, tt)
open-more known (u ∷ us) t are is = (are.0, open-more known us t are.1 is)

pub opened-start : (known : Secrecy) (steps : List Step) (octets : List ℕ) → IsOpened known steps octets steps octets
opened-start known steps octets = ([], ((refl, refl), tt))

pub opened-more : (known : Secrecy) (steps : List Step) (octets : List ℕ) (behind next : List Step) (rest left : List ℕ) (t : Told)
    → IsOpened known steps octets behind rest → next_of behind rest ≡ Some (t, next, left) → is_open known t ≡ true → IsOpened known steps octets next left
opened-more known steps octets behind next rest left t opened is told =
    (opened.0 ++ (t ∷ []), (read-more steps octets opened.0 behind next rest left t opened.1.0 is, open-more known opened.0 t opened.1.1 told))

-- two ways from one place: by fields that are shown as they are, and up to one that is not
before-closed : (known : Secrecy) (steps : List Step) (octets : List ℕ) (ts us : List Told) (behind behind' next : List Step) (rest rest' left : List ℕ) (t : Told)
    → IsRead steps octets ts behind rest → AreOpen known ts → IsRead steps octets us behind' rest' → next_of behind' rest' ≡ Some (t, next, left) → is_open known t ≡ false
    → length rest' ≤ length rest
before-closed known steps octets [] us behind behind' next rest rest' left t read are to is closed =
    let e : octets ≡ rest = read.1 in
    subst (λ (o : List ℕ). length rest' ≤ length o) e (read-shorter steps octets us behind' rest' to)
before-closed known steps octets (u ∷ ts) [] behind behind' next rest rest' left t read are to is closed =
    let P : List Step → Type 0 = λ s. next_of s octets ≡ Some (u, read.0, read.1) in
    let Q : List ℕ → Type 0 = λ o. next_of behind' o ≡ Some (u, read.0, read.1) in
    let a : next_of behind' rest' ≡ Some (u, read.0, read.1) = subst Q to.1 (subst P to.0 read.2.0) in
    let e = next-same _ _ _ a is in
    let same : u ≡ t = ap (λ (p : Told × List Step × List ℕ). p.0) e in
    let b : is_open known u ≡ true = are.0 in
    let c : true ≡ false = cc in
    absurd cc
before-closed known steps octets (u ∷ ts) (v ∷ us) behind behind' next rest rest' left t read are to is closed =
    let e = next-same _ _ _ to.2.0 read.2.0 in
    let s : to.0 ≡ read.0 = ap (λ (p : Told × List Step × List ℕ). p.1) e in
    let o : to.1 ≡ read.1 = ap (λ (p : Told × List Step × List ℕ). p.2) e in
    let P : List Step → Type 0 = λ x. IsRead x to.1 us behind' rest' in
    let Q : List ℕ → Type 0 = λ x. IsRead read.0 x us behind' rest' in
    before-closed known read.0 read.1 ts us behind behind' next rest rest' left t read.2.1 are.1 (subst Q o (subst P s to.2.1)) is closed

pub closed-left : (known : Secrecy) (steps behind next : List Step) (octets rest left : List ℕ) (before : List Told) (t : Told) (count : ℕ)
    → Leaves known steps octets count → IsRead steps octets before behind rest → next_of behind rest ≡ Some (t, next, left) → is_open known t ≡ false → length rest ≤ count
closed-left known steps behind next octets rest left before t count leaves read is closed =
    let opened = leaves.2.0 in
    let e : count ≡ length leaves.1 = leaves.2.2 in
    let le : length rest ≤ length leaves.1 = before-closed known steps octets opened.0 before leaves.0 behind next leaves.1 rest left t opened.1.0 opened.1.1 read is closed in
    omega (arith, e, le)

-- ---- an association's

pub stand-start : (octets : List ℕ) → (fs : List (ℕ × List ℕ)) × StandOpen octets fs octets
stand-start octets = ([], refl)

stand-on : (octets : List ℕ) (fs : List (ℕ × List ℕ)) (rest next : List ℕ) (tag : ℕ) (value : List ℕ)
    → StandOpen octets fs rest → field_at rest ≡ Some (tag, value, next) → is_open_tag tag ≡ true → StandOpen octets (fs ++ ((tag, value) ∷ [])) next
stand-on octets [] rest next tag value stand is told =
    let P : List ℕ → Type 0 = λ o. field_at o ≡ Some (tag, value, next) in
    let e : octets ≡ rest = stand in
    (next, (subst P (sym e) is, told, refl))
stand-on octets (f ∷ fs) rest next tag value stand is told =
    (stand.0, (stand.1.0, stand.1.1, stand-on stand.0 fs rest next tag value stand.1.2 is told))

pub stand-more : (octets rest next : List ℕ) (tag : ℕ) (value : List ℕ)
    → ((fs : List (ℕ × List ℕ)) × StandOpen octets fs rest) → field_at rest ≡ Some (tag, value, next) → is_open_tag tag ≡ true → (fs : List (ℕ × List ℕ)) × StandOpen octets fs next
stand-more octets rest next tag value stand is told = (stand.0 ++ ((tag, value) ∷ []), stand-on octets stand.0 rest next tag value stand.1 is told)
