-- Calls of a file, one after another.
use Rattle.std.proofs.Common.{◌≡◌, ◌<◌, ◌+◌, ℕ, zero, suc, true, List, [], ◌∷◌, ◌++◌, length, take, drop, get_or, Option, Some, None, refl, sym, ◌∙◌, ap, arith, append_assoc, take-append-drop, Result, Ok, Err, subst, false}
use Rattle.std.proofs.lemmas.List.{append-nil, reverse-append}
use Rattle.dlms_pages.specs.declared.asking.SlotCall.{SlotCall}
use Rattle.dlms_pages.specs.Slots.{Slots}
use Rattle.std.specs.Prelude.{reverse}
use Rattle.dlms_pages.specs.SlotCalls.{Asks, AsksUntilFault, failed, written_again, AsksAll}
use Rattle.dlms_pages.specs.declared.asking.SlotCall.TheVariants.{Writes}
use Rattle.dlms_pages.specs.Seal.{slot_of}
use Rattle.std.specs.Result.{IsErr}

pub nothing : (a : Slots) → Asks a a []
nothing a = refl

-- calls after calls
pub joined_calls : (xs ys : List SlotCall) (a : List SlotCall) → reverse ys ++ (reverse xs ++ a) ≡ reverse (xs ++ ys) ++ a
joined_calls xs ys a = sym (append_assoc (reverse ys) (reverse xs) a) ∙ ap (λ (l : List SlotCall). l ++ a) (sym (reverse-append xs ys))

pub then_asks : (a b c : Slots) (xs ys : List SlotCall) → Asks a b xs → Asks b c ys → Asks a c (xs ++ ys)
then_asks a b c xs ys first second =
    second ∙ ap (λ (s : Slots). record s { calls = reverse ys ++ s.calls }) first
    ∙ ap (λ (l : List SlotCall). record a { calls = l }) (joined_calls xs ys a.calls)

-- ---- what is written again

one_of : ℕ → Option (List ℕ) → List SlotCall
one_of from None = []
one_of from (Some bytes) = Writes from (slot_of from bytes) true ∷ []

moved : (page : Option (List ℕ)) (a b : ℕ) (calls : List SlotCall) → a ≡ b → calls ++ one_of a page ≡ calls ++ one_of b page
moved page a b calls same = ap (λ (n : ℕ). calls ++ one_of n page) same

more : (pages : List (Option (List ℕ))) (k from : ℕ) → k < length pages → written_again from (take (suc k) pages) ≡ written_again from (take k pages) ++ one_of (from + k) (get_or pages k None)
unfolding one_of
more [] k from low = absurd (omega (arith, low))
more (None ∷ pages) zero from low = refl
more (Some b ∷ pages) zero from low = moved (Some b) from (from + 0) [] (omega arith)
more (None ∷ pages) (suc k) from low = more pages k (from + 1) (omega (arith, low)) ∙ moved (get_or pages k None) (from + 1 + k) (from + suc k) (written_again (from + 1) (take k pages)) (omega arith)
more (Some b ∷ pages) (suc k) from low =
    ap (λ (l : List SlotCall). Writes from (slot_of from b) true ∷ l) (more pages k (from + 1) (omega (arith, low)) ∙ moved (get_or pages k None) (from + 1 + k) (from + suc k) (written_again (from + 1) (take k pages)) (omega arith))

joined : (xs ys : List (Option (List ℕ))) (from : ℕ) → (rest : List SlotCall) × (written_again from (xs ++ ys) ≡ written_again from xs ++ rest)
joined [] ys from = (written_again from ys, refl)
joined (None ∷ xs) ys from = joined xs ys (from + 1)
joined (Some b ∷ xs) ys from = (let (rest, same) = joined xs ys (from + 1) in (rest, ap (λ (l : List SlotCall). Writes from (slot_of from b) true ∷ l) same))

pub passed_over : (pages : List (Option (List ℕ))) (k : ℕ) → k < length pages → get_or pages k None ≡ None → written_again 0 (take (suc k) pages) ≡ written_again 0 (take k pages)
unfolding one_of
passed_over pages k low none = more pages k 0 low ∙ ap (λ (page : Option (List ℕ)). written_again 0 (take k pages) ++ one_of (0 + k) page) none ∙ append-nil (written_again 0 (take k pages))

pub one_page_more : (pages : List (Option (List ℕ))) (k : ℕ) (bytes : List ℕ) → k < length pages → get_or pages k None ≡ Some bytes → written_again 0 (take (suc k) pages) ≡ written_again 0 (take k pages) ++ Writes k (slot_of k bytes) true ∷ []
unfolding one_of
one_page_more pages k bytes low some =
    more pages k 0 low ∙ ap (λ (page : Option (List ℕ)). written_again 0 (take k pages) ++ one_of (0 + k) page) some ∙ moved (Some bytes) (0 + k) k (written_again 0 (take k pages)) (omega arith)

-- the fault of this page's write
pub until_page : (old before new : Slots) (pages : List (Option (List ℕ))) (k : ℕ) (bytes slot : List ℕ) → k < length pages → get_or pages k None ≡ Some bytes → slot ≡ slot_of k bytes → Asks old before (written_again 0 (take k pages)) → Asks before new (Writes k slot false ∷ [])
    → AsksUntilFault old new (written_again 0 pages)
until_page old before new pages k bytes slot low some made first last =
    let missed = subst (λ (s : List ℕ). Asks before new (Writes k s false ∷ [])) made last in
    let call = Writes k (slot_of k bytes) true in
    let front = written_again 0 (take k pages) in
    let (rest, same) = joined (take (suc k) pages) (drop (suc k) pages) 0 in
    record {
      front = front;
      call = call;
      rest = rest;
      split = ap (λ (l : List (Option (List ℕ))). written_again 0 l) (sym (take-append-drop (suc k) pages)) ∙ same ∙ ap (λ (l : List SlotCall). l ++ rest) (one_page_more pages k bytes low some) ∙ append_assoc front (call ∷ []) rest;
      asked = then_asks old before new front (failed call ∷ []) first missed;
    }

pub longer : (old new : Slots) (calls others : List SlotCall) → AsksUntilFault old new calls → AsksUntilFault old new (calls ++ others)
longer old new calls others is = record {
  front = is.front;
  call = is.call;
  rest = is.rest ++ others;
  split = ap (λ (l : List SlotCall). l ++ others) is.split ∙ append_assoc is.front (is.call ∷ is.rest) others;
  asked = is.asked;
}

pub with_fault : {T E : Type 0} (old new : Slots) (calls : List SlotCall) (result : Result T E) → IsErr result → AsksUntilFault old new calls → AsksAll old new calls result
with_fault old new calls (Ok x) err is = absurd (cc err)
with_fault old new calls (Err e) err is = is

-- with nothing passed over, and with a write that passed
pub still_asked : (old now : Slots) (pages : List (Option (List ℕ))) (k : ℕ) → k < length pages → get_or pages k None ≡ None → Asks old now (written_again 0 (take k pages)) → Asks old now (written_again 0 (take (k + 1) pages))
still_asked old now pages k low none is =
    let next : suc k ≡ k + 1 = omega arith in
    subst (λ (n : ℕ). Asks old now (written_again 0 (take n pages))) next (subst (Asks old now) (sym (passed_over pages k low none)) is)

pub one_more_asked : (old before now : Slots) (pages : List (Option (List ℕ))) (k : ℕ) (bytes slot : List ℕ) → k < length pages → get_or pages k None ≡ Some bytes → slot ≡ slot_of k bytes → Asks old before (written_again 0 (take k pages)) → Asks before now (Writes k slot true ∷ [])
    → Asks old now (written_again 0 (take (k + 1) pages))
one_more_asked old before now pages k bytes slot low some made first last =
    let next : suc k ≡ k + 1 = omega arith in
    let written = subst (λ (s : List ℕ). Asks before now (Writes k s true ∷ [])) made last in
    subst (λ (n : ℕ). Asks old now (written_again 0 (take n pages))) next (subst (Asks old now) (sym (one_page_more pages k bytes low some)) (then_asks old before now (written_again 0 (take k pages)) (Writes k (slot_of k bytes) true ∷ []) first written))
