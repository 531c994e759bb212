-- Calls for the blocks of one value.
use Rattle.std.proofs.Common.{arith, refl, sym, ap, subst, ◌∙◌, ◌≡◌, ◌<◌, ◌≤◌, ◌+◌, ◌-◌, ◌*◌, ◌==◌, ◌||◌, ◌⊎◌, inl, inr, Bool, true, false, ℕ, zero, suc, List, [], ◌∷◌, ◌++◌, length, append_assoc, add-one, Result, Ok, Err}
use Rattle.std.proofs.lemmas.Bool.{leb-true, le-leb, leb-false}
use Rattle.std.proofs.lemmas.Bool.Decides.{nat_tests}
use Rattle.dlms_blocks.specs.Block.{BlockValue, block, block_bytes, blocks_up_to, is_last}
use Rattle.dlms_blocks.specs.Going.{Going, beginning, answer, after}
use Rattle.dlms_blocks.specs.Calls.{Call, AreCalls, given, given_first, blocks_behind, joined, has_last, AreInOrder, GiveTheBlocks, JoinToTheValue, GiveEachInOrder}
use Rattle.dlms_blocks.proofs.BlockLemmas.{whole_of}

-- a transfer that is over gives nothing
over_answer : (g : Going) (n : ℕ) → g.over ≡ true → (answer g n ≡ Err 16) × (after g n ≡ g)
over_answer g n o = (rw o refl, rw o refl)

none_given : (calls : List Call) (g h : Going) → g.over ≡ true → AreCalls g calls h → given calls ≡ []
none_given [] g h o led = refl
none_given (c ∷ cs) g h o (next, (answered, is), more) =
    let over = over_answer g c.number o in
    let same : next ≡ g = is ∙ over.1 in
    let still : next.over ≡ true = ap (λ (x : Going). x.over) same ∙ o in
    ap (λ (r : Result BlockValue ℕ). given_first r (given cs)) (answered ∙ over.0) ∙ none_given cs next h still more

-- what the blocks given by calls, from a transfer on, are
record Told (g : Going) (bs : List BlockValue) : Type 0 where
  are : bs ≡ blocks_behind g.encoding g.room g.given (length bs)
  within : 0 < length bs → (g.given + length bs - 1) * g.room < length g.encoding

nothing_told : (g : Going) → Told g []
nothing_told g = record { are = refl; within = λ l. absurd (omega arith) }

one_told : (g : Going) → g.given * g.room < length g.encoding → Told g (block g.encoding g.room (g.given + 1) ∷ [])
one_told g l =
    let here : g.given + 1 - 1 ≡ g.given = omega arith in
    record { are = refl; within = λ s. subst (λ (k : ℕ). k * g.room < length g.encoding) (sym here) l }

abbrev moved : Going → Bool → Going
moved g over = record g { given = g.given + 1; over = over }

more_told : (g : Going) (bs : List BlockValue) → g.given * g.room < length g.encoding → Told (moved g false) bs → Told g (block g.encoding g.room (g.given + 1) ∷ bs)
more_told g bs l t = record {
  are = ap (λ (w : List BlockValue). block g.encoding g.room (g.given + 1) ∷ w) t.are;
  within = λ s. by_length bs t.within;
}
  where
    by_length : (ws : List BlockValue) → (0 < length ws → (g.given + 1 + length ws - 1) * g.room < length g.encoding) → (g.given + length (block g.encoding g.room (g.given + 1) ∷ ws) - 1) * g.room < length g.encoding
    by_length [] h =
        let here : g.given ≡ g.given + 1 - 1 = omega arith in
        subst (λ (k : ℕ). k * g.room < length g.encoding) here l
    by_length (w ∷ ws) h =
        let here : g.given + 1 + length (w ∷ ws) - 1 ≡ g.given + suc (length (w ∷ ws)) - 1 = omega arith in
        subst (λ (k : ℕ). k * g.room < length g.encoding) here (h (omega arith))

-- what one call makes
right_answer : (g : Going) (n : ℕ) → g.over ≡ false → n ≡ g.given → (answer g n ≡ Ok (block g.encoding g.room (g.given + 1))) × (after g n ≡ moved g (is_last g.encoding g.room (g.given + 1)))
right_answer g n o e =
    let t : (n == g.given) ≡ true = grind (arith, nat_tests) in
    (rw (o, t) refl, rw (o, t) refl)

wrong_answer : (g : Going) (n : ℕ) → g.over ≡ false → (n == g.given) ≡ false → (answer g n ≡ Err 19) × (after g n ≡ record g { over = true })
wrong_answer g n o t = (rw (o, t) refl, rw (o, t) refl)

told : (calls : List Call) (g h : Going) → g.over ≡ false → g.given * g.room < length g.encoding → AreCalls g calls h → Told g (given calls)
told [] g h o l led = nothing_told g
told (c ∷ cs) g h o l (next, (answered, is), more) = by_number (λ k still room led. told cs k h still room led) (c.number == g.given) refl
  where
    by_last : ((k : Going) → k.over ≡ false → k.given * k.room < length k.encoding → AreCalls k cs h → Told k (given cs)) → (last : Bool) → is_last g.encoding g.room (g.given + 1) ≡ last
        → c.answered ≡ Ok (block g.encoding g.room (g.given + 1)) → next ≡ moved g last → Told g (given (c ∷ cs))
    by_last again true e a i =
        let none = none_given cs next h (ap (λ (x : Going). x.over) i) more in
        let all : given (c ∷ cs) ≡ block g.encoding g.room (g.given + 1) ∷ [] = ap (λ (r : Result BlockValue ℕ). given_first r (given cs)) a ∙ ap (λ (w : List BlockValue). block g.encoding g.room (g.given + 1) ∷ w) none in
        subst (λ (w : List BlockValue). Told g w) (sym all) (one_told g l)
    by_last again false e a i =
        let further : (g.given + 1) * g.room < length g.encoding = leb-false (length g.encoding) ((g.given + 1) * g.room) e in
        let rest = again (moved g false) refl further (subst (λ (x : Going). AreCalls x cs h) i more) in
        let all : given (c ∷ cs) ≡ block g.encoding g.room (g.given + 1) ∷ given cs = ap (λ (r : Result BlockValue ℕ). given_first r (given cs)) a in
        subst (λ (w : List BlockValue). Told g w) (sym all) (more_told g (given cs) l rest)

    by_number : ((k : Going) → k.over ≡ false → k.given * k.room < length k.encoding → AreCalls k cs h → Told k (given cs)) → (b : Bool) → (c.number == g.given) ≡ b → Told g (given (c ∷ cs))
    by_number again true t =
        let r = right_answer g c.number o (grind (arith, nat_tests)) in
        by_last again (is_last g.encoding g.room (g.given + 1)) refl (answered ∙ r.0) (is ∙ r.1)
    by_number again false t =
        let w = wrong_answer g c.number o t in
        let none = none_given cs next h (ap (λ (x : Going). x.over) (is ∙ w.1)) more in
        let all : given (c ∷ cs) ≡ [] = ap (λ (r : Result BlockValue ℕ). given_first r (given cs)) (answered ∙ w.0) ∙ none in
        subst (λ (v : List BlockValue). Told g v) (sym all) (nothing_told g)

-- ---- joined

joined_behind : (encoding : List ℕ) (room k n : ℕ) → blocks_up_to encoding room k ++ joined (blocks_behind encoding room k n) ≡ blocks_up_to encoding room (k + n)
joined_behind encoding room k zero =
    let here : k ≡ k + 0 = omega arith in
    append-none (blocks_up_to encoding room k) ∙ ap (blocks_up_to encoding room) here
  where
    append-none : (xs : List ℕ) → xs ++ [] ≡ xs
    append-none [] = refl
    append-none (x ∷ xs) = ap (λ (w : List ℕ). x ∷ w) (append-none xs)
joined_behind encoding room k (suc n) =
    let one : k + 1 + n ≡ k + suc n = omega arith in
    sym (append_assoc (blocks_up_to encoding room k) (block_bytes encoding room (k + 1)) (joined (blocks_behind encoding room (k + 1) n)))
    ∙ ap (λ (w : List ℕ). w ++ joined (blocks_behind encoding room (k + 1) n)) (ap (blocks_up_to encoding room) (sym (add-one k)))
    ∙ joined_behind encoding room (k + 1) n
    ∙ ap (blocks_up_to encoding room) one

or_true : (p q : Bool) → (p || q) ≡ true → (p ≡ true) ⊎ (q ≡ true)
or_true true q e = inl refl
or_true false q e = inr e

last_at : (encoding : List ℕ) (room k j : ℕ) → is_last encoding room k ≡ true → k ≤ j → is_last encoding room j ≡ true
last_at encoding room k j e l = le-leb (length encoding) (j * room) (further (leb-true (length encoding) (k * room) e))
  where
    further : length encoding ≤ k * room → length encoding ≤ j * room
    further h = grind arith

last_behind : (encoding : List ℕ) (room k n : ℕ) → has_last (blocks_behind encoding room k n) ≡ true → is_last encoding room (k + n) ≡ true
last_behind encoding room k zero e = absurd cc
last_behind encoding room k (suc n) e =
    elim (or_true (is_last encoding room (k + 1)) (has_last (blocks_behind encoding room (k + 1) n)) e) [
      | inl here ↦ last_at encoding room (k + 1) (k + suc n) here (omega arith)
      | inr there ↦
          let one : k + 1 + n ≡ k + suc n = omega arith in
          ap (is_last encoding room) (sym one) ∙ last_behind encoding room (k + 1) n there
    ]

-- ---- the laws

told_from : (encoding : List ℕ) (room : ℕ) (calls : List Call) (g : Going) → 0 < length encoding → AreCalls (beginning encoding room) calls g → Told (beginning encoding room) (given calls)
told_from encoding room calls g some led =
    let none : 0 * room < length encoding = omega arith in
    told calls (beginning encoding room) g refl none led

pub give_the_blocks : GiveTheBlocks
give_the_blocks encoding room calls g some led =
    let t = told_from encoding room calls g some led in
    let count : 0 + length (given calls) - 1 ≡ length (given calls) - 1 = omega arith in
    (t.are, λ l. subst (λ (k : ℕ). k * room < length encoding) count (t.within l))

pub join_to_the_value : JoinToTheValue
join_to_the_value encoding room calls g some led =
    let n : ℕ = length (given calls) in
    let are = (told_from encoding room calls g some led).are in
    let count : 0 + n ≡ n = omega arith in
    let all : joined (given calls) ≡ blocks_up_to encoding room n = ap joined are ∙ joined_behind encoding room 0 n ∙ ap (blocks_up_to encoding room) count in (
      all,
      λ e.
          let last : is_last encoding room n ≡ true = ap (is_last encoding room) (sym count) ∙ last_behind encoding room 0 n (ap has_last (sym are) ∙ e) in
          all ∙ whole_of encoding room n last,
    )

in_order : (calls : List Call) (g h : Going) → g.over ≡ false → AreInOrder g.given calls → AreCalls g calls h → (length (given calls) ≡ length calls) ⊎ (has_last (given calls) ≡ true)
in_order [] g h o order led = inl refl
in_order (c ∷ cs) g h o (number, order) (next, (answered, is), more) =
    let r = right_answer g c.number o number in
    by_last (λ k still kept led. in_order cs k h still kept led) (is_last g.encoding g.room (g.given + 1)) refl (ap (λ (x : Result BlockValue ℕ). given_first x (given cs)) (answered ∙ r.0)) (is ∙ r.1)
  where
    by_last : ((k : Going) → k.over ≡ false → AreInOrder k.given cs → AreCalls k cs h → (length (given cs) ≡ length cs) ⊎ (has_last (given cs) ≡ true)) → (last : Bool) → is_last g.encoding g.room (g.given + 1) ≡ last → given (c ∷ cs) ≡ block g.encoding g.room (g.given + 1) ∷ given cs → next ≡ moved g last
        → (length (given (c ∷ cs)) ≡ length (c ∷ cs)) ⊎ (has_last (given (c ∷ cs)) ≡ true)
    by_last again true e a i = inr (ap has_last a ∙ rw e refl)
    by_last again false e a i =
        elim (again (moved g false) refl order (subst (λ (x : Going). AreCalls x cs h) i more)) [
          | inl same ↦ inl (ap length a ∙ ap suc same)
          | inr last ↦ inr (ap has_last a ∙ rw (e, last) refl)
        ]

pub give_each_in_order : GiveEachInOrder
give_each_in_order encoding room calls g order led = in_order calls (beginning encoding room) g refl order led
