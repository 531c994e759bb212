-- Values made of elements, one after the other.
use Rattle.std.proofs.Common.{◌≡◌, ℕ, suc, ◌+◌, ◌<◌, List, [], ◌∷◌, ◌++◌, length, take, drop, map, get_or, refl, ap, ◌∙◌, sym, arith, add-zero, length-take}
use Rattle.std.specs.Prelude.{Bool, false, Option, Some, if◌then◌else◌}
use Rattle.std.specs.List.{enumerate_from, position_from}
use Rattle.std.proofs.lemmas.List.{take_more, drop_more, map-append}
use Rattle.dlms_data.specs.Value.{Value, Values, cons, push_value}
use Rattle.dlms_classes.specs.Listing.{map_values}

pub map_values-push : {X : Type 0} (f : X → Value) (xs : List X) (x : X) → map_values f (xs ++ x ∷ []) ≡ push_value (map_values f xs) (f x)
map_values-push f [] x = refl
map_values-push f (y ∷ xs) x = ap (cons (f y)) (map_values-push f xs x)

pub enumerate-push : {X : Type 0} (n : ℕ) (xs : List X) (x : X) → enumerate_from n (xs ++ x ∷ []) ≡ enumerate_from n xs ++ (n + length xs, x) ∷ []
enumerate-push n [] x = ap (λ (k : ℕ). (k, x) ∷ []) (sym (add-zero n))
enumerate-push n (y ∷ xs) x =
    let e : n + 1 + length xs ≡ n + suc (length xs) = omega arith in
    ap (λ l. (n, y) ∷ l) (enumerate-push (n + 1) xs x ∙ ap (λ (k : ℕ). enumerate_from (n + 1) xs ++ (k, x) ∷ []) e)

-- one more of a list, whose place is its number
pub listed_more : {X : Type 0} (f : ℕ × X → Value) (xs : List X) (i : ℕ) (d : X) (vs ws : Values) (v : Value) → i < length xs → ws ≡ push_value vs v → v ≡ f (i + 1, get_or xs i d)
    → vs ≡ map_values f (enumerate_from 1 (take i xs)) → ws ≡ map_values f (enumerate_from 1 (take (i + 1) xs))
listed_more f xs i d vs ws v lt e r h =
    let n : 1 + length (take i xs) ≡ i + 1 = omega (arith, length-take i xs) in
    rw (take_more xs i d lt, enumerate-push, map_values-push, n, e, h, r) refl

-- one more of a list
pub mapped_more : {X Y : Type 0} (f : Y → Value) (h : X → Y) (xs : List X) (i : ℕ) (d : X) (vs ws : Values) (v : Value) → i < length xs → ws ≡ push_value vs v → v ≡ f (h (get_or xs i d))
    → vs ≡ map_values f (map h (take i xs)) → ws ≡ map_values f (map h (take (i + 1) xs))
mapped_more f h xs i d vs ws v lt e r so_far = rw (take_more xs i d lt, map-append, map_values-push, e, so_far, r) refl

-- one more of a list that is mapped as it stands
pub values_more : {X : Type 0} (f : X → Value) (xs : List X) (i : ℕ) (d : X) (vs ws : Values) (v : Value) → i < length xs → ws ≡ push_value vs v → v ≡ f (get_or xs i d)
    → vs ≡ map_values f (take i xs) → ws ≡ map_values f (take (i + 1) xs)
values_more f xs i d vs ws v lt e r so_far = rw (take_more xs i d lt, map_values-push, e, so_far, r) refl

-- one that does not pass is passed over
pub passed_over : {X Y : Type 0} (test : Y → Bool) (f : X → Y) (xs : List X) (i : ℕ) (d : X) (found : Option ℕ) → i < length xs → test (f (get_or xs i d)) ≡ false
    → found ≡ position_from test i (map f (drop i xs)) → found ≡ position_from test (i + 1) (map f (drop (i + 1) xs))
passed_over test f xs i d found lt fails so_far =
    so_far ∙ ap (λ l. position_from test i (map f l)) (drop_more xs i d lt)
    ∙ ap (λ b. if b then Some i else position_from test (i + 1) (map f (drop (i + 1) xs))) fails
