-- What structures name, one after the other.
use Rattle.std.proofs.Common.{◌≡◌, ◌∙◌, refl, sym, ap, arith, ℕ, zero, suc, map, ◌+◌, ◌<◌, ◌≤◌, Bool, true, false, List, [], ◌∷◌, ◌++◌, length, drop, get_or, Option, Some, None, ok_or, Result, Ok, Err, IsTrue, append_assoc, length-append}
use Rattle.std.specs.Prelude.{◌&&◌, nat_le, IfSome}
use Rattle.std.proofs.lemmas.Bool.{ltb-true, leb-true, le-leb, and_parts}
use Rattle.std.proofs.lemmas.Bool.Decides.{nat_tests}
use Rattle.std.proofs.lemmas.List.{drop_more}
use Rattle.dlms_data.specs.Value.{Value, Values, array, cons}
use Rattle.dlms_data.specs.View.{value_of, values_of}
use Rattle.dlms_data.specs.declared.data.Data.{Data}
use Rattle.dlms_classes.specs.declared.access.AccessResult.{AccessResult}
use Rattle.dlms_classes.specs.declared.access.AccessResult.TheVariants.{OtherReason}
use Rattle.dlms_classes.specs.Access.{◌>>=◌}
use Rattle.dlms_classes.specs.Column.{column_named, columns_of, all_named, known, few, has_place}
use Rattle.dlms_classes.specs.Listing.{map_values}
use Rattle.dlms_classes.specs.Shown.{column_value}
use Rattle.dlms_classes.specs.Table.{object_of_column}
use Rattle.dlms_state.specs.Columns.{are_known}

-- the ids, where those before these fit, and then what some structures name
abbrev pub named_after : Bool → List ℕ → Values → Result (List ℕ) AccessResult
named_after true ids vs = all_named vs >>= λ named. ok_or (known named) OtherReason >>= λ more. few (ids ++ more)
named_after false ids vs = all_named vs >>= λ named. Err OtherReason

-- what is left, where these are named
abbrev after : Bool → List ℕ → Result (List (Option ℕ)) AccessResult → Result (List ℕ) AccessResult
after true ids r = r >>= λ named. ok_or (known named) OtherReason >>= λ more. few (ids ++ more)
after false ids r = r >>= λ named. Err OtherReason

abbrev with_one : Option ℕ → Result (List (Option ℕ)) AccessResult → Result (List (Option ℕ)) AccessResult
with_one id r = r >>= λ ids. Ok (id ∷ ids)

spoiled : (ids ids2 : List ℕ) (id : Option ℕ) (r : Result (List (Option ℕ)) AccessResult) → after false ids (with_one id r) ≡ after false ids2 r
spoiled ids ids2 id (Ok named) = refl
spoiled ids ids2 id (Err q) = refl

unknown : (ids ids2 : List ℕ) (r : Result (List (Option ℕ)) AccessResult) → after true ids (with_one None r) ≡ after false ids2 r
unknown ids ids2 (Ok named) = refl
unknown ids ids2 (Err q) = refl

joined : (ids : List ℕ) (x : ℕ) (more : Option (List ℕ)) → (ok_or (elim more [ Some l ↦ Some (x ∷ l) | None ↦ None ]) OtherReason >>= λ l. few (ids ++ l)) ≡ (ok_or more OtherReason >>= λ l. few ((ids ++ x ∷ []) ++ l))
joined ids x None = refl
joined ids x (Some l) = ap few (sym (append_assoc ids (x ∷ []) l))

taken : (ids : List ℕ) (x : ℕ) (r : Result (List (Option ℕ)) AccessResult) → after true ids (with_one (Some x) r) ≡ after true (ids ++ x ∷ []) r
taken ids x (Ok named) = joined ids x (known named)
taken ids x (Err q) = refl

too_many : (ids : List ℕ) → 4 < length ids → few ids ≡ Err OtherReason
too_many ids long = let no : nat_le (length ids) 4 ≡ false = grind (arith, nat_tests) in rw no refl

overflown : (ids : List ℕ) (x : ℕ) (more : Option (List ℕ)) → 4 ≤ length ids → (ok_or (elim more [ Some l ↦ Some (x ∷ l) | None ↦ None ]) OtherReason >>= λ l. few (ids ++ l)) ≡ Err OtherReason
overflown ids x None full = refl
overflown ids x (Some l) full = too_many (ids ++ x ∷ l) (omega (arith, full, length-append ids (x ∷ l)))

past_room : (ids ids2 : List ℕ) (x : ℕ) (r : Result (List (Option ℕ)) AccessResult) → 4 ≤ length ids → after true ids (with_one (Some x) r) ≡ after false ids2 r
past_room ids ids2 x (Ok named) full = overflown ids x (known named) full
past_room ids ids2 x (Err q) full = refl

record More (fit pushed : Bool) (ids ids2 : List ℕ) (id : Option ℕ) (r : Result (List (Option ℕ)) AccessResult) : Type 0 where
  same : after fit ids (with_one id r) ≡ after (fit && pushed) ids2 r
  room : (fit && pushed) ≡ true → length ids2 ≤ 4

more : (fit pushed : Bool) (ids ids2 : List ℕ) (id : Option ℕ) (r : Result (List (Option ℕ)) AccessResult) → pushed ≡ has_place ids id → (IsTrue pushed → IfSome id (λ x. ids2 ≡ ids ++ x ∷ []))
    → (fit ≡ true → length ids ≤ 4) → More fit pushed ids ids2 id r
more false pushed ids ids2 id r place push room = record { same = spoiled ids ids2 id r; room = λ e. absurd cc }
more true false ids ids2 None r place push room = record { same = unknown ids ids2 r; room = λ e. absurd cc }
more true true ids ids2 None r place push room = absurd cc
more true false ids ids2 (Some x) r place push room =
    let full : 4 ≤ length ids = grind (arith, nat_tests) in
    record { same = past_room ids ids2 x r full; room = λ e. absurd cc }
more true true ids ids2 (Some x) r place push room =
    let low : length ids < 4 = ltb-true (length ids) 4 (sym place) in
    let is : ids2 ≡ ids ++ x ∷ [] = push refl in
    record { same = rw is (taken ids x r); room = λ e. rw is (omega (arith, low, length-append ids (x ∷ []))) }

of_step : (step : Result (Option ℕ) AccessResult) (id : Option ℕ) (r : Result (List (Option ℕ)) AccessResult) → step ≡ Ok id → (step >>= λ x. r >>= λ ids. Ok (x ∷ ids)) ≡ with_one id r
of_step step id r e = rw e refl

by_after : (fit : Bool) (ids : List ℕ) (vs : Values) → named_after fit ids vs ≡ after fit ids (all_named vs)
by_after true ids vs = refl
by_after false ids vs = refl

named_step : (fit : Bool) (ids : List ℕ) (v : Value) (vs : Values) (id : Option ℕ) → Ok id ≡ column_named v → named_after fit ids (cons v vs) ≡ after fit ids (with_one id (all_named vs))
named_step fit ids v vs id e = by_after fit ids (cons v vs) ∙ ap (after fit ids) (of_step (column_named v) id (all_named vs) (sym e))

-- one structure more
pub named_more : {A : Type 0} (items : List (Data A)) (i : ℕ) (d : Data A) (fit pushed : Bool) (ids ids2 : List ℕ) (id : Option ℕ) (whole : Result (List ℕ) AccessResult) → i < length items
    → d ≡ get_or items i d → Ok id ≡ column_named (value_of d) → pushed ≡ has_place ids id → (IsTrue pushed → IfSome id (λ x. ids2 ≡ ids ++ x ∷ []))
    → (whole ≡ named_after fit ids (values_of (drop i items))) × (fit ≡ true → length ids ≤ 4)
    → (whole ≡ named_after (fit && pushed) ids2 (values_of (drop (i + 1) items))) × ((fit && pushed) ≡ true → length ids2 ≤ 4)
named_more items i d fit pushed ids ids2 id whole lt is named place push so_far =
    let next : drop i items ≡ d ∷ drop (i + 1) items = drop_more items i d lt ∙ ap (λ x. x ∷ drop (i + 1) items) (sym is) in
    let step = more fit pushed ids ids2 id (all_named (values_of (drop (i + 1) items))) place push so_far.1 in (
      so_far.0 ∙ ap (λ l. named_after fit ids (values_of l)) next ∙ named_step fit ids (value_of d) (values_of (drop (i + 1) items)) id named ∙ step.same
          ∙ sym (by_after (fit && pushed) ids2 (values_of (drop (i + 1) items))),
      step.room,
    )

-- ---- columns as they are read

as_read : (id : ℕ) → nat_le id 3 ≡ true → column_named (column_value (object_of_column id)) ≡ Ok (Some id)
as_read zero is = refl
as_read (suc zero) is = refl
as_read (suc (suc zero)) is = refl
as_read (suc (suc (suc zero))) is = refl
as_read (suc (suc (suc (suc id)))) is = let past : suc (suc (suc (suc id))) ≤ 3 = leb-true (suc (suc (suc (suc id)))) 3 is in absurd (omega arith)

both_named : (step : Result (Option ℕ) AccessResult) (rest : Result (List (Option ℕ)) AccessResult) (id : Option ℕ) (ids : List (Option ℕ)) → step ≡ Ok id → rest ≡ Ok ids
    → (step >>= λ x. rest >>= λ l. Ok (x ∷ l)) ≡ Ok (id ∷ ids)
both_named step rest id ids e h = rw (e, h) refl

all_read : (columns : List ℕ) → are_known columns ≡ true → all_named (map_values (λ id. column_value (object_of_column id)) columns) ≡ Ok (map Some columns)
all_read [] are = refl
all_read (id ∷ columns) are =
    let parts = and_parts (nat_le id 3) (are_known columns) are in
    both_named (column_named (column_value (object_of_column id))) (all_named (map_values (λ id. column_value (object_of_column id)) columns)) (Some id) (map Some columns) (as_read id parts.0) (all_read columns parts.1)

known_read : (columns : List ℕ) → known (map Some columns) ≡ Some columns
known_read [] = refl
known_read (id ∷ columns) = rw (known_read columns) refl

few_read : (columns : List ℕ) → length columns ≤ 4 → few columns ≡ Ok columns
few_read columns less = let is : nat_le (length columns) 4 ≡ true = le-leb (length columns) 4 less in rw is refl

pub set_as_read : (columns : List ℕ) → are_known columns ≡ true → length columns ≤ 4 → columns_of (array (map_values (λ id. column_value (object_of_column id)) columns)) ≡ Ok columns
set_as_read columns are less = rw (all_read columns are, known_read columns) (few_read columns less)
