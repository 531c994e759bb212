-- Each content has one value.
use Rattle.std.proofs.Common.{◌≡◌, ℕ, List, [], ◌∷◌, map, refl, sym, ap, ap₂, ◌∙◌, unsigned_abs, Option, Some}
use Rattle.dlms_data.specs.DateTime.{NamesSecond}
use Rattle.dlms_data.specs.Value.{Value, Values, array, structure, octet_string, none, cons}
use Rattle.dlms_profile.specs.Rows.{in_range}
use Rattle.dlms_classes.specs.declared.rows.Cell.{Cell}
use Rattle.dlms_classes.specs.declared.rows.Cell.TheVariants.{Second, Number}
use Rattle.dlms_data.specs.Building.{IsTime}
use Rattle.dlms_classes.specs.Shown.{as_value, as_time, as_table, as_range, IsCell, IsRow, IsTable, Match, Shows, cells, clock_place}
use Rattle.dlms_classes.proofs.Times.{same_octets}

abbrev IsSingle : {X : Type 0} → (X → Value → Type 0) → Type 0
IsSingle {X} R = (x : X) (v w : Value) → R x v → R x w → v ≡ w

one_time : IsSingle IsTime
one_time s v w h k = h.value ∙ ap octet_string (same_octets h.octets k.octets s h.names k.names h.plainly k.plainly h.bytes k.bytes) ∙ sym k.value

one_match : {X : Type 0} (R : X → Value → Type 0) → IsSingle R → (xs : List X) (vs ws : Values) → Match R xs vs → Match R xs ws → vs ≡ ws
one_match R one [] none none h k = refl
one_match R one [] none (cons w ws) h k = absurd k
one_match R one [] (cons v vs) ws h k = absurd h
one_match R one (x ∷ xs) none ws h k = absurd h
one_match R one (x ∷ xs) (cons v vs) none h k = absurd k
one_match R one (x ∷ xs) (cons v vs) (cons w ws) h k = ap₂ cons (one x v w h.0 k.0) (one_match R one xs vs ws h.1 k.1)

one_cell : IsSingle IsCell
one_cell (Second s) v w h k = one_time s v w h k
one_cell (Number n) v w h k = h ∙ sym k

-- what a row or a table is, by its content
in_row : (row : List Cell) (v : Value) → IsRow row v → (vs : Values) × (v ≡ structure vs) × Match IsCell row vs
in_row row (structure vs) h = (vs, refl, h)
in_row row _ h = absurd h

in_table : (rows : List (List Cell)) (v : Value) → IsTable rows v → (vs : Values) × (v ≡ array vs) × Match IsRow rows vs
in_table rows (array vs) h = (vs, refl, h)
in_table rows _ h = absurd h

one_row : IsSingle IsRow
one_row row v w h k =
    let a = in_row row v h in
    let b = in_row row w k in
    a.1 ∙ ap structure (one_match IsCell one_cell row a.0 b.0 a.2 b.2) ∙ sym b.1

one_table : IsSingle IsTable
one_table rows v w h k =
    let a = in_table rows v h in
    let b = in_table rows w k in
    a.1 ∙ ap array (one_match IsRow one_row rows a.0 b.0 a.2 b.2) ∙ sym b.1

one_second : (octets : List ℕ) (s t : ℕ) → NamesSecond octets s → NamesSecond octets t → s ≡ t
one_second octets s t h k = ap unsigned_abs (h.value ∙ sym k.value)

same_place : (found : Option ℕ) (a b : ℕ) → found ≡ Some a → found ≡ Some b → a ≡ b
same_place found a b h k = cc

pub one_value : IsSingle Shows
one_value (as_value x) v w h k = h ∙ sym k
one_value (as_time s) v w h k = one_time s v w h k
one_value (as_table rows) v w h k = one_table rows v w h k
one_value (as_range columns first last rows) v w h k =
    let place : h.place ≡ k.place = same_place (clock_place columns) h.place k.place h.is_column k.is_column in
    let from = one_second first h.from k.from h.names_from k.names_from in
    let to = one_second last h.to k.to h.names_to k.names_to in
    one_table (map (cells columns) (in_range h.place h.from h.to rows)) v w h.value (rw (place, from, to) k.value)
