-- The form of the buffer's encoding.
use Rattle.std.proofs.Common.{◌≡◌, ◌≢◌, ◌∙◌, ◌≤◌, ◌<◌, ◌-◌, ◌==◌, refl, sym, ap, subst, arith, ℕ, Bool, true, false, if◌then◌else◌, List, [], ◌∷◌, ◌++◌, length, length-drop, take, drop, Option, Some, None, Result, Ok, nat_lt, max, zero, suc}
use Rattle.std.specs.Prelude.{MatchBool, MatchOption, option_map}
use Rattle.std.proofs.lemmas.Bool.Decides.{nat_tests}
use Rattle.dlms_data.specs.Value.{Value, Values, null, array, structure, boolean, bit_string, double_long, double_long_unsigned, octet_string, visible_string, utf8_string, bcd, integer, long, unsigned, long_unsigned, long64, long64_unsigned, enumerated, date_time, date, time, none, cons, count, depth, values_depth}
use Rattle.dlms_data.specs.DateTime.{NamesSecond}
use Rattle.dlms_headend.proofs.Values.{no_second_named}
use Rattle.dlms_data.specs.Spelling.{IsLength, Counted, Spells, SpellAll, IsSpelling}
use Rattle.dlms_headend.specs.Form.{begins, body_of, StandIn, IsFirst, IsFour}
use Rattle.dlms_headend.specs.Rows.{on_some, four_in, octets_in, register_in, fields_in, IsRow, AreRows, IsProfile, IsEncoded}
use Rattle.dlms_headend.specs.declared.row.Row.{Row}
use Rattle.dlms_axdr.specs.declared.fault.DataFault.{DataFault}

-- ---- tags

abbrev tag_of : Value → ℕ
tag_of null = 0
tag_of (array vs) = 1
tag_of (structure vs) = 2
tag_of (boolean b) = 3
tag_of (bit_string bits) = 4
tag_of (double_long z) = 5
tag_of (double_long_unsigned n) = 6
tag_of (octet_string b) = 9
tag_of (visible_string b) = 10
tag_of (utf8_string b) = 12
tag_of (bcd n) = 13
tag_of (integer z) = 15
tag_of (long z) = 16
tag_of (unsigned n) = 17
tag_of (long_unsigned n) = 18
tag_of (long64 z) = 20
tag_of (long64_unsigned n) = 21
tag_of (enumerated n) = 22
tag_of (date_time b) = 25
tag_of (date b) = 26
tag_of (time b) = 27

spelled_tag : (v : Value) (bytes : List ℕ) → Spells bytes v → (rest : List ℕ) × (bytes ≡ tag_of v ∷ rest)
spelled_tag null bytes h = ([], h)
spelled_tag (array vs) bytes h = (h.0, h.1)
spelled_tag (structure vs) bytes h = (h.0, h.1)
spelled_tag (boolean b) bytes h = (h.0, h.1)
spelled_tag (bit_string bits) bytes h = (h.0, h.1)
spelled_tag (double_long z) bytes h = (h.0, h.1)
spelled_tag (double_long_unsigned n) bytes h = (h.0, h.1)
spelled_tag (octet_string b) bytes h = (h.0, h.1)
spelled_tag (visible_string b) bytes h = (h.0, h.1)
spelled_tag (utf8_string b) bytes h = (h.0, h.1)
spelled_tag (bcd n) bytes h = (h.0, h.1)
spelled_tag (integer z) bytes h = (h.0, h.1)
spelled_tag (long z) bytes h = (h.0, h.1)
spelled_tag (unsigned n) bytes h = (h.0, h.1)
spelled_tag (long_unsigned n) bytes h = (h.0, h.1)
spelled_tag (long64 z) bytes h = (h.0, h.1)
spelled_tag (long64_unsigned n) bytes h = (h.0, h.1)
spelled_tag (enumerated n) bytes h = (h.0, h.1)
spelled_tag (date_time b) bytes h = (h.0, h.1)
spelled_tag (date b) bytes h = (h.0, h.1)
spelled_tag (time b) bytes h = (h.0, h.1)

begins_tag : (tag : ℕ) (v : Value) (bytes : List ℕ) → Spells bytes v → begins tag bytes ≡ (tag_of v == tag)
begins_tag tag v bytes h = ap (λ (b : List ℕ). begins tag b) (spelled_tag v bytes h).1

some_byte : (v : Value) → Spells [] v → ⊥
some_byte v h = let e = (spelled_tag v [] h).1 in cc

-- ---- behind a tag and a length

drop_front : (front rest : List ℕ) → drop (length front) (front ++ rest) ≡ rest
drop_front [] rest = refl
drop_front (x ∷ front) rest = drop_front front rest

take_front : (front rest : List ℕ) → take (length front) (front ++ rest) ≡ front
take_front [] rest = refl
take_front (x ∷ front) rest = ap (λ (xs : List ℕ). x ∷ xs) (take_front front rest)

body_behind : (tag n : ℕ) (len body : List ℕ) → IsLength len n → body_of (tag ∷ (len ++ body)) ≡ body
body_behind tag n [] body h = absurd h
body_behind tag n (b ∷ []) body h =
    let small : nat_lt b 128 ≡ true = grind (arith, nat_tests) in
    ap (λ (is : Bool). if is then body else drop (b - 128) body) small
body_behind tag n (b ∷ c ∷ more) body h =
    let large : nat_lt b 128 ≡ false = grind (arith, nat_tests) in
    let width : b - 128 ≡ length (c ∷ more) = omega (arith, h.1) in
    ap (λ (is : Bool). if is then c ∷ (more ++ body) else drop (b - 128) (c ∷ (more ++ body))) large
    ∙ ap (λ (k : ℕ). drop k (c ∷ (more ++ body))) width ∙ drop_front (c ∷ more) body

body_is : (tag n : ℕ) (bytes rest : List ℕ) (content : List ℕ → Type 0) → bytes ≡ tag ∷ rest → Counted rest n content → content (body_of bytes)
body_is tag n bytes rest content e (len, body, is, length_is, there) =
    let all : body_of bytes ≡ body = ap body_of (e ∙ ap (λ (r : List ℕ). tag ∷ r) is) ∙ body_behind tag n len body length_is in
    subst content (sym all) there

-- ---- values one after another

take_none : (n : ℕ) (bytes : List ℕ) → bytes ≡ [] → take n bytes ≡ []
take_none zero bytes e = refl
take_none (suc n) [] e = refl
take_none (suc n) (b ∷ bytes) e = absurd cc

max_left : (a b : ℕ) → max a b ≤ 7 → a ≤ 7
max_left a b h = grind (arith, h)

max_right : (a b : ℕ) → max a b ≤ 7 → b ≤ 7
max_right a b h = grind (arith, h)

-- the first of some values, and the others
first_of : (v : Value) (vs : Values) (bytes : List ℕ) → StandIn bytes (cons v vs) → (front : List ℕ) × (rest : List ℕ) × (bytes ≡ front ++ rest) × IsSpelling front v × StandIn rest vs
first_of v vs bytes stand =
    let low : depth v ≤ 8 = let seven = max_left (depth v) (values_depth vs) stand.shallow in omega (arith, seven) in
    (stand.spelled.0, stand.spelled.1, stand.spelled.2, (stand.spelled.3, low), record { spelled = stand.spelled.4; shallow = max_right (depth v) (values_depth vs) stand.shallow })

pub first_found : (vs : Values) (bytes : List ℕ) (n : ℕ) → StandIn bytes vs → ((v : Value) × IsSpelling (take n bytes) v)
    → ((v : Value) (text rest : List ℕ) → IsSpelling text v → bytes ≡ text ++ rest → n ≡ length text) → IsFirst vs (take n bytes) (drop n bytes)
first_found none bytes n stand (v, found) only =
    let empty : take n bytes ≡ [] = take_none n bytes stand.spelled in
    absurd (some_byte v (subst (λ (b : List ℕ). Spells b v) empty found.0))
first_found (cons v vs) bytes n stand found only =
    let f = first_of v vs bytes stand in
    let same : n ≡ length f.0 = only v f.0 f.1 f.3 f.2 in
    let front : take n bytes ≡ f.0 = ap (λ (k : ℕ). take k bytes) same ∙ ap (λ (b : List ℕ). take (length f.0) b) f.2 ∙ take_front f.0 f.1 in
    let rest : drop n bytes ≡ f.1 = ap (λ (k : ℕ). drop k bytes) same ∙ ap (λ (b : List ℕ). drop (length f.0) b) f.2 ∙ drop_front f.0 f.1 in
    record {
      first = v;
      others = vs;
      are = refl;
      spelled = subst (λ (b : List ℕ). IsSpelling b v) (sym front) f.3;
      behind = subst (λ (b : List ℕ). StandIn b vs) (sym rest) f.4;
    }

pub none_found : (vs : Values) (bytes : List ℕ) → StandIn bytes vs → ((v : Value) (text rest : List ℕ) → IsSpelling text v → bytes ≡ text ++ rest → ⊥) → vs ≡ none
none_found none bytes stand only = refl
none_found (cons v vs) bytes stand only = let f = first_of v vs bytes stand in absurd (only v f.0 f.1 f.3 f.2)

-- ---- four values

module _ (vs ws xs ys zs : Values) (a b c d : Value) where
  pub one_missing : vs ≡ none → four_in (structure vs) ≡ None
  one_missing e = ap (λ (x : Values). four_in (structure x)) e

  pub two_missing : vs ≡ cons a ws → ws ≡ none → four_in (structure vs) ≡ None
  two_missing e f = ap (λ (x : Values). four_in (structure x)) (e ∙ ap (cons a) f)

  pub three_missing : vs ≡ cons a ws → ws ≡ cons b xs → xs ≡ none → four_in (structure vs) ≡ None
  three_missing e f g = ap (λ (x : Values). four_in (structure x)) (e ∙ ap (cons a) (f ∙ ap (cons b) g))

  pub four_missing : vs ≡ cons a ws → ws ≡ cons b xs → xs ≡ cons c ys → ys ≡ none → four_in (structure vs) ≡ None
  four_missing e f g h = ap (λ (x : Values). four_in (structure x)) (e ∙ ap (cons a) (f ∙ ap (cons b) (g ∙ ap (cons c) h)))

  pub four_there : vs ≡ cons a ws → ws ≡ cons b xs → xs ≡ cons c ys → ys ≡ cons d zs → vs ≡ cons a (cons b (cons c (cons d zs)))
  four_there e f g h = e ∙ ap (cons a) (f ∙ ap (cons b) (g ∙ ap (cons c) h))

-- none is in no byte, and some in some
pub none_stands : (vs : Values) (bytes : List ℕ) → StandIn bytes vs → bytes ≡ [] → vs ≡ none
none_stands none bytes stand e = refl
none_stands (cons v vs) bytes stand e =
    let f = first_of v vs bytes stand in
    absurd (some_byte v (subst (λ (b : List ℕ). Spells b v) (front_empty f.0 f.1 (sym f.2 ∙ e)) f.3.0))
  where
    front_empty : (front rest : List ℕ) → front ++ rest ≡ [] → front ≡ []
    front_empty [] rest e = refl
    front_empty (x ∷ front) rest e = absurd cc

too_many : (v : Values) (ws : Values) (a b c d : Value) (bytes : List ℕ) → v ≡ cons a (cons b (cons c (cons d ws))) → StandIn bytes ws → bytes ≢ [] → four_in (structure v) ≡ None
too_many v none a b c d bytes e stand some = absurd (some stand.spelled)
too_many v (cons x xs) a b c d bytes e stand some = ap (λ (y : Values). four_in (structure y)) e

-- ---- one value

pub not_structure : (v : Value) (bytes : List ℕ) → IsSpelling bytes v → begins 2 bytes ≡ false → four_in v ≡ None
not_structure v bytes h e = by_tag v (sym (begins_tag 2 v bytes h.0) ∙ e)
  where
    by_tag : (v : Value) → (tag_of v == 2) ≡ false → four_in v ≡ None
    by_tag (structure vs) e = absurd cc
    by_tag _ e = refl

pub structure_in : (v : Value) (bytes : List ℕ) → IsSpelling bytes v → begins 2 bytes ≡ true → (vs : Values) × (v ≡ structure vs) × StandIn (body_of bytes) vs
structure_in v bytes h e = by_tag v bytes h (sym (begins_tag 2 v bytes h.0) ∙ e)
  where
    by_tag : (v : Value) (bytes : List ℕ) → IsSpelling bytes v → (tag_of v == 2) ≡ true → (vs : Values) × (v ≡ structure vs) × StandIn (body_of bytes) vs
    by_tag (structure vs) bytes h e = (vs, refl, record { spelled = body_is 2 (count vs) bytes h.0.0 (λ (body : List ℕ). SpellAll body vs) h.0.1 h.0.2; shallow = let d = h.1 in omega (arith, d) })
    by_tag _ bytes h e = absurd cc

pub not_octets : (v : Value) (bytes : List ℕ) → IsSpelling bytes v → begins 9 bytes ≡ false → octets_in v ≡ None
not_octets v bytes h e = by_tag v (sym (begins_tag 9 v bytes h.0) ∙ e)
  where
    by_tag : (v : Value) → (tag_of v == 9) ≡ false → octets_in v ≡ None
    by_tag (octet_string b) e = absurd cc
    by_tag _ e = refl

pub are_octets : (v : Value) (bytes : List ℕ) → IsSpelling bytes v → begins 9 bytes ≡ true → octets_in v ≡ Some (body_of bytes)
are_octets v bytes h e = by_tag v bytes h.0 (sym (begins_tag 9 v bytes h.0) ∙ e)
  where
    by_tag : (v : Value) (bytes : List ℕ) → Spells bytes v → (tag_of v == 9) ≡ true → octets_in v ≡ Some (body_of bytes)
    by_tag (octet_string b) bytes h e = ap (λ (o : List ℕ). Some o) (sym (body_is 9 (length b) bytes h.0 (λ (body : List ℕ). body ≡ b) h.1 h.2))
    by_tag _ bytes h e = absurd cc

pub register_by : (v : Value) (bytes : List ℕ) → IsSpelling bytes v → MatchBool (begins 6 bytes) ((n : ℕ) × (register_in v ≡ Some n)) (register_in v ≡ None)
register_by v bytes h = subst (λ (b : Bool). MatchBool b ((n : ℕ) × (register_in v ≡ Some n)) (register_in v ≡ None)) (sym (begins_tag 6 v bytes h.0)) (by_tag v)
  where
    by_tag : (v : Value) → MatchBool (tag_of v == 6) ((n : ℕ) × (register_in v ≡ Some n)) (register_in v ≡ None)
    by_tag (double_long_unsigned n) = (n, refl)
    by_tag _ = refl

pub same_length : (r : Result ℕ DataFault) (n m : ℕ) → r ≡ Ok n → r ≡ Ok m → n ≡ m
same_length r n m e f = let both : Ok n ≡ r = sym e in cc

-- what was found has a byte at least
pub is_shorter : (bytes : List ℕ) (n : ℕ) → n ≤ length bytes → ((v : Value) × IsSpelling (take n bytes) v) → length (drop n bytes) < length bytes
is_shorter bytes zero within (v, h) = absurd (some_byte v h.0)
is_shorter [] (suc n) within h = absurd (omega (arith, within))
is_shorter (b ∷ bytes) (suc n) within h = omega (arith, length-drop n bytes)

pub four_found : (vs : Values) (a b c d r1 r2 r3 r4 : List ℕ) (f1 : IsFirst vs a r1) (f2 : IsFirst f1.others b r2) (f3 : IsFirst f2.others c r3) (f4 : IsFirst f3.others d r4) → r4 ≡ [] → IsFour (structure vs) a b c d
four_found vs a b c d r1 r2 r3 r4 f1 f2 f3 f4 e =
    let last : f4.others ≡ none = none_stands f4.others r4 f4.behind e in
    let all : vs ≡ cons f1.first (cons f2.first (cons f3.first (cons f4.first none))) =
    four_there vs f1.others f2.others f3.others none f1.first f2.first f3.first f4.first f1.are f2.are f3.are (f4.are ∙ ap (cons f4.first) last) in
    record {
      first = f1.first;
      second = f2.first;
      third = f3.first;
      fourth = f4.first;
      are = ap (λ (x : Values). four_in (structure x)) all;
      first_spelled = f1.spelled;
      second_spelled = f2.spelled;
      third_spelled = f3.spelled;
      fourth_spelled = f4.spelled;
    }

pub parts_found : (v : Value) (bytes body : List ℕ) (A : Type 0) (r : Option A) (Is : Value → A → Type 0) → IsSpelling bytes v → begins 2 bytes ≡ true → body ≡ body_of bytes
    → ((vs : Values) → StandIn body vs → MatchOption r (four_in (structure vs) ≡ None) (λ x. Is (structure vs) x)) → MatchOption r (four_in v ≡ None) (λ x. Is v x)
parts_found v bytes body A r Is h e same found =
    let s = structure_in v bytes h e in
    subst (λ (w : Value). MatchOption r (four_in w ≡ None) (λ x. Is w x)) (sym s.1) (found s.0 (subst (λ (b : List ℕ). StandIn b s.0) (sym same) s.2))

-- ---- a row

-- the fields of a structure of four, by its parts
abbrev fields_by : Option (List ℕ) → Option ℕ → Option ℕ → Option ℕ → Option (List ℕ × List ℕ)
fields_by o p q r =
    on_some o (λ t.
    on_some p (λ first.
    on_some q (λ second.
    on_some r (λ third.
    Some (t, first ∷ second ∷ third ∷ [])))))

fields_are : (v : Value) (a b c d : List ℕ) (four : IsFour v a b c d) → fields_in v ≡ fields_by (octets_in four.first) (register_in four.second) (register_in four.third) (register_in four.fourth)
fields_are v a b c d four =
    ap (λ (f : Option (Value × Value × Value × Value)). on_some f (λ fields. fields_by (octets_in fields.0) (register_in fields.1) (register_in fields.2) (register_in fields.3))) four.are

pub no_four : (v : Value) → four_in v ≡ None → fields_in v ≡ None
no_four v e = ap (λ (f : Option (Value × Value × Value × Value)). on_some f (λ fields. fields_by (octets_in fields.0) (register_in fields.1) (register_in fields.2) (register_in fields.3))) e

first_missing : (o : Option (List ℕ)) (q r : Option ℕ) → fields_by o None q r ≡ None
first_missing None q r = refl
first_missing (Some t) q r = refl

second_missing : (o : Option (List ℕ)) (p r : Option ℕ) → fields_by o p None r ≡ None
second_missing None p r = refl
second_missing (Some t) None r = refl
second_missing (Some t) (Some n) r = refl

third_missing : (o : Option (List ℕ)) (p q : Option ℕ) → fields_by o p q None ≡ None
third_missing None p q = refl
third_missing (Some t) None q = refl
third_missing (Some t) (Some n) None = refl
third_missing (Some t) (Some n) (Some m) = refl

module _ (v : Value) (a b c d : List ℕ) (four : IsFour v a b c d) where
  pub no_first : register_in four.second ≡ None → fields_in v ≡ None
  no_first e = fields_are v a b c d four ∙ ap (λ (p : Option ℕ). fields_by (octets_in four.first) p (register_in four.third) (register_in four.fourth)) e ∙ first_missing (octets_in four.first) (register_in four.third) (register_in four.fourth)

  pub no_second : register_in four.third ≡ None → fields_in v ≡ None
  no_second e = fields_are v a b c d four ∙ ap (λ (q : Option ℕ). fields_by (octets_in four.first) (register_in four.second) q (register_in four.fourth)) e ∙ second_missing (octets_in four.first) (register_in four.second) (register_in four.fourth)

  pub no_third : register_in four.fourth ≡ None → fields_in v ≡ None
  no_third e = fields_are v a b c d four ∙ ap (λ (r : Option ℕ). fields_by (octets_in four.first) (register_in four.second) (register_in four.third) r) e ∙ third_missing (octets_in four.first) (register_in four.second) (register_in four.third)

  by_time : (o : Option (List ℕ)) (n m k : ℕ) → fields_in v ≡ fields_by o (Some n) (Some m) (Some k) → MatchOption o (fields_in v ≡ None) (λ t. (registers : List ℕ) × (fields_in v ≡ Some (t, registers)))
  by_time None n m k e = e
  by_time (Some t) n m k e = (n ∷ m ∷ k ∷ [], e)

  pub fields_told : (o : Option (List ℕ)) → o ≡ octets_in four.first → ((n : ℕ) × (register_in four.second ≡ Some n)) → ((n : ℕ) × (register_in four.third ≡ Some n)) → ((n : ℕ) × (register_in four.fourth ≡ Some n))
      → MatchOption o (fields_in v ≡ None) (λ t. (registers : List ℕ) × (fields_in v ≡ Some (t, registers)))
  fields_told o is first second third =
      by_time o first.0 second.0 third.0 (fields_are v a b c d four
      ∙ ap (λ (x : Option (List ℕ)). fields_by x (register_in four.second) (register_in four.third) (register_in four.fourth)) (sym is)
      ∙ ap (λ (p : Option ℕ). fields_by o p (register_in four.third) (register_in four.fourth)) first.1
      ∙ ap (λ (q : Option ℕ). fields_by o (Some first.0) q (register_in four.fourth)) second.1
      ∙ ap (λ (r : Option ℕ). fields_by o (Some first.0) (Some second.0) r) third.1)

-- ---- rows

-- how far a walk over values is
pub record Walked (vs : Values) (rest : List ℕ) : Type 0 where
  pub others : Values
  pub stand : StandIn rest others
  pub to : (rows : List Row) → AreRows others rows → (all : List Row) × AreRows vs all
  pub from : (all : List Row) → AreRows vs all → (rows : List Row) × AreRows others rows

pub walk_starts : (vs : Values) (bytes : List ℕ) → StandIn bytes vs → Walked vs bytes
walk_starts vs bytes stand = record { others = vs; stand = stand; to = λ rows h. (rows, h); from = λ all h. (all, h) }

behind_first : (v : Value) (os : Values) (rows : List Row) → AreRows (cons v os) rows → (row : Row) × (more : List Row) × IsRow v row × AreRows os more
behind_first v os [] h = absurd h
behind_first v os (row ∷ rows) h = (row, rows, h.0, h.1)

pub walk_goes : (vs : Values) (rest first behind : List ℕ) (w : Walked vs rest) (f : IsFirst w.others first behind) → ((row : Row) × IsRow f.first row) → Walked vs behind
walk_goes vs rest first behind w f (row, is) = record {
  others = f.others;
  stand = f.behind;
  to = λ rows h. w.to (row ∷ rows) (subst (λ (x : Values). AreRows x (row ∷ rows)) (sym f.are) (is, h));
  from = λ all h.
      let rows = w.from all h in
      let parts = behind_first f.first f.others rows.0 (subst (λ (x : Values). AreRows x rows.0) f.are rows.1) in
      (parts.1, parts.3);
}

pub walk_ends : (vs : Values) (rest : List ℕ) → Walked vs rest → rest ≡ [] → (rows : List Row) × AreRows vs rows
walk_ends vs rest w e = w.to [] (subst (λ (x : Values). AreRows x []) (sym (none_stands w.others rest w.stand e)) tt)

pub walk_fails : (vs : Values) (rest first behind : List ℕ) (w : Walked vs rest) (f : IsFirst w.others first behind) → ((row : Row) → IsRow f.first row → ⊥) → (rows : List Row) → AreRows vs rows → ⊥
walk_fails vs rest first behind w f missing all h =
    let rows = w.from all h in
    let parts = behind_first f.first f.others rows.0 (subst (λ (x : Values). AreRows x rows.0) f.are rows.1) in
    missing parts.0 parts.2

pub walk_stops : (vs : Values) (rest : List ℕ) (w : Walked vs rest) → w.others ≡ none → rest ≡ []
walk_stops vs rest w e = (subst (λ (x : Values). StandIn rest x) e w.stand).spelled

-- ---- an array

pub array_in : (v : Value) (bytes : List ℕ) → IsSpelling bytes v → begins 1 bytes ≡ true → (vs : Values) × (v ≡ array vs) × StandIn (body_of bytes) vs
array_in v bytes h e = by_tag v bytes h (sym (begins_tag 1 v bytes h.0) ∙ e)
  where
    by_tag : (v : Value) (bytes : List ℕ) → IsSpelling bytes v → (tag_of v == 1) ≡ true → (vs : Values) × (v ≡ array vs) × StandIn (body_of bytes) vs
    by_tag (array vs) bytes h e = (vs, refl, record { spelled = body_is 1 (count vs) bytes h.0.0 (λ (body : List ℕ). SpellAll body vs) h.0.1 h.0.2; shallow = let d = h.1 in omega (arith, d) })
    by_tag _ bytes h e = absurd cc

pub not_array : (v : Value) (vs : Values) (bytes : List ℕ) → IsSpelling bytes v → begins 1 bytes ≡ false → v ≡ array vs → ⊥
not_array v vs bytes h e same = let clash : true ≡ false = sym (ap (λ (w : Value). tag_of w == 1) same) ∙ (sym (begins_tag 1 v bytes h.0) ∙ e) in cc

pub no_array : (bytes : List ℕ) → begins 1 bytes ≡ false → (rows : List Row) → IsEncoded bytes rows → ⊥
no_array bytes e rows (v, h, is) = by_tag v rows (sym (begins_tag 1 v bytes h.0) ∙ e) is
  where
    by_tag : (v : Value) (rows : List Row) → (tag_of v == 1) ≡ false → IsProfile v rows → ⊥
    by_tag (array vs) rows e is = cc
    by_tag _ rows e is = is

pub profile_told : (bytes body : List ℕ) (b : Bool) → ((v : Value) × IsSpelling bytes v) → begins 1 bytes ≡ true → body ≡ body_of bytes
    → ((vs : Values) → StandIn body vs → MatchBool b ((rows : List Row) × AreRows vs rows) ((rows : List Row) → AreRows vs rows → ⊥))
    → MatchBool b ((rows : List Row) × IsEncoded bytes rows) ((rows : List Row) → IsEncoded bytes rows → ⊥)
profile_told bytes body true (v, h) e same told =
    let a = array_in v bytes h e in
    let rows = told a.0 (subst (λ (b : List ℕ). StandIn b a.0) (sym same) a.2) in
    (rows.0, (v, h, subst (λ (w : Value). IsProfile w rows.0) (sym a.1) rows.1))
profile_told bytes body false there e same told = λ rows encoded.
    let a = array_in encoded.0 bytes encoded.1 e in
    told a.0 (subst (λ (b : List ℕ). StandIn b a.0) (sym same) a.2) rows (subst (λ (w : Value). IsProfile w rows) a.1 encoded.2)

-- ---- what the code told

pub nothing_left : (bytes : List ℕ) → (length bytes == 0) ≡ true → bytes ≡ []
nothing_left [] e = refl
nothing_left (b ∷ bytes) e = let some : length (b ∷ bytes) ≢ 0 = omega arith in absurd (grind (arith, nat_tests))

pub match_map : {A B : Type 0} (r : Option A) (f : A → B) (N : Type 0) (S : B → Type 0) → MatchOption (option_map f r) N S → MatchOption r N (λ x. S (f x))
match_map None f N S h = h
match_map (Some x) f N S h = h

-- the octets name a second, or none
pub named_row : (v : Value) (octets registers : List ℕ) (second : ℕ) → fields_in v ≡ Some (octets, registers) → NamesSecond octets second → (row : Row) × IsRow v row
named_row v octets registers second e names = (record { clock = second; registers = registers }, record { time = octets; fields = e; clock = names })

pub unnamed_row : (v : Value) (octets registers : List ℕ) → fields_in v ≡ Some (octets, registers) → ((second : ℕ) → NamesSecond octets second → ⊥) → (row : Row) → IsRow v row → ⊥
unnamed_row v octets registers e unnamed row is = no_second_named v octets registers (sym e) unnamed row is

pub no_fields : (v : Value) → fields_in v ≡ None → (row : Row) → IsRow v row → ⊥
no_fields v e row is = let both = sym e ∙ is.fields in cc
