-- Where the faults stand.
use Rattle.std.proofs.Common.{◌≡◌, ◌≢◌, ℕ, zero, suc, ◌-◌, ◌+◌, ◌≤◌, ◌<◌, ◌==◌, ◌⊎◌, inl, inr, if◌then◌else◌, Bool, true, false, ltb, eqb, eq-eqb, List, [], ◌∷◌, ◌++◌, length, take, drop, Result, Ok, Err, refl, sym, ap, subst, ◌∙◌, append_assoc, arith}
use Rattle.std.proofs.lemmas.Bool.{ltb-false, le-ltb, ltb-true, lt-ltb}
use Rattle.std.proofs.lemmas.Bool.Decides.{nat_tests}
use Rattle.std.proofs.lemmas.List.{take-append-drop, length-take}
use Rattle.byteorder.specs.Endian.{big_number}
use Rattle.dlms_acse.specs.declared.fault.AcseFault.{AcseFault}
use Rattle.dlms_acse.specs.declared.fault.AcseFault.TheVariants.{Short, Tag, Length, Repeated}
use Rattle.dlms_acse.specs.Reading.{◌>>=◌, taken_at, number_at, length_at, octets_at, contains, checked_at, ended, body_at}
use Rattle.dlms_acse.specs.Spelling.{IsLength, Counts, Field, SpellFields, AreNew, IsApdu}
use Rattle.dlms_acse.specs.Faults.{IsNoLength, IsCut, seen, IsWrong, StandsIn, IsInside, TellsFields, TellsAnother, TellsRepeated, TellsCut, TellsLength}
use Rattle.dlms_acse.proofs.Takes.{octets_takes, octets_again, octets_within, length_again}
use Rattle.dlms_acse.proofs.Walk.{checked-next, checked-repeated, checked-fault}
use Rattle.dlms_acse.proofs.Apdus.{checked_spelled, spelled_checked}

abbrev failed : {A : Type 0} → AcseFault → Result A AcseFault
failed f = Err f

err_is : {A : Type 0} (f g : AcseFault) → failed {A = A} f ≡ failed {A = A} g → f ≡ g
err_is f g e = cc

-- ---- a length and what it counts

taken_short : (n : ℕ) (bytes : List ℕ) → length bytes < n → taken_at n bytes ≡ Err Short
unfolding taken_at
taken_short n bytes l = rw (lt-ltb (length bytes) n l) refl

number_short : (n : ℕ) (bytes : List ℕ) → length bytes < n → number_at n bytes ≡ Err Short
unfolding number_at
number_short n bytes l = rw (taken_short n bytes l) refl

long_first : (most b : ℕ) (rest : List ℕ) → 128 < b → b ≤ 128 + most → length_at most (b ∷ rest) ≡ number_at (b - 128) rest
unfolding length_at
long_first most b rest low high =
    let one : ltb b 128 ≡ false = le-ltb b 128 (omega arith) in
    let two : ltb b 129 ≡ false = le-ltb b 129 (omega arith) in
    let three : ltb (128 + most) b ≡ false = le-ltb (128 + most) b high in
    rw (one, two, three) refl

no_length : (most : ℕ) (bytes : List ℕ) → IsNoLength most bytes → octets_at most bytes ≡ Err Length
unfolding octets_at length_at
no_length most bytes (b, rest, e, inl is) =
    let one : ltb b 128 ≡ false = le-ltb b 128 (omega arith) in
    let two : ltb b 129 ≡ true = lt-ltb b 129 (omega arith) in
    rw (e, one, two) refl
no_length most bytes (b, rest, e, inr big) =
    by_first (ltb b 129) refl
  where
    by_first : (t : Bool) → ltb b 129 ≡ t → octets_at most bytes ≡ Err Length
    by_first true h = let one : ltb b 128 ≡ false = le-ltb b 128 (omega arith) in rw (e, one, h) refl
    by_first false h =
        let one : ltb b 128 ≡ false = le-ltb b 128 (omega arith) in
        let three : ltb (128 + most) b ≡ true = lt-ltb (128 + most) b big in
        rw (e, one, h, three) refl

is_cut : (most : ℕ) (bytes : List ℕ) → IsCut most bytes → octets_at most bytes ≡ Err Short
unfolding octets_at length_at
is_cut most bytes (inl e) = rw e refl
is_cut most bytes (inr (inl (b, rest, e, low, high, few))) = rw (e, long_first most b rest low high, number_short (b - 128) rest few) refl
is_cut most bytes (inr (inr (len, rest, n, e, is, few))) = rw (e, length_again most len n rest is, taken_short n rest few) refl

-- each of bytes is one of three
abbrev Sorted : ℕ → List ℕ → Type 0
Sorted most bytes = IsCut most bytes ⊎ (IsNoLength most bytes ⊎ ((x : List ℕ × List ℕ) × (octets_at most bytes ≡ Ok x)))

counted : (most : ℕ) (bytes len rest : List ℕ) (n : ℕ) → bytes ≡ len ++ rest → IsLength most len n → Sorted most bytes
unfolding octets_at taken_at
counted most bytes len rest n e is = by_test (ltb (length rest) n) refl
  where
    by_test : (t : Bool) → ltb (length rest) n ≡ t → Sorted most bytes
    by_test true h = inl (inr (inr (len, rest, n, e, is, ltb-true (length rest) n h)))
    by_test false h = inr (inr ((take n rest, drop n rest), rw (e, length_again most len n rest is, h) refl))

sorted : (most : ℕ) (bytes : List ℕ) → Sorted most bytes
sorted most [] = inl (inl refl)
sorted most (b ∷ rest) = by_first (ltb b 128) refl
  where
    by_rest : 128 < b → b ≤ 128 + most → (t : Bool) → ltb (length rest) (b - 128) ≡ t → Sorted most (b ∷ rest)
    by_rest low high true h = inl (inr (inl (b, rest, refl, low, high, ltb-true (length rest) (b - 128) h)))
    by_rest low high false h = by_text (take (b - 128) rest) (drop (b - 128) rest) (sym (take-append-drop (b - 128) rest)) (omega (arith, length-take (b - 128) rest, ltb-false (length rest) (b - 128) h))
      where
        by_text : (text after : List ℕ) → rest ≡ text ++ after → length text ≡ b - 128 → Sorted most (b ∷ rest)
        by_text [] after e l = absurd (omega arith)
        by_text (c ∷ more) after e l = counted most (b ∷ rest) (b ∷ c ∷ more) after (big_number (length (c ∷ more)) (c ∷ more)) (ap (λ (w : List ℕ). b ∷ w) e) (omega arith, omega arith, refl)

    by_high : 128 ≤ b → (t : Bool) → ltb (128 + most) b ≡ t → Sorted most (b ∷ rest)
    by_high low true h = inr (inl (b, rest, refl, inr (ltb-true (128 + most) b h)))
    by_high low false h = by_eighty (eqb b 128) refl
      where
        by_eighty : (t : Bool) → eqb b 128 ≡ t → Sorted most (b ∷ rest)
        by_eighty true i = inr (inl (b, rest, refl, inl (grind (arith, nat_tests))))
        by_eighty false i = let ne : b ≢ 128 = grind (arith, nat_tests) in by_rest (omega arith) (ltb-false (128 + most) b h) (ltb (length rest) (b - 128)) refl

    by_first : (t : Bool) → ltb b 128 ≡ t → Sorted most (b ∷ rest)
    by_first true h = counted most (b ∷ rest) (b ∷ []) rest b refl (ltb-true b 128 h, refl)
    by_first false h = by_high (ltb-false b 128 h) (ltb (128 + most) b) refl

-- which fault it is
abbrev Told : AcseFault → ℕ → List ℕ → Type 0
Told Short most bytes = IsCut most bytes
Told Tag most bytes = ⊥
Told Length most bytes = IsNoLength most bytes
Told Repeated most bytes = ⊥

told : (most : ℕ) (bytes : List ℕ) (f : AcseFault) → octets_at most bytes ≡ Err f → Told f most bytes
told most bytes f e =
    elim (sorted most bytes) [
      | inl cut ↦ subst (λ (g : AcseFault). Told g most bytes) (err_is {A = List ℕ × List ℕ} Short f (sym (is_cut most bytes cut) ∙ e)) cut
      | inr other ↦ elim other [
        | inl none ↦ subst (λ (g : AcseFault). Told g most bytes) (err_is {A = List ℕ × List ℕ} Length f (sym (no_length most bytes none) ∙ e)) none
        | inr ok ↦ let both = sym ok.1 ∙ e in absurd cc
      ]
    ]

-- ---- fields

wrong_of : (f : AcseFault) (tags : List ℕ) (tag : ℕ) (behind : List ℕ) → contains tag tags ≡ false → Told f 2 behind → IsWrong f tags tag behind
wrong_of Short tags tag behind new h = (new, h)
wrong_of Tag tags tag behind new h = h
wrong_of Length tags tag behind new h = (new, h)
wrong_of Repeated tags tag behind new h = absurd h

here : (f : AcseFault) (tags : List ℕ) (tag : ℕ) (behind : List ℕ) → IsWrong f tags tag behind → StandsIn f tags (tag ∷ behind)
here f tags tag behind h = ([], [], tag, behind, refl, refl, tt, h)

further : (f : AcseFault) (tags : List ℕ) (tag : ℕ) (text value rest : List ℕ) → contains tag tags ≡ false → Counts 2 text value → StandsIn f (tag ∷ tags) rest → StandsIn f tags (tag ∷ (text ++ rest))
further f tags tag text value rest new counts (fs, front, t, behind, e, spelled, are, h) =
    let whole : tag ∷ (text ++ rest) ≡ (tag ∷ (text ++ front)) ++ t ∷ behind = ap (λ (w : List ℕ). tag ∷ (text ++ w)) e ∙ ap (λ (w : List ℕ). tag ∷ w) (sym (append_assoc text front (t ∷ behind))) in
    (record { tag = tag; value = value } ∷ fs, tag ∷ (text ++ front), t, behind, whole, (text, front, refl, counts, spelled), (new, are), h)

fields_found : (n : ℕ) (tags bytes : List ℕ) (f : AcseFault) → length bytes ≤ n → checked_at n tags bytes ≡ Err f → StandsIn f tags bytes
fields_found n tags [] f l e = absurd cc
fields_found zero tags (t ∷ rest) f l e = absurd (omega arith)
fields_found (suc n) tags (t ∷ rest) f l e = by_tag (λ w k m. fields_found n (t ∷ tags) w f k m) (contains t tags) refl e
  where
    by_octets : ((w : List ℕ) → length w ≤ n → checked_at n (t ∷ tags) w ≡ Err f → StandsIn f (t ∷ tags) w) → contains t tags ≡ false → (r : Result (List ℕ × List ℕ) AcseFault) → octets_at 2 rest ≡ r
        → (r >>= λ x. checked_at n (t ∷ tags) x.1) ≡ Err f → StandsIn f tags (t ∷ rest)
    by_octets again new (Ok x) o e =
        let took = octets_takes 2 rest x o in
        let within = octets_within 2 rest x o in
        subst (λ (w : List ℕ). StandsIn f tags (t ∷ w)) (sym took.1) (further f tags t took.0 x.0 x.1 new took.2 (again x.1 (omega (arith, within)) e))
    by_octets again new (Err g) o e =
        let same : g ≡ f = err_is {A = Unit {0}} g f e in
        here f tags t rest (wrong_of f tags t rest new (told 2 rest f (o ∙ ap (λ (h : AcseFault). failed {A = List ℕ × List ℕ} h) same)))

    by_tag : ((w : List ℕ) → length w ≤ n → checked_at n (t ∷ tags) w ≡ Err f → StandsIn f (t ∷ tags) w) → (b : Bool) → contains t tags ≡ b
        → (if b then Err Repeated else (octets_at 2 rest >>= λ x. checked_at n (t ∷ tags) x.1)) ≡ Err f → StandsIn f tags (t ∷ rest)
    by_tag again true old e = subst (λ (g : AcseFault). StandsIn g tags (t ∷ rest)) (err_is {A = Unit {0}} Repeated f e) (here Repeated tags t rest old)
    by_tag again false new e = by_octets again new (octets_at 2 rest) refl e

wrong_here : (f : AcseFault) (n : ℕ) (tags : List ℕ) (tag : ℕ) (behind : List ℕ) → suc (length behind) ≤ n → IsWrong f tags tag behind → checked_at n tags (tag ∷ behind) ≡ Err f
wrong_here Short n tags tag behind l h = checked-fault n tag tags behind Short l h.0 (is_cut 2 behind h.1)
wrong_here Tag n tags tag behind l h = absurd h
wrong_here Length n tags tag behind l h = checked-fault n tag tags behind Length l h.0 (no_length 2 behind h.1)
wrong_here Repeated n tags tag behind l h = checked-repeated n tag tags behind l h

fields_only : (f : AcseFault) (n : ℕ) (tags bytes : List ℕ) (fs : List Field) (front : List ℕ) (tag : ℕ) (behind : List ℕ) → length bytes ≤ n → bytes ≡ front ++ tag ∷ behind → SpellFields front fs → AreNew tags fs
    → IsWrong f (seen tags fs) tag behind → checked_at n tags bytes ≡ Err f
fields_only f n tags bytes [] front tag behind l e spelled are h =
    let whole : bytes ≡ tag ∷ behind = e ∙ ap (λ (w : List ℕ). w ++ tag ∷ behind) spelled in
    ap (checked_at n tags) whole ∙ wrong_here f n tags tag behind (omega (arith, ap length whole)) h
fields_only f n tags bytes (g ∷ fs) front tag behind l e (text, rest, parts, counts, spelled) (new, are) h =
    let whole : bytes ≡ g.tag ∷ (text ++ (rest ++ tag ∷ behind)) = e ∙ ap (λ (w : List ℕ). w ++ tag ∷ behind) parts ∙ ap (λ (w : List ℕ). g.tag ∷ w) (append_assoc text rest (tag ∷ behind)) in
    let room : suc (length (text ++ (rest ++ tag ∷ behind))) ≤ n = omega (arith, ap length whole, l) in
    let next = checked-next n g.tag tags (text ++ (rest ++ tag ∷ behind)) (g.value, rest ++ tag ∷ behind) room new (octets_again 2 text g.value (rest ++ tag ∷ behind) counts) in
    ap (checked_at n tags) whole ∙ next.2 ∙ fields_only f next.0 (g.tag ∷ tags) (rest ++ tag ∷ behind) fs rest tag behind next.1 refl spelled are h

pub tells_fields : TellsFields
tells_fields bytes f =
    (fields_found (length bytes) [] bytes f (omega arith), λ h. fields_only f (length bytes) [] bytes h.0 h.1 h.2 h.3 (omega arith) h.4 h.5 h.6 h.7)

-- ---- the whole

abbrev checked : List ℕ × List ℕ → Result (List ℕ) AcseFault
checked x = checked_at (length x.0) [] x.0 >>= λ u. ended x

body_front : (tag : ℕ) (rest : List ℕ) → body_at tag (tag ∷ rest) ≡ (octets_at 2 rest >>= checked)
unfolding body_at
body_front tag rest = let same : eqb tag tag ≡ true = eq-eqb tag tag refl in rw same refl

inside_fault : (f : AcseFault) (tag : ℕ) (bytes : List ℕ) → IsInside f tag bytes → body_at tag bytes ≡ Err f
inside_fault f tag bytes (text, body, behind, e, counts, h) =
    ap (body_at tag) e ∙ body_front tag (text ++ behind) ∙ rw (octets_again 2 text body behind counts, (tells_fields body f).1 h) refl

-- what a fault of the whole may come from
abbrev Behind : ℕ → List ℕ → Type 0
Behind tag bytes = (front : List ℕ) × (b : ℕ) × (more : List ℕ) × (fs : List Field) × (bytes ≡ front ++ b ∷ more) × IsApdu tag front fs

abbrev At : AcseFault → ℕ → List ℕ → Type 0
At Short tag bytes = (bytes ≡ []) ⊎ (((rest : List ℕ) × (bytes ≡ tag ∷ rest) × IsCut 2 rest) ⊎ IsInside Short tag bytes)
At Tag tag bytes = (t : ℕ) × (rest : List ℕ) × (bytes ≡ t ∷ rest) × (t ≢ tag)
At Length tag bytes = ((rest : List ℕ) × (bytes ≡ tag ∷ rest) × IsNoLength 2 rest) ⊎ (IsInside Length tag bytes ⊎ Behind tag bytes)
At Repeated tag bytes = IsInside Repeated tag bytes

of_length : (f : AcseFault) (tag : ℕ) (rest : List ℕ) → Told f 2 rest → At f tag (tag ∷ rest)
of_length Short tag rest h = inr (inl (rest, refl, h))
of_length Tag tag rest h = absurd h
of_length Length tag rest h = inl (rest, refl, h)
of_length Repeated tag rest h = absurd h

of_field : (f : AcseFault) (tag : ℕ) (bytes : List ℕ) → IsInside f tag bytes → At f tag bytes
of_field Short tag bytes h = inr (inr h)
of_field Tag tag bytes (text, body, behind, e, counts, (fs, front, t, more, parts, spelled, are, wrong)) = absurd wrong
of_field Length tag bytes h = inr (inl h)
of_field Repeated tag bytes h = h

of_behind : (f : AcseFault) (tag : ℕ) (text body behind : List ℕ) → Counts 2 text body → checked_at (length body) [] body ≡ Ok tt → ended (body, behind) ≡ Err f → At f tag (tag ∷ (text ++ behind))
of_behind f tag text body [] counts fields e = absurd cc
of_behind f tag text body (b ∷ more) counts fields e =
    let apart : (length (b ∷ more) == 0) ≡ false = grind (arith, nat_tests) in
    let is : Length ≡ f = err_is {A = List ℕ} Length f (rw apart at e) in
    let are = checked_spelled (length body) [] body (omega arith) fields in
    subst (λ (g : AcseFault). At g tag (tag ∷ (text ++ b ∷ more))) is (inr (inr (tag ∷ text, b, more, are.0, refl, (text, body, refl, counts, are.1, are.2))))

whole_found : (f : AcseFault) (tag : ℕ) (rest : List ℕ) → (octets_at 2 rest >>= checked) ≡ Err f → At f tag (tag ∷ rest)
whole_found f tag rest e = by_octets (octets_at 2 rest) refl e
  where
    by_fields : (x : List ℕ × List ℕ) → octets_at 2 rest ≡ Ok x → (r : Result (Unit {0}) AcseFault) → checked_at (length x.0) [] x.0 ≡ r → (r >>= λ u. ended x) ≡ Err f → At f tag (tag ∷ rest)
    by_fields x o (Ok u) c e =
        let took = octets_takes 2 rest x o in
        subst (λ (w : List ℕ). At f tag (tag ∷ w)) (sym took.1) (of_behind f tag took.0 x.0 x.1 took.2 c e)
    by_fields x o (Err g) c e =
        let took = octets_takes 2 rest x o in
        let same : g ≡ f = err_is {A = List ℕ} g f e in
        let stands = (tells_fields x.0 f).0 (c ∙ ap (λ (h : AcseFault). failed {A = Unit {0}} h) same) in
        of_field f tag (tag ∷ rest) (took.0, x.0, x.1, ap (λ (w : List ℕ). tag ∷ w) took.1, took.2, stands)

    by_octets : (r : Result (List ℕ × List ℕ) AcseFault) → octets_at 2 rest ≡ r → (r >>= checked) ≡ Err f → At f tag (tag ∷ rest)
    by_octets (Ok x) o e = by_fields x o (checked_at (length x.0) [] x.0) refl e
    by_octets (Err g) o e = of_length f tag rest (told 2 rest f (o ∙ ap (λ (h : AcseFault). failed {A = List ℕ × List ℕ} h) (err_is {A = List ℕ} g f e)))

found : (f : AcseFault) (tag : ℕ) (bytes : List ℕ) → body_at tag bytes ≡ Err f → At f tag bytes
unfolding body_at
found f tag [] e = subst (λ (g : AcseFault). At g tag []) (err_is {A = List ℕ} Short f e) (inl refl)
found f tag (t ∷ rest) e = by_test (t == tag) refl e
  where
    by_test : (b : Bool) → (t == tag) ≡ b → (if b then (octets_at 2 rest >>= checked) else Err Tag) ≡ Err f → At f tag (t ∷ rest)
    by_test true h e =
        let same : tag ≡ t = grind (arith, nat_tests) in
        subst (λ (k : ℕ). At f tag (k ∷ rest)) same (whole_found f tag rest e)
    by_test false h e = subst (λ (g : AcseFault). At g tag (t ∷ rest)) (err_is {A = List ℕ} Tag f e) (t, rest, refl, grind (arith, nat_tests))

only_another : (tag : ℕ) (bytes : List ℕ) → At Tag tag bytes → body_at tag bytes ≡ Err Tag
unfolding body_at
only_another tag bytes (t, rest, e, ne) = let apart : (t == tag) ≡ false = grind (arith, nat_tests) in rw (e, apart) refl

no_bytes : (tag : ℕ) → body_at tag [] ≡ Err Short
unfolding body_at
no_bytes tag = refl

only_cut : (tag : ℕ) (bytes : List ℕ) → At Short tag bytes → body_at tag bytes ≡ Err Short
only_cut tag bytes (inl e) = ap (body_at tag) e ∙ no_bytes tag
only_cut tag bytes (inr (inl (rest, e, cut))) = ap (body_at tag) e ∙ body_front tag rest ∙ rw (is_cut 2 rest cut) refl
only_cut tag bytes (inr (inr h)) = inside_fault Short tag bytes h

only_length : (tag : ℕ) (bytes : List ℕ) → At Length tag bytes → body_at tag bytes ≡ Err Length
only_length tag bytes (inl (rest, e, none)) = ap (body_at tag) e ∙ body_front tag rest ∙ rw (no_length 2 rest none) refl
only_length tag bytes (inr (inl h)) = inside_fault Length tag bytes h
only_length tag bytes (inr (inr (front, b, more, fs, e, (text, body, is, counts, spelled, are)))) =
    let whole : bytes ≡ tag ∷ (text ++ b ∷ more) = e ∙ ap (λ (w : List ℕ). w ++ b ∷ more) is in
    let fields : checked_at (length body) [] body ≡ Ok tt = spelled_checked (length body) [] fs body (omega arith) spelled are in
    let apart : (length (b ∷ more) == 0) ≡ false = grind (arith, nat_tests) in
    ap (body_at tag) whole ∙ body_front tag (text ++ b ∷ more) ∙ rw (octets_again 2 text body (b ∷ more) counts, fields, apart) refl

pub tells_another : TellsAnother
tells_another tag bytes = (found Tag tag bytes, only_another tag bytes)

pub tells_repeated : TellsRepeated
tells_repeated tag bytes = (found Repeated tag bytes, inside_fault Repeated tag bytes)

pub tells_cut : TellsCut
tells_cut tag bytes = (found Short tag bytes, only_cut tag bytes)

pub tells_length : TellsLength
tells_length tag bytes = (found Length tag bytes, only_length tag bytes)
