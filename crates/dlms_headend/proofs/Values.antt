-- Values that are rows.
use Rattle.std.proofs.Common.{◌≡◌, ◌+◌, ◌<◌, ℕ, List, [], ◌∷◌, ◌++◌, length, get_or, take, Option, Some, None, zero, suc, append-nil, true, false, unwrap_or, Result, Ok, Err, IfErr, IfOk, refl, sym, ap, subst, ◌∙◌, arith}
use Rattle.std.proofs.lemmas.List.{take_more}
use Rattle.dlms_data.specs.declared.data.Data.{Data}
use Rattle.std.specs.Prelude.{IsErrAnd}
use Rattle.dlms_data.proofs.WholeLaws.{reads_one_value}
use Rattle.dlms_data.specs.Memory.{NeedsMemory, NeedsFirst}
use Rattle.dlms_data.specs.Value.{Value, Values, array, structure, none, cons, count}
use Rattle.dlms_axdr.specs.declared.fault.DataFault.{DataFault}
use Rattle.dlms_axdr.specs.declared.fault.DataFault.TheVariants as data_fault
use Rattle.dlms_data.specs.View.{value_of, values_of}
use Rattle.dlms_data.specs.DateTime.{NamesSecond}
use Rattle.dlms_headend.specs.declared.row.Row.{Row}
use Rattle.dlms_headend.specs.Rows.{four_in, fields_in, IsRow, AreRows, IsProfile, IsEncoded, NoProfile, NoValue, NoEncoding}
use Rattle.dlms_headend.specs.declared.poll_fault.PollFault.{PollFault}
use Rattle.dlms_headend.specs.declared.poll_fault.PollFault.TheVariants.{Refused, Result as BadResult, Line, Protocol, Columns, Memory}
use Rattle.dlms_data.specs.Spelling.{IsSpelling}
use Rattle.dlms_axdr.specs.Reading.{Fault, Wants}

pub four_in_others : {A : Type 0} (ds : List (Data A)) → (length ds ≡ 4 → ⊥) → four_in (structure (values_of ds)) ≡ None
four_in_others [] n = refl
four_in_others (a ∷ []) n = refl
four_in_others (a ∷ b ∷ []) n = refl
four_in_others (a ∷ b ∷ c ∷ []) n = refl
four_in_others (a ∷ b ∷ c ∷ d ∷ []) n = absurd (n refl)
four_in_others (a ∷ b ∷ c ∷ d ∷ e ∷ ds) n = refl

pub four_in_parts : {A : Type 0} (ds : List (Data A)) (p q r s : Data A) → length ds ≡ 4 → p ≡ get_or ds 0 p → q ≡ get_or ds 1 q → r ≡ get_or ds 2 r → s ≡ get_or ds 3 s
    → four_in (structure (values_of ds)) ≡ Some (value_of p, value_of q, value_of r, value_of s)
four_in_parts [] p q r s n e f g h = cc
four_in_parts (a ∷ []) p q r s n e f g h = cc
four_in_parts (a ∷ b ∷ []) p q r s n e f g h = cc
four_in_parts (a ∷ b ∷ c ∷ []) p q r s n e f g h = cc
four_in_parts (a ∷ b ∷ c ∷ d ∷ []) p q r s n e f g h = cc
four_in_parts (a ∷ b ∷ c ∷ d ∷ x ∷ ds) p q r s n e f g h = cc

-- ---- rows of values

AreRows-push : {A : Type 0} (ds : List (Data A)) (rows : List Row) (d : Data A) (row : Row) → AreRows (values_of ds) rows → IsRow (value_of d) row → AreRows (values_of (ds ++ d ∷ [])) (rows ++ row ∷ [])
AreRows-push [] [] d row h k = (k, tt)
AreRows-push [] (r ∷ rows) d row h k = absurd h
AreRows-push (x ∷ ds) [] d row h k = absurd h
AreRows-push (x ∷ ds) (r ∷ rows) d row h k = (h.0, AreRows-push ds rows d row h.1 k)

-- the next value, and its row
pub rows_more : {A : Type 0} (ds : List (Data A)) (i : ℕ) (d : Data A) (rows : List Row) (row : Row) → i < length ds → d ≡ get_or ds i d → AreRows (values_of (take i ds)) rows → IsRow (value_of d) row
    → AreRows (values_of (take (i + 1) ds)) (rows ++ row ∷ [])
rows_more ds i d rows row within is h k =
    let more : take (i + 1) ds ≡ take i ds ++ d ∷ [] = take_more ds i d within ∙ ap (λ (x : _). take i ds ++ x ∷ []) (sym is) in
    rw more (AreRows-push (take i ds) rows d row h k)

-- each value has its row
pub row_of_each : {A : Type 0} (ds : List (Data A)) (i : ℕ) (d : Data A) (rows : List Row) → i < length ds → AreRows (values_of ds) rows → (row : Row) × IsRow (value_of (get_or ds i d)) row
row_of_each [] i d rows within h = absurd (omega arith)
row_of_each (x ∷ ds) i d [] within h = absurd h
row_of_each (x ∷ ds) zero d (row ∷ rows) within h = (row, h.0)
row_of_each (x ∷ ds) (suc i) d (row ∷ rows) within h = row_of_each ds i d rows (omega arith) h.1

-- octets that name no second are no row's
pub no_second_named : (v : Value) (time registers : List ℕ) → Some (time, registers) ≡ fields_in v → ((second : ℕ) → NamesSecond time second → ⊥) → (row : Row) → IsRow v row → ⊥
no_second_named v time registers e unnamed row h =
    let both : Some (time, registers) ≡ Some (h.time, row.registers) = e ∙ h.fields in
    let first : Option (List ℕ × List ℕ) → List ℕ = λ o. (unwrap_or o ([], [])).0 in
    let same : time ≡ h.time = ap first both in
    unnamed row.clock (subst (λ (t : List ℕ). NamesSecond t row.clock) (sym same) h.clock)

-- a value that is no row's
pub no_rows-at : {A : Type 0} (ds : List (Data A)) (i : ℕ) (d : Data A) → i < length ds → d ≡ get_or ds i d → ((row : Row) → IsRow (value_of d) row → ⊥) → (rows : List Row) → AreRows (values_of ds) rows → ⊥
no_rows-at ds i d within is missing rows h =
    let found = row_of_each ds i d rows within h in
    missing found.0 (subst (λ (x : _). IsRow (value_of x) found.0) (sym is) found.1)

-- ---- rows that need memory

rows_some : (vs : Values) (rows : List Row) → AreRows vs rows → 0 < count vs → 0 < length rows
rows_some none rows h some = absurd (omega arith)
rows_some (cons v vs) [] h some = absurd h
rows_some (cons v vs) (row ∷ rows) h some = omega arith

pub profile_some : (v : Value) (rows : List Row) → IsProfile v rows → NeedsMemory v → 0 < length rows
profile_some (array vs) rows h some = rows_some vs rows h some
profile_some _ rows h some = absurd h

pub filled : (n : ℕ) → (n ≡ 0 → false ≡ true) → 0 < n
filled zero h = let clash = h refl in cc
filled (suc n) h = omega arith

pub values_some : {A : Type 0} (ds : List (Data A)) (rows : List Row) → AreRows (values_of ds) rows → 0 < length ds → 0 < length rows
values_some [] rows h some = absurd (omega arith)
values_some (d ∷ ds) [] h some = absurd h
values_some (d ∷ ds) (row ∷ rows) h some = omega arith

-- ---- a fault that is passed on

pub passed_on : {X : Type 0} (r : Result X PollFault) (fault : PollFault) (P : PollFault → Type 0) → IsErrAnd r (λ given. given ≡ fault) → P fault → IfErr r P
passed_on (Ok x) fault P is h = absurd is
passed_on (Err given) fault P is h = subst P (sym is) h

-- ---- values of bytes

-- the bytes spell a value that needs memory, where reading them wanted some
pub wanted_value : (bytes : List ℕ) (v : Value) (n : ℕ) (fault : DataFault) → IsSpelling bytes v → Wants {Y = Value × ℕ} NeedsFirst fault (Ok (v, n)) → NoValue bytes Memory
wanted_value bytes v n data_fault.Memory spelled h = (v, spelled, h)
wanted_value bytes v n data_fault.Short spelled h = absurd (cc)
wanted_value bytes v n data_fault.Tag spelled h = absurd (cc)
wanted_value bytes v n data_fault.Length spelled h = absurd (cc)
wanted_value bytes v n data_fault.Depth spelled h = absurd (cc)

-- what bytes spell has rows, where their one value has
pub not_encoded : (bytes : List ℕ) (v : Value) → ((w : Value) → IsSpelling bytes w → w ≡ v) → ((rows : List Row) → IsProfile v rows → ⊥) → (rows : List Row) → IsEncoded bytes rows → ⊥
not_encoded bytes v one missing rows h = missing rows (subst (λ (w : Value). IsProfile w rows) (one h.0 h.1) h.2)

not_encoded-at : (bytes : List ℕ) (v : Value) → IsSpelling bytes v → ((w : Value) → IsSpelling bytes w → w ≡ v) → (fault : PollFault) → NoProfile v fault → NoEncoding bytes fault
not_encoded-at bytes v spelled one Protocol h = not_encoded bytes v one h
not_encoded-at bytes v spelled one Memory h = (h.0, (v, spelled, h.1), h.2)
not_encoded-at bytes v spelled one (Refused diagnostic) h = h
not_encoded-at bytes v spelled one (BadResult code) h = h
not_encoded-at bytes v spelled one Line h = h
not_encoded-at bytes v spelled one Columns h = h

pub encoded_err : {X : Type 0} (bytes : List ℕ) (v : Value) (r : Result X PollFault) → IsSpelling bytes v → ((w : Value) → IsSpelling bytes w → w ≡ v) → IfErr r (NoProfile v) → IfErr r (NoEncoding bytes)
encoded_err bytes v (Ok x) spelled one h = tt
encoded_err bytes v (Err fault) spelled one h = not_encoded-at bytes v spelled one fault h

-- bytes that are no value spell no rows
pub none_encoded : (bytes : List ℕ) (fault : PollFault) → NoValue bytes fault → ((rows : List Row) × IsEncoded bytes rows) → NoEncoding bytes fault
none_encoded bytes Protocol h there = λ rows k. h k.0 k.1
none_encoded bytes Memory (v, spelled, needs) (rows, (w, other, is)) =
    let same = reads_one_value bytes bytes [] bytes [] v w (sym (append-nil bytes)) (sym (append-nil bytes)) spelled other in
    (rows, (w, other, is), profile_some w rows is (subst NeedsMemory same.1 needs))
none_encoded bytes (Refused diagnostic) h there = h
none_encoded bytes (BadResult code) h there = h
none_encoded bytes Line h there = h
none_encoded bytes Columns h there = h

pub encoded_ok : {X : Type 0} (bytes : List ℕ) (v : Value) (r : Result X PollFault) (view : X → List Row) → IsSpelling bytes v → IfOk r (λ x. IsProfile v (view x)) → IfOk r (λ x. IsEncoded bytes (view x))
encoded_ok bytes v (Ok x) view spelled h = (v, spelled, h)
encoded_ok bytes v (Err fault) view spelled h = tt

-- ---- what was read of bytes

abbrev said : Value → ℕ → Result (Value × ℕ) Fault
said v n = Ok (v, n)

same_pair : (p q : Value × ℕ) → p ≡ q → p.0 ≡ q.0
same_pair p q e = ap (λ (x : Value × ℕ). x.0) e

pub same_value : (v w : Value) (n m : ℕ) → said v n ≡ said w m → v ≡ w
same_value v w n m e = let same : (v, n) ≡ (w, m) = cc in ap (λ (x : Value × ℕ). x.0) same
