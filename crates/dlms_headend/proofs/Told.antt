-- The APDUs that a poll took determine its rows and its stage.
use Rattle.std.proofs.Common.{arith, refl, sym, ap, subst, ◌∙◌, ◌≡◌, ◌+◌, ◌++◌, ℕ, List, [], ◌∷◌, length, length-append, append_assoc, append-nil, inl, inr, ◌⊎◌, Option, Some, unwrap_or, pos, true, false, Result, Ok}
use Rattle.dlms_apdu.specs.declared.fault.Refusal.{Refusal}
use Rattle.dlms_apdu.specs.Forms.{ResponseForm, get_data, get_block}
use Rattle.dlms_apdu.specs.Reading.{response_at}
use Rattle.dlms_blocks.specs.Joining.{Joining}
use Rattle.dlms_data.specs.DateTime.{NamesSecond}
use Rattle.dlms_data.specs.Value.{Value, Values, array, none, cons}
use Rattle.dlms_data.proofs.WholeLaws.{reads_one_value}
use Rattle.dlms_headend.specs.declared.row.Row.{Row}
use Rattle.dlms_headend.specs.declared.stage.Stage.{Stage}
use Rattle.dlms_headend.specs.declared.stage.Stage.TheVariants.{Associating, Naming, Getting, Checking, Releasing, Leaving}
use Rattle.dlms_headend.specs.Rows.{IsRow, AreRows, IsProfile, IsEncoded}
use Rattle.dlms_headend.specs.Poll.{IsMoreBy, IsMore, SpellsBy, Spells, AreBlocks, AreNamed, HasAccepted, HasBlocks, HasRows, HasNamed, HasPolled, HasReleased}
use Rattle.dlms_headend.specs.declared.plan.Columns.{Columns}
use Rattle.dlms_headend.specs.declared.plan.Columns.TheVariants.{Trusted, Asked}
use Rattle.dlms_headend.specs.Talk.{FitsAt}
use Rattle.dlms_headend.proofs.Files.{same_row}

-- ---- one answer

same_second : (time : List ℕ) (a b : ℕ) → NamesSecond time a → NamesSecond time b → a ≡ b
same_second time a b h k = let e : pos a ≡ pos b = h.value ∙ sym k.value in cc

row_told : (v : Value) (r s : Row) → IsRow v r → IsRow v s → r ≡ s
row_told v r s h k =
    let both : Some (h.time, r.registers) ≡ Some (k.time, s.registers) = sym h.fields ∙ k.fields in
    let time_of : Option (List ℕ × List ℕ) → List ℕ = λ o. (unwrap_or o ([], [])).0 in
    let registers_of : Option (List ℕ × List ℕ) → List ℕ = λ o. (unwrap_or o ([], [])).1 in
    let times : h.time ≡ k.time = ap time_of both in
    let registers : r.registers ≡ s.registers = ap registers_of both in
    same_row r s (same_second k.time r.clock s.clock (subst (λ (t : List ℕ). NamesSecond t r.clock) times h.clock) k.clock) registers

rows_told : (vs : Values) (r s : List Row) → AreRows vs r → AreRows vs s → r ≡ s
rows_told none [] [] h k = refl
rows_told none [] (x ∷ s) h k = absurd k
rows_told none (x ∷ r) s h k = absurd h
rows_told (cons v vs) [] s h k = absurd h
rows_told (cons v vs) (x ∷ r) [] h k = absurd k
rows_told (cons v vs) (x ∷ r) (y ∷ s) h k =
    let first : x ≡ y = row_told v x y h.0 k.0 in
    let rest : r ≡ s = rows_told vs r s h.1 k.1 in
    cc (first, rest)

profile_told : (v : Value) (r s : List Row) → IsProfile v r → IsProfile v s → r ≡ s
profile_told (array vs) r s h k = rows_told vs r s h k
profile_told _ r s h k = absurd h

encoded_told : (bytes : List ℕ) (r s : List Row) → IsEncoded bytes r → IsEncoded bytes s → r ≡ s
encoded_told bytes r s h k =
    let same = reads_one_value bytes bytes [] bytes [] h.0 k.0 (sym (append-nil bytes)) (sym (append-nil bytes)) h.1 k.1 in
    profile_told h.0 r s h.2 (subst (λ (w : Value). IsProfile w s) (sym same.1) k.2)

spells_told : (taken : ℕ) (joined : List ℕ) (read : Result ResponseForm Refusal) (r s : List Row) → SpellsBy taken joined read r → SpellsBy taken joined read s → r ≡ s
spells_told taken joined (Ok (get_data invoke v)) r s h k = profile_told v r s h.1 k.1
spells_told taken joined (Ok (get_block invoke last number raw)) r s h k = encoded_told (joined ++ raw) r s h.2 k.2
spells_told taken joined _ r s h k = absurd h

more_not_spelled : (taken other : ℕ) (joined bytes : List ℕ) (read : Result ResponseForm Refusal) (rows : List Row) → IsMoreBy taken read bytes → SpellsBy other joined read rows → ⊥
more_not_spelled taken other joined bytes (Ok (get_block invoke last number raw)) rows h k = let a : last ≡ false = h.0 in let b : last ≡ true = k.0 in cc
more_not_spelled taken other joined bytes _ rows h k = h

more_told : (taken : ℕ) (read : Result ResponseForm Refusal) (a b : List ℕ) → IsMoreBy taken read a → IsMoreBy taken read b → a ≡ b
more_told taken (Ok (get_block invoke last number raw)) a b h k = sym h.2 ∙ k.2
more_told taken _ a b h k = absurd h

-- ---- lists

snoc : {X : Type 0} (xs ys : List X) (x y : X) → xs ++ x ∷ [] ≡ ys ++ y ∷ [] → (xs ≡ ys) × (x ≡ y)
snoc [] [] x y e = (refl, cc)
snoc [] (b ∷ ys) x y e = absurd (omega (arith, ap length e, length-append ys (y ∷ [])))
snoc (a ∷ xs) [] x y e = absurd (omega (arith, ap length e, length-append xs (x ∷ [])))
snoc (a ∷ xs) (b ∷ ys) x y e =
    let heads : a ≡ b = cc in
    let tails : xs ++ x ∷ [] ≡ ys ++ y ∷ [] = cc in
    let rest = snoc xs ys x y tails in
    let same : xs ≡ ys = rest.0 in
    (cc (heads, same), rest.1)

not_empty : {X : Type 0} (xs : List X) (x : X) → [] ≡ xs ++ x ∷ [] → ⊥
not_empty xs x e = omega (arith, ap length e, length-append xs (x ∷ []))

-- a list that is not empty, by its last element
pub record Ending {X : Type 0} (xs : List X) : Type 0 where
  pub front : List X
  pub last : X
  pub are : xs ≡ front ++ last ∷ []

pub ending : {X : Type 0} (x : X) (xs : List X) → Ending (x ∷ xs)
ending x [] = record { front = []; last = x; are = refl }
ending {X} x (y ∷ ys) = let rest = ending y ys in record { front = x ∷ rest.front; last = rest.last; are = ap (λ (l : List X). x ∷ l) rest.are }

-- ---- all APDUs

blocks_told : (before : ℕ) (apdus : List (List ℕ)) (t u : ℕ) (i j : List ℕ) → AreBlocks before apdus t i → AreBlocks before apdus u j → (t ≡ u) × (i ≡ j)
blocks_told before [] t u i j h k = (h.0 ∙ sym k.0, h.1 ∙ sym k.1)
blocks_told before (apdu ∷ apdus) t u i j h k =
    let bytes : h.0 ≡ k.0 = more_told before (response_at apdu) h.0 k.0 h.2 k.2 in
    let rest = blocks_told (before + 1) apdus t u h.1 k.1 h.4 k.4 in
    (rest.0, h.3 ∙ (ap (λ (b : List ℕ). b ++ h.1) bytes ∙ (ap (λ (r : List ℕ). k.0 ++ r) rest.1 ∙ sym k.3)))

-- an APDU among blocks is one
blocks_at : (before : ℕ) (apdus more : List (List ℕ)) (apdu : List ℕ) (t : ℕ) (i : List ℕ) → AreBlocks before (apdus ++ apdu ∷ more) t i → (n : ℕ) × (bytes : List ℕ) × IsMore n apdu bytes
blocks_at before [] more apdu t i h = (before, h.0, h.2)
blocks_at before (first ∷ apdus) more apdu t i h = blocks_at (before + 1) apdus more apdu t h.1 h.4

-- as many answers tell the columns
behind_names : (columns : Columns) (a b xs ys : List (List ℕ)) → AreNamed columns a → AreNamed columns b → a ++ xs ≡ b ++ ys → xs ≡ ys
behind_names Trusted a b xs ys h k e = ap (λ (l : List (List ℕ)). l ++ xs) (sym h) ∙ (e ∙ ap (λ (l : List (List ℕ)). l ++ ys) k)
behind_names Asked a b xs ys h k e =
    let both : h.0 ∷ xs ≡ k.0 ∷ ys = ap (λ (l : List (List ℕ)). l ++ xs) (sym h.1) ∙ (e ∙ ap (λ (l : List (List ℕ)). l ++ ys) k.1) in
    let tails : xs ≡ ys = cc in
    tails

before_names : (columns : Columns) (xs ys a b : List (List ℕ)) → AreNamed columns a → AreNamed columns b → xs ++ a ≡ ys ++ b → xs ≡ ys
before_names Trusted xs ys a b h k e =
    sym (append-nil xs) ∙ (ap (λ (l : List (List ℕ)). xs ++ l) (sym h) ∙ (e ∙ (ap (λ (l : List (List ℕ)). ys ++ l) k ∙ append-nil ys)))
before_names Asked xs ys a b h k e = (snoc xs ys h.0 k.0 (ap (λ (l : List (List ℕ)). xs ++ l) (sym h.1) ∙ (e ∙ ap (λ (l : List (List ℕ)). ys ++ l) k.1))).0

pub has_blocks_told : (columns : Columns) (apdus : List (List ℕ)) (t u : ℕ) (i j : List ℕ) → HasBlocks columns apdus t i → HasBlocks columns apdus u j → (t ≡ u) × (i ≡ j)
has_blocks_told columns apdus t u i j h k =
    let both : h.response ∷ (h.names ++ h.blocks) ≡ k.response ∷ (k.names ++ k.blocks) = sym h.are ∙ k.are in
    let tails : h.names ++ h.blocks ≡ k.names ++ k.blocks = cc in
    let same : h.blocks ≡ k.blocks = behind_names columns h.names k.names h.blocks k.blocks h.named k.named tails in
    blocks_told 0 k.blocks t u i j (subst (λ (b : List (List ℕ)). AreBlocks 0 b t i) same h.come) k.come

has_rows_told : (columns : Columns) (apdus : List (List ℕ)) (r s : List Row) → HasRows columns apdus r → HasRows columns apdus s → r ≡ s
has_rows_told columns apdus r s h k =
    let parts = snoc h.before k.before h.answer k.answer (sym h.are ∙ k.are) in
    let counts = has_blocks_told columns k.before h.taken k.taken h.joined k.joined (subst (λ (b : List (List ℕ)). HasBlocks columns b h.taken h.joined) parts.0 h.blocks) k.blocks in
    let one : Spells h.taken h.joined k.answer r = subst (λ (a : List ℕ). Spells h.taken h.joined a r) parts.1 h.spelled in
    let two : Spells k.taken h.joined k.answer r = subst (λ (n : ℕ). Spells n h.joined k.answer r) counts.0 one in
    let three : Spells k.taken k.joined k.answer r = subst (λ (j : List ℕ). Spells k.taken j k.answer r) counts.1 two in
    spells_told k.taken k.joined (response_at k.answer) r s three k.spelled

pub released_told : (columns : Columns) (apdus : List (List ℕ)) (r s : List Row) → HasReleased columns apdus r → HasReleased columns apdus s → r ≡ s
released_told columns apdus r s h k =
    let parts = snoc h.before k.before h.answer k.answer (sym h.are ∙ k.are) in
    let same : h.polled.before ≡ k.polled.before =
    before_names columns h.polled.before k.polled.before h.polled.names k.polled.names h.polled.named k.polled.named (sym h.polled.are ∙ (parts.0 ∙ k.polled.are)) in
    has_rows_told columns k.polled.before r s (subst (λ (b : List (List ℕ)). HasRows columns b r) same h.polled.polled) k.polled.polled

-- no rows stand among blocks
pub rows_inside : (columns : Columns) (apdus before more : List (List ℕ)) (t : ℕ) (i : List ℕ) (rows : List Row) → HasBlocks columns apdus t i → HasRows columns before rows → apdus ≡ before ++ more → ⊥
rows_inside columns apdus before more t i rows h k e =
    let b = k.blocks in
    let whole : h.response ∷ (h.names ++ h.blocks) ≡ b.response ∷ (b.names ++ (b.blocks ++ k.answer ∷ more)) =
    sym h.are ∙ (e ∙ (ap (λ (l : List (List ℕ)). l ++ more) k.are ∙ (append_assoc k.before (k.answer ∷ []) more
    ∙ (ap (λ (l : List (List ℕ)). l ++ k.answer ∷ more) b.are ∙ ap (λ (l : List (List ℕ)). b.response ∷ l) (append_assoc b.names b.blocks (k.answer ∷ more)))))) in
    let tails : h.names ++ h.blocks ≡ b.names ++ (b.blocks ++ k.answer ∷ more) = cc in
    let same : h.blocks ≡ b.blocks ++ k.answer ∷ more = behind_names columns h.names b.names h.blocks (b.blocks ++ k.answer ∷ more) h.named b.named tails in
    let one = blocks_at 0 b.blocks more k.answer t i (subst (λ (l : List (List ℕ)). AreBlocks 0 l t i) same h.come) in
    more_not_spelled one.0 k.taken k.joined one.1 (response_at k.answer) rows one.2 k.spelled

-- nor rows before other APDUs if the last has the rows
pub rows_before : (columns : Columns) (apdus before more : List (List ℕ)) (last : List ℕ) (r s : List Row) → HasRows columns apdus r → HasRows columns before s → apdus ≡ before ++ (more ++ last ∷ []) → ⊥
rows_before columns apdus before more last r s h k e =
    let parts = snoc h.before (before ++ more) h.answer last (sym h.are ∙ (e ∙ sym (append_assoc before more (last ∷ [])))) in
    rows_inside columns h.before before more h.taken h.joined s h.blocks k parts.0

rows_further : (columns : Columns) (apdus before more : List (List ℕ)) (first : List ℕ) (r s : List Row) → HasRows columns apdus r → HasRows columns before s → apdus ≡ before ++ first ∷ more → ⊥
rows_further columns apdus before more first r s h k e =
    let end = ending first more in
    rows_before columns apdus before end.front end.last r s h k (e ∙ ap (λ (l : List (List ℕ)). before ++ l) end.are)

-- all that a poll asks for, and at least one more APDU
pub record Followed (columns : Columns) (apdus : List (List ℕ)) (rows : List Row) : Type 0 where
  pub before : List (List ℕ)
  pub first : List ℕ
  pub more : List (List ℕ)
  pub are : apdus ≡ before ++ first ∷ more
  pub polled : HasNamed columns before rows

followed_are : (columns : Columns) (apdus : List (List ℕ)) (rows : List Row) (k : Followed columns apdus rows) → apdus ≡ k.polled.before ++ (k.polled.names ++ k.first ∷ k.more)
followed_are columns apdus rows k = k.are ∙ (ap (λ (l : List (List ℕ)). l ++ k.first ∷ k.more) k.polled.are ∙ append_assoc k.polled.before k.polled.names (k.first ∷ k.more))

pub blocks_not_followed : (columns : Columns) (apdus : List (List ℕ)) (t : ℕ) (i : List ℕ) (rows : List Row) → HasBlocks columns apdus t i → Followed columns apdus rows → ⊥
blocks_not_followed columns apdus t i rows h k = rows_inside columns apdus k.polled.before (k.polled.names ++ k.first ∷ k.more) t i rows h k.polled.polled (followed_are columns apdus rows k)

pub rows_not_followed : (columns : Columns) (apdus : List (List ℕ)) (r s : List Row) → HasRows columns apdus r → Followed columns apdus s → ⊥
rows_not_followed columns apdus r s h k =
    let end = ending k.first k.more in
    rows_before columns apdus k.polled.before (k.polled.names ++ end.front) end.last r s h k.polled.polled
    (followed_are columns apdus s k ∙ (ap (λ (l : List (List ℕ)). k.polled.before ++ (k.polled.names ++ l)) end.are ∙ ap (λ (l : List (List ℕ)). k.polled.before ++ l) (sym (append_assoc k.polled.names end.front (end.last ∷ [])))))

pub named_not_followed : (columns : Columns) (apdus : List (List ℕ)) (r s : List Row) → HasNamed columns apdus r → Followed columns apdus s → ⊥
named_not_followed Trusted apdus r s h k =
    let same : h.before ≡ apdus = sym (h.are ∙ (ap (λ (l : List (List ℕ)). h.before ++ l) h.named ∙ append-nil h.before)) in
    rows_not_followed Trusted h.before r s h.polled (record { before = k.before; first = k.first; more = k.more; are = same ∙ k.are; polled = k.polled })
named_not_followed Asked apdus r s h k =
    let p = k.polled in
    let end = ending k.first k.more in
    let whole : h.before ++ h.named.0 ∷ [] ≡ (p.before ++ p.named.0 ∷ end.front) ++ end.last ∷ [] =
    ap (λ (l : List (List ℕ)). h.before ++ l) (sym h.named.1) ∙ (sym h.are ∙ (followed_are Asked apdus s k ∙ (ap (λ (l : List (List ℕ)). p.before ++ (l ++ k.first ∷ k.more)) p.named.1
    ∙ (ap (λ (l : List (List ℕ)). p.before ++ p.named.0 ∷ l) end.are ∙ sym (append_assoc p.before (p.named.0 ∷ end.front) (end.last ∷ [])))))) in
    let parts = snoc h.before (p.before ++ p.named.0 ∷ end.front) h.named.0 end.last whole in
    rows_further Asked h.before p.before end.front p.named.0 r s h.polled p.polled parts.0

-- one of two beginnings of a list begins with the other
parted : {X : Type 0} (xs a ys b : List X) → xs ++ a ≡ ys ++ b → ((c : List X) × (xs ≡ ys ++ c)) ⊎ ((c : List X) × (ys ≡ xs ++ c))
parted [] a ys b e = inr (ys, refl)
parted (x ∷ xs) a [] b e = inl (x ∷ xs, refl)
parted {X} (x ∷ xs) a (y ∷ ys) b e =
    let heads : x ≡ y = cc in
    let tails : xs ++ a ≡ ys ++ b = cc in
    elim (parted xs a ys b tails) [
      | inl k ↦ inl (k.0, ap (λ (z : X). z ∷ xs) heads ∙ ap (λ (l : List X). y ∷ l) k.1)
      | inr k ↦ inr (k.0, ap (λ (z : X). z ∷ ys) (sym heads) ∙ ap (λ (l : List X). x ∷ l) k.1)
    ]

rows_within : (columns : Columns) (xs ys c : List (List ℕ)) (r s : List Row) → HasRows columns xs r → HasRows columns ys s → xs ≡ ys ++ c → r ≡ s
rows_within columns xs ys [] r s h k e = has_rows_told columns ys r s (subst (λ (l : List (List ℕ)). HasRows columns l r) (e ∙ append-nil ys) h) k
rows_within columns xs ys (x ∷ c) r s h k e = absurd (rows_further columns xs ys c x r s h k e)

-- the APDUs that a poll took determine its rows, whatever came after them
pub polled_told : (columns : Columns) (apdus : List (List ℕ)) (r s : List Row) → HasPolled columns apdus r → HasPolled columns apdus s → r ≡ s
polled_told columns apdus r s h k =
    let whole : h.polled.before ++ (h.polled.names ++ h.more) ≡ k.polled.before ++ (k.polled.names ++ k.more) =
    sym (h.are ∙ (ap (λ (l : List (List ℕ)). l ++ h.more) h.polled.are ∙ append_assoc h.polled.before h.polled.names h.more))
    ∙ (k.are ∙ (ap (λ (l : List (List ℕ)). l ++ k.more) k.polled.are ∙ append_assoc k.polled.before k.polled.names k.more)) in
    elim (parted h.polled.before (h.polled.names ++ h.more) k.polled.before (k.polled.names ++ k.more) whole) [
      | inl c ↦ rows_within columns h.polled.before k.polled.before c.0 r s h.polled.polled k.polled.polled c.1
      | inr c ↦ sym (rows_within columns k.polled.before h.polled.before c.0 s r k.polled.polled h.polled.polled c.1)
    ]

-- the rows, and the APDUs after them
released_are : (columns : Columns) (apdus : List (List ℕ)) (rows : List Row) (k : HasReleased columns apdus rows) → apdus ≡ k.polled.before ++ (k.polled.names ++ k.answer ∷ [])
released_are columns apdus rows k = k.are ∙ (ap (λ (l : List (List ℕ)). l ++ k.answer ∷ []) k.polled.are ∙ append_assoc k.polled.before k.polled.names (k.answer ∷ []))

accepted_not_released : (columns : Columns) (apdus : List (List ℕ)) (rows : List Row) → HasAccepted apdus → HasReleased columns apdus rows → ⊥
accepted_not_released columns apdus rows h k =
    let rows_are = k.polled.polled.are in
    omega (arith, ap length (sym h.are ∙ released_are columns apdus rows k), length-append k.polled.before (k.polled.names ++ k.answer ∷ []), length-append k.polled.names (k.answer ∷ []), ap length rows_are, length-append k.polled.polled.before (k.polled.polled.answer ∷ []))

named_not_released : (columns : Columns) (apdus : List (List ℕ)) (r s : List Row) → HasNamed columns apdus r → HasReleased columns apdus s → ⊥
named_not_released Trusted apdus r s h k =
    rows_before Trusted h.before k.polled.before k.polled.names k.answer r s h.polled k.polled.polled
    (sym (append-nil h.before) ∙ (ap (λ (l : List (List ℕ)). h.before ++ l) (sym h.named) ∙ (sym h.are ∙ released_are Trusted apdus s k)))
named_not_released Asked apdus r s h k =
    let p = k.polled in
    let parts = snoc h.before (p.before ++ p.names) h.named.0 k.answer (ap (λ (l : List (List ℕ)). h.before ++ l) (sym h.named.1) ∙ (sym h.are ∙ (k.are ∙ ap (λ (l : List (List ℕ)). l ++ k.answer ∷ []) p.are))) in
    rows_before Asked h.before p.before [] p.named.0 r s h.polled p.polled (parts.0 ∙ ap (λ (l : List (List ℕ)). p.before ++ l) p.named.1)

-- a poll whose answer to the release came waits for the link's end, with these rows
stage_told-at : (columns : Columns) (stage : Stage) (blocks : Joining) (rows more : List Row) (apdus : List (List ℕ)) → FitsAt columns stage blocks rows apdus → HasReleased columns apdus more → (stage ≡ Leaving) × (rows ≡ more)
stage_told-at columns Associating blocks rows more apdus h k = absurd (not_empty k.before k.answer (sym h.0 ∙ k.are))
stage_told-at columns Naming blocks rows more apdus h k = absurd (accepted_not_released columns apdus more h.1 k)
stage_told-at columns (Getting taken) blocks rows more apdus h k =
    absurd (rows_inside columns apdus k.polled.before (k.polled.names ++ k.answer ∷ []) taken blocks.joined more h.0 k.polled.polled (released_are columns apdus more k))
stage_told-at columns Checking blocks rows more apdus h k =
    absurd (rows_before columns apdus k.polled.before k.polled.names k.answer rows more h.1 k.polled.polled (released_are columns apdus more k))
stage_told-at columns Releasing blocks rows more apdus h k = absurd (named_not_released columns apdus rows more h k)
stage_told-at columns Leaving blocks rows more apdus h k = (refl, released_told columns apdus rows more h k)

pub stage_told : (columns : Columns) (stage : Stage) (blocks : Joining) (rows more : List Row) (apdus : List (List ℕ)) → FitsAt columns stage blocks rows apdus → HasReleased columns apdus more → (stage ≡ Leaving) × (rows ≡ more)
stage_told columns stage blocks rows more apdus h k = stage_told-at columns stage blocks rows more apdus h k
