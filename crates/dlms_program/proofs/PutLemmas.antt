-- A writer's bytes, if known, while bytes are written.
use Rattle.std.proofs.Common.{arith, refl, sym, ap, subst, append-nil, append_assoc, ◌∙◌, ◌≡◌, ◌-◌, ◌<◌, ℕ, List, [], ◌∷◌, ◌++◌, length, take, drop, length-drop, length-append, IsErr}
use Rattle.std.proofs.lemmas.List.{take_all, take-append-drop}
use Rattle.std.specs.Prelude.{Option, Some, None, Result, Ok, Err, MatchResult}
use Rattle.std.specs.Io.KnownBytes.{Appends, Keeps}
use Rattle.dlms_program.specs.Written.{AppendsPart, Writes}

-- ---- known bytes

pub appends_none : (a : Option (List ℕ)) → Appends a a []
appends_none None = tt
appends_none (Some xs) = sym (append-nil xs)

pub appends_more : (a b c : Option (List ℕ)) (xs ys : List ℕ) → Appends a b xs → Appends b c ys → Appends a c (xs ++ ys)
appends_more None b c xs ys h k = tt
appends_more (Some us) None c xs ys h k = absurd h
appends_more (Some us) (Some bs) None xs ys h k = absurd k
appends_more (Some us) (Some bs) (Some cs) xs ys h k = k ∙ ap (λ (t : List ℕ). t ++ ys) h ∙ append_assoc us xs ys

-- what is missing of bytes is a part of them
pub nothing_missing : (part missing : List ℕ) → part ++ missing ≡ [] → 0 < length missing → ⊥
nothing_missing part missing joined some = omega (arith, some, ap (λ (t : List ℕ). length t) joined, length-append part missing)

-- bytes of which none were written
pub none_of : (contents : Option (List ℕ)) (bytes : List ℕ) → 0 < length bytes → AppendsPart contents contents bytes
none_of contents bytes some = record { part = []; missing = bytes; joined = refl; some = some; appends = appends_none contents }

-- what came of writing, both ways
pub either_way : {T E P Q : Type 0} (old new : Option (List ℕ)) (bytes : List ℕ) (r : Result T E) → Writes old new bytes r → (Appends old new bytes → P) → (AppendsPart old new bytes → Q) → MatchResult r (λ _. P) (λ _. Q)
either_way old new bytes (Ok x) writes all part = all writes
either_way old new bytes (Err e) writes all part = part writes

-- ---- one write after another

-- the bytes that a call took, and the rest
pub taken_and_left : (n : ℕ) (xs : List ℕ) → take n xs ++ take (length xs - n) (drop n xs) ≡ xs
taken_and_left n xs =
    let all : take (length xs - n) (drop n xs) ≡ drop n xs = take_all (length xs - n) (drop n xs) (omega (arith, length-drop n xs)) in
    ap (λ (t : List ℕ). take n xs ++ t) all ∙ take-append-drop n xs

-- the part of these bytes that has been written, if this rest is left
abbrev pub PutSoFar : Option (List ℕ) → Option (List ℕ) → List ℕ → List ℕ → Type 0
PutSoFar old now bytes rest = (front : List ℕ) × (front ++ rest ≡ bytes) × Appends old now front

pub put_start : (contents : Option (List ℕ)) (bytes : List ℕ) → PutSoFar contents contents bytes bytes
put_start contents bytes = ([], refl, appends_none contents)

pub put_more : (old now new : Option (List ℕ)) (bytes rest taken left : List ℕ) → taken ++ left ≡ rest → PutSoFar old now bytes rest → Appends now new taken → PutSoFar old new bytes left
put_more old now new bytes rest taken left cut (front, whole, so_far) appends =
    (front ++ taken, append_assoc front taken left ∙ ap (λ (t : List ℕ). front ++ t) cut ∙ whole, appends_more old now new front taken so_far appends)

keeps_none : (a b : Option (List ℕ)) → Keeps a b → Appends a b []
keeps_none None b keeps = tt
keeps_none (Some xs) None keeps = absurd keeps
keeps_none (Some xs) (Some ys) keeps = keeps ∙ sym (append-nil xs)

pub put_kept : (old now new : Option (List ℕ)) (bytes rest : List ℕ) → PutSoFar old now bytes rest → Keeps now new → PutSoFar old new bytes rest
put_kept old now new bytes rest so_far keeps = put_more old now new bytes rest [] rest refl so_far (keeps_none now new keeps)

pub put_all : (old now : Option (List ℕ)) (bytes rest : List ℕ) → length rest ≡ 0 → PutSoFar old now bytes rest → Appends old now bytes
put_all old now bytes [] none (front, whole, so_far) = subst (λ (t : List ℕ). Appends old now t) (sym (append-nil front) ∙ whole) so_far
put_all old now bytes (b ∷ rest) none so_far = absurd (omega (arith, none))

pub put_failed : (old now : Option (List ℕ)) (bytes rest : List ℕ) → (length rest ≡ 0 → ⊥) → PutSoFar old now bytes rest → AppendsPart old now bytes
put_failed old now bytes rest some (front, whole, so_far) = record { part = front; missing = rest; joined = whole; some = omega (arith, some); appends = so_far }

-- ---- one text behind another

-- a beginning of the second
pub part_behind : (old mid new : Option (List ℕ)) (first second : List ℕ) → Appends old mid first → AppendsPart mid new second → AppendsPart old new (first ++ second)
part_behind old mid new first second all part = record {
  part = first ++ part.part;
  missing = part.missing;
  joined = append_assoc first part.part part.missing ∙ ap (λ (t : List ℕ). first ++ t) part.joined;
  some = part.some;
  appends = appends_more old mid new first part.part all part.appends;
}

-- a beginning of the first
pub part_before : (old new : Option (List ℕ)) (first second : List ℕ) → AppendsPart old new first → AppendsPart old new (first ++ second)
part_before old new first second part = record {
  part = part.part;
  missing = part.missing ++ second;
  joined = sym (append_assoc part.part part.missing second) ∙ ap (λ (t : List ℕ). t ++ second) part.joined;
  some = omega (arith, part.some, length-append part.missing second);
  appends = part.appends;
}

-- three texts, of which the first two were written
pub written_third : {T E : Type 0} (a b c d : Option (List ℕ)) (x y z : List ℕ) (r : Result T E) → Appends a b x → Appends b c y → Writes c d z r → Writes a d (x ++ (y ++ z)) r
written_third a b c d x y z (Ok done) first second third = appends_more a b d x (y ++ z) first (appends_more b c d y z second third)
written_third a b c d x y z (Err e) first second third = part_behind a b d x (y ++ z) first (part_behind b c d y z second third)

pub written_second : {T E : Type 0} (a b c : Option (List ℕ)) (x y z : List ℕ) (r : Result T E) → IsErr r → Appends a b x → AppendsPart b c y → Writes a c (x ++ (y ++ z)) r
written_second a b c x y z (Ok done) is first second = absurd cc
written_second a b c x y z (Err e) is first second = part_behind a b c x (y ++ z) first (part_before b c y z second)

pub written_first : {T E : Type 0} (a b : Option (List ℕ)) (x y : List ℕ) (r : Result T E) → IsErr r → AppendsPart a b x → Writes a b (x ++ y) r
written_first a b x y (Ok done) is first = absurd cc
written_first a b x y (Err e) is first = part_before a b x y first

-- a line that was put together first
pub written_line : {T E : Type 0} (old new : Option (List ℕ)) (line text : List ℕ) (r : Result T E) → line ≡ text → Writes old new line r → Writes old new text r
written_line old new line text r same writes = subst (λ (t : List ℕ). Writes old new t r) same writes

pub part_line : (old new : Option (List ℕ)) (line text : List ℕ) → line ≡ text → AppendsPart old new line → AppendsPart old new text
part_line old new line text same part = subst (λ (t : List ℕ). AppendsPart old new t) same part
