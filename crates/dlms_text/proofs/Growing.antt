-- Texts that grow, part by part.
use Rattle.std.proofs.Common.{◌≡◌, ℕ, ◌+◌, ◌<◌, List, [], ◌∷◌, ◌++◌, length, take, drop, get_or, refl, sym, ap, ◌∙◌, append_assoc, append-nil, add-one, drop-cons, Result, Ok, Err}
use Rattle.std.specs.Prelude.{if◌then◌else◌, is_ok, IsErr}
use Rattle.std.specs.List.{flat_map}
use Rattle.std.proofs.lemmas.List.{take-append-drop}
use Rattle.std.proofs.lemmas.Grind.{flat_map-append}
use Rattle.dlms_text.specs.Json.{Begins, Grows, IsPartly, quoted}

-- nothing was appended
pub nothing_yet : (old new more : List ℕ) → new ≡ old → IsPartly old new (old ++ more)
nothing_yet old new more same = record {
  kept = ([], same ∙ sym (append-nil old));
  part = (more, ap (λ (t : List ℕ). t ++ more) (sym same));
}

-- all or nothing was appended
pub all_or_nothing : {X E : Type 0} (r : Result X E) (old new more : List ℕ) → new ≡ (if is_ok r then old ++ more else old) → Grows r old new more
all_or_nothing (Ok x) old new more same = same
all_or_nothing (Err e) old new more same = nothing_yet old new more same

-- it stopped within, with whatever error
pub stopped : {X E : Type 0} (r : Result X E) (old new more : List ℕ) → IsErr r → IsPartly old new (old ++ more) → Grows r old new more
stopped (Ok x) old new more failed h = absurd cc
stopped (Err e) old new more failed h = h

-- it stopped in the first of two parts
pub in_first : (old new a b : List ℕ) → IsPartly old new (old ++ a) → IsPartly old new (old ++ (a ++ b))
in_first old new a b h = record {
  kept = h.kept;
  part = (h.part.0 ++ b, sym (append_assoc old a b) ∙ ap (λ (t : List ℕ). t ++ b) h.part.1 ∙ append_assoc new h.part.0 b);
}

-- it stopped in the second of two parts
pub in_second : (old mid new a b : List ℕ) → mid ≡ old ++ a → IsPartly mid new (mid ++ b) → IsPartly old new (old ++ (a ++ b))
in_second old mid new a b first h = record {
  kept = (a ++ h.kept.0, h.kept.1 ∙ ap (λ (t : List ℕ). t ++ h.kept.0) first ∙ append_assoc old a h.kept.0);
  part = (h.part.0, sym (append_assoc old a b) ∙ ap (λ (t : List ℕ). t ++ b) (sym first) ∙ h.part.1);
}

-- text between quotes: it stopped in the text, or before the last quote
pub in_quotes : (old mid new t : List ℕ) → mid ≡ old ++ 34 ∷ [] → IsPartly mid new (mid ++ t) → IsPartly old new (old ++ quoted t)
in_quotes old mid new t first h = in_second old mid new (34 ∷ []) (t ++ 34 ∷ []) first (in_first mid new t (34 ∷ []) h)

pub both_grown : (old mid text a b : List ℕ) → mid ≡ old ++ a → text ≡ mid ++ b → text ≡ old ++ (a ++ b)
both_grown old mid text a b first next = next ∙ ap (λ (t : List ℕ). t ++ b) first ∙ append_assoc old a b

pub closes_quotes : {X E : Type 0} (r : Result X E) (old mid text new t : List ℕ) → mid ≡ old ++ 34 ∷ [] → text ≡ mid ++ t → Grows r text new (34 ∷ []) → Grows r old new (quoted t)
closes_quotes (Ok x) old mid text new t first next last = both_grown old text new (34 ∷ t) (34 ∷ []) (both_grown old mid text (34 ∷ []) t first next) last
closes_quotes (Err e) old mid text new t first next last = in_second old text new (34 ∷ t) (34 ∷ []) (both_grown old mid text (34 ∷ []) t first next) last

-- ---- octet by octet

parted : (f : ℕ → List ℕ) (xs : List ℕ) (i d : ℕ) → i < length xs → flat_map f xs ≡ flat_map f (take i xs) ++ (f (get_or xs i d) ++ flat_map f (drop (i + 1) xs))
parted f xs i d lt =
    let split : flat_map f xs ≡ flat_map f (take i xs ++ drop i xs) = ap (λ (s : List ℕ). flat_map f s) (sym (take-append-drop i xs)) in
    let here : drop i xs ≡ get_or xs i d ∷ drop (i + 1) xs = rw add-one (drop-cons xs i d lt) in
    split ∙ flat_map-append f (take i xs) (drop i xs) ∙ ap (λ (s : List ℕ). flat_map f (take i xs) ++ flat_map f s) here

-- it stopped at an octet
pub at_octet : (f : ℕ → List ℕ) (xs : List ℕ) (i d : ℕ) (old mid new : List ℕ) → i < length xs → mid ≡ old ++ flat_map f (take i xs) → IsPartly mid new (mid ++ f (get_or xs i d))
    → IsPartly old new (old ++ flat_map f xs)
at_octet f xs i d old mid new lt so_far h =
    rw (parted f xs i d lt) (in_second old mid new (flat_map f (take i xs)) (f (get_or xs i d) ++ flat_map f (drop (i + 1) xs)) so_far (in_first mid new (f (get_or xs i d)) (flat_map f (drop (i + 1) xs)) h))
