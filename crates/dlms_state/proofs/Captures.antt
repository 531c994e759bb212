-- The captures of a list: the buffer is the end of their rows, and a longer list has them too.
use Rattle.std.proofs.Common.{◌≡◌, ℕ, ◌+◌, ◌-◌, ◌≤◌, Bool, true, false, cond, not, List, [], ◌∷◌, ◌++◌, map, length, take, drop, reverse, Some, refl, sym, ◌∙◌, ap, arith, append_assoc}
use Rattle.std.specs.Prelude.{filter}
use Rattle.std.specs.List.{after_last, prefix_len}
use Rattle.std.proofs.lemmas.List.{append-nil, map-append, take-append-drop, length-append, length-map}
use Rattle.std.proofs.Math.Seq.{append_snoc}
use Rattle.std.proofs.lemmas.List.Elements.{filter-append}
use Rattle.dlms_profile.specs.declared.rows.Row.{Row}
use Rattle.dlms_state.specs.declared.event.Event.{Event}
use Rattle.dlms_state.specs.Events.{captures, captures_by, ends_in_capture, ends_in_clearing, beginnings, row_after, kept_after, buffer_after}
use Rattle.dlms_state.proofs.Lists.{latest-more, beginnings-more}
use Rattle.dlms_profile.specs.declared.rows.TheConstants.{CAPACITY}

-- the tail of the kept elements is what is kept of the list's tail
end_of_kept : {X Y : Type 0} (n k : ℕ) (f : X → Y) (keeps : X → Bool) (xs : List X) → (older : List Y) × (map f (filter keeps xs) ≡ older ++ drop k (map f (filter keeps (drop n xs))))
end_of_kept {X} {Y} n k f keeps xs =
    let early : List Y = map f (filter keeps (take n xs)) in
    let late : List Y = map f (filter keeps (drop n xs)) in
    let parted : map f (filter keeps xs) ≡ early ++ late =
    ap (λ ys. map f (filter keeps ys)) (sym (take-append-drop n xs)) ∙ ap (map f) (filter-append keeps (take n xs) (drop n xs)) ∙ map-append f (filter keeps (take n xs)) (filter keeps (drop n xs)) in
    let cut : early ++ late ≡ (early ++ take k late) ++ drop k late = ap (λ ys. early ++ ys) (sym (take-append-drop k late)) ∙ sym (append_assoc early (take k late) (drop k late)) in
    (early ++ take k late, parted ∙ cut)

pub buffer_is_the_end : (E : List Event) → (older : List Row) × (map row_after (captures E) ≡ older ++ buffer_after E)
unfolding captures kept_after
buffer_is_the_end E =
    let bs : List (List Event) = beginnings E in
    let late : List Row = map row_after (filter ends_in_capture (after_last ends_in_clearing bs)) in
    end_of_kept (length bs - prefix_len (λ y. not (ends_in_clearing y)) (reverse bs)) (length late - CAPACITY) row_after ends_in_capture bs

captures-more : (E : List Event) (e : Event) → captures (E ++ e ∷ []) ≡ captures E ++ cond (captures_by (E ++ e ∷ []) (Some e)) ((E ++ e ∷ []) ∷ []) []
unfolding captures ends_in_capture
captures-more E e = rw (beginnings-more E e, filter-append ends_in_capture (beginnings E) ((E ++ e ∷ []) ∷ []), latest-more E e) refl

pub captures_go_on : (E F : List Event) → (later : List (List Event)) × (captures (E ++ F) ≡ captures E ++ later)
captures_go_on E [] = ([], rw (append-nil E) (sym (append-nil (captures E))))
captures_go_on E (e ∷ F) =
    let one : List (List Event) = cond (captures_by (E ++ e ∷ []) (Some e)) ((E ++ e ∷ []) ∷ []) [] in
    let rest = captures_go_on (E ++ e ∷ []) F in
    let first : captures (E ++ e ∷ []) ≡ captures E ++ one = captures-more E e in
    let whole : captures (E ++ e ∷ F) ≡ captures (E ++ e ∷ []) ++ rest.0 = rw append_snoc at rest.1 in
    (one ++ rest.0, whole ∙ ap (λ cs. cs ++ rest.0) first ∙ append_assoc (captures E) one rest.0)

-- how many rows one event captures
pub count_captures-more : (E : List Event) (e : Event) → length (captures (E ++ e ∷ [])) ≡ length (captures E) + cond (captures_by (E ++ e ∷ []) (Some e)) 1 0
unfolding captures ends_in_capture
count_captures-more E e =
    rw (beginnings-more E e, filter-append ends_in_capture (beginnings E) ((E ++ e ∷ []) ∷ []), length-append, latest-more E e)
    (elim (captures_by (E ++ e ∷ []) (Some e)) as (λ b. length (filter ends_in_capture (beginnings E)) + length (cond b ((E ++ e ∷ []) ∷ []) []) ≡ length (filter ends_in_capture (beginnings E)) + cond b 1 0)
    [ true ↦ refl | false ↦ refl ])

-- a longer list has no fewer captures
pub captures-le : (E F : List Event) → length (captures E) ≤ length (captures (E ++ F))
captures-le E [] = rw (append-nil E) (omega arith)
captures-le E (e ∷ F) =
    let one : length (captures E) ≤ length (captures (E ++ e ∷ [])) = rw (count_captures-more E e) (omega arith) in
    let rest : length (captures (E ++ e ∷ [])) ≤ length (captures (E ++ e ∷ F)) = rw append_snoc at (captures-le (E ++ e ∷ []) F) in
    omega arith

-- no more rows are kept than were captured
pub buffer-le : (E : List Event) → length (buffer_after E) ≤ length (captures E)
buffer-le E =
    let end = buffer_is_the_end E in
    omega (arith, length-map (captures E) row_after, ap length end.1, length-append end.0 (buffer_after E))
