-- Octets are split at the first mark in one way, so they are one telegram at most.
use Rattle.std.proofs.Common.{◌≡◌, ℕ, ◌+◌, ◌<◌, List, ◌∷◌, length, take, drop, get_or, sym, ap, ◌∙◌, arith, length-append, None, Some}
use Rattle.std.proofs.lemmas.Option.{none-some}
use Rattle.std.proofs.Math.Seq.{get_or-append_seam, take-append_seam, drop-append_seam}
use Rattle.dlms_telegram.specs.Check.{check_of}
use Rattle.dlms_telegram.specs.Line.{IsSplit}
use Rattle.dlms_telegram.specs.Telegram.{IsNone, end_of}

mark_at : (octets : List ℕ) (mark : ℕ) (before after : List ℕ) → IsSplit octets mark before after → get_or octets (length before) 0 ≡ mark
mark_at octets mark before after s = ap (λ l. get_or l (length before) 0) s.spelling ∙ get_or-append_seam before mark after 0

mark_within : (octets : List ℕ) (mark : ℕ) (before after : List ℕ) → IsSplit octets mark before after → length before < length octets
mark_within octets mark before after s = omega (arith, ap length s.spelling, length-append before (mark ∷ after))

same_length : (octets : List ℕ) (mark : ℕ) (a b c d : List ℕ) → IsSplit octets mark a b → IsSplit octets mark c d → length a ≡ length c
same_length octets mark a b c d s t =
    let below : length c < length a → ⊥ = λ less. s.first (length c) less (mark_at octets mark c d t) in
    let above : length a < length c → ⊥ = λ less. t.first (length a) less (mark_at octets mark a b s) in
    omega (arith, below, above)

before_is : (octets : List ℕ) (mark : ℕ) (before after : List ℕ) → IsSplit octets mark before after → take (length before) octets ≡ before
before_is octets mark before after s = ap (λ l. take (length before) l) s.spelling ∙ take-append_seam before (mark ∷ after)

after_is : (octets : List ℕ) (mark : ℕ) (before after : List ℕ) → IsSplit octets mark before after → drop 1 (drop (length before) octets) ≡ after
after_is octets mark before after s = ap (λ l. drop 1 (drop (length before) l)) s.spelling ∙ ap (λ l. drop 1 l) (drop-append_seam before (mark ∷ after))

same_before : (octets : List ℕ) (mark : ℕ) (a b c d : List ℕ) → IsSplit octets mark a b → IsSplit octets mark c d → a ≡ c
same_before octets mark a b c d s t =
    sym (before_is octets mark a b s) ∙ ap (λ n. take n octets) (same_length octets mark a b c d s t) ∙ before_is octets mark c d t

same_after : (octets : List ℕ) (mark : ℕ) (a b c d : List ℕ) → IsSplit octets mark a b → IsSplit octets mark c d → b ≡ d
same_after octets mark a b c d s t =
    sym (after_is octets mark a b s) ∙ ap (λ n. drop 1 (drop n octets)) (same_length octets mark a b c d s t) ∙ after_is octets mark c d t

pub without_mark : (octets : List ℕ) → ((k : ℕ) → k < length octets → get_or octets k 0 ≡ 0x21 → ⊥) → IsNone octets
without_mark octets none text checked h = none (length text) (mark_within octets 0x21 text h.tail h.split) (mark_at octets 0x21 text h.tail h.split)

pub without_end : (octets before after : List ℕ) → IsSplit octets 0x21 before after → end_of (check_of (take (length before + 1) octets)) after ≡ None → IsNone octets
without_end octets before after s none text checked h =
    let found : end_of (check_of (take (length before + 1) octets)) after ≡ Some checked =
    ap (λ l. end_of (check_of (take (length l + 1) octets)) after) (same_before octets 0x21 before after text h.tail s h.split)
    ∙ ap (λ l. end_of (check_of (take (length text + 1) octets)) l) (same_after octets 0x21 before after text h.tail s h.split) ∙ h.end_is in
    none-some checked (sym none ∙ found)
