-- Segments taken one by one are read as their whole.
use Rattle.std.proofs.Common.{◌≡◌, ℕ, ◌<◌, ◌≤◌, refl, sym, ◌∙◌, ap, arith, true, false, Bool, List, [], ◌∷◌, ◌++◌, length, append_assoc, length-append, nat_le, inl, inr, ◌==◌, ◌&&◌, if◌then◌else◌}
use Rattle.std.proofs.lemmas.Bool.Decides.{nat_tests, leb_tells}
use Rattle.std.proofs.lemmas.List.{append-nil}
use Rattle.dlms_link.specs.Kept.{Fresh, TooLong, BadStart, kept_after, capped}
use Rattle.dlms_link.specs.Segments.{joined, kept_after_all, read_whole}
use Rattle.dlms_link.proofs.Joining.{capped-good}

capped-long : (bytes : List ℕ) → 1024 < length bytes → capped bytes ≡ TooLong
capped-long bytes h = let e : nat_le (length bytes) 1024 ≡ false = grind (arith, nat_tests) in rw e refl

stays_long : (side : ℕ) (infos : List (List ℕ)) → kept_after_all side TooLong infos ≡ TooLong
unfolding kept_after
stays_long side [] = refl
stays_long side (info ∷ infos) = stays_long side infos

stays_bad : (side : ℕ) (infos : List (List ℕ)) → kept_after_all side BadStart infos ≡ BadStart
unfolding kept_after
stays_bad side [] = refl
stays_bad side (info ∷ infos) = stays_bad side infos

-- from an APDU's front on, whether it is short or not
goes_on : (side : ℕ) (infos : List (List ℕ)) (bytes : List ℕ) → kept_after_all side (capped bytes) infos ≡ capped (bytes ++ joined infos)
unfolding kept_after
goes_on side [] bytes = ap capped (sym (append-nil bytes))
goes_on side (info ∷ infos) bytes =
    elim (leb_tells (length bytes) 1024) [
      | inl h ↦ rw (capped-good bytes h.1) (goes_on side infos (bytes ++ info) ∙ ap capped (append_assoc bytes info (joined infos)))
      | inr h ↦ rw (capped-long bytes h.1) (stays_long side (info ∷ infos) ∙ sym (capped-long (bytes ++ (info ++ joined infos)) (omega (arith, h.1, length-append bytes (info ++ joined infos)))))
    ]

pub read_at_once : (side : ℕ) (first : List ℕ) (infos : List (List ℕ)) → 3 ≤ length first → kept_after_all side Fresh (first ∷ infos) ≡ read_whole side (joined (first ∷ infos))
unfolding kept_after
read_at_once side [] infos h = absurd (omega arith)
read_at_once side (x ∷ []) infos h = absurd (omega arith)
read_at_once side (x ∷ y ∷ []) infos h = absurd (omega arith)
read_at_once side (x ∷ y ∷ z ∷ rest) infos h = begun ((x == 230) && (y == side) && (z == 0))
  where
    begun : (b : Bool) → kept_after_all side (if b then capped rest else BadStart) infos ≡ (if b then capped (rest ++ joined infos) else BadStart)
    begun true = goes_on side infos rest
    begun false = stays_bad side infos

pub bad_at_once : (side : ℕ) (first : List ℕ) (infos : List (List ℕ)) → length first < 3 → kept_after_all side Fresh (first ∷ infos) ≡ BadStart
unfolding kept_after
bad_at_once side [] infos h = stays_bad side infos
bad_at_once side (x ∷ []) infos h = stays_bad side infos
bad_at_once side (x ∷ y ∷ []) infos h = stays_bad side infos
bad_at_once side (x ∷ y ∷ z ∷ rest) infos h = absurd (omega arith)
