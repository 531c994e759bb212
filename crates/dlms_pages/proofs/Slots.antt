-- A slot is a page's content and its seal.
use Rattle.std.proofs.Common.{rules, arith, ◌≡◌, ◌≤◌, ℕ, ◌+◌, length, List, ◌++◌, sym, ◌∙◌, ap, ap₂}
use Rattle.std.specs.Int.{to_be_bytes, w16}
use Rattle.std.specs.Prelude.{take, drop}
use Rattle.std.proofs.lemmas.List.{take_at, drop_at, drop_all, take_all, length-append, length-drop, take-append-drop}
use borrow.Rule.Slice.PartMut.{put_mid, mid_of}
use Rattle.sha2.proofs.Facts256.{length-sha256}
use Rattle.dlms_pages.specs.Seal.{seal_of, slot_of}

-- the seal written after the content
pub seal_behind : (front rest back content seal : List ℕ) → front ≡ content → back ≡ seal → length front ≡ 512 → length rest ≡ 32 → put_mid 512 32 (front ++ rest) back ≡ content ++ seal
seal_behind front rest back content seal is_content is_seal n m =
    rw (take_at front rest 512 n, drop_at front rest 512 n, drop_all 32 rest (omega (arith, m)), is_content, is_seal) (search rules)

-- the content and the seal of a slot are its first 512 bytes and the rest
pub content_of_slot : (index : ℕ) (content slot : List ℕ) → length slot ≡ 544 → slot ≡ slot_of index content → (take 512 slot ≡ content) × (drop 512 slot ≡ seal_of index content)
content_of_slot index content slot n e =
    let joined : length slot ≡ length content + length (seal_of index content) = ap length e ∙ length-append content (seal_of index content) in
    let size : length content ≡ 512 = omega (arith, n, joined, length-sha256 (to_be_bytes w16 index ++ content)) in
    (rw e (take_at content _ 512 size), rw e (drop_at content _ 512 size))

-- everything after the content is the rest
pub behind_content : (slot : List ℕ) → length slot ≡ 544 → mid_of 512 32 slot ≡ drop 512 slot
behind_content slot n = let k : length (drop 512 slot) ≤ 32 = rw (length-drop 512 slot) (omega (arith, n)) in take_all 32 (drop 512 slot) k

pub slot_is : (index : ℕ) (content slot : List ℕ) → length slot ≡ 544 → content ≡ take 512 slot → mid_of 512 32 slot ≡ seal_of index content → slot ≡ slot_of index content
slot_is index content slot n is_content is_seal =
    sym (take-append-drop 512 slot) ∙ ap₂ (λ a b. a ++ b) (sym is_content) (sym (behind_content slot n) ∙ is_seal)

-- a slot of some content has that content's seal after its first 512 bytes
pub seal_is : (index : ℕ) (content first slot : List ℕ) → length slot ≡ 544 → first ≡ take 512 slot → slot ≡ slot_of index content → mid_of 512 32 slot ≡ seal_of index first
seal_is index content first slot n is_first e =
    let parts = content_of_slot index content slot n e in
    behind_content slot n ∙ parts.1 ∙ ap (seal_of index) (sym (is_first ∙ parts.0))
