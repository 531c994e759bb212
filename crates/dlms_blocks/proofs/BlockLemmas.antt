-- The blocks of an encoding, joined.
use Rattle.std.proofs.Common.{arith, refl, sym, ap, subst, ◌∙◌, ◌≡◌, ◌+◌, ◌-◌, ◌*◌, ℕ, zero, suc, List, [], ◌++◌, length, take, drop, true}
use Rattle.std.proofs.lemmas.List.{take_all}
use Rattle.std.proofs.lemmas.Bool.{leb-true}
use Rattle.std.proofs.Math.Seq.{take-add}
use Rattle.dlms_blocks.specs.Block.{block_bytes, blocks_up_to, is_last}

pub beginning_of : (encoding : List ℕ) (room n : ℕ) → blocks_up_to encoding room n ≡ take (n * room) encoding
beginning_of encoding room zero = let none : 0 ≡ 0 * room = omega arith in subst (λ (k : ℕ). [] ≡ take k encoding) none refl
beginning_of encoding room (suc n) =
    let before : n + 1 - 1 ≡ n = omega arith in
    let next : block_bytes encoding room (n + 1) ≡ take room (drop (n * room) encoding) = ap (λ (k : ℕ). take room (drop (k * room) encoding)) before in
    let more : n * room + room ≡ suc n * room = omega arith in
    ap (λ (front : List ℕ). front ++ block_bytes encoding room (n + 1)) (beginning_of encoding room n)
    ∙ ap (λ (back : List ℕ). take (n * room) encoding ++ back) next
    ∙ sym (take-add (n * room) room encoding) ∙ ap (λ (k : ℕ). take k encoding) more

pub whole_of : (encoding : List ℕ) (room n : ℕ) → is_last encoding room n ≡ true → blocks_up_to encoding room n ≡ encoding
whole_of encoding room n last = beginning_of encoding room n ∙ take_all (n * room) encoding (leb-true (length encoding) (n * room) last)
