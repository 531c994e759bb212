use Rattle.std.proofs.Common.{◌≡◌, ◌∙◌, ◌++◌, [], List, ℕ, ap, rules}
use Rattle.std.specs.Int.{cast_unsigned, w64}
use Rattle.byteorder.specs.Endian.{big_bytes}
use Rattle.dlms_checkpoint.specs.Checkpoint.{head_bytes}
use Rattle.dlms_checkpoint.proofs.Joins.{joined_two}
use Rattle.dlms_checkpoint.proofs.fields.head_of.Goals as goal

-- four more pieces after six
joined_four : (b b1 b2 b3 b4 p q r s : List ℕ) → b1 ≡ b ++ p → b2 ≡ b1 ++ q → b3 ≡ b2 ++ r → b4 ≡ b3 ++ s → b4 ≡ b ++ (p ++ (q ++ (r ++ s)))
joined_four b b1 b2 b3 b4 p q r s e1 e2 e3 e4 =
    joined_two b b1 b4 p (q ++ (r ++ s)) e1 (joined_two b1 b2 b4 q (r ++ s) e2 (joined_two b2 b3 b4 r s e3 e4))

joined : (b b1 b2 b3 b4 b5 b6 b7 b8 b9 b10 p q r s t u x y v w : List ℕ) → b ≡ [] → b1 ≡ b ++ p → b2 ≡ b1 ++ q → b3 ≡ b2 ++ r → b4 ≡ b3 ++ s → b5 ≡ b4 ++ t → b6 ≡ b5 ++ u → b7 ≡ b6 ++ x → b8 ≡ b7 ++ y → b9 ≡ b8 ++ v → b10 ≡ b9 ++ w
    → b10 ≡ p ++ (q ++ (r ++ (s ++ (t ++ (u ++ (x ++ (y ++ (v ++ w))))))))
joined b b1 b2 b3 b4 b5 b6 b7 b8 b9 b10 p q r s t u x y v w none e1 e2 e3 e4 e5 e6 e7 e8 e9 e10 =
    let last : b10 ≡ b6 ++ (x ++ (y ++ (v ++ w))) = joined_four b6 b7 b8 b9 b10 x y v w e7 e8 e9 e10 in
    let behind : List ℕ = q ++ (r ++ (s ++ (t ++ (u ++ (x ++ (y ++ (v ++ w))))))) in
    joined_two b b1 b10 p behind e1
    (joined_two b1 b2 b10 q _ e2 (joined_two b2 b3 b10 r _ e3 (joined_two b3 b4 b10 s _ e4 (joined_two b4 b5 b10 t _ e5 (joined_two b5 b6 b10 u (x ++ (y ++ (v ++ w))) e6 last)))))
    ∙ ap (λ (l : List ℕ). l ++ (p ++ behind)) none

pub returns-clause-items : goal.returns-clause-items
unfolding head_bytes
returns-clause-items c n =
    let signed : c.to_be_bytes-2.result ≡ big_bytes 8 (cast_unsigned w64 c.args.parts.now.offset) = search rules in
    joined _ _ _ _ _ _ _ _ _ _ _ _ _ _ _ _ _ _ _ _ _
    c.new-head.ensures
    (c.append.ensures.items ∙ ap (λ (l : List ℕ). c.new-head.result.items ++ l) c.to_be_bytes.ensures)
    (c.append-2.ensures.items ∙ ap (λ (l : List ℕ). c.append.new.bytes.items ++ l) signed)
    (c.append-3.ensures.items ∙ ap (λ (l : List ℕ). c.append-2.new.bytes.items ++ l) c.to_be_bytes-3.ensures)
    c.append_registers.ensures.items
    c.append_field.ensures.items
    c.append_field-2.ensures.items
    c.append_field-3.ensures.items
    c.append_field-4.ensures.items
    (c.append-4.ensures.items ∙ ap (λ (l : List ℕ). c.append_field-4.new.bytes.items ++ l) c.to_be_bytes-4.ensures)
    (c.append-5.ensures.items ∙ ap (λ (l : List ℕ). c.append-4.new.bytes.items ++ l) c.to_be_bytes-5.ensures)
