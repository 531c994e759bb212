use Rattle.std.proofs.Common.{◌++◌, ◌≡◌, ◌%◌, ◌<◌, List, ℕ, ◌∷◌, [], ap, ◌∙◌, sym, append_assoc, arith}
use Rattle.dlms_data.proofs.Bitwise.{packed_full, packed_part}
use Rattle.dlms_data.proofs.writing.put_packed.Goals as goal

joined : (out out1 out2 front whole : List ℕ) (x y : ℕ) → out1 ≡ out ++ front → out2 ≡ out1 ++ x ∷ [] → x ≡ y → whole ≡ front ++ y ∷ [] → out2 ≡ out ++ whole
joined out out1 out2 front whole x y a b c d =
    b ∙ ap (λ (w : List ℕ). w ++ x ∷ []) a ∙ append_assoc out front (x ∷ []) ∙ ap (λ (k : ℕ). out ++ (front ++ k ∷ [])) c ∙ ap (λ (w : List ℕ). out ++ w) (sym d)

pub returns-in_ok-push : goal.returns-in_ok-push
returns-in_ok-push g c =
    let some_left : 0 < c.args.count % 8 = omega (arith, c.if-used-ne0.true) in
    joined c.args.out.now.items _ _ _ _ c.cleared.result _ c.in_ok-extend_from_slice.ensures.items c.in_ok-push.ensures.items c.cleared.ensures
    (packed_part c.args.count c.args.bytes.now c.requires.bytes c.requires.held some_left)

pub returns-else-used-ne0 : goal.returns-else-used-ne0
returns-else-used-ne0 g c =
    c.in_ok-extend_from_slice.ensures.items ∙ ap (λ (w : List ℕ). c.args.out.now.items ++ w) (sym (packed_full c.args.count c.args.bytes.now c.requires.bytes c.requires.held c.if-used-ne0.false))
