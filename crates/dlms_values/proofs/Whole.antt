-- Octets that are one value, and nothing else.
use Rattle.std.proofs.Common.{arith, ◌≡◌, ◌∙◌, ap, sym, subst, ℕ, Bool, List, [], ◌++◌, ◌==◌, length, append-nil, IsTrue}
use Rattle.std.proofs.lemmas.Grind.{common_steps}
use Rattle.std.proofs.lemmas.Bool.Decides.{nat_tests}
use Rattle.std.proofs.lemmas.List.{nil_from_length}
use Rattle.dlms_values.specs.Value.{Value}
use Rattle.dlms_values.specs.Spelling.{IsSpelling}

pub whole_found : (bytes rest : List ℕ) (v : Value) (b : Bool) → b ≡ (length rest == 0) → ((text : List ℕ) × (bytes ≡ text ++ rest) × IsSpelling text v) → IsTrue b → (v : Value) × IsSpelling bytes v
whole_found bytes rest v b is (text, e, spelled) whole =
    let none : rest ≡ [] = nil_from_length rest (grind (arith, nat_tests, common_steps)) in
    (v, subst (λ (w : List ℕ). IsSpelling w v) (sym (e ∙ ap (λ (r : List ℕ). text ++ r) none ∙ append-nil text)) spelled)

pub found_whole : (bytes rest : List ℕ) (v : Value) (b : Bool) → b ≡ (length rest == 0) → ((w : Value) (text other : List ℕ) → IsSpelling text w → bytes ≡ text ++ other → (v ≡ w) × (rest ≡ other)) → ((w : Value) × IsSpelling bytes w) → IsTrue b
found_whole bytes rest v b is only h =
    let none : rest ≡ [] = (only h.0 bytes [] h.1 (sym (append-nil bytes))).1 in
    is ∙ ap (λ (r : List ℕ). length r == 0) none
