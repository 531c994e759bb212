-- The laws.
use Rattle.std.proofs.Common.{◌≡◌, ℕ, List, length, take, refl, sym, ap, ◌∙◌, arith}
use Rattle.std.proofs.lemmas.List.{take_at, length-append}
use Rattle.dlms_values.specs.Value.{Value}
use Rattle.dlms_values.specs.Laws.{ReadsWhatIsSpelled, ReadsOneValue}
use Rattle.dlms_values.proofs.Takes.{is_found, spelled, ok_is}

pub reads_what_is_spelled : ReadsWhatIsSpelled
reads_what_is_spelled bytes rest v = (λ h. is_found bytes v rest h, λ h. spelled bytes v h.0 rest h.2 h.1)

pub reads_one_value : ReadsOneValue
reads_one_value bytes one one_rest other other_rest v w first second a b =
    let same : (v, one_rest) ≡ (w, other_rest) = ok_is (v, one_rest) (w, other_rest) (sym (spelled bytes v one one_rest a first) ∙ spelled bytes w other other_rest b second) in
    let value : v ≡ w = ap (λ (x : Value × List ℕ). x.0) same in
    let rest : one_rest ≡ other_rest = ap (λ (x : Value × List ℕ). x.1) same in
    let len : length other ≡ length one = omega (arith, ap length first, ap length second, length-append one one_rest, length-append other other_rest, ap length rest) in
    let text : one ≡ other = sym (take_at one one_rest (length one) refl) ∙ ap (take (length one)) (sym first ∙ second) ∙ take_at other other_rest (length one) len in
    (text, value)
