use Rattle.std.proofs.Common.{List, ℕ, Some, None, ◌≡◌}
use Rattle.std.specs.Prelude.{option_map}
use Rattle.dlms_headend.specs.Rows.{fields_in}
use Rattle.dlms_headend.proofs.Forms.{no_first, no_second, no_third, fields_told, match_map}
use Rattle.dlms_headend.proofs.form.time.Goals as goal

pub returns-then-not-is_register : goal.returns-then-not-is_register
returns-then-not-is_register c = λ v h. let four = c.in-Some.ensures v h in no_first v _ _ _ _ four (c.if-not-is_register.ensures four.second four.second_spelled)

pub returns-then-not-is_register-2 : goal.returns-then-not-is_register-2
returns-then-not-is_register-2 c = λ v h. let four = c.in-Some.ensures v h in no_second v _ _ _ _ four (c.if-not-is_register-2.ensures four.third four.third_spelled)

pub returns-then-not-is_register-3 : goal.returns-then-not-is_register-3
returns-then-not-is_register-3 c = λ v h. let four = c.in-Some.ensures v h in no_third v _ _ _ _ four (c.if-not-is_register-3.ensures four.fourth four.fourth_spelled)

pub returns : goal.returns
returns c = λ v h.
    let four = c.in-Some.ensures v h in
    match_map c.octets.result (λ octets. octets.now) (fields_in v ≡ None) (λ octets. (registers : List ℕ) × (fields_in v ≡ Some (octets, registers)))
    (fields_told v _ _ _ _ four (option_map (λ octets. octets.now) c.octets.result) (c.octets.ensures four.first four.first_spelled)
    (c.if-not-is_register.ensures four.second four.second_spelled) (c.if-not-is_register-2.ensures four.third four.third_spelled) (c.if-not-is_register-3.ensures four.fourth four.fourth_spelled))
