use Rattle.std.proofs.Common.{sym, ◌∙◌, ap, ℕ, Some}
use Rattle.std.specs.Prelude.{option_map}
use Rattle.dlms_frame.specs.declared.frame.Address.TheVariants.{One}
use Rattle.dlms_serving.specs.Refusals.{outcome_of}
use Rattle.dlms_serving.proofs.refusals.outcome_in_apdu.Goals as goal

pub returns-in-Some : goal.returns-in-Some
returns-in-Some c = λ sap is.
    ap Some (c.outcome_for.ensures sap is) ∙ ap (option_map (λ (number : ℕ). outcome_of number (One sap))) (sym c.in-Some.is ∙ c.result_in.ensures)

pub returns-in-None : goal.returns-in-None
returns-in-None c = λ sap is. ap (option_map (λ (number : ℕ). outcome_of number (One sap))) (sym c.in-None.is ∙ c.result_in.ensures)
