use Rattle.std.proofs.Common.{inl, inr, subst, sym}
use Rattle.dlms_words.specs.Words.{AsksBoth, IsInvalid, Met}
use Rattle.dlms_words.proofs.words.clear.Goals as goal

pub returns-in-Some-clause-fault : goal.returns-in-Some-clause-fault
returns-in-Some-clause-fault c =
    inr (inl (subst (λ (m : Met). AsksBoth m) c.in_ok-matches.ensures.matches c.in-Some.ensures.some, c.in_ok-complaint.ensures))

pub returns-in-Some-invalid_value-clause-fault : goal.returns-in-Some-invalid_value-clause-fault
returns-in-Some-invalid_value-clause-fault c =
    inr (inr (subst (λ (m : Met). IsInvalid m) c.in_ok-matches.ensures.matches c.in-Some-invalid_value.ensures.some, c.in_ok-complaint-2.ensures))

pub returns-clause-clear : goal.returns-clause-clear
returns-clause-clear c = (
  λ both. c.in_default.ensures.none (subst (λ (m : Met). AsksBoth m) (sym c.in_ok-matches.ensures.matches) both),
  λ invalid. c.in_default-invalid_value.ensures.none (subst (λ (m : Met). IsInvalid m) (sym c.in_ok-matches.ensures.matches) invalid),
)
