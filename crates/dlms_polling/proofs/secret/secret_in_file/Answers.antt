use Rattle.std.proofs.Common.{ℕ, List, subst, sym}
use Rattle.dlms_polling.specs.Secret.{IsWithoutLineEnd}
use Rattle.dlms_polling.proofs.secret.secret_in_file.Goals as goal

pub returns-in-Some-clause-found : goal.returns-in-Some-clause-found
returns-in-Some-clause-found g c =
    (c.in-Ok.bytes.items, c.in-Ok.ensures, λ rest is. c.in-Some.ensures rest (subst (λ (b : List ℕ). IsWithoutLineEnd b rest) (sym c.as_slice.ensures.value) is))
