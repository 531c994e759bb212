use Rattle.std.proofs.Common.{ℕ, List, subst, sym}
use Rattle.std.specs.Str.{IsUtf8}
use Rattle.dlms_web.proofs.apdus.put_apdu.Goals as goal

pub returns-clause-told : goal.returns-clause-told
returns-clause-told c other = (c.as_bytes.result.now, subst (λ (told : List ℕ). ∥ IsUtf8 told ∥₁) (sym c.as_bytes.ensures.value) c.in-Ok.told.ok, c.put.ensures.puts)
