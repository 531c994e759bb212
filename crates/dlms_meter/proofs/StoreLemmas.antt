-- The consequences of a refusal by the store.
use Rattle.std.proofs.Common.{◌≡◌, sym, subst, Result, Ok, Err, MatchResult}
use Rattle.std.specs.Prelude.{IsErrAnd}

pub carried : {T E : Type 0} (P : T → Type 0) (Q : E → Type 0) (r : Result T E) (e : E) → IsErrAnd r (λ given. given ≡ e) → Q e → MatchResult r P Q
carried P Q (Ok x) e is q = absurd is
carried P Q (Err given) e is q = subst Q (sym is) q
