use Rattle.std.proofs.Common.{◌≡◌, ℕ, List, IfErr, Result, Ok, Err, subst}
use Rattle.dlms_listen.specs.declared.fault.Refusal.{Refusal}
use Rattle.dlms_listen.specs.Receiving.{IsNone, refusal_of}
use Rattle.dlms_listen.proofs.receiver.read_plain.Goals as goal

-- both facts of a refusal, of equal octets
both : {A : Type 0} (r : Result A Refusal) (xs ys : List ℕ) → xs ≡ ys → IfErr r (λ _. IsNone xs) → IfErr r (λ why. why ≡ refusal_of xs)
    → IfErr r (λ why. (why ≡ refusal_of ys) × IsNone ys)
both (Ok x) xs ys same none why = tt
both (Err e) xs ys same none why = subst (λ zs. (e ≡ refusal_of zs) × IsNone zs) same (why, none)

pub returns-clause-err : goal.returns-clause-err
returns-clause-err c = both c.read_notification.result c.as_slice.result.now c.args.plain.now.items c.as_slice.ensures.value c.read_notification.ensures.err c.read_notification.ensures.why
