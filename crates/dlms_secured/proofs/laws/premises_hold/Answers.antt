use Rattle.std.proofs.Common.{sym, ap, subst}
use Rattle.dlms_secured.specs.Guard.{GuardValue, hidden}
use Rattle.dlms_secured.specs.Run.{IsTitled}
use Rattle.dlms_secured.proofs.Premises.{new_tags}
use Rattle.dlms_secured.proofs.Sharing.{fresh_titled}
use Rattle.dlms_secured.proofs.laws.premises_hold.Goals as goal

pub returns-clause-titled : goal.returns-clause-titled
returns-clause-titled c = subst (λ (g : GuardValue). IsTitled g.dedicated g.security.peer) (sym c.new.ensures)
    (fresh_titled c.args.terms.now.title c.args.terms.now.authentication_key c.args.terms.now.policy (hidden c.args.terms.now.policy c.args.dedicated)
    c.args.stored.peer)

pub returns-clause-tags : goal.returns-clause-tags
returns-clause-tags c has = new_tags c.new.result c.args.terms.now.title c.args.terms.now.authentication_key c.args.terms.now.policy
    (hidden c.args.terms.now.policy c.args.dedicated) (ap (λ (g : GuardValue). g.security.policy) c.new.ensures)
    (ap (λ (g : GuardValue). g.dedicated) c.new.ensures) has
