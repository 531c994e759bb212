use Rattle.std.proofs.Common.{◌≡◌, ap, sym, ◌∙◌, arith, drop}
use Rattle.std.proofs.lemmas.List.{drop_all}
use Rattle.dlms_telegram.proofs.CheckLemmas.{check_is_walk}
use Rattle.dlms_telegram.specs.Register.{after_octets}
use Rattle.dlms_telegram.proofs.division.check.Goals as goal

pub returns : goal.returns
returns c =
    let octets = c.args.octets.now in
    let over : after_octets c.loop-octet.register (drop c.loop-octet.octet-index c.args.octets.now) ≡ c.loop-octet.register =
    ap (after_octets c.loop-octet.register) (drop_all c.loop-octet.octet-index c.args.octets.now (omega (arith, c.loop-octet-test.false))) in
    sym over ∙ c.loop-octet.invariant ∙ sym (check_is_walk c.args.octets.now (λ i. omega (arith, c.type_inv.octets i)))
