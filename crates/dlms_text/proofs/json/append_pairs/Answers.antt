use Rattle.std.proofs.Common.{ℕ, List, ◌++◌, subst, arith}
use Rattle.dlms_text.specs.Json.{IsPartly, pair_of}
use Rattle.dlms_text.proofs.Growing.{at_octet, stopped}
use Rattle.dlms_text.proofs.json.append_pairs.Goals as goal

pub returns-in_err-append_octets : goal.returns-in_err-append_octets
returns-in_err-append_octets g c =
    stopped c.from_residual.result _ _ _ c.from_residual.ensures.0
    (at_octet pair_of c.args.bytes.now c.octets.byte-index 0 c.args.text.now.items c.octets.text.items c.append_octets.new.text.items (omega (arith, c.octets-test.true)) c.octets.invariant
    (subst (λ (t : List ℕ). IsPartly c.octets.text.items c.append_octets.new.text.items (c.octets.text.items ++ t)) c.pair-digits.ensures c.in_err-append_octets.ensures))
