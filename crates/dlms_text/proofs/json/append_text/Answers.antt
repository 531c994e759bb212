use Rattle.std.proofs.Common.{arith}
use Rattle.dlms_text.specs.Json.{letter_of}
use Rattle.dlms_text.proofs.Growing.{at_octet, stopped}
use Rattle.dlms_text.proofs.json.append_text.Goals as goal

pub returns-in_err-append_letter : goal.returns-in_err-append_letter
returns-in_err-append_letter g c =
    stopped c.from_residual.result _ _ _ c.from_residual.ensures.0
    (at_octet letter_of c.args.bytes.now c.octets.byte-index 0 c.args.text.now.items c.octets.text.items c.append_letter.new.text.items (omega (arith, c.octets-test.true)) c.octets.invariant c.in_err-append_letter.ensures)
