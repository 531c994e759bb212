use Rattle.std.proofs.Common.{[], ◌∷◌, ◌++◌}
use Rattle.dlms_text.specs.Json.{letters_of}
use Rattle.dlms_text.proofs.Growing.{in_first, in_quotes, stopped}
use Rattle.dlms_text.proofs.json.append_quoted.Goals as goal

pub returns-in_err-append_octets : goal.returns-in_err-append_octets
returns-in_err-append_octets g c =
    stopped c.from_residual.result _ _ _ c.from_residual.ensures.0 (in_first c.args.text.now.items c.append_octets.new.text.items (34 ∷ []) (letters_of c.args.bytes.now ++ 34 ∷ []) c.in_err-append_octets.ensures)

pub returns-in_err-append_text : goal.returns-in_err-append_text
returns-in_err-append_text g c =
    stopped c.from_residual-in_err-append_text.result _ _ _ c.from_residual-in_err-append_text.ensures.0
    (in_quotes c.args.text.now.items c.append_octets.new.text.items c.append_text.new.text.items (letters_of c.args.bytes.now) c.in_ok-append_octets.ensures c.in_err-append_text.ensures)
