use Rattle.std.proofs.Common.{◌≡◌, ◌++◌, take}
use Rattle.dlms_text.specs.Json.{letters_of}
use Rattle.dlms_text.proofs.json.append_text.Given as goal

abbrev pub invariant-octets : goal.invariant-octets
invariant-octets g l = l.text.items ≡ l.initial.text.items ++ letters_of (take l.byte-index l.bytes)
