use Rattle.std.proofs.Common.{◌≡◌, ◌++◌, take}
use Rattle.dlms_text.specs.Json.{pairs_of}
use Rattle.dlms_text.proofs.json.append_pairs.Given as goal

abbrev pub invariant-octets : goal.invariant-octets
invariant-octets g l = l.text.items ≡ l.initial.text.items ++ pairs_of (take l.byte-index l.bytes)
