use Rattle.std.proofs.Common.{sym, ap, ◌∙◌}
use Rattle.std.specs.Prelude.{is_some}
use Rattle.dlms_words.proofs.WordLemmas.{is_some_map}
use Rattle.dlms_words.proofs.addresses.names_carrier.Goals as goal

pub returns : goal.returns
returns c = c.is_some.ensures ∙ sym (is_some_map _ _) ∙ ap is_some c.split_place.ensures.carrier
