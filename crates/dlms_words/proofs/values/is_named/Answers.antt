use Rattle.std.proofs.Common.{sym, ap, ◌∙◌}
use Rattle.std.specs.Prelude.{is_some}
use Rattle.dlms_words.proofs.WordLemmas.{is_some_map}
use Rattle.dlms_words.proofs.values.is_named.Goals as goal

pub returns : goal.returns
returns c = λ rows met. c.is_some.ensures ∙ sym (is_some_map _ _) ∙ ap is_some (c.value_for.ensures rows met)
