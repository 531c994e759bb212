use Rattle.std.proofs.Common.{◌≡◌, ◌∙◌, sym, ap, option_map}
use Rattle.clap.proofs.WalkLemmas.{first_value-rows}
use Rattle.clap.specs.Words.{found_of}
use Rattle.clap.specs.Walk.{rows_of}
use Rattle.clap.specs.Words.{first_of}
use Rattle.dlms_words.proofs.WordLemmas.{same_some}
use Rattle.dlms_words.proofs.values.value_for.Goals as goal

pub returns : goal.returns
returns c = λ rows is.
    let met : rows_of (found_of c.in_ok-subcommand_matches.field-0.now) ≡ rows = same_some (sym c.in_ok-subcommand_matches.ensures.rows ∙ ap (option_map (λ p. p.1)) is) in
    c.get_str.ensures ∙ first_value-rows (found_of c.in_ok-subcommand_matches.field-0.now) c.args.id.now ∙ ap (first_of c.args.id.now) met
