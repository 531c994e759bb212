use Rattle.std.proofs.Common.{◌≡◌, ◌∙◌, sym, ap, option_map}
use Rattle.clap.proofs.WalkLemmas.{raw_values-rows}
use Rattle.clap.specs.Words.{all_of, found_of}
use Rattle.clap.specs.Walk.{rows_of}
use Rattle.dlms_words.proofs.WordLemmas.{nth_none, nth_some, same_some}
use Rattle.dlms_words.proofs.values.nth_for.Goals as goal

pub returns-in_err-texts : goal.returns-in_err-texts
returns-in_err-texts c = λ rows is.
    let met : rows_of (found_of c.in_ok-subcommand_matches.field-0.now) ≡ rows = same_some (sym c.in_ok-subcommand_matches.ensures.rows ∙ ap (option_map (λ p. p.1)) is) in
    ap (option_map (λ v. v.now)) c.from_residual-in_err-texts.ensures
    ∙ nth_none c.args.place (all_of c.args.id.now rows) (c.in_err-texts.ensures ∙ raw_values-rows (found_of c.in_ok-subcommand_matches.field-0.now) c.args.id.now ∙ ap (all_of c.args.id.now) met)

pub returns : goal.returns
returns c = λ rows is.
    let met : rows_of (found_of c.in_ok-subcommand_matches.field-0.now) ≡ rows = same_some (sym c.in_ok-subcommand_matches.ensures.rows ∙ ap (option_map (λ p. p.1)) is) in
    ap (option_map (λ v. v.now)) c.text_at.ensures
    ∙ nth_some c.args.place c.in_ok-texts.texts.now (all_of c.args.id.now rows) (c.in_ok-texts.ensures ∙ raw_values-rows (found_of c.in_ok-subcommand_matches.field-0.now) c.args.id.now ∙ ap (all_of c.args.id.now) met)
