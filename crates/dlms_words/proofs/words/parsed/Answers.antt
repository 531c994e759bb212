use Rattle.std.proofs.Common.{◌≡◌, List, ap, map, subst, true}
use Rattle.std.proofs.lemmas.Result.{IfOk-weaker}
use Rattle.clap.specs.Words.{App, FailsBy, HasMatchesOf, Text, app_of, fault_of, is_simple_and_free, subcommand_of, subcommand_rows_of}
use Rattle.dlms_words.specs.Grammar.{dlms}
use Rattle.dlms_words.proofs.WordLemmas.{matched}
use Rattle.dlms_words.proofs.words.parsed.Goals as goal

pub returns-clause-kinds : goal.returns-clause-kinds
returns-clause-kinds c =
    let free : is_simple_and_free (app_of c.in_ok-program.field-0) ≡ true = ap is_simple_and_free c.in_ok-program.ensures in
    subst (λ (a : App). FailsBy (fault_of a (map (λ word. word.now) c.args.words.now)) c.try_get_matches_from.result) c.in_ok-program.ensures (c.try_get_matches_from.ensures.kinds free)

pub returns-clause-matches : goal.returns-clause-matches
returns-clause-matches c =
    let words : List Text = map (λ word. word.now) c.args.words.now in
    IfOk-weaker c.try_get_matches_from.result (HasMatchesOf (app_of c.in_ok-program.field-0) words) (λ m. subcommand_rows_of m ≡ subcommand_of dlms words)
    (λ m has. matched (app_of c.in_ok-program.field-0) words m c.in_ok-program.ensures has) c.try_get_matches_from.ensures.matches
