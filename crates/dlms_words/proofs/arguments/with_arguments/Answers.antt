use Rattle.std.proofs.Common.{◌≡◌, ◌∙◌, false, ap, List, map}
use Rattle.std.proofs.lemmas.Result.{IfOk-weaker}
use Rattle.clap.specs.Words.{AddsArg, AddsInTurn, Rule, app_of}
use Rattle.clap.specs.declared.builder.command.Command.TheViews.{out-Command as fields_of}
use Rattle.dlms_words.specs.Grammar.{rule_for, with_rules}
use Rattle.dlms_words.proofs.ArgumentLemmas.{added, none_global}
use Rattle.dlms_words.proofs.arguments.with_arguments.Goals as goal

pub returns-clause-shape : goal.returns-clause-shape
returns-clause-shape c =
    IfOk-weaker c.args-2.result (AddsInTurn AddsArg c.args.command c.in_ok-arguments.arguments.items) (λ new. app_of new ≡ with_rules (app_of c.args.command) (map rule_for c.args.given.now))
    (λ new adds. added c.in_ok-arguments.arguments.items c.args.command new c.in_ok-arguments.ensures.local adds ∙ ap (λ (rules : List Rule). with_rules (app_of c.args.command) rules) c.in_ok-arguments.ensures.rules) c.args-2.ensures

pub returns-clause-local : goal.returns-clause-local
returns-clause-local c = λ none.
    IfOk-weaker c.args-2.result (AddsInTurn AddsArg c.args.command c.in_ok-arguments.arguments.items) (λ new. (fields_of new).has_globals ≡ false)
    (λ new adds. none_global c.in_ok-arguments.arguments.items c.args.command new c.in_ok-arguments.ensures.local adds none) c.args-2.ensures
