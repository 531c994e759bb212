use Rattle.std.proofs.Common.{◌≡◌, map}
use Rattle.std.proofs.lemmas.Result.{IfOk-weaker}
use Rattle.clap.specs.Words.{AddsInTurn, AddsSubcommand, app_of}
use Rattle.dlms_words.specs.Grammar.{with_commands}
use Rattle.dlms_words.proofs.ArgumentLemmas.{joined}
use Rattle.dlms_words.proofs.arguments.with_commands.Goals as goal

pub returns : goal.returns
returns c =
    IfOk-weaker c.subcommands.result (AddsInTurn AddsSubcommand c.args.program c.args.commands.items) (λ new. app_of new ≡ with_commands (app_of c.args.program) (map app_of c.args.commands.items))
    (λ new adds. joined c.args.commands.items c.args.program new c.requires adds) c.subcommands.ensures
