use Rattle.std.proofs.Common.{◌≡◌, ◌∙◌, ap, map}
use Rattle.std.proofs.lemmas.Result.{IfOk-weaker}
use Rattle.clap.specs.Words.{App, app_of}
use Rattle.dlms_words.specs.Grammar.{commands, dlms, with_commands}
use Rattle.dlms_words.proofs.grammar.program.Goals as goal

pub returns : goal.returns
returns c =
    let apps : map app_of c.in_ok-commands.commands.items ≡ commands = c.in_ok-commands.ensures.apps in
    IfOk-weaker c.with_commands.result (λ new. app_of new ≡ with_commands (app_of c.top.result) (map app_of c.in_ok-commands.commands.items)) (λ new. app_of new ≡ dlms)
    (λ new is. is ∙ (ap (with_commands (app_of c.top.result)) apps ∙ ap (λ (a : App). with_commands a commands) c.top.ensures)) c.with_commands.ensures
