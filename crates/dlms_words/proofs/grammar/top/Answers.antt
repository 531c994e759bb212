use Rattle.std.proofs.Common.{◌≡◌, ◌∙◌, ap, codes, true}
use Rattle.clap.specs.Words.{App, app_of, new_app}
use Rattle.clap.specs.Simple.{app_of_fields}
use Rattle.dlms_words.proofs.grammar.top.Goals as goal

pub returns : goal.returns
returns c =
    let about : app_of c.about.result ≡ new_app (codes "dlms") = ap app_of_fields c.about.ensures ∙ c.new.ensures.app in
    let version : app_of c.version.result ≡ record (app_of c.about.result) { top = record (app_of c.about.result).top { has_version = true } } = ap app_of_fields c.version.ensures in
    let no_help : app_of c.disable_help_subcommand.result ≡ record (app_of c.version.result) { top = record (app_of c.version.result).top { disable_help_subcommand = true } } = ap app_of_fields c.disable_help_subcommand.ensures in
    let helps : app_of c.arg_required_else_help.result ≡ record (app_of c.disable_help_subcommand.result) { top = record (app_of c.disable_help_subcommand.result).top { arg_required_else_help = true } } = ap app_of_fields c.arg_required_else_help.ensures in
    let wants : app_of c.subcommand_required.result ≡ record (app_of c.arg_required_else_help.result) { top = record (app_of c.arg_required_else_help.result).top { subcommand_required = true } } = ap app_of_fields c.subcommand_required.ensures in
    wants
    ∙ ap (λ (a : App). record a { top = record a.top { subcommand_required = true } }) (helps
    ∙ ap (λ (a : App). record a { top = record a.top { arg_required_else_help = true } }) (no_help
    ∙ ap (λ (a : App). record a { top = record a.top { disable_help_subcommand = true } }) (version
    ∙ ap (λ (a : App). record a { top = record a.top { has_version = true } }) about)))
