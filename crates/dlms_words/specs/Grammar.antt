-- The program's commands, and what each may be given.
use Rattle.std.specs.Prelude.{◌≡◌, ℕ, pos, List, [], ◌∷◌, Some, codes, map, true, false}
use Rattle.clap.specs.Words.{App, Rule, Text, new_app, new_rule, with_rule, with_subcommand}
use Rattle.clap.specs.declared.builder.action.ArgAction.TheVariants.{Append, SetTrue}
use Rattle.clap.specs.declared.builder.arg.Arg.{Arg}
use Rattle.clap.specs.declared.builder.command.Command.{Command}
use Rattle.clap.specs.declared.builder.command.Command.TheViews.{out-Command as fields_of}
use Rattle.clap.specs.declared.builder.value_parser.ValueParser.TheVariants as parser
use Rattle.dlms_words.specs.declared.arguments.Argument.{Argument}
use Rattle.dlms_words.specs.declared.arguments.Kind.{Kind}
use Rattle.dlms_words.specs.declared.arguments.Kind.TheVariants.{Value, Wanted, Flag, ShortFlag, Option as OptionOf, Needed, Options, Number}
use Rattle.dlms_words.specs.declared.table.CommandWords.{CommandWords}

-- ---- what a command may be given

-- a positional argument: it may be left out, or is required
abbrev pub value_rule : Text → Rule
value_rule name = new_rule name

abbrev pub wanted_rule : Text → Rule
wanted_rule name = record (new_rule name) { required = true }

-- a flag, and an option with a value, by this name after two dashes
abbrev pub flag_rule : Text → Rule
flag_rule name = record (new_rule name) { long = Some name; action = Some SetTrue }

-- and a flag that also has a letter after one dash
abbrev pub short_flag_rule : Text → ℕ → Rule
short_flag_rule name letter = record (flag_rule name) { short = Some letter }

abbrev pub option_rule : Text → Rule
option_rule name = record (new_rule name) { long = Some name; value_names = 1 }

-- an option that is required
abbrev pub needed_rule : Text → Rule
needed_rule name = record (option_rule name) { required = true }

-- an option that may be given several times
abbrev pub options_rule : Text → Rule
options_rule name = record (option_rule name) { action = Some Append }

-- an option whose value is a number from `least` to `most`
abbrev pub number_rule : Text → (least most : ℕ) → Rule
number_rule name least most =
    record (option_rule name) { parser = Some (parser.Signed (pos least) (pos most)) }

-- the rule of an argument of the table
abbrev pub rule_as : Kind → Text → Rule
rule_as Value name = value_rule name
rule_as Wanted name = wanted_rule name
rule_as Flag name = flag_rule name
rule_as (ShortFlag letter) name = short_flag_rule name letter
rule_as (OptionOf value) name = option_rule name
rule_as (Needed value) name = needed_rule name
rule_as (Options value) name = options_rule name
rule_as (Number value least most) name = number_rule name least most

abbrev pub rule_for : Argument → Rule
rule_for argument = rule_as argument.kind argument.name.now

-- all of these, one after another
abbrev pub with_rules : App → List Rule → App
with_rules app [] = app
with_rules app (rule ∷ rules) = with_rules (with_rule app rule) rules

-- none of these is given to the commands below too
abbrev pub AreLocal : List Arg → Type 0
AreLocal [] = Unit {0}
AreLocal (arg ∷ args) = (arg.global ≡ false) × AreLocal args

abbrev pub AreAllLocal : List Command → Type 0
AreAllLocal [] = Unit {0}
AreAllLocal (command ∷ commands) = ((fields_of command).has_globals ≡ false) × AreAllLocal commands

-- a command of the table
abbrev pub app_for : CommandWords → App
app_for words = with_rules (with_rules (new_app words.name.now) (map rule_for words.arguments.now))
    (map rule_for words.more.now)

abbrev pub with_commands : App → List App → App
with_commands app [] = app
with_commands app (command ∷ commands) = with_commands (with_subcommand app command.top) commands

-- ---- the commands

-- the meter that is polled, and how it is reached
abbrev pub polling_rules : List Rule
polling_rules =
    option_rule (codes "secret-file") ∷ number_rule (codes "timeout") 1 3600
    ∷ number_rule (codes "retries") 0 100 ∷ flag_rule (codes "wrapper")
    ∷ number_rule (codes "client") 1 127 ∷ option_rule (codes "server") ∷ flag_rule (codes "wide")
    ∷ number_rule (codes "information") 128 2030 ∷ option_rule (codes "security")
    ∷ option_rule (codes "counter-from") ∷ []

-- the meter to ask, the client that asks, whether the frames are explained, and the longest value
abbrev pub asking_rules : List Rule
asking_rules =
    option_rule (codes "server") ∷ flag_rule (codes "wide")
    ∷ number_rule (codes "information") 128 2030 ∷ flag_rule (codes "wrapper")
    ∷ number_rule (codes "timeout") 1 3600 ∷ number_rule (codes "retries") 0 100
    ∷ number_rule (codes "client") 1 127 ∷ option_rule (codes "secret-file")
    ∷ option_rule (codes "security") ∷ option_rule (codes "counter-from")
    ∷ short_flag_rule (codes "verbose") 118 ∷ number_rule (codes "most") 1 16777216 ∷ []

abbrev pub format_command : App
format_command = with_rules (new_app (codes "format"))
    (wanted_rule (codes "FILE") ∷ flag_rule (codes "demo") ∷ flag_rule (codes "demo-day")
    ∷ flag_rule (codes "force") ∷ [])

abbrev pub replay_command : App
replay_command = with_rules (new_app (codes "replay"))
    (value_rule (codes "FILE") ∷ [])

abbrev pub loopback_command : App
loopback_command = with_rules (new_app (codes "loopback"))
    (option_rule (codes "readings") ∷ number_rule (codes "stops") 0 100 ∷ [])

-- a load in watts, and times in seconds
abbrev pub serve_command : App
serve_command = with_rules (new_app (codes "serve"))
    (wanted_rule (codes "FILE") ∷ option_rule (codes "listen") ∷ option_rule (codes "line")
    ∷ flag_rule (codes "wrapper") ∷ number_rule (codes "load") 0 1000000
    ∷ number_rule (codes "tick") 1 60 ∷ flag_rule (codes "quiet")
    ∷ number_rule (codes "idle") 1 86400 ∷ number_rule (codes "turn") 1 86400
    ∷ number_rule (codes "inactivity") 1 86400 ∷ [])

abbrev pub listen_command : App
listen_command = with_rules (new_app (codes "listen"))
    (value_rule (codes "LINE") ∷ option_rule (codes "listen") ∷ option_rule (codes "keys")
    ∷ flag_rule (codes "json") ∷ option_rule (codes "csv") ∷ option_rule (codes "readings")
    ∷ number_rule (codes "count") 1 1000000000 ∷ flag_rule (codes "quiet") ∷ [])

abbrev pub poll_command : App
poll_command = with_rules (with_rules (new_app (codes "poll"))
    (wanted_rule (codes "PLACE") ∷ option_rule (codes "readings") ∷ flag_rule (codes "public")
    ∷ flag_rule (codes "reader") ∷ number_rule (codes "deadline") 1 86400
    ∷ number_rule (codes "rows-per-request") 2 100000 ∷ flag_rule (codes "check-clock")
    ∷ number_rule (codes "ahead") 0 31536000
    ∷ flag_rule (codes "strict") ∷ options_rule (codes "expect") ∷ flag_rule (codes "json")
    ∷ flag_rule (codes "quiet") ∷ []))
    polling_rules

abbrev pub collect_command : App
collect_command = with_rules (new_app (codes "collect"))
    (wanted_rule (codes "LIST") ∷ option_rule (codes "readings")
    ∷ option_rule (codes "get") ∷ flag_rule (codes "clock") ∷ flag_rule (codes "set")
    ∷ number_rule (codes "threshold") 0 86400 ∷ option_rule (codes "secret-file")
    ∷ number_rule (codes "client") 1 127 ∷ number_rule (codes "at-once") 1 100000
    ∷ number_rule (codes "deadline") 1 86400
    ∷ number_rule (codes "every") 1 31536000 ∷ number_rule (codes "retries") 0 100
    ∷ option_rule (codes "failed") ∷ flag_rule (codes "quiet") ∷ flag_rule (codes "json") ∷ [])

abbrev pub get_command : App
get_command = with_rules (with_rules (new_app (codes "get"))
    (wanted_rule (codes "PLACE") ∷ wanted_rule (codes "NAMES")
    ∷ number_rule (codes "class") 1 65535 ∷ flag_rule (codes "raw") ∷ flag_rule (codes "json")
    ∷ []))
    asking_rules

abbrev pub list_command : App
list_command = with_rules (with_rules (new_app (codes "list"))
    (wanted_rule (codes "PLACE") ∷ flag_rule (codes "long") ∷ flag_rule (codes "quiet")
    ∷ flag_rule (codes "json") ∷ []))
    asking_rules

abbrev pub profile_command : App
profile_command = with_rules (with_rules (new_app (codes "profile"))
    (wanted_rule (codes "PLACE") ∷ value_rule (codes "NAME") ∷ option_rule (codes "from")
    ∷ option_rule (codes "to") ∷ number_rule (codes "last") 1 1000000 ∷ flag_rule (codes "csv")
    ∷ flag_rule (codes "json") ∷ flag_rule (codes "raw") ∷ flag_rule (codes "quiet") ∷ []))
    asking_rules

abbrev pub clock_command : App
clock_command = with_rules (with_rules (new_app (codes "clock"))
    (wanted_rule (codes "PLACE") ∷ flag_rule (codes "set")
    ∷ number_rule (codes "threshold") 0 86400 ∷ flag_rule (codes "json") ∷ []))
    asking_rules

abbrev pub set_command : App
set_command = with_rules (with_rules (new_app (codes "set"))
    (wanted_rule (codes "PLACE") ∷ wanted_rule (codes "NAME") ∷ wanted_rule (codes "VALUE")
    ∷ number_rule (codes "class") 1 65535 ∷ flag_rule (codes "json") ∷ []))
    asking_rules

abbrev pub act_command : App
act_command = with_rules (with_rules (new_app (codes "act"))
    (wanted_rule (codes "PLACE") ∷ wanted_rule (codes "NAME") ∷ value_rule (codes "VALUE")
    ∷ number_rule (codes "class") 1 65535 ∷ flag_rule (codes "json") ∷ []))
    asking_rules

abbrev pub explain_command : App
explain_command = with_rules (new_app (codes "explain"))
    (value_rule (codes "FILE") ∷ flag_rule (codes "raw") ∷ flag_rule (codes "short")
    ∷ flag_rule (codes "hex") ∷ flag_rule (codes "json") ∷ option_rule (codes "keys")
    ∷ option_rule (codes "color") ∷ option_rule (codes "html") ∷ option_rule (codes "page")
    ∷ flag_rule (codes "quiet") ∷ [])

abbrev pub show_command : App
show_command = with_rules (new_app (codes "show"))
    (wanted_rule (codes "FILE") ∷ flag_rule (codes "plot") ∷ flag_rule (codes "json") ∷ [])

abbrev pub plot_command : App
plot_command = with_rules (new_app (codes "plot"))
    (wanted_rule (codes "READINGS") ∷ flag_rule (codes "svg") ∷ flag_rule (codes "json")
    ∷ option_rule (codes "register") ∷ option_rule (codes "from")
    ∷ option_rule (codes "to") ∷ flag_rule (codes "quiet") ∷ [])

-- what is to be done, and the file of settings
abbrev pub keys_command : App
keys_command = with_rules (new_app (codes "keys"))
    (wanted_rule (codes "ACTION") ∷ wanted_rule (codes "FILE")
    ∷ number_rule (codes "first") 0 4294967294 ∷ [])

abbrev pub names_command : App
names_command = with_rules (new_app (codes "names"))
    (wanted_rule (codes "WORD") ∷ [])

abbrev pub man_command : App
man_command = with_rules (new_app (codes "man"))
    []

abbrev pub completions_command : App
completions_command = with_rules (new_app (codes "completions"))
    (wanted_rule (codes "SHELL") ∷ [])

-- the program has a version, and wants one of its commands
abbrev pub top : App
top = record (new_app (codes "dlms")) {
  top = record (new_app (codes "dlms")).top {
    has_version = true;
    disable_help_subcommand = true;
    arg_required_else_help = true;
    subcommand_required = true;
  };
}

abbrev pub commands : List App
commands = format_command ∷ replay_command ∷ loopback_command ∷ serve_command ∷ listen_command
    ∷ poll_command ∷ collect_command ∷ get_command ∷ list_command ∷ profile_command ∷ clock_command
    ∷ set_command
    ∷ act_command ∷ explain_command ∷ show_command ∷ plot_command ∷ keys_command ∷ names_command
    ∷ man_command ∷ completions_command ∷ []

abbrev pub dlms : App
dlms = with_commands top commands
