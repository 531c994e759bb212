-- Arguments and commands that are added in turn.
use Rattle.std.proofs.Common.{◌≡◌, ◌∙◌, refl, sym, ap, Bool, false, List, [], ◌∷◌, ◌++◌, map, ◌||◌}
use Rattle.std.proofs.lemmas.List.{map-append}
use Rattle.clap.specs.Words.{AddsArg, AddsInTurn, AddsSubcommand, App, app_of, rule_of}
use Rattle.clap.specs.declared.builder.arg.Arg.{Arg}
use Rattle.clap.specs.declared.builder.command.Command.{Command}
use Rattle.clap.specs.declared.builder.command.Command.TheViews.{out-Command as fields_of}
use Rattle.dlms_words.specs.Grammar.{AreAllLocal, AreLocal, with_commands, with_rules}

-- neither of two is global
no_global : (a b : Bool) → a ≡ false → b ≡ false → (a || b) ≡ false
no_global a b first second = rw (first, second) refl

-- their rules are the command's, in turn
pub added : (args : List Arg) (old new : Command) → AreLocal args → AddsInTurn AddsArg old args new → app_of new ≡ with_rules (app_of old) (map rule_of args)
added [] old new local adds = ap app_of (sym adds)
added (arg ∷ args) old new local adds =
    added args adds.0 new local.1 adds.2 ∙ ap (λ (a : App). with_rules a (map rule_of args)) (adds.1.shape local.0)

-- and none is given to the commands below
pub none_global : (args : List Arg) (old new : Command) → AreLocal args → AddsInTurn AddsArg old args new → (fields_of old).has_globals ≡ false → (fields_of new).has_globals ≡ false
none_global [] old new local adds none = ap (λ (c : Command). (fields_of c).has_globals) (sym adds) ∙ none
none_global (arg ∷ args) old new local adds none =
    none_global args adds.0 new local.1 adds.2 (adds.1.globals ∙ no_global _ _ none local.0)

-- the commands are the program's, in turn
pub joined : (commands : List Command) (old new : Command) → AreAllLocal commands → AddsInTurn AddsSubcommand old commands new
    → app_of new ≡ with_commands (app_of old) (map app_of commands)
joined [] old new local adds = ap app_of (sym adds)
joined (command ∷ commands) old new local adds =
    joined commands adds.0 new local.1 adds.2 ∙ ap (λ (a : App). with_commands a (map app_of commands)) (adds.1.shape local.0)

-- one more of them
pub local_more : (args : List Arg) (arg : Arg) → AreLocal args → arg.global ≡ false → AreLocal (args ++ arg ∷ [])
local_more [] arg local is = (is, tt)
local_more (one ∷ args) arg local is = (local.0, local_more args arg local.1 is)

pub all_local_more : (commands : List Command) (command : Command) → AreAllLocal commands → (fields_of command).has_globals ≡ false → AreAllLocal (commands ++ command ∷ [])
all_local_more [] command local is = (is, tt)
all_local_more (one ∷ commands) command local is = (local.0, all_local_more commands command local.1 is)

-- what one list and another come to in turn, with one more of each
pub maps_more : {X Y Z : Type 0} (f : X → Z) (g : Y → Z) (xs : List X) (x : X) (ys : List Y) (y : Y) → map f xs ≡ map g ys → f x ≡ g y → map f (xs ++ x ∷ []) ≡ map g (ys ++ y ∷ [])
maps_more f g xs x ys y front last = map-append f xs (x ∷ []) ∙ ap (λ (t : List _). t ++ f x ∷ []) front ∙ ap (λ (z : _). map g ys ++ z ∷ []) last ∙ sym (map-append g ys (y ∷ []))
