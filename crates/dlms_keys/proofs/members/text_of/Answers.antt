use Rattle.std.proofs.Common.{◌∙◌, sym, ap, inr, refl, option_map}
use Rattle.toml.specs.View.{view}
use Rattle.dlms_keys.proofs.Lawful.{no_text}
use Rattle.dlms_keys.proofs.members.text_of.Goals as goal

pub returns-in-None-as_str : goal.returns-in-None-as_str
returns-in-None-as_str c =
    let is = c.in-Some.is in
    let none = c.in-None-as_str.is in
    let found = sym c.value_of.ensures ∙ ap (option_map (λ v. view v.now)) is in
    let empty = sym c.as_str.ensures ∙ ap Rattle.std.specs.Option.option_copied none in
    inr (refl, (view c.in-Some.value.now, found, no_text c.args.setting (view c.in-Some.value.now) c.requires empty))
