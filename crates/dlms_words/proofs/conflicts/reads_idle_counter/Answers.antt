use Rattle.std.proofs.Common.{rules, ◌∙◌, sym, ap, List, Option, Bool, IsTrue, is_some, codes, not, subst}
use Rattle.clap.specs.Words.{Row, Text, first_of, subcommand_rows_of}
use Rattle.dlms_words.proofs.WordLemmas.{met_named, none_if_not_some, same_some}
use Rattle.dlms_words.proofs.conflicts.reads_idle_counter.Goals as goal

pub returns-then-reads_counter : goal.returns-then-reads_counter
returns-then-reads_counter c =
    let named = met_named c.in-Some.command.now (subcommand_rows_of c.args.matches.now) (search rules) in
    let has = c.is_named-is_protected.ensures named.0 named.1 in (
      λ idle. (
        c.in-Some.command.now,
        named.0,
        named.1,
        subst (λ (b : Bool). IsTrue b) (c.is_named-reads_counter.ensures named.0 named.1) c.if-reads_counter.true,
        none_if_not_some (first_of (codes "security") named.0) (subst (λ (b : Bool). IsTrue (not b)) has idle),
      ),
      λ reads. subst (λ (b : Bool). IsTrue (not b)) (sym has) (subst (λ (o : Option Text). IsTrue (not (is_some o))) (sym (ap (λ (met : Text × List Row). first_of (codes "security") met.1) (same_some (sym named.1 ∙ reads.2)) ∙ reads.4)) (search rules)),
    )

pub returns-else-reads_counter : goal.returns-else-reads_counter
returns-else-reads_counter c =
    let named = met_named c.in-Some.command.now (subcommand_rows_of c.args.matches.now) (search rules) in
    let is = c.is_named-reads_counter.ensures named.0 named.1 in (
      λ idle. cc,
      λ reads. subst (λ (b : Bool). IsTrue b) (sym is) (subst (λ (met : Text × List Row). IsTrue (is_some (first_of (codes "counter-from") met.1))) (same_some (sym reads.2 ∙ named.1)) reads.3),
    )
