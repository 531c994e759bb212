use Rattle.std.proofs.Common.{rules, List, sym, subst, codes}
use Rattle.std.specs.Prelude.{Option}
use Rattle.clap.specs.Words.{Row, Text, subcommand_rows_of}
use Rattle.dlms_words.specs.Words.{Asks}
use Rattle.dlms_words.proofs.WordLemmas.{met_named}
use Rattle.dlms_words.proofs.jobs.other_job.Goals as goal

pub returns-then-eq-clause-some : goal.returns-then-eq-clause-some
returns-then-eq-clause-some c =
    let named = met_named (codes "explain") (subcommand_rows_of c.args.matches.now) (search rules) in
    subst (λ (m : Option (Text × List Row)). Asks m c.explain_job.result) (sym named.1) (c.explain_job.ensures named.0 named.1)

pub returns-then-eq-2-clause-some : goal.returns-then-eq-2-clause-some
returns-then-eq-2-clause-some c =
    let named = met_named (codes "show") (subcommand_rows_of c.args.matches.now) (search rules) in
    subst (λ (m : Option (Text × List Row)). Asks m c.show_job.result) (sym named.1) (c.show_job.ensures named.0 named.1)

pub returns-then-eq-3-clause-some : goal.returns-then-eq-3-clause-some
returns-then-eq-3-clause-some c =
    let named = met_named (codes "plot") (subcommand_rows_of c.args.matches.now) (search rules) in
    subst (λ (m : Option (Text × List Row)). Asks m c.plot_job.result) (sym named.1) (c.plot_job.ensures named.0 named.1)

pub returns-then-eq-4-clause-some : goal.returns-then-eq-4-clause-some
returns-then-eq-4-clause-some c =
    let named = met_named (codes "keys") (subcommand_rows_of c.args.matches.now) (search rules) in
    subst (λ (m : Option (Text × List Row)). Asks m c.keys_job.result) (sym named.1) (c.keys_job.ensures named.0 named.1)

pub returns-then-eq-5-clause-some : goal.returns-then-eq-5-clause-some
returns-then-eq-5-clause-some c =
    let named = met_named (codes "names") (subcommand_rows_of c.args.matches.now) (search rules) in
    subst (λ (m : Option (Text × List Row)). Asks m c.names_job.result) (sym named.1) (c.names_job.ensures named.0 named.1)

pub returns-then-eq-6-clause-some : goal.returns-then-eq-6-clause-some
returns-then-eq-6-clause-some c = met_named (codes "man") (subcommand_rows_of c.args.matches.now) (search rules)

pub returns-then-eq-7-clause-some : goal.returns-then-eq-7-clause-some
returns-then-eq-7-clause-some c =
    let named = met_named (codes "completions") (subcommand_rows_of c.args.matches.now) (search rules) in
    subst (λ (m : Option (Text × List Row)). Asks m c.completions_job.result) (sym named.1) (c.completions_job.ensures named.0 named.1)
