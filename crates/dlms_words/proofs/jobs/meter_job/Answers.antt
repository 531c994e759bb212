use Rattle.std.proofs.Common.{rules, List, sym, subst, codes}
use Rattle.std.specs.Prelude.{Option}
use Rattle.clap.specs.Words.{Row, Text, subcommand_rows_of}
use Rattle.dlms_words.specs.Words.{Asks}
use Rattle.dlms_words.proofs.WordLemmas.{met_named}
use Rattle.dlms_words.proofs.jobs.meter_job.Goals as goal

pub returns-then-eq-clause-some : goal.returns-then-eq-clause-some
returns-then-eq-clause-some c =
    let named = met_named (codes "format") (subcommand_rows_of c.args.matches.now) (search rules) in
    subst (λ (m : Option (Text × List Row)). Asks m c.format_job.result) (sym named.1) (c.format_job.ensures named.0 named.1)

pub returns-then-eq-2-clause-some : goal.returns-then-eq-2-clause-some
returns-then-eq-2-clause-some c =
    let named = met_named (codes "replay") (subcommand_rows_of c.args.matches.now) (search rules) in
    subst (λ (m : Option (Text × List Row)). Asks m c.replay_job.result) (sym named.1) (c.replay_job.ensures named.0 named.1)

pub returns-then-eq-3-clause-some : goal.returns-then-eq-3-clause-some
returns-then-eq-3-clause-some c =
    let named = met_named (codes "loopback") (subcommand_rows_of c.args.matches.now) (search rules) in
    subst (λ (m : Option (Text × List Row)). Asks m c.loopback_job.result) (sym named.1) (c.loopback_job.ensures named.0 named.1)

pub returns-then-eq-4-clause-some : goal.returns-then-eq-4-clause-some
returns-then-eq-4-clause-some c =
    let named = met_named (codes "serve") (subcommand_rows_of c.args.matches.now) (search rules) in
    subst (λ (m : Option (Text × List Row)). Asks m c.serve_job.result) (sym named.1) (c.serve_job.ensures named.0 named.1)

pub returns-then-eq-5-clause-some : goal.returns-then-eq-5-clause-some
returns-then-eq-5-clause-some c =
    let named = met_named (codes "listen") (subcommand_rows_of c.args.matches.now) (search rules) in
    subst (λ (m : Option (Text × List Row)). Asks m c.listen_job.result) (sym named.1) (c.listen_job.ensures named.0 named.1)

pub returns-then-eq-6-clause-some : goal.returns-then-eq-6-clause-some
returns-then-eq-6-clause-some c =
    let named = met_named (codes "collect") (subcommand_rows_of c.args.matches.now) (search rules) in
    subst (λ (m : Option (Text × List Row)). Asks m c.collect_job.result) (sym named.1) (c.collect_job.ensures named.0 named.1)
