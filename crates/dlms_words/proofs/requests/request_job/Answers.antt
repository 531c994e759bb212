use Rattle.std.proofs.Common.{rules, List, sym, subst, codes}
use Rattle.std.specs.Prelude.{Option}
use Rattle.clap.specs.Words.{Row, Text, subcommand_rows_of}
use Rattle.dlms_words.specs.Words.{Asks}
use Rattle.dlms_words.proofs.WordLemmas.{met_named}
use Rattle.dlms_words.proofs.requests.request_job.Goals as goal

pub returns-then-eq-clause-some : goal.returns-then-eq-clause-some
returns-then-eq-clause-some c =
    let named = met_named (codes "get") (subcommand_rows_of c.args.matches.now) (search rules) in
    subst (λ (m : Option (Text × List Row)). Asks m c.get_job.result) (sym named.1) (c.get_job.ensures named.0 named.1)

pub returns-then-eq-2-clause-some : goal.returns-then-eq-2-clause-some
returns-then-eq-2-clause-some c =
    let named = met_named (codes "list") (subcommand_rows_of c.args.matches.now) (search rules) in
    subst (λ (m : Option (Text × List Row)). Asks m c.list_job.result) (sym named.1) (c.list_job.ensures named.0 named.1)

pub returns-then-eq-3-clause-some : goal.returns-then-eq-3-clause-some
returns-then-eq-3-clause-some c =
    let named = met_named (codes "profile") (subcommand_rows_of c.args.matches.now) (search rules) in
    subst (λ (m : Option (Text × List Row)). Asks m c.profile_job.result) (sym named.1) (c.profile_job.ensures named.0 named.1)

pub returns-then-eq-4-clause-some : goal.returns-then-eq-4-clause-some
returns-then-eq-4-clause-some c =
    let named = met_named (codes "clock") (subcommand_rows_of c.args.matches.now) (search rules) in
    subst (λ (m : Option (Text × List Row)). Asks m c.clock_job.result) (sym named.1) (c.clock_job.ensures named.0 named.1)

pub returns-then-eq-5-clause-some : goal.returns-then-eq-5-clause-some
returns-then-eq-5-clause-some c =
    let named = met_named (codes "set") (subcommand_rows_of c.args.matches.now) (search rules) in
    subst (λ (m : Option (Text × List Row)). Asks m c.set_job.result) (sym named.1) (c.set_job.ensures named.0 named.1)

pub returns-then-eq-6-clause-some : goal.returns-then-eq-6-clause-some
returns-then-eq-6-clause-some c =
    let named = met_named (codes "act") (subcommand_rows_of c.args.matches.now) (search rules) in
    subst (λ (m : Option (Text × List Row)). Asks m c.act_job.result) (sym named.1) (c.act_job.ensures named.0 named.1)
