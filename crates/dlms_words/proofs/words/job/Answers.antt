use Rattle.std.proofs.Common.{◌∙◌, List, map, sym, subst}
use Rattle.clap.specs.Words.{subcommand_rows_of}
use Rattle.dlms_words.specs.Words.{Asks, Met}
use Rattle.dlms_words.proofs.WordLemmas.{polls_else}
use Rattle.dlms_words.proofs.words.job.Goals as goal

pub returns-in-Some-clause-ok : goal.returns-in-Some-clause-ok
returns-in-Some-clause-ok c = subst (λ (m : Met). Asks m c.in-Some.job) c.in_ok-matches.ensures.matches c.in-Some.ensures.some

pub returns-in-Some-request_job-clause-ok : goal.returns-in-Some-request_job-clause-ok
returns-in-Some-request_job-clause-ok c = subst (λ (m : Met). Asks m c.in-Some-request_job.job) c.in_ok-matches.ensures.matches c.in-Some-request_job.ensures.some

pub returns-in-Some-other_job-clause-ok : goal.returns-in-Some-other_job-clause-ok
returns-in-Some-other_job-clause-ok c = subst (λ (m : Met). Asks m c.in-Some-other_job.job) c.in_ok-matches.ensures.matches c.in-Some-other_job.ensures.some

pub returns-clause-ok : goal.returns-clause-ok
returns-clause-ok c =
    let meters = c.meter_job.ensures.none c.in-None.is in
    let asks = c.request_job.ensures.none c.in-None-request_job.is in
    let looks = c.other_job.ensures.none c.in-None-other_job.is in
    let found = polls_else (map (λ word. word.now) c.args.words.now) (subcommand_rows_of c.in_ok-matches.matches) c.in_ok-matches.ensures.none c.in_ok-matches.ensures.matches meters asks looks in
    let met = c.in_ok-matches.ensures.matches ∙ found.1 in
    subst (λ (m : Met). Asks m c.poll_job.result) (sym found.1) (c.poll_job.ensures found.0 met)
