use Rattle.std.proofs.Common.{rules, ◌≡◌, map}
use Rattle.clap.specs.Values.{kind_of}
use Rattle.clap.specs.Words.{fault_of, subcommand_of}
use Rattle.clap.specs.declared.error.kind.ErrorKind.TheVariants.{OutOfMemory}
use Rattle.dlms_words.specs.Grammar.{dlms}
use Rattle.dlms_command.proofs.Usage.{at_any_status, is_usage, not_usage}
use Rattle.dlms_command.proofs.run.Goals as goal

pub returns-clause-usage : goal.returns-clause-usage
returns-clause-usage g c = λ _.
    is_usage (fault_of dlms (map (λ word. word.now) c.args.words.now)) (subcommand_of dlms (map (λ word. word.now) c.args.words.now)) c.in-Err-2.error
    (λ (memory : kind_of c.in-Err-2.error ≡ OutOfMemory). absurd (search rules)) c.in-Err-2.ensures.fault

pub returns-in-Ok-clause-usage : goal.returns-in-Ok-clause-usage
returns-in-Ok-clause-usage g c = not_usage c.finish.result c.outcome-ended.result _ c.finish.ensures

pub returns-in-Ok-clause-done : goal.returns-in-Ok-clause-done
returns-in-Ok-clause-done g c =
    at_any_status c.finish.result _ _ (c.in-Ok.ensures.only_ok, c.in-Ok.ensures.clear)
