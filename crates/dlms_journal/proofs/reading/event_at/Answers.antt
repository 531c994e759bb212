use Rattle.dlms_journal.proofs.Found.{told, told_shorter}
use Rattle.dlms_journal.proofs.reading.event_at.Goals as goal

pub returns-clause-found : goal.returns-clause-found
returns-clause-found c = told (λ x. x.now) c.args.bytes.now c.first.result c.first.ensures.exact c.are_octets.ensures

pub returns-clause-shorter : goal.returns-clause-shorter
returns-clause-shorter c = told_shorter (λ x. x.now) c.args.bytes.now c.first.result c.first.ensures.exact c.are_octets.ensures
