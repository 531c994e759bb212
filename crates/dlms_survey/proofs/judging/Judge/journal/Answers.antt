use Rattle.dlms_pages.specs.Device.{page_at}
use Rattle.dlms_survey.proofs.judging.Judge.journal.Goals as goal

pub returns-in-Ok-2-clause-says : goal.returns-in-Ok-2-clause-says
returns-in-Ok-2-clause-says g c =
    c.records_reason.ensures.says c.args.self.now.image.now c.args.page (page_at c.args.self.now.image.now.pages c.args.page)
