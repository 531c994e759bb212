use Rattle.std.proofs.Common.{rules}
use Rattle.dlms_polling.proofs.keeping.report_any.Goals as goal

pub returns : goal.returns
returns g c = (search rules, λ some. (c.unwrap_or.result, c.report.ensures))
