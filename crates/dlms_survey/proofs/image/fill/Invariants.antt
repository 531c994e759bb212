use Rattle.std.proofs.Common.{◌<◌, ℕ}
use Rattle.dlms_pages.specs.Device.{page_at}
use Rattle.dlms_survey.specs.Pages.{IsPageIn}
use Rattle.dlms_survey.proofs.image.fill.Given as goal

abbrev pub invariant-loop-index : goal.invariant-loop-index
invariant-loop-index l = (k : ℕ) → k < l.index → IsPageIn k l.bytes (page_at l.pages k)
