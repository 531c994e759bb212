use Rattle.dlms_data.proofs.Days.{of_parts}
use Rattle.dlms_data.proofs.date_time.first_day.Goals as goal

pub returns : goal.returns
returns c = (of_parts c.date.result 2000 1 1 c.date.ensures).1
