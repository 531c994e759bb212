-- proofs/order/Order/ask_clock
use Rattle.dlms_collecting.proofs.ClockLemmas.{new_clock_job}
use Rattle.dlms_collecting.proofs.order.Order.ask_clock.Goals as goal

pub returns : goal.returns
returns g c = new_clock_job _ _ _ _ _ _ c.in_ok-job.ensures c.new-script.ensures c.meter_second-begins.ensures
