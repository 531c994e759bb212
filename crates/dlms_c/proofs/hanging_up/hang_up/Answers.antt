use Rattle.dlms_c.proofs.hanging_up.hang_up.Goals as goal

pub returns : goal.returns
returns g c = (c.end_link.new.meter, c.end_link-2.new.meter, c.end_link-3.new.meter, c.end_link.ensures, c.end_link-2.ensures, c.end_link-3.ensures, c.idle.ensures.run)
