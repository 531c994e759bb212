use Rattle.dlms_store.proofs.Later.{no_call, then_later}
use Rattle.dlms_store.proofs.laws.nothing_goes_back.Goals as goal

pub returns-clause-none : goal.returns-clause-none
returns-clause-none g c = no_call c.args._first.now

pub returns-clause-more : goal.returns-clause-more
returns-clause-more g c = then_later c.args._first.now c.args._second.now c.args._third.now
