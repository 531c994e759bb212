use Rattle.dlms_relay.proofs.LoadLemmas.{Loads}
use Rattle.dlms_relay.proofs.loading.load_pages.Given as goal

abbrev pub invariant-loop-index : goal.invariant-loop-index
invariant-loop-index g l = Loads l.octets l.count l.index l.pages l.choices.items
