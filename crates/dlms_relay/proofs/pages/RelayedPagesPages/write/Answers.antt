use Rattle.std.proofs.Common.{Ok, refl, subst}
use Rattle.dlms_pages.specs.Device.{Writes}
use Rattle.dlms_pages.specs.Memory.{Memory, view_of}
use Rattle.dlms_relay.proofs.pages.RelayedPagesPages.write.Goals as goal

pub returns-clause-written : goal.returns-clause-written
returns-clause-written g c honest =
    subst (λ (m : Memory). Writes {T = Unit {0}} c.args.index c.args.bytes.now (view_of m) (view_of c.write.new.self) (Ok tt)) c.check_room.ensures.pages (c.in_ok-write.ensures.written refl)
