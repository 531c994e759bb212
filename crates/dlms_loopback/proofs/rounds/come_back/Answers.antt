use Rattle.std.proofs.Common.{refl, subst}
use Rattle.dlms_pages.specs.Device.{Image}
use Rattle.dlms_store.specs.Cause.{IsCause}
use Rattle.dlms_store.specs.Fitting.{IsOpened}
use Rattle.dlms_loopback.proofs.StopLemmas.{found_by, loses_unsynced, seen_first}
use Rattle.dlms_loopback.proofs.rounds.come_back.Goals as goal

pub returns-in-Ok : goal.returns-in-Ok
returns-in-Ok c = record {
  closed = c.close.result;
  cut = c.cut.result;
  closes = record { gives_up = c.close.ensures.run; nothing = c.close.ensures.nothing; later = c.close.ensures.later };
  loses = loses_unsynced c.close.result c.cut.result c.cut.ensures.count c.cut.ensures.pages c.cut.ensures.calls;
  opened = subst (λ (image : Image). IsOpened image c.in-Ok.meter.store) (seen_first c.cut.result.first c.cut.result.calls c.cut.ensures.calls) (c.in-Ok.ensures.exact refl);
  stands = c.in-Ok.ensures.stands;
  finds = λ before fits.
      found_by c.args.meter c.in-Ok.meter _ _ _ c.cut.result.first before fits (c.close.ensures.run before fits) c.cut.ensures.left c.cut.ensures.fixed c.in-Ok.ensures.opens c.in-Ok.ensures.stands;
}

pub returns-in-Err : goal.returns-in-Err
returns-in-Err c = record {
  why = c.in-Err.fault;
  tells = refl;
  closed = c.close.result;
  cut = c.cut.result;
  closes = record { gives_up = c.close.ensures.run; nothing = c.close.ensures.nothing; later = c.close.ensures.later };
  loses = loses_unsynced c.close.result c.cut.result c.cut.ensures.count c.cut.ensures.pages c.cut.ensures.calls;
  cause = subst (λ (image : Image). IsCause c.in-Err.fault image) (seen_first c.cut.result.first c.cut.result.calls c.cut.ensures.calls) (c.in-Err.ensures.exact refl);
}
