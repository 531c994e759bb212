use Rattle.std.proofs.Common.{inl, inr, subst}
use Rattle.std.proofs.lemmas.Result.{on_ok_weaker}
use Rattle.dlms_pages.proofs.Moments.{no_call, weaker}
use Rattle.dlms_store.specs.declared.page.Edition.{Edition}
use Rattle.dlms_store.specs.Page.{next_of}
use Rattle.dlms_store.specs.Writing.{Brings, IsBlank, IsBlanked, IsCleared}
use Rattle.dlms_store.proofs.renew.clear_alien.Goals as goal

pub returns-in-Columns-clause-clears : goal.returns-in-Columns-clause-clears
returns-in-Columns-clause-clears g c image fixed =
    let old = g.P.Pages.view c.args.device.now in
    record {
      any_moment = no_call old (IsCleared c.args.edition image) (λ d left. inl (fixed.only d left)) (g.met.P.Pages.rules c.args.device.now fixed.honest);
      after = λ d left. inl (fixed.only d left);
      at_last = λ d left. record { cleared = inl (fixed.only d left); none = λ older. absurd (cc (older, c.in-Columns.is)) };
    }

pub returns-in-Rings-clause-clears : goal.returns-in-Rings-clause-clears
returns-in-Rings-clause-clears g c image fixed =
    let view = g.P.Pages.view in
    let old = view c.args.device.now in
    let new = view c.blank_first_page.new.device in
    let edition = c.args.edition in
    let blanks = subst (λ (n : Edition). Brings (IsBlanked n image) (IsBlank n image) old new c.blank_first_page.result) c.present.ensures (c.blank_first_page.ensures.blanks image fixed) in
    record {
      any_moment = weaker old new (IsBlanked (next_of edition) image) (IsCleared edition image) (λ d blanked. inr (c.in-Rings.is, blanked)) blanks.any_moment;
      after = λ d left. inr (c.in-Rings.is, blanks.after d left);
      at_last = on_ok_weaker c.blank_first_page.result (λ done. λ d left. record { cleared = inr (c.in-Rings.is, (done d left).blanked); none = λ _. (done d left).none }) blanks.at_last;
    }
