use Rattle.std.proofs.Common.{◌≡◌, ◌<◌, inl, length, replicate, subst, arith}
use Rattle.std.proofs.lemmas.Result.{on_ok_weaker}
use Rattle.dlms_pages.specs.Device.{Outcome}
use Rattle.dlms_pages.proofs.Moments.{looks_read, then_also, weaker}
use Rattle.dlms_journal.specs.declared.kind.PageKind.TheVariants.{Journal}
use Rattle.dlms_store.specs.declared.layout.TheConstants.{JOURNAL}
use Rattle.dlms_store.specs.Page.{IsOf}
use Rattle.dlms_store.specs.Writing.{IsBlanked}
use Rattle.dlms_store.proofs.Looking.{page_is}
use Rattle.dlms_store.proofs.Recovering.{blank_none, blank_outcome}
use Rattle.dlms_store.proofs.renew.blank_first_page.Goals as goal

pub returns-clause-blanks : goal.returns-clause-blanks
returns-clause-blanks g c image fixed =
    let view = g.P.Pages.view in
    let old = view c.args.device.now in
    let mid = view c.read.new.self in
    let new = view c.put.new.device in
    let next = c.args.next in
    let rules = g.met.P.Pages.rules c.args.device.now fixed.honest in
    let looks = looks_read JOURNAL old mid image c.read.result fixed rules c.read.ensures.goes (c.read.ensures.page fixed.honest) in
    let page = page_is JOURNAL old image c.in_ok-page.page fixed rules (c.in_ok-page.ensures.page fixed.honest).page in
    let of = subst (IsOf Journal 0 next) page (c.is_of.ensures.0 c.if-not-is_of.false) in
    let puts = c.put.ensures.puts looks.fixed.honest in
    let so = blank_outcome next image mid.may_leave looks.fixed.only of in
    let room : JOURNAL < length mid.seen = omega (arith, c.read.ensures.goes.count, c.requires.room) in
    record {
      any_moment = then_also old mid new (IsBlanked next image) (weaker old mid (λ d. d ≡ image) (IsBlanked next image) (λ d same. inl same) looks.any_moment)
          (weaker mid new (Outcome JOURNAL (replicate 512 0) mid.may_leave) (IsBlanked next image) so puts.any_moment);
      after = λ d left. so d (puts.after d left);
      at_last = on_ok_weaker c.put.result (λ done. λ d left. record { blanked = so d (puts.after d left); none = blank_none next mid.seen d room (done d left) }) puts.at_last;
    }
