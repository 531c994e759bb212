use Rattle.std.proofs.Common.{◌∙◌, ◌++◌, inl, inr, take, Result, Ok, Err, OnOk, IfOk, MatchResult, refl, sym, subst, arith}
use Rattle.dlms_pages.specs.Device.{Image}
use Rattle.dlms_pages.specs.Stops.{IsFixed}
use Rattle.dlms_pages.proofs.Moments.{no_call, one_call, seen_is}
use Rattle.dlms_store.specs.Active.{IsFound}
use Rattle.dlms_store.specs.Fitting.{IsRefusal}
use Rattle.dlms_store.specs.Image.{StandsFor}
use Rattle.dlms_store.specs.Steady.{IsSpared, StandsBetween, without_memory}
use Rattle.dlms_store.proofs.Causes.{cause_told}
use Rattle.dlms_store.proofs.Opening.{fails_as_is, fails_to, fixing, has_room, honest_of, left_by, looked, refusal_told, still_fits, sync_leaves}
use Rattle.dlms_store.proofs.Reopening.{fixes, steady_look, steady_on, steady_sync}
use Rattle.dlms_store.proofs.Sparing.{refused, spared_look, spared_still, spared_sync}
use Rattle.dlms_store.proofs.open.settle_and_find.Goals as goal

on_ok : {T E : Type 0} (P : Type 0) (r : Result T E) → P → OnOk r P
on_ok P (Ok x) p = p
on_ok P (Err e) p = tt

if_ok : {T E : Type 0} (P : T → Type 0) (Q : E → Type 0) (r : Result T E) → MatchResult r P Q → IfOk r P
if_ok P Q (Ok x) p = p
if_ok P Q (Err e) p = tt

pub returns-then-count-lt-PAGES-clause-gives_back : goal.returns-then-count-lt-PAGES-clause-gives_back
returns-then-count-lt-PAGES-clause-gives_back g c before fits =
    let old = g.P.Pages.view c.args.device.now in
    let room = has_room old before fits (g.met.P.Pages.rules c.args.device.now (honest_of old before fits)) in
    absurd (omega (arith, room, c.count.ensures, c.if-count-lt-PAGES.true))

pub returns-in-Err-clause-gives_back : goal.returns-in-Err-clause-gives_back
returns-in-Err-clause-gives_back g c before fits =
    let old = g.P.Pages.view c.args.device.now in
    let honest = honest_of old before fits in
    let s = c.in-Err.ensures.synced honest in
    let old_left = left_by old before fits in
    record {
      now = before;
      next = fails_as_is old before fits;
      fits = still_fits old (g.P.Pages.view c.settle.new.device) before (c.in-Err.ensures.goes.honest ∙ honest) s.crash fits;
      any_moment = one_call _ _ _ old_left (g.met.P.Pages.rules c.args.device.now honest) s.time (λ image left. old_left image (s.crash image left));
      cause = subst IsRefusal (sym c.into.ensures) tt;
      read = fails_to old before _ fits (g.met.P.Pages.rules c.args.device.now honest) c.into.ensures;
    }

pub returns-clause-gives_back : goal.returns-clause-gives_back
returns-clause-gives_back g c before fits =
    let view = g.P.Pages.view in
    let old = view c.args.device.now in
    let synced = view c.settle.new.device in
    let honest = honest_of old before fits in
    let rules = g.met.P.Pages.rules c.args.device.now honest in
    let s = c.in_default.ensures.synced honest in
    let fixed : IsFixed synced old.seen = record { honest = c.in_default.ensures.goes.honest ∙ honest; only = s.durable } in
    let fix = fixing old before fits old.seen rules.seen in
    let left = fix.stands in
    let first = sync_leaves old synced before fits rules s.time s.crash in
    let told = refusal_told (IsFound old.seen left.base left.pages) c.find.result (c.find.ensures.found old.seen left.slot left.edition left.base left.pages fixed left.stands.reads) in
    looked before old synced (view c.find.new.device) old.seen (without_memory c.find.result) fix first (c.find.ensures.looks old.seen fixed) told refl

pub returns-clause-fixed : goal.returns-clause-fixed
returns-clause-fixed g c honest =
    let old = g.P.Pages.view c.args.device.now in
    let s = c.in_default.ensures.synced honest in
    let fixed : IsFixed (g.P.Pages.view c.settle.new.device) old.seen = record { honest = c.in_default.ensures.goes.honest ∙ honest; only = s.durable } in
    on_ok _ c.find.result (c.find.ensures.looks old.seen fixed).fixed

pub returns-clause-found : goal.returns-clause-found
returns-clause-found g c slot edition base pages honest reads =
    let old = g.P.Pages.view c.args.device.now in
    let s = c.in_default.ensures.synced honest in
    let fixed : IsFixed (g.P.Pages.view c.settle.new.device) old.seen = record { honest = c.in_default.ensures.goes.honest ∙ honest; only = s.durable } in
    if_ok _ _ c.find.result (c.find.ensures.found old.seen slot edition base pages fixed reads)

pub returns-clause-is : goal.returns-clause-is
returns-clause-is g c honest =
    let old = g.P.Pages.view c.args.device.now in
    let s = c.in_default.ensures.synced honest in
    let fixed : IsFixed (g.P.Pages.view c.settle.new.device) old.seen = record { honest = c.in_default.ensures.goes.honest ∙ honest; only = s.durable } in
    if_ok _ _ c.find.result (c.find.ensures.exact old.seen fixed)

pub returns-clause-exact : goal.returns-clause-exact
returns-clause-exact g c honest =
    let old = g.P.Pages.view c.args.device.now in
    let s = c.in_default.ensures.synced honest in
    let fixed : IsFixed (g.P.Pages.view c.settle.new.device) old.seen = record { honest = c.in_default.ensures.goes.honest ∙ honest; only = s.durable } in
    cause_told c.find.result old.seen (c.find.ensures.exact old.seen fixed)

pub returns-clause-stands : goal.returns-clause-stands
returns-clause-stands g c events honest stands =
    let old = g.P.Pages.view c.args.device.now in
    let s = c.in_default.ensures.synced honest in
    let fixed : IsFixed (g.P.Pages.view c.settle.new.device) old.seen = record { honest = c.in_default.ensures.goes.honest ∙ honest; only = s.durable } in
    refusal_told (IsFound old.seen stands.base stands.pages) c.find.result (c.find.ensures.found old.seen stands.slot stands.edition stands.base stands.pages fixed stands.reads)

pub returns-then-count-lt-PAGES-clause-stands : goal.returns-then-count-lt-PAGES-clause-stands
returns-then-count-lt-PAGES-clause-stands g c events honest stands = absurd (omega (arith, stands.reads.room, c.count.ensures, c.if-count-lt-PAGES.true))

pub returns-in-Err-clause-stands : goal.returns-in-Err-clause-stands
returns-in-Err-clause-stands g c events honest stands = subst IsRefusal (sym c.into.ensures) tt

pub returns-then-count-lt-PAGES-clause-steady : goal.returns-then-count-lt-PAGES-clause-steady
returns-then-count-lt-PAGES-clause-steady g c events honest stands =
    record { any_moment = no_call (g.P.Pages.view c.args.device.now) (StandsFor events) stands (g.met.P.Pages.rules c.args.device.now honest); each = stands }

pub returns-in-Err-clause-steady : goal.returns-in-Err-clause-steady
returns-in-Err-clause-steady g c events honest stands =
    let s = c.in-Err.ensures.synced honest in
    steady_sync (g.P.Pages.view c.args.device.now) (g.P.Pages.view c.settle.new.device) events stands (g.met.P.Pages.rules c.args.device.now honest) s.time s.crash

pub returns-clause-steady : goal.returns-clause-steady
returns-clause-steady g c events honest stands =
    let view = g.P.Pages.view in
    let old = view c.args.device.now in
    let synced = view c.settle.new.device in
    let rules = g.met.P.Pages.rules c.args.device.now honest in
    let s = c.in_default.ensures.synced honest in
    let fixed : IsFixed synced old.seen = record { honest = c.in_default.ensures.goes.honest ∙ honest; only = s.durable } in
    steady_on old synced (view c.find.new.device) events (steady_sync old synced events stands rules s.time s.crash) (steady_look synced (view c.find.new.device) old.seen events (stands old.seen rules.seen) (c.find.ensures.looks old.seen fixed))

pub returns-then-count-lt-PAGES-clause-fixes : goal.returns-then-count-lt-PAGES-clause-fixes
returns-then-count-lt-PAGES-clause-fixes g c settled pending honest stands =
    let old = g.P.Pages.view c.args.device.now in
    let is = stands old.seen (g.met.P.Pages.rules c.args.device.now honest).seen in
    absurd (omega (arith, is.1.reads.room, c.count.ensures, c.if-count-lt-PAGES.true))

pub returns-in-Err-clause-fixes : goal.returns-in-Err-clause-fixes
returns-in-Err-clause-fixes g c settled pending honest stands =
    let old = g.P.Pages.view c.args.device.now in
    let new = g.P.Pages.view c.settle.new.device in
    let s = c.in-Err.ensures.synced honest in
    let each = λ (image : Image) (left : new.may_leave image). stands image (s.crash image left) in
    inr (c.into.ensures, record { any_moment = one_call old new (StandsBetween settled pending) stands (g.met.P.Pages.rules c.args.device.now honest) s.time each; each = each })

pub returns-clause-fixes : goal.returns-clause-fixes
returns-clause-fixes g c settled pending honest stands =
    let view = g.P.Pages.view in
    let old = view c.args.device.now in
    let synced = view c.settle.new.device in
    let mid = view c.find.new.device in
    let rules = g.met.P.Pages.rules c.args.device.now honest in
    let s = c.in_default.ensures.synced honest in
    let fixed : IsFixed synced old.seen = record { honest = c.in_default.ensures.goes.honest ∙ honest; only = s.durable } in
    let one = stands old.seen rules.seen in
    inl (fixes settled pending old synced mid stands rules s.time s.crash one (steady_look synced mid old.seen (settled ++ take one.0 pending) one.1 (c.find.ensures.looks old.seen fixed)))

pub returns-then-count-lt-PAGES-clause-spared : goal.returns-then-count-lt-PAGES-clause-spared
returns-then-count-lt-PAGES-clause-spared g c honest = (spared_still (g.P.Pages.view c.args.device.now) (g.met.P.Pages.rules c.args.device.now honest), refl)

pub returns-in-Err-clause-spared : goal.returns-in-Err-clause-spared
returns-in-Err-clause-spared g c honest =
    let old = g.P.Pages.view c.args.device.now in
    let new = g.P.Pages.view c.settle.new.device in
    let s = c.in-Err.ensures.synced honest in
    subst (IsSpared old new) (sym c.into.ensures) (inl (spared_sync old new (g.met.P.Pages.rules c.args.device.now honest) s.time s.crash))

pub returns-clause-spared : goal.returns-clause-spared
returns-clause-spared g c honest =
    let view = g.P.Pages.view in
    let old = view c.args.device.now in
    let synced = view c.settle.new.device in
    let mid = view c.find.new.device in
    let rules = g.met.P.Pages.rules c.args.device.now honest in
    let s = c.in_default.ensures.synced honest in
    let fixed : IsFixed synced old.seen = record { honest = c.in_default.ensures.goes.honest ∙ honest; only = s.durable } in
    let looks = c.find.ensures.looks old.seen fixed in
    refused old mid (without_memory c.find.result) (spared_look old synced mid rules (spared_sync old synced rules s.time s.crash) looks) (seen_is mid old.seen looks.fixed (g.met.P.Pages.rules c.find.new.device looks.fixed.honest))
