use Rattle.std.proofs.Common.{◌∙◌, ◌++◌, refl, subst, sym, arith, rules}
use Rattle.dlms_pages.specs.Device.{Image}
use Rattle.dlms_pages.proofs.Moments.{then_also, weaker}
use Rattle.dlms_store.specs.Image.{IsLeftFor, Renewable, Stands, StandsFor, all_of}
use Rattle.dlms_store.specs.Writing.{IsCleared, IsEither, Leaves}
use Rattle.dlms_store.proofs.Recovering.{cleared_nothing, cleared_renewable, cleared_stands_for, either_left, found_left}
use Rattle.dlms_store.proofs.renew.renew.Goals as goal

pub returns-in_err-clear_alien-clause-renews : goal.returns-in_err-clear_alien-clause-renews
returns-in_err-clear_alien-clause-renews g c image base pages fixed is stale =
    let found = c.args.found.now in
    let clears = c.clear_alien.ensures.clears image fixed in
    let stands = λ (d : Image) (cleared : IsCleared found.edition image d). cleared_stands_for image d base pages found is cleared in
    record { any_moment = weaker _ _ (IsCleared found.edition image) (StandsFor (base ++ all_of pages)) stands clears.any_moment; after = λ d left. stands d (clears.after d left); at_last = search rules }

pub returns-in_err-clear_alien-clause-settles : goal.returns-in_err-clear_alien-clause-settles
returns-in_err-clear_alien-clause-settles g c image base pages fixed is quiet =
    let found = c.args.found.now in
    let clears = c.clear_alien.ensures.clears image fixed in
    let left = λ (d : Image) (cleared : IsCleared found.edition image d). subst (IsLeftFor (base ++ all_of pages)) (sym (cleared_nothing found.slot found.edition base pages image d (record { reads = is.reads; quiet = quiet }) cleared)) (found_left image base pages found is quiet) in
    record { any_moment = weaker _ _ (IsCleared found.edition image) (IsLeftFor (base ++ all_of pages)) left clears.any_moment; after = λ d may. left d (clears.after d may); at_last = search rules }

pub returns-in_err-write_slot-clause-renews : goal.returns-in_err-write_slot-clause-renews
returns-in_err-write_slot-clause-renews g c image base pages fixed is stale =
    let view = g.P.Pages.view in
    let found = c.args.found.now in
    let clears = c.in_ok-clear_alien.ensures.clears image fixed in
    let stands = λ (d : Image) (cleared : IsCleared found.edition image d). cleared_stands_for image d base pages found is cleared in
    let leaves : Leaves (view c.clear_alien.new.device) (Renewable found.slot found.edition base pages) = record { honest = c.in_ok-clear_alien.ensures.goes.honest ∙ fixed.honest; each = λ d left. cleared_renewable image d base pages found is stale (clears.at_last d left) } in
    let brings = c.in_err-write_slot.ensures.renews found.slot found.edition base pages c.other-slot.ensures refl (let next = c.next_number.ensures.value in omega (arith, next, c.from.ensures, is.read.captured)) is.read.state leaves in
    record {
      any_moment = then_also (view c.args.device.now) (view c.clear_alien.new.device) (view c.write_slot.new.device) (StandsFor (base ++ all_of pages)) (weaker _ _ (IsCleared found.edition image) (StandsFor (base ++ all_of pages)) stands clears.any_moment) brings.any_moment;
      after = brings.after;
      at_last = search rules;
    }

pub returns-in_err-write_slot-clause-settles : goal.returns-in_err-write_slot-clause-settles
returns-in_err-write_slot-clause-settles g c image base pages fixed is quiet =
    let view = g.P.Pages.view in
    let found = c.args.found.now in
    let clears = c.in_ok-clear_alien.ensures.clears image fixed in
    let stood : Stands found.slot found.edition base pages image = record { reads = is.reads; quiet = quiet } in
    let same = λ (d : Image) (cleared : IsCleared found.edition image d). cleared_nothing found.slot found.edition base pages image d stood cleared in
    let left = λ (d : Image) (cleared : IsCleared found.edition image d). subst (IsLeftFor (base ++ all_of pages)) (sym (same d cleared)) (found_left image base pages found is quiet) in
    let leaves : Leaves (view c.clear_alien.new.device) (Stands found.slot found.edition base pages) = record { honest = c.in_ok-clear_alien.ensures.goes.honest ∙ fixed.honest; each = λ d may. subst (Stands found.slot found.edition base pages) (sym (same d (clears.after d may))) stood } in
    let brings = c.in_err-write_slot.ensures.slot found.slot found.edition base (all_of pages) pages c.other-slot.ensures refl (let next = c.next_number.ensures.value in omega (arith, next, c.from.ensures, is.read.captured)) is.read.state leaves in
    record {
      any_moment = then_also (view c.args.device.now) (view c.clear_alien.new.device) (view c.write_slot.new.device) (IsLeftFor (base ++ all_of pages)) (weaker _ _ (IsCleared found.edition image) (IsLeftFor (base ++ all_of pages)) left clears.any_moment)
          (weaker _ _ (IsEither found.slot found.edition base pages (base ++ all_of pages)) (IsLeftFor (base ++ all_of pages)) (either_left found.slot found.edition base pages) brings.any_moment);
      after = λ d may. either_left found.slot found.edition base pages d (brings.after d may);
      at_last = search rules;
    }

pub returns-clause-renews : goal.returns-clause-renews
returns-clause-renews g c image base pages fixed is stale =
    let view = g.P.Pages.view in
    let found = c.args.found.now in
    let clears = c.in_ok-clear_alien.ensures.clears image fixed in
    let stands = λ (d : Image) (cleared : IsCleared found.edition image d). cleared_stands_for image d base pages found is cleared in
    let leaves : Leaves (view c.clear_alien.new.device) (Renewable found.slot found.edition base pages) = record { honest = c.in_ok-clear_alien.ensures.goes.honest ∙ fixed.honest; each = λ d left. cleared_renewable image d base pages found is stale (clears.at_last d left) } in
    let brings = c.in_ok-write_slot.ensures.renews found.slot found.edition base pages c.other-slot.ensures refl (let next = c.next_number.ensures.value in omega (arith, next, c.from.ensures, is.read.captured)) is.read.state leaves in
    record {
      any_moment = then_also (view c.args.device.now) (view c.clear_alien.new.device) (view c.write_slot.new.device) (StandsFor (base ++ all_of pages)) (weaker _ _ (IsCleared found.edition image) (StandsFor (base ++ all_of pages)) stands clears.any_moment) brings.any_moment;
      after = brings.after;
      at_last = brings.at_last;
    }

pub returns-clause-settles : goal.returns-clause-settles
returns-clause-settles g c image base pages fixed is quiet =
    let view = g.P.Pages.view in
    let found = c.args.found.now in
    let clears = c.in_ok-clear_alien.ensures.clears image fixed in
    let stood : Stands found.slot found.edition base pages image = record { reads = is.reads; quiet = quiet } in
    let same = λ (d : Image) (cleared : IsCleared found.edition image d). cleared_nothing found.slot found.edition base pages image d stood cleared in
    let left = λ (d : Image) (cleared : IsCleared found.edition image d). subst (IsLeftFor (base ++ all_of pages)) (sym (same d cleared)) (found_left image base pages found is quiet) in
    let leaves : Leaves (view c.clear_alien.new.device) (Stands found.slot found.edition base pages) = record { honest = c.in_ok-clear_alien.ensures.goes.honest ∙ fixed.honest; each = λ d may. subst (Stands found.slot found.edition base pages) (sym (same d (clears.after d may))) stood } in
    let brings = c.in_ok-write_slot.ensures.slot found.slot found.edition base (all_of pages) pages c.other-slot.ensures refl (let next = c.next_number.ensures.value in omega (arith, next, c.from.ensures, is.read.captured)) is.read.state leaves in
    record {
      any_moment = then_also (view c.args.device.now) (view c.clear_alien.new.device) (view c.write_slot.new.device) (IsLeftFor (base ++ all_of pages)) (weaker _ _ (IsCleared found.edition image) (IsLeftFor (base ++ all_of pages)) left clears.any_moment)
          (weaker _ _ (IsEither found.slot found.edition base pages (base ++ all_of pages)) (IsLeftFor (base ++ all_of pages)) (either_left found.slot found.edition base pages) brings.any_moment);
      after = λ d may. either_left found.slot found.edition base pages d (brings.after d may);
      at_last = brings.at_last;
    }
