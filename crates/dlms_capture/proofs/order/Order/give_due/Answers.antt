use Rattle.std.proofs.Common.{◌++◌, ◌≤◌, length, refl, subst, sym, ap, ◌∙◌}
use Rattle.std.proofs.lemmas.Option.{slice_get_read}
use Rattle.std.specs.Prelude.{Result, Ok, Err, OnErr}
use Rattle.dlms_capture.specs.Streams.{LosesDue, behind, given_more, next_more}
use Rattle.dlms_capture.proofs.order.Order.give_due.Goals as goal

-- what holds at either outcome holds at an error
on_err : {T E P : Type 0} (r : Result T E) → P → OnErr r P
on_err (Ok x) p = tt
on_err (Err e) p = p

pub returns-clause-due : goal.returns-clause-due
returns-clause-due g c =
    let given = c.args.self.now.given in
    let segment = c.remove-early.result in
    let same = c.as_slice.ensures.value in
    record {
      at = c.in-Some.at;
      segment = segment;
      waited = slice_get_read c.args.self.now.early.items _ c.in-Some.at segment refl c.in-Some.ensures.some c.remove-early.ensures.value;
      due = subst (λ e. e.place ≤ given) (sym c.remove-early.ensures.value) (c.in-Some.ensures.due segment);
      came = refl;
      octets = c.in_ok-append.ensures.octets ∙ ap (λ o. c.args.output.now.items ++ behind given segment.place o) same;
      given = c.in_ok-append.ensures.given ∙ ap (λ o. given_more given (length (behind given segment.place o))) same;
      next = c.in_ok-append.ensures.next ∙ ap (λ o. next_more c.args.self.now.next (length (behind given segment.place o))) same;
      start = c.in_ok-append.ensures.start;
      others = ap (λ v. v.items) c.in_ok-append.ensures.early ∙ c.remove-early.ensures.items;
    }

pub returns-in_err-append-clause-lost : goal.returns-in_err-append-clause-lost
returns-in_err-append-clause-lost g c =
    let given = c.args.self.now.given in
    let segment = c.remove-early.result in
    let failed = c.in_err-append.ensures in
    let lost : LosesDue c.args.self.now c.append.new.self c.args.output.now.items c.append.new.output.items = record {
      at = c.in-Some.at;
      segment = segment;
      waited = slice_get_read c.args.self.now.early.items _ c.in-Some.at segment refl c.in-Some.ensures.some c.remove-early.ensures.value;
      due = subst (λ e. e.place ≤ given) (sym c.remove-early.ensures.value) (c.in-Some.ensures.due segment);
      octets = failed.nothing;
      given = ap (λ o. o.given) failed.same;
      next = ap (λ o. o.next) failed.same;
      start = ap (λ o. o.start) failed.same;
      others = ap (λ o. o.early.items) failed.same ∙ c.remove-early.ensures.items;
    } in
    on_err _ lost
