use Rattle.std.proofs.Common.{◌≡◌, ◌<◌, ◌≤◌, ◌+◌, ℕ, length, true}
use Rattle.dlms_pages.specs.Device.{Image, page_at}
use Rattle.dlms_pages.specs.Stops.{LeavesOnly}
use Rattle.dlms_checkpoint.specs.Bodies.{body_at}
use Rattle.dlms_journal.specs.declared.kind.PageKind.TheVariants.{Body}
use Rattle.dlms_store.specs.Page.{HasPage, present}
use Rattle.dlms_store.specs.Writing.{Scribbled}
use Rattle.dlms_store.proofs.slot.put_bodies.Given as goal

abbrev pub invariant-loop-index : goal.invariant-loop-index
invariant-loop-index g l =
    let view = g.P.Pages.view in
    let old = view l.fn.device in
    let now = view l.device in
    record {
      count : length now.seen ≡ length old.seen;
      honest : now.honest ≡ old.honest;
      later : old.faults ≤ now.faults;
      leaves : old.honest ≡ true → (c : Image) → now.may_leave c → Scribbled l.fn.gate old.may_leave c;
      moments : old.honest ≡ true → LeavesOnly old now (Scribbled l.fn.gate old.may_leave);
      written : old.honest ≡ true → (k : ℕ) → k < l.index → HasPage Body k (present l.fn.generation) (body_at k l.bytes) (page_at now.seen (l.fn.gate + 1 + k));
    }
