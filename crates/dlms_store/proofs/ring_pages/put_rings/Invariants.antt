use Rattle.std.proofs.Common.{◌≡◌, ◌≤◌, length, true}
use Rattle.dlms_pages.specs.Device.{Image, page_at}
use Rattle.dlms_pages.specs.Stops.{LeavesOnly}
use Rattle.dlms_store.specs.Image.{IsRingPage}
use Rattle.dlms_checkpoint.specs.declared.version.Version.TheVariants.{Columns}
use Rattle.dlms_store.specs.Layout.{ring_place}
use Rattle.dlms_store.specs.Writing.{IsEachRingPage, RingScribbled}
use Rattle.dlms_store.proofs.ring_pages.put_rings.Given as goal

abbrev pub invariant-loop-number : goal.invariant-loop-number
invariant-loop-number g l =
    let view = g.P.Pages.view in
    let old = view l.fn.device in
    let now = view l.device in
    record {
      count : length now.seen ≡ length old.seen;
      honest : now.honest ≡ old.honest;
      later : old.faults ≤ now.faults;
      leaves : old.honest ≡ true → (c : Image) → now.may_leave c → RingScribbled l.fn.first l.fn.behind old.may_leave c;
      moments : old.honest ≡ true → LeavesOnly old now (RingScribbled l.fn.first l.fn.behind old.may_leave);
      written : old.honest ≡ true → IsEachRingPage l.fn.first l.number (λ k. IsRingPage Columns l.state k (page_at now.seen (ring_place k)));
    }
