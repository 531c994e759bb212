use Rattle.std.proofs.Common.{◌≡◌, ◌≤◌, ◌+◌, ℕ, length}
use Rattle.dlms_pages.specs.Device.{Image}
use Rattle.dlms_pages.specs.Stops.{IsFixed, Looks}
use Rattle.dlms_store.specs.Cause.{Fit}
use Rattle.dlms_store.proofs.look.look_at_further_bodies.Given as goal

abbrev pub invariant-loop-index : goal.invariant-loop-index
invariant-loop-index g l =
    let view = g.P.Pages.view in
    record {
      count : length (view l.device).seen ≡ length (view l.fn.device).seen;
      honest : (view l.device).honest ≡ (view l.fn.device).honest;
      later : (view l.fn.device).faults ≤ (view l.device).faults;
      looks : (image : Image) → IsFixed (view l.fn.device) image → Looks (view l.fn.device) (view l.device) image;
      some : 1 ≤ l.index;
      version : l.restoring.version ≡ l.fn.edition.version;
      fits : (image : Image) (gate : ℕ) → l.fn.first ≡ gate + 1 → IsFixed (view l.fn.device) image → Fit gate l.fn.edition image 1 l.fn.restoring.bytes → Fit gate l.fn.edition image l.index l.restoring.bytes;
    }
