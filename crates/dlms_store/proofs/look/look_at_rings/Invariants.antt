use Rattle.std.proofs.Common.{◌≡◌, ◌≤◌, ◌+◌, List, ℕ, length}
use Rattle.dlms_pages.specs.Device.{Image}
use Rattle.dlms_pages.specs.Stops.{IsFixed, Looks}
use Rattle.dlms_store.specs.Cause.{AreTaken}
use Rattle.dlms_checkpoint.specs.Reading.{IsRefilled, first_page}
use Rattle.dlms_store.proofs.look.look_at_rings.Given as goal

abbrev pub invariant-loop : goal.invariant-loop
invariant-loop g l =
    let view = g.P.Pages.view in
    record {
      count : length (view l.device).seen ≡ length (view l.fn.device).seen;
      honest : (view l.device).honest ≡ (view l.fn.device).honest;
      later : (view l.fn.device).faults ≤ (view l.device).faults;
      looks : (image : Image) → IsFixed (view l.fn.device) image → Looks (view l.fn.device) (view l.device) image;
      bodies : l.refilling.bytes ≡ l.fn.refilling.bytes;
      turns : l.refilling.page ≡ first_page l.fn.refilling.bytes + l.counter;
      taken : (image : Image) → IsFixed (view l.fn.device) image → (ring : List ℕ) × IsRefilled l.refilling ring × AreTaken l.fn.version (record { bytes = l.refilling.bytes; ring = ring }) l.refilling.page image;
    }
