use Rattle.std.proofs.Common.{◌∙◌, ◌≡◌, ◌≤◌, ◌+◌, ◌++◌, ℕ, List, [], ap, subst, sym, arith, refl}
use Rattle.dlms_pages.specs.Device.{page_at}
use Rattle.dlms_pages.proofs.Moments.{looks_nowhere, looks_on}
use Rattle.dlms_checkpoint.specs.Reading.{IsRefilled, Refilled, first_page, open_page, page_length}
use Rattle.dlms_checkpoint.specs.Bodies.{columns_said}
use Rattle.std.proofs.Math.Nat.{zero-div}
use Rattle.dlms_store.specs.Layout.{ring_place}
use Rattle.dlms_store.specs.Cause.{AreTaken, HasPlaces, IsRingUnfit}
use Rattle.dlms_store.proofs.Causes.{IsOfPage, none_taken, page_more, ring_told, unfit_here}
use Rattle.dlms_store.proofs.Looking.{carried}
use Rattle.dlms_store.proofs.Spelled.{few_named}
use Rattle.dlms_store.proofs.look.look_at_rings.Goals as goal

-- no page was taken
first_turn : (r : Refilled) → IsRefilled r [] → r.page ≡ first_page r.bytes
first_turn r is =
    let none : first_page r.bytes + 0 ≡ first_page r.bytes = omega arith in
    is.page ∙ ap (λ (n : ℕ). first_page r.bytes + n) (zero-div (page_length (columns_said r.bytes))) ∙ none

pub loop-init : goal.loop-init
loop-init g c =
    let start = c.args.refilling.now in
    let begun : IsRefilled start [] = c.requires.begun in
    record {
      count = refl;
      honest = refl;
      later = omega arith;
      looks = λ image fixed. looks_nowhere (g.P.Pages.view c.args.device.now) image fixed (g.met.P.Pages.rules c.args.device.now fixed.honest);
      bodies = refl;
      turns = omega (arith, first_turn start begun);
      taken = λ image _. ([], begun, subst (λ (n : ℕ). AreTaken c.args.version (record { bytes = start.bytes; ring = [] }) n image) (sym begun.page) (none_taken c.args.version (record { bytes = start.bytes; ring = [] }) image refl));
    }

pub loop-preserved : goal.loop-preserved
loop-preserved g c =
    let inv = c.loop.invariant in
    let now = c.loop.refilling in
    let next = c.in_ok-look_at_ring.ensures.next in
    record {
      count = c.look_at_ring.ensures.count ∙ inv.count;
      honest = c.look_at_ring.ensures.honest ∙ inv.honest;
      later = omega (arith, c.look_at_ring.ensures.later, inv.later);
      looks = λ image fixed. let so_far = inv.looks image fixed in looks_on _ _ _ image so_far (c.look_at_ring.ensures.looks image so_far.fixed);
      bodies = c.look_at_ring.ensures.bodies ∙ inv.bodies;
      turns = omega (arith, next, inv.turns);
      taken = λ image fixed.
          let so_far = inv.looks image fixed in
          let told = c.in_ok-look_at_ring.ensures.cause image so_far.fixed in
          let has = subst (λ (k : ℕ). HasPlaces c.args.version now.bytes k told.0 (page_at image (ring_place k))) c.in-Some.ensures.0 told.1 in
          let (ring, is, taken) = inv.taken image fixed in
          (ring ++ told.0, told.2 ring is, page_more c.args.version now c.look_at_ring.new.refilling ring told.0 image is taken has c.look_at_ring.ensures.bodies next);
    }

pub returns-in_default-clause-cause : goal.returns-in_default-clause-cause
returns-in_default-clause-cause g c image fixed =
    let (ring, is, taken) = c.loop.invariant.taken image fixed in
    (ring, is, λ k past before. taken k past (omega (arith, before, c.in_default.ensures)))

pub returns-in_err-look_at_ring-clause-looks : goal.returns-in_err-look_at_ring-clause-looks
returns-in_err-look_at_ring-clause-looks g c image fixed =
    let so_far = c.loop.invariant.looks image fixed in
    looks_on _ _ _ image so_far (c.look_at_ring.ensures.looks image so_far.fixed)

pub returns-in_err-look_at_ring-clause-cause : goal.returns-in_err-look_at_ring-clause-cause
returns-in_err-look_at_ring-clause-cause g c image fixed =
    let inv = c.loop.invariant in
    let so_far = inv.looks image fixed in
    let fault = c.in_err-look_at_ring.field-0.0 in
    let told = c.in_err-look_at_ring.ensures.cause image so_far.fixed in
    let now = c.loop.refilling in
    let (ring, is, taken) = inv.taken image fixed in
    let unfit = unfit_here c.args.version c.args.refilling.now.bytes now ring image c.in-Some.page inv.bodies is taken c.in-Some.ensures.0 c.in-Some.ensures.1 in
    carried c.from_residual.result fault (λ _. (ring : List ℕ) × IsRefilled c.look_at_ring.new.refilling ring × AreTaken c.args.version (record { bytes = c.look_at_ring.new.refilling.bytes; ring = ring }) (open_page c.look_at_ring.new.refilling.bytes) image)
    (IsOfPage (IsRingUnfit c.args.version c.args.refilling.now.bytes image)) c.from_residual.ensures
    (ring_told fault (IsRingUnfit c.args.version c.args.refilling.now.bytes image) c.in-Some.page _ unfit told)

pub returns-clause-all : goal.returns-clause-all
returns-clause-all g c =
    let inv = c.loop.invariant in
    let spelled = c.requires.begun.filling.bodies.spelled in
    let few = few_named spelled.0 c.args.refilling.now.bytes spelled.1 in
    let here = subst (λ (b : List ℕ). open_page b ≤ first_page c.args.refilling.now.bytes + 32) (sym inv.bodies) few in
    omega (arith, here, inv.turns, c.loop-test.false)

pub returns-clause-cause : goal.returns-clause-cause
returns-clause-cause g c image fixed =
    let all = returns-clause-all g c in
    let (ring, is, taken) = c.loop.invariant.taken image fixed in
    (ring, is, λ k past before. taken k past (omega (arith, before, all)))
