use Rattle.std.proofs.Common.{◌≡◌, ◌⊎◌, ◌∙◌, inl, inr, ℕ, List, Ok, subst}
use Rattle.dlms_pages.specs.Device.{Image}
use Rattle.dlms_pages.proofs.Moments.{looks_on}
use Rattle.dlms_store.specs.declared.page.Edition.{Edition}
use Rattle.dlms_checkpoint.specs.Layouts.{IsCheckpointOf, as_present}
use Rattle.dlms_checkpoint.specs.declared.version.Version.TheVariants.{Columns}
use Rattle.dlms_checkpoint.proofs.Presents.{from_present}
use Rattle.dlms_store.specs.Cause.{AreOf, IsBodyFault, IsRingFault, IsRingUnfit, IsSlotFault}
use Rattle.dlms_store.specs.Layout.{gate_of}
use Rattle.dlms_store.proofs.Causes.{of_page, page_of_slot, read_so}
use Rattle.dlms_store.proofs.Looking.{carried}
use Rattle.dlms_store.proofs.Spelled.{are_of}
use Rattle.dlms_store.proofs.look.look_at_slot.Goals as goal

abbrev SlotFault : (gate : ℕ) (g : Edition) → Image → ℕ → Type 0
SlotFault gate g image page = IsBodyFault gate g image page ⊎ IsRingFault gate g image page

pub returns-in_err-look_at_rings-clause-looks : goal.returns-in_err-look_at_rings-clause-looks
returns-in_err-look_at_rings-clause-looks g c image fixed =
    let one = c.look_at_bodies.ensures.looks image fixed in
    looks_on _ _ _ image one (c.look_at_rings.ensures.looks image one.fixed)

pub returns-in-Ok-clause-looks : goal.returns-in-Ok-clause-looks
returns-in-Ok-clause-looks g c image fixed =
    let one = c.look_at_bodies.ensures.looks image fixed in
    looks_on _ _ _ image one (c.look_at_rings.ensures.looks image one.fixed)

pub returns-in-Err-clause-looks : goal.returns-in-Err-clause-looks
returns-in-Err-clause-looks g c image fixed =
    let one = c.look_at_bodies.ensures.looks image fixed in
    looks_on _ _ _ image one (c.look_at_rings.ensures.looks image one.fixed)

pub returns-in_err-joined-clause-cause : goal.returns-in_err-joined-clause-cause
returns-in_err-joined-clause-cause g c image fixed =
    let gate = gate_of c.args.slot in
    let fault = c.in_err-joined.field-0.0 in
    let told = c.in_err-joined.ensures.cause image fixed in
    carried c.from_residual.result fault (λ state. AreOf c.args.slot c.args.edition state image) (IsSlotFault c.args.slot c.args.edition image) c.from_residual.ensures
    (page_of_slot c.args.slot c.args.edition image fault (of_page fault (IsBodyFault gate c.args.edition image) (SlotFault gate c.args.edition image) (λ _ body. inl body) told))

pub returns-in_err-look_at_rings-clause-cause : goal.returns-in_err-look_at_rings-clause-cause
returns-in_err-look_at_rings-clause-cause g c image fixed =
    let gate = gate_of c.args.slot in
    let fault = c.in_err-look_at_rings.field-0.0 in
    let one = c.look_at_bodies.ensures.looks image fixed in
    let (bytes, present, fit) = c.in_ok-joined.ensures.cause image fixed in
    let known = c.in_ok-joined.ensures.spelled in
    let told = c.in_err-look_at_rings.ensures.cause image one.fixed in
    let begun : c.refilling-refilling.result.bytes ≡ as_present c.args.edition.version bytes = c.refilling-refilling.ensures.bodies ∙ present in
    carried c.from_residual-in_err-look_at_rings.result fault (λ state. AreOf c.args.slot c.args.edition state image) (IsSlotFault c.args.slot c.args.edition image) c.from_residual-in_err-look_at_rings.ensures
    (page_of_slot c.args.slot c.args.edition image fault (of_page fault (IsRingUnfit c.args.edition.version c.refilling-refilling.result.bytes image) (SlotFault gate c.args.edition image)
    (λ page unfit. inr (record {
      bytes = bytes;
      fit = fit;
      state = known.0;
      spelled = from_present c.args.edition.version known.0 bytes (subst (IsCheckpointOf Columns known.0) present known.1);
      unfit = subst (λ (b : List ℕ). IsRingUnfit c.args.edition.version b image page) begun unfit;
    })) told))

pub returns-in-Ok-clause-cause : goal.returns-in-Ok-clause-cause
returns-in-Ok-clause-cause g c image fixed =
    let gate = gate_of c.args.slot in
    let one = c.look_at_bodies.ensures.looks image fixed in
    let now = c.look_at_rings.new.refilling in
    let (bytes, present, fit) = c.in_ok-joined.ensures.cause image fixed in
    let same = c.look_at_rings.ensures.bodies ∙ c.refilling-refilling.ensures.bodies ∙ present in
    let (ring, is, taken) = c.in_ok-look_at_rings.ensures.cause image one.fixed in
    are_of c.args.slot c.args.edition c.in-Ok.state bytes (record { bytes = now.bytes; ring = ring }) image same fit taken (c.in-Ok.ensures.state ring is)

pub returns-in-Err-clause-cause : goal.returns-in-Err-clause-cause
returns-in-Err-clause-cause g c image fixed =
    let gate = gate_of c.args.slot in
    let one = c.look_at_bodies.ensures.looks image fixed in
    let now = c.look_at_rings.new.refilling in
    let (bytes, present, fit) = c.in_ok-joined.ensures.cause image fixed in
    let same = c.look_at_rings.ensures.bodies ∙ c.refilling-refilling.ensures.bodies ∙ present in
    let (ring, is, taken) = c.in_ok-look_at_rings.ensures.cause image one.fixed in
    let state = c.in-Err.ensures.some ring is in
    (state.0, are_of c.args.slot c.args.edition state.0 bytes (record { bytes = now.bytes; ring = ring }) image same fit taken state.1)

pub returns-in_err-joined-clause-state : goal.returns-in_err-joined-clause-state
returns-in_err-joined-clause-state g c image base fixed legal within rings =
    read_so c.args.slot c.args.edition image base c.from_residual.result legal within rings (returns-in_err-joined-clause-cause g c image fixed)

pub returns-in_err-look_at_rings-clause-state : goal.returns-in_err-look_at_rings-clause-state
returns-in_err-look_at_rings-clause-state g c image base fixed legal within rings =
    read_so c.args.slot c.args.edition image base c.from_residual-in_err-look_at_rings.result legal within rings (returns-in_err-look_at_rings-clause-cause g c image fixed)

pub returns-in-Ok-clause-state : goal.returns-in-Ok-clause-state
returns-in-Ok-clause-state g c image base fixed legal within rings =
    read_so c.args.slot c.args.edition image base (Ok c.in-Ok.state) legal within rings (returns-in-Ok-clause-cause g c image fixed)
