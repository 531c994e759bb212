use Rattle.std.proofs.Common.{◌≡◌, ℕ, List}
use Rattle.std.specs.Prelude.{◌↔◌}
use Rattle.dlms_journal.specs.declared.kind.PageKind.TheVariants.{Ring}
use Rattle.dlms_pages.specs.declared.device.PageRead.{PageRead}
use Rattle.dlms_checkpoint.specs.declared.version.Version.{Version}
use Rattle.dlms_checkpoint.specs.declared.version.Version.TheVariants.{Rings, Columns}
use Rattle.dlms_state.specs.Columns.{first_columns}
use Rattle.dlms_store.specs.Image.{Serves}
use Rattle.dlms_store.specs.Page.{HasPage, IsNot, of_version}
use Rattle.dlms_store.proofs.Looking.{match_more, was_none}
use Rattle.dlms_store.proofs.page.ring_payload.Goals as goal

-- if there is no page of either version, none can be used
neither : (version own : Version) (columns : List ℕ) (S : Type 0) (index number : ℕ) (page : PageRead) → ((payload : List ℕ) → version ≡ Columns → IsNot (HasPage Ring index (of_version Columns number) payload page))
    → ((payload : List ℕ) → S → IsNot (HasPage Ring index (of_version Rings number) payload page)) → S ↔ (columns ≡ first_columns) → (payload : List ℕ) → Serves version columns own → IsNot (HasPage Ring index (of_version own number) payload page)
neither version Columns columns S index number page present older first payload serves = present payload serves
neither version Rings columns S index number page present older first payload serves = older payload (first.1 serves)

pub returns-in-None : goal.returns-in-None
returns-in-None c columns first =
    let present = was_none c.present_rows.result _ _ c.in-None.is c.present_rows.ensures in
    match_more c.older_rows.result _ _ _ _
    (λ older own payload serves. neither c.args.version own columns _ c.args.index c.args.number c.args.page.now present older first payload serves) (λ payload found. (Rings, first.0 found.0, found.1)) c.older_rows.ensures
