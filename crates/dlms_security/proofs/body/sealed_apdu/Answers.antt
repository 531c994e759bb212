use Rattle.std.proofs.Common.{arith, rules, ap, sym, ◌∙◌, ◌≡◌, ◌≤◌, length, Ok, IsOk, ℕ, List}
use Rattle.dlms_security.specs.Keyed.{use_of}
use Rattle.dlms_security.specs.Body.{seal_of, text_of}
use Rattle.dlms_security.proofs.BodyLemmas.{sealed_ok, whole_slice}
use Rattle.dlms_security.proofs.body.sealed_apdu.Goals as goal

pub returns-in-Ok : goal.returns-in-Ok
returns-in-Ok c =
    let u = use_of c.args.keys.now c.args.title.now c.args.counter in
    let ok : IsOk c.open.result = search rules in
    let same : c.as_mut_slice.result.now ≡ c.args.text.now = c.as_mut_slice.ensures.value ∙ c.copy_of-apdu.ensures in
    let tag : c.args.tag.now ≡ seal_of u c.args.text.now = c.open.ensures.tag.0 ok ∙ ap (seal_of u) same in
    let short : length c.args.text.now ≤ 1024 = omega arith in
    let text : c.open.new.text ≡ text_of u c.as_mut_slice.result.now = search (rules, c.open.ensures.text, ok) in
    let many : length c.open.new.text ≡ length c.copy_of-apdu.result.items = c.open.auto.text ∙ ap length c.as_mut_slice.ensures.value in
    sealed_ok u c.args.text.now c.args.tag.now short tag
    ∙ ap (λ (l : List ℕ). Ok l) (ap (text_of u) (sym same) ∙ sym text ∙ sym (whole_slice c.open.new.text c.copy_of-apdu.result.items many))
