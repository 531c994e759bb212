-- A written page is read as it was written.
use Rattle.std.proofs.Common.{◌≡◌, ℕ, ◌-◌, ◌≤◌, List, ◌++◌, length, drop, replicate, true, leb, Some, refl, sym, ap, ◌∙◌}
use Rattle.std.proofs.lemmas.Bool.{le-leb}
use Rattle.std.proofs.lemmas.List.{take_at, drop-drop}
use Rattle.dlms_journal.specs.declared.kind.PageKind.{PageKind}
use Rattle.dlms_journal.specs.declared.kind.PageKind.TheVariants.{Empty, OpenGate, ClosedGate, Body, Journal, Ring}
use Rattle.dlms_journal.specs.Page.{Head, IsPage, head_of, number_of, kind_named, payload_at}

named_again : (kind : PageKind) → kind_named (number_of kind) ≡ Some kind
named_again Empty = refl
named_again OpenGate = refl
named_again ClosedGate = refl
named_again Body = refl
named_again Journal = refl
named_again Ring = refl

pub pages_read : (page : List ℕ) (kind : PageKind) (index generation : ℕ) (payload : List ℕ) → length payload ≤ 496 → IsPage page kind index generation payload
    → (kind_named (head_of page).kind ≡ Some kind) × (payload_at page ≡ Some payload)
pages_read page kind index generation payload few is =
    let number : (head_of page).kind ≡ number_of kind = ap (λ (h : Head). h.kind) is.head in
    let count : (head_of page).payload ≡ length payload = ap (λ (h : Head). h.payload) is.head in
    let fits : leb (length payload) 496 ≡ true = le-leb (length payload) 496 few in
    let zeros : List ℕ = replicate (496 - length payload) 0 in
    let rest : drop 16 page ≡ payload ++ zeros = sym (drop-drop 2 14 page) ∙ ap (drop 2) is.behind in
    (ap kind_named number ∙ named_again kind, rw (count, fits, rest, take_at payload zeros (length payload) refl) refl)
