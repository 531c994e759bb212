use Rattle.std.proofs.Common.{◌≡◌, ◌∙◌, ◌-◌, ◌*◌, ◌<◌, ◌≤◌, List, ℕ, ap, sym, length, take, drop, min, arith, ⊎_elim}
use Rattle.std.proofs.lemmas.List.{take_rest, take_min, drop_all}
use Rattle.std.proofs.lemmas.Bool.{cases_lt}
use Rattle.dlms_checkpoint.proofs.writing.Checkpoint.body.Goals as goal

dropped : (bytes : List ℕ) (at first : ℕ) → first ≡ min at (length bytes) → drop first bytes ≡ drop at bytes
dropped bytes at first is =
    ⊎_elim
    (λ (within : at < length bytes). (let same : first ≡ at = omega arith in ap (λ (n : ℕ). drop n bytes) same))
    (λ (past : length bytes ≤ at). drop_all first bytes (omega arith) ∙ sym (drop_all at bytes past))
    (cases_lt at (length bytes))

cut : (bytes all : List ℕ) (at first n : ℕ) → bytes ≡ all → first ≡ min at (length bytes) → n ≡ min (length (take (length bytes - first) (drop first bytes))) 496 → take n (take (length bytes - first) (drop first bytes)) ≡ take 496 (drop at all)
cut bytes all at first n same is few =
    let rest = drop first bytes in
    let whole : take (length bytes - first) rest ≡ rest = take_rest bytes first in
    let count : n ≡ min 496 (length rest) = few ∙ ap (λ (l : List ℕ). min (length l) 496) whole ∙ omega arith in
    ap (take n) whole ∙ ap (λ (k : ℕ). take k rest) count ∙ take_min 496 rest ∙ ap (take 496) (dropped bytes at first is ∙ ap (drop at) same)

pub returns-clause-bytes : goal.returns-clause-bytes
returns-clause-bytes c =
    cut c.as_slice.result.now c.args.self.now (496 * c.args.index) c.min-first.result c.min.result (c.as_slice.ensures.value ∙ c.self.view_is) (omega (arith, c.min-first.ensures, c.from.ensures, c.len.ensures.value, ap length c.as_slice.ensures.value)) c.min.ensures
