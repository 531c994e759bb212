use Rattle.std.proofs.Common.{rules, ◌≡◌, List, ℕ, Ok, sym, subst}
use Rattle.hex.specs.Hex.{decode_of}
use Rattle.dlms_text.proofs.value.pairs.Goals as goal

pub returns-then-not-are_pairs-clause-form : goal.returns-then-not-are_pairs-clause-form
returns-then-not-are_pairs-clause-form g c = λ is bytes read.
    let same : c.as_bytes.result.now ≡ c.args.text.now = search rules in
    let yes = c.are_pairs.ensures.1 (bytes, subst (λ (t : List ℕ). decode_of t ≡ Ok bytes) (sym same) read) in
    cc (yes, c.if-not-are_pairs.true)
