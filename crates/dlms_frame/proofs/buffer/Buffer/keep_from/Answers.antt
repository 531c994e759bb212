use Rattle.std.proofs.Common.{◌-◌, ◌≤◌, ℕ, List, length, take, drop, ap, ◌∙◌, arith}
use Rattle.std.proofs.lemmas.List.{length-take-le}
use Rattle.dlms_frame.proofs.WindowLemmas.{kept_from}
use Rattle.dlms_frame.proofs.buffer.Buffer.keep_from.Goals as goal

pub returns : goal.returns
returns c =
    let i = c.self.inside in
    let fits : i.len ≤ length i.bytes = omega (arith, c.self.invariant.0) in
    let within : c.args.from ≤ i.len = omega (arith, c.requires, length-take-le i.len i.bytes fits, ap (λ (t : List ℕ). length t) c.self.view_is) in
    ap (λ (t : List ℕ). take (i.len - c.args.from) t) c.copy_within.ensures.after
    ∙ kept_from i.bytes c.args.from i.len within fits
    ∙ ap (λ (t : List ℕ). drop c.args.from t) c.self.view_is
