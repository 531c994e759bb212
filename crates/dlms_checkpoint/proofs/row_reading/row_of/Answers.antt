use Rattle.std.proofs.Common.{◌≡◌, ◌+◌, ◌*◌, ◌++◌, ◌∷◌, [], ℕ, List, ap, sym, ◌∙◌, drop, arith}
use Rattle.std.proofs.lemmas.List.{drop-drop}
use Rattle.byteorder.specs.Endian.{big_from}
use Rattle.dlms_profile.specs.Rows.{row_of_values}
use Rattle.dlms_checkpoint.specs.Reading.{values_at, row_at}
use Rattle.dlms_checkpoint.proofs.Lists.{from_drop}
use Rattle.dlms_checkpoint.proofs.Rows.{values_more}
use Rattle.dlms_checkpoint.proofs.row_reading.row_of.Goals as goal

further : (place i : ℕ) (bytes : List ℕ) → big_from (place + i) 4 bytes ≡ big_from i 4 (drop place bytes)
further place i bytes = sym (from_drop (place + i) 4 bytes) ∙ ap (big_from 0 4) (sym (drop-drop i place bytes)) ∙ from_drop i 4 (drop place bytes)

pub loop-nth-preserved : goal.loop-nth-preserved
loop-nth-preserved c =
    record {
      items = c.push.ensures.items
          ∙ ap (λ (l : List ℕ). l ++ c.word_at.result ∷ []) c.loop-nth.invariant.items
          ∙ ap (λ (v : ℕ). values_at c.loop-nth.nth (drop (4 * c.args.width * c.args.index) c.args.rows.now) ++ v ∷ []) (c.word_at.ensures ∙ further (4 * c.args.width * c.args.index) (4 * c.loop-nth.nth) c.args.rows.now)
          ∙ sym (values_more c.loop-nth.nth (drop (4 * c.args.width * c.args.index) c.args.rows.now));
      len = omega (arith, c.push.ensures.len, c.loop-nth.invariant.len);
    }

pub returns : goal.returns
unfolding row_at
returns c =
    let all : c.loop-nth.nth ≡ c.args.width = omega (arith, c.loop-nth-test.false, c.loop-nth.auto.nth-end) in
    ap row_of_values (c.loop-nth.invariant.items ∙ ap (λ (n : ℕ). values_at n (drop (4 * c.args.width * c.args.index) c.args.rows.now)) all)
