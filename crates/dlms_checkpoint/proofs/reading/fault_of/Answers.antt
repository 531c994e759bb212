use Rattle.std.proofs.Common.{◌≡◌, ◌∙◌, ◌≤◌, List, ℕ, take, ap, sym, length, arith}
use Rattle.std.proofs.lemmas.List.{length-take}
use Rattle.dlms_checkpoint.specs.Bodies.{counts_fit, whole_length}
use Rattle.dlms_checkpoint.specs.Layouts.{as_present, head_length}
use Rattle.dlms_checkpoint.specs.declared.version.Version.{Version}
use Rattle.dlms_checkpoint.proofs.Presents.{head_present, present_long, whole_head}
use Rattle.dlms_checkpoint.proofs.Bodies.{front_counts, front_whole, fault_counts, fault_length, fault_none}
use Rattle.dlms_checkpoint.proofs.reading.fault_of.Goals as goal

-- the head that is read is that of the whole in the present layout
record Said (version : Version) (body said : List ℕ) : Type 0 where
  long : length said ≡ 324
  enough : head_length version ≤ length body
  counts : counts_fit said ≡ counts_fit (as_present version body)
  whole : whole_length said ≡ whole_length (as_present version body)

said_is : (version : Version) (body said : List ℕ) (head : ℕ) → head ≡ head_length version → head ≤ length body → said ≡ as_present version (take head body) → Said version body said
said_is version body said head is_head long is =
    let enough : head_length version ≤ length body = omega (arith, is_head, long) in
    let front : said ≡ take 324 (as_present version body) = is ∙ ap (λ (k : ℕ). as_present version (take k body)) is_head ∙ head_present version body enough in
    let all = present_long version body in
    record {
      long = ap length front ∙ omega (arith, length-take 324 (as_present version body), all, enough, whole_head version);
      enough = enough;
      counts = ap counts_fit front ∙ front_counts 324 (as_present version body) (omega arith);
      whole = ap whole_length front ∙ front_whole 324 (as_present version body) (omega arith);
    }

pub have_room-requires : goal.have_room-requires
have_room-requires c =
    omega (arith, (said_is c.args.version c.args.body.now c.as_slice.result.now c.head_length-head.result c.head_length-head.ensures c.if-body-head.false (c.as_slice.ensures.value ∙ c.present_of-said.ensures)).long)

pub returns-then-not-have_room : goal.returns-then-not-have_room
returns-then-not-have_room c =
    let it = said_is c.args.version c.args.body.now c.as_slice.result.now c.head_length-head.result c.head_length-head.ensures c.if-body-head.false (c.as_slice.ensures.value ∙ c.present_of-said.ensures) in
    sym (fault_counts c.args.version c.args.body.now it.enough (sym it.counts ∙ sym c.have_room.ensures ∙ c.if-not-have_room.true))

pub whole_of-requires-clause-long : goal.whole_of-requires-clause-long
whole_of-requires-clause-long c =
    omega (arith, (said_is c.args.version c.args.body.now c.as_slice-2.result.now c.head_length-head.result c.head_length-head.ensures c.if-body-head.false (c.as_slice-2.ensures.value ∙ c.present_of-said.ensures)).long)

pub returns-then-body-min : goal.returns-then-body-min
returns-then-body-min c =
    let one = said_is c.args.version c.args.body.now c.as_slice.result.now c.head_length-head.result c.head_length-head.ensures c.if-body-head.false (c.as_slice.ensures.value ∙ c.present_of-said.ensures) in
    let it = said_is c.args.version c.args.body.now c.as_slice-2.result.now c.head_length-head.result c.head_length-head.ensures c.if-body-head.false (c.as_slice-2.ensures.value ∙ c.present_of-said.ensures) in
    sym (fault_none c.args.version c.args.body.now it.enough (sym one.counts ∙ sym c.have_room.ensures ∙ c.if-not-have_room.false)
    (omega (arith, c.if-body-min.true, c.min.ensures, c.whole_of.ensures.value, it.whole, c.missing.ensures.value)))

pub returns-else-body-min : goal.returns-else-body-min
returns-else-body-min c =
    let one = said_is c.args.version c.args.body.now c.as_slice.result.now c.head_length-head.result c.head_length-head.ensures c.if-body-head.false (c.as_slice.ensures.value ∙ c.present_of-said.ensures) in
    let it = said_is c.args.version c.args.body.now c.as_slice-2.result.now c.head_length-head.result c.head_length-head.ensures c.if-body-head.false (c.as_slice-2.ensures.value ∙ c.present_of-said.ensures) in
    sym (fault_length c.args.version c.args.body.now it.enough (sym one.counts ∙ sym c.have_room.ensures ∙ c.if-not-have_room.false)
    (λ same. c.if-body-min.false (omega (arith, same, c.min.ensures, c.whole_of.ensures.value, it.whole, c.missing.ensures.value))))
