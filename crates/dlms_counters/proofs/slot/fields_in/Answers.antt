use Rattle.std.proofs.Common.{ℕ, List, ◌∙◌, ap, drop, take}
use Rattle.byteorder.specs.Endian.{big_number}
use Rattle.dlms_counters.specs.Slot.{peers_in}
use Rattle.dlms_counters.proofs.slot.fields_in.Goals as goal

pub returns : goal.returns
returns c =
    let sequence = c.read_u64.ensures ∙ ap (big_number 8) c.rest_from-numbered.ensures.rest in
    let own = c.title_at.ensures ∙ ap (λ (l : List ℕ). take 8 l) c.rest_from-titled.ensures.rest in
    let fingerprint = c.fingerprint_at.ensures ∙ ap (λ (l : List ℕ). take 16 l) c.rest_from-keyed.ensures.rest in
    let reserved = c.read_u32.ensures ∙ ap (big_number 4) c.rest_from-ended.ensures.rest in
    let peers = c.peers_in.ensures ∙ ap (λ (l : List ℕ). peers_in c.count_in-count.result l) c.rest_from-listed.ensures.rest
    ∙ ap (λ (n : ℕ). peers_in n (drop 40 c.args.page.now)) c.count_in-count.ensures.value in
    (λ i. record {
      sequence = sequence i;
      own = own i;
      fingerprint = fingerprint i;
      reserved = reserved i;
      peers = peers i;
    })
