use Rattle.std.proofs.Common.{◌≡◌, ◌<◌, ◌++◌, ℕ, suc, List, [], ◌∷◌, true, length, get_or, set, take, drop, refl, sym, ap, subst, ◌∙◌}
use Rattle.std.proofs.Math.Seq.{drop-cons}
use Rattle.std.proofs.lemmas.List.{set_split}
use Rattle.std.proofs.lemmas.Slice.Eq.{bytes_eq-Decides}
use Rattle.std.specs.Str.{bytes_eq}
use Rattle.dlms_counters.specs.declared.counters.Peer.{Peer}
use Rattle.dlms_counters.specs.Table.{with_counter}
use Rattle.dlms_counters.proofs.table.replace.Goals as goal

-- the first of the rest is the peer
at_first : (p : Peer) (rest : List Peer) (t : List ℕ) (n : ℕ) → bytes_eq p.title t ≡ true
    → with_counter t n (p ∷ rest) ≡ record { title = t; counter = n } ∷ rest
at_first p rest t n same = rw same refl

at_place : (ps : List Peer) (i n : ℕ) (t : List ℕ) (d : Peer) → i < length ps → bytes_eq (get_or ps i d).title t ≡ true
    → with_counter t n ps ≡ take i ps ++ with_counter t n (drop i ps)
    → set ps i (record { title = (get_or ps i d).title; counter = n }) ≡ with_counter t n ps
at_place ps i n t d there same rest =
    let p = get_or ps i d in
    let title : p.title ≡ t = (bytes_eq-Decides p.title t).0 same in
    let found : with_counter t n (drop i ps) ≡ record { title = t; counter = n } ∷ drop (suc i) ps =
    ap (with_counter t n) (drop-cons ps i d there) ∙ at_first p (drop (suc i) ps) t n same in
    set_split ps i (record { title = p.title; counter = n }) there
    ∙ ap (λ (x : List ℕ). take i ps ++ record { title = x; counter = n } ∷ drop (suc i) ps) title
    ∙ ap (λ (l : List Peer). take i ps ++ l) (sym found)
    ∙ sym rest

pub returns-then-is_there-clause-there : goal.returns-then-is_there-clause-there
returns-then-is_there-clause-there c _ =
    let d : Peer = record { title = []; counter = 0 } in
    let same = sym c.is_of-is_there.ensures ∙ c.if-is_there.true in
    let all = c.loop-index.invariant in
    let there = subst (λ (l : List Peer). c.loop-index.index < length l) (sym all.same) c.loop-index-test.true in
    at_place c.loop-index.peers c.loop-index.index c.args.counter c.args.title.now d there same all.rest
    ∙ ap (with_counter c.args.title.now c.args.counter) all.same
