use Rattle.std.proofs.Common.{◌≡◌, ◌≤◌, ◌+◌, ◌-◌, List, ℕ, take, drop, length, subst, sym, ap, ◌∙◌, refl, arith, Some, None}
use Rattle.std.specs.Prelude.{IfNone}
use Rattle.std.proofs.lemmas.List.{take_all}
use Rattle.dlms_frame.specs.Frame.{Parts, address_bytes}
use Rattle.dlms_frame.specs.Stream.{IsNext, Takes}
use Rattle.dlms_c.specs.Place.{address_of}
use Rattle.dlms_c.proofs.Places.{found_in, info_at, no_frame}
use Rattle.dlms_c.proofs.octets.dlms_next_frame.Goals as goal

-- src/octets.rt:89:9
pub returns-in_default-clause-none : goal.returns-in_default-clause-none
returns-in_default-clause-none c same =
    let s = c.args.octets.now in
    let none = sym c.frame.ensures ∙ c.in_default.is in
    let all : c.feed-end.result ≡ length s = subst (λ o. IfNone o (c.feed-end.result ≡ length s)) none c.feed-end.ensures.all in
    no_frame _ c.feed-end.new.self.bytes s c.new-deframer.ensures
    (subst (λ o. Takes c.new-deframer.result.bytes s o c.feed-end.new.self.bytes) none
    (subst (λ t. Takes c.new-deframer.result.bytes t c.feed-end.new.self.frame c.feed-end.new.self.bytes) (ap (λ n. take n s) all ∙ take_all (length s) s (omega arith)) c.feed-end.ensures.takes))

-- src/octets.rt:91:17
pub overflow_sub-start : goal.overflow_sub-start
overflow_sub-start c =
    let there =
    found_in _ c.feed-end.new.self.bytes c.args.octets.now c.feed-end.result c.in-Some.frame c.feed-end.ensures.len c.new-deframer.ensures
    (subst (λ o. Takes c.new-deframer.result.bytes (take c.feed-end.result c.args.octets.now) o c.feed-end.new.self.bytes) (sym c.frame.ensures ∙ c.in-Some.is) c.feed-end.ensures.takes) in
    omega (arith, there.room, c.len.ensures)

-- src/octets.rt:80:1
pub returns-clause-found : goal.returns-clause-found
returns-clause-found c same =
    let s = c.args.octets.now in
    let f = c.in-Some.frame in
    let n = c.feed-end.result in
    let view = c.frame-2.view_is in
    let there =
    found_in _ c.feed-end.new.self.bytes c.args.octets.now c.feed-end.result c.in-Some.frame c.feed-end.ensures.len c.new-deframer.ensures
    (subst (λ o. Takes c.new-deframer.result.bytes (take c.feed-end.result c.args.octets.now) o c.feed-end.new.self.bytes) (sym c.frame.ensures ∙ c.in-Some.is) c.feed-end.ensures.takes) in
    let next : IsNext s 0 (n - (c.len.result + 2)) (n - 1) f = subst (λ k. IsNext s 0 (n - (k + 2)) (n - 1) f) (sym c.len.ensures) there.next in
    let info : c.frame-2.inside.info.now ≡ f.info = ap (λ (p : Parts). p.info) view in
    let place : n - (c.len.result + 2) + 6 + c.len-2.result + c.len-3.result ≡ n - (c.len.result + 2) + 6 + length (address_bytes f.dest) + length (address_bytes f.src) =
    omega (arith, c.len-2.ensures, c.len-3.ensures, ap (λ (p : Parts). length (address_bytes p.dest)) view, ap (λ (p : Parts). length (address_bytes p.src)) view) in (
      f,
      record {
        next = next;
        information = ap (λ (l : List ℕ). take (length l) (drop (n - (c.len.result + 2) + 6 + c.len-2.result + c.len-3.result) s)) info ∙ info_at s _ (n - 1) _ f next.stands place;
        length = ap (λ (l : List ℕ). length l) info;
        destination = c.told.ensures ∙ ap (λ (p : Parts). address_of p.dest) view;
        source = c.told-2.ensures ∙ ap (λ (p : Parts). address_of p.src) view;
        control = ap (λ (p : Parts). p.control) view;
        segmented = ap (λ (p : Parts). p.segmented) view;
      },
    )
