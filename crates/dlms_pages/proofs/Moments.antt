-- How a run of device calls goes on.
use Rattle.std.proofs.Common.{◌≡◌, inl, inr, ⊎_elim, ℕ, arith}
use Rattle.std.proofs.Common.{Result, ◌∙◌}
use Rattle.dlms_pages.specs.Device.{View, Image, Elapses, Rules, Goes, Reads}
use Rattle.dlms_pages.specs.Stops.{LeavesOnly, IsFixed, Looks}
use Rattle.dlms_pages.specs.declared.device.PageRead.{PageRead}
use Rattle.dlms_pages.specs.declared.device.DeviceFault.{DeviceFault}

-- one call after which a stop leaves what has P
pub one_call : (old new : View) (P : Image → Type 0) → ((c : Image) → old.may_leave c → P c) → Rules old → Elapses old new → ((c : Image) → new.may_leave c → P c) → LeavesOnly old new P
one_call old new P at_first rules time here = record {
  later = time.later;
  each = λ c left. ⊎_elim (λ past. at_first c (rules.only_now c past)) (here c) (time.nothing_else old.moment c (omega arith) left);
  before = λ t c le left. ⊎_elim (λ past. inl past) (λ now. inr (here c now)) (time.nothing_else t c le left);
}

-- no call
pub no_call : (old : View) (P : Image → Type 0) → ((c : Image) → old.may_leave c → P c) → Rules old → LeavesOnly old old P
no_call old P here rules = record {
  later = omega arith;
  each = λ c left. here c (rules.only_now c left);
  before = λ t c le left. inl left;
}

-- one run after another
pub then_also : (old mid new : View) (P : Image → Type 0) → LeavesOnly old mid P → LeavesOnly mid new P → LeavesOnly old new P
then_also old mid new P first second = record {
  later = omega (arith, first.later, second.later);
  each = λ c left. ⊎_elim (first.each c) (λ p. p) (second.before old.moment c first.later left);
  before = λ t c le left. ⊎_elim (first.before t c le) (λ p. inr p) (second.before t c (omega (arith, le, first.later)) left);
}

pub weaker : (old new : View) (P Q : Image → Type 0) → ((c : Image) → P c → Q c) → LeavesOnly old new P → LeavesOnly old new Q
weaker old new P Q f run = record {
  later = run.later;
  each = λ c left. f c (run.each c left);
  before = λ t c le left. ⊎_elim (λ past. inl past) (λ p. inr (f c p)) (run.before t c le left);
}

-- what reads give is the one image
pub seen_is : (v : View) (image : Image) → IsFixed v image → Rules v → v.seen ≡ image
seen_is v image fixed rules = fixed.only v.seen rules.seen

pub looks_nowhere : (v : View) (image : Image) → IsFixed v image → Rules v → Looks v v image
looks_nowhere v image fixed rules = record { fixed = fixed; any_moment = no_call v (λ c. c ≡ image) fixed.only rules }

pub looks_read : (index : ℕ) (old new : View) (image : Image) (result : Result PageRead DeviceFault) → IsFixed old image → Rules old → Goes old new result → Reads index old new result → Looks old new image
looks_read index old new image result fixed rules goes reads = record {
  fixed = record { honest = goes.honest ∙ fixed.honest; only = λ c left. fixed.only c (reads.crash c left) };
  any_moment = one_call old new (λ c. c ≡ image) fixed.only rules reads.time (λ c left. fixed.only c (reads.crash c left));
}

pub looks_on : (old mid new : View) (image : Image) → Looks old mid image → Looks mid new image → Looks old new image
looks_on old mid new image first second = record { fixed = second.fixed; any_moment = then_also old mid new (λ c. c ≡ image) first.any_moment second.any_moment }
