use Rattle.std.proofs.Common.{ℕ, List, [], ◌∷◌, ◌++◌, length, ap, sym, subst, ◌∙◌, refl, arith, Option, None, option_map, length-append}
use Rattle.dlms_frame.specs.Stream.{Takes}
use Rattle.dlms_frame.specs.Deframing.{left_of, parts_in}
use Rattle.dlms_frame.specs.declared.deframer.Found.{Found}
use Rattle.dlms_frame.proofs.DeframingLemmas.{opened}
use Rattle.dlms_frame.proofs.StreamLemmas.{Takes-none, closed_by_flag}
use Rattle.dlms_frame.proofs.deframer.Deframer.keep.Goals as goal

pub push-requires : goal.push-requires
push-requires c =
    let o = opened c.self.inside.window c.self.inside.found c.args.self.now c.self.view_is c.requires.none c.self.invariant in
    omega (arith, o.1)

pub shrink-requires : goal.shrink-requires
shrink-requires c =
    let o = opened c.self.inside.window c.self.inside.found c.args.self.now c.self.view_is c.requires.none c.self.invariant in
    omega (arith, o.1, ap length c.push.ensures ∙ length-append c.self.inside.window (c.args.byte ∷ []))

pub returns-clause-takes : goal.returns-clause-takes
returns-clause-takes c =
    let o = opened c.self.inside.window c.self.inside.found c.args.self.now c.self.view_is c.requires.none c.self.invariant in
    let pushed = c.push.ensures ∙ ap (λ (t : List ℕ). t ++ c.args.byte ∷ []) o.0 in
    subst (λ (f : Option Found). Takes c.args.self.now.bytes (c.args.byte ∷ []) None (left_of c.shrink.new.window f)) (sym o.2)
    (Takes-none c.args.self.now.bytes c.push.new.self c.push.new.self c.shrink.new.window c.args.byte
    refl pushed c.shrink.ensures.keeps (λ k f h. closed_by_flag c.args.self.now.bytes c.push.new.self c.args.byte c.requires.other pushed k f h))

pub returns-clause-frame : goal.returns-clause-frame
returns-clause-frame c =
    let o = opened c.self.inside.window c.self.inside.found c.args.self.now c.self.view_is c.requires.none c.self.invariant in
    ap (λ (f : Option Found). option_map (parts_in c.shrink.new.window) f) o.2
