-- `allocate` hands out the block as room for the type that is asked for, and the right to give it back.
use Rattle.dlms_room.proofs.Steps.{◌≡◌, ◌^◌, ◌<◌, ◌≤◌, List, [], ◌∷◌, ◌++◌, refl, subst, ◌∙◌, sized_val, live, lit<, w64, Ok, Err, Ty, Val, vint, vptr, SProp, ent, never, id⊢, froom, size, align, capped, WpFn, fact, tables, ‵, raw, ◌⊛◌, some, later, prop, at_ret, ◌$◌, ◌∵◌, !, qed, by, move, drop, use0, use1, split, join, pick, await, regoal, fjoin, whole, sub, agg, in_variant, stop, fld, lit, of_opd, no_more, and_then, first, switches_on, exec, returns, enter, alloc_all, pass_all, free_all, look_at, get, get_in, get_tag, sets, sets_last, lands_as, env, owns, Ptr, block_ptr, in_a_block, types_at, nothing, heard, alive, triple_of, calls_from, Lasts, lasts, Stays, stay_dropped, walk_of, Goes-dropped, Answer, answer_val, Answer-Ok, Answer-err, after, head, arm_body, fm, proved_at, leaves, slot_at, then_runs}
use mathlib.Core.Bool.{true, false}
use mir.Val.{vcons, vnil}
use types.Match.{vrt}
use Rattle.dlms_room.proofs.Lending.{Taken, Told, taken, lends, block_fits}
use Rattle.dlms_room.specs.Sizes.{block_size}
use Rattle.dlms_room.specs.Blocks.{bytes_at, block_rest}
use Rattle.dlms_room.specs.contracts.heap.RoomHeap.take as callee
use Rattle.dlms_room.specs.contracts.heap.RoomHeap.take.Key as take_key
use Rattle.dlms_room.proofs.heap.RoomHeap.take.Met.{met as takes}
use Rattle.dlms_room.specs.contracts.heap.RoomHeapAllocator.allocate.{ended, clauses}
use Rattle.dlms_room.specs.contracts.heap.RoomHeapAllocator.allocate.Key.{name as #self}
use Rattle.dlms_room.proofs.heap.RoomHeapAllocator.allocate.Statement.{statement}
use Rattle.dlms_room.proofs.heap.RoomHeapAllocator.allocate.Code as code

abbrev stayed : Stays ended.signature.params ended.kept
stayed = (stay_dropped (slot_at 0 ended.signature.params) ended.kept.0, (stay_dropped (slot_at 1 ended.signature.params) ended.kept.1.0, (stay_dropped (slot_at 2 ended.signature.params) ended.kept.1.1.0, tt)))

pub allocate_spec : {M : Type 1} → statement M
allocate_spec 𝓤 𝓛 𝓜 𝓡 wired =
    let 𝓣 = tables 𝓤 𝓛.H 𝓜 𝓡 𝓡.env in let c = clauses 𝓛 𝓜.mem 𝓡.returns in let body = (code.function).body in
    proved_at 𝓛 ended stayed c 𝓜 𝓡 (Goes-dropped 𝓛 1 (slot_at 0 ended.signature.params) ended.kept.0 (λ κs x f. refl), (Goes-dropped 𝓛 1 (slot_at 1 ended.signature.params) ended.kept.1.0 (λ κs x f. refl), (Goes-dropped 𝓛 1 (slot_at 2 ended.signature.params) ended.kept.1.1.0 (λ κs x f. refl), tt))) #self code.function (code.unfolded 𝓤 𝓛.H 𝓜 𝓡 wired) (λ z are.
    let Post : Val → SProp 𝓤 = (walk_of 𝓛 ended stayed c).post z in let Run : List Val → SProp 𝓤 = λ us. WpFn 𝓤 𝓛.H 𝓣.C 𝓣.Λ code.function us Post in
    let a = z.0.3 in let vss = z.0.4 in let τ : Ty = z.1 in let n = a.1.0 in let al = a.1.1.0 in
    let k = triple_of 𝓛 callee.signature (callee.spec 𝓛 𝓜.mem 𝓡.returns) in
    let vs : List Val = vptr a.0.ref_ptr.0 a.0.ref_ptr.1 ∷ vint w64 n ∷ vint w64 al ∷ [] in
    let y : k.Ghost = ((z.0.0, z.0.1, z.0.2, a, vss), tt) in
    let told : k.args y ≡ vs = λ i. are.0.0 i ++ (are.1.0.0 i ++ (are.1.1.0.0 i ++ [])) in
    let Asked : Type 0 = (capped (size τ) ≡ n) × (capped (align τ) ≡ al) in
    qed 𝓛 ((raw (alive 𝓛 ended.signature z.0.0 z.0.1) ⊛ ‵ (owns (types_at ended.signature.params z.0.0) a vss)) ∷ raw (fact 𝓤 Asked) ∷ []) ∵
    move ! (1 ∷ []) $ heard ! Asked (λ asked. split ! $ move ! (1 ∷ []) $
    move ! (1 ∷ 0 ∷ []) $ join ! $ nothing ! $ move ! (1 ∷ 0 ∷ []) $ join ! $ use1 𝓛 (raw (k.pre y)) (id⊢ 𝓤 _) $
    regoal ! (λ (us : List Val). prop (Run us)) told refl $
    enter ! 𝓣.C 𝓣.Λ code.function vs Post $
    alloc_all ! (λ l. pass_all ! refl ((tt, tt), ((tt, record { fits = are.1.0.1 }), ((tt, record { fits = are.1.1.0.1 }), tt))) $ let En = env code.function.locals l in
    calls_from ! (fm 𝓛 𝓜 𝓡) (raw (k.pre y)) vs (k.post y) (subst (λ (us : List Val). ent 𝓤 (k.pre y) (𝓣.C take_key.name us (k.post y))) told (takes 𝓤 𝓛 𝓜 𝓡 (code.calls-dlms_room::heap::RoomHeap::take 𝓡.env wired) y)) (and_then ! (get ! refl) (and_then ! (get ! refl) (and_then ! (get ! refl) (no_more !)))) (λ v.
    use1 𝓛 (later (some (λ (x : Taken.Denot). (raw (alive 𝓛 ended.signature z.0.0 z.0.1) ⊛ ‵ (Taken.own_val x (v ∷ []))) ⊛ some (λ (ls : Lasts callee.ended z.0.0 a). ‵ (lasts callee.ended z.0.0 a ls) ⊛ raw (fact 𝓤 (Told n al x)))))) (id⊢ 𝓤 (k.post y v)) $
    await ! tt $ pick ! (λ x. split ! $ move ! (1 ∷ []) $ pick ! (λ _. split ! $ drop ! $ heard ! (Told n al x) (λ said. split ! $ move ! (1 ∷ []) $
    taken ! n al x v said
    (λ p small slim e. in_a_block ! p (λ at. bytes_at at (block_size n)) (id⊢ 𝓤 (never 𝓤)) (λ b o here. let fits = block_fits n small in
    use1 𝓛 (‵ (froom τ b o) ⊛ ‵ (block_rest τ (block_ptr b o))) (lends 𝓛 τ b o n asked.0 small) $
    lands_as ! (e ∙ (λ i. live 1 (vcons (sized_val (here i) (block_size n)) vnil))) refl (tt, (record { fits = lit< tt }, ((tt, (record { fits = fits }, tt)), tt))) $
    first ! $ switches_on ! (get_tag ! (vrt ! refl (fld ! refl (stop !))) (whole !)) $ exec ! 𝓣.C 𝓣.Λ En (arm_body 0 (head (after 1 body))) (then_runs 𝓛 𝓣.C 𝓣.Λ En (after 2 body) (at_ret En Post)) $
    sets ! (of_opd ! (get_in ! (vrt ! refl (fld ! refl (fld ! refl (stop !)))) (sub ! 0 refl (in_variant ! 1 0 refl refl (whole !))))) refl (tt, tt) $
    sets_last ! (agg ! (and_then ! (lit ! tt) (and_then ! (get ! refl) (no_more !)))) refl (tt, (record { fits = lit< tt }, (tt, tt))) $
    exec ! 𝓣.C 𝓣.Λ En (after 2 body) (at_ret En Post) $
    sets ! (of_opd ! (get ! refl)) refl (tt, (record { fits = lit< tt }, (tt, tt))) $
    returns ! (look_at ! 0 refl) $ free_all ! refl $
    use0 𝓛 (‵ (Answer.own_val (Ok (block_ptr b o)) (answer_val true b o ∷ []))) (Answer-Ok 𝓛 b o) $ nothing ! $ nothing ! $ fjoin ! $ nothing ! $ fjoin ! $ nothing ! $ fjoin ! $ move ! (3 ∷ 0 ∷ 1 ∷ 2 ∷ []) $
    by ! (leaves 𝓛 ended stayed c z (answer_val true b o) (Ok (block_ptr b o)) (tt, (tt, (tt, tt))) (tt, (tt, (tt, tt))))))
    (λ e. nothing ! $ lands_as ! e refl (tt, (record { fits = lit< tt }, tt)) $
    first ! $ switches_on ! (get_tag ! (vrt ! refl (fld ! refl (stop !))) (whole !)) $ exec ! 𝓣.C 𝓣.Λ En (arm_body 1 (head (after 1 body))) (then_runs 𝓛 𝓣.C 𝓣.Λ En (after 2 body) (at_ret En Post)) $
    sets ! (agg ! (no_more !)) refl (tt, tt) $
    sets_last ! (agg ! (and_then ! (lit ! tt) (and_then ! (get ! refl) (no_more !)))) refl (tt, (record { fits = lit< tt }, (tt, tt))) $
    exec ! 𝓣.C 𝓣.Λ En (after 2 body) (at_ret En Post) $
    sets ! (of_opd ! (get ! refl)) refl (tt, (record { fits = lit< tt }, (tt, tt))) $
    returns ! (look_at ! 0 refl) $ free_all ! refl $
    use0 𝓛 (‵ (Answer.own_val (Err (record {})) (answer_val false 0 0 ∷ []))) (Answer-err 𝓛) $ nothing ! $ nothing ! $ fjoin ! $ nothing ! $ fjoin ! $ nothing ! $ fjoin ! $ move ! (3 ∷ 0 ∷ 1 ∷ 2 ∷ []) $
    by ! (leaves 𝓛 ended stayed c z (answer_val false 0 0) (Err (record {})) (tt, (tt, (tt, tt))) (tt, (tt, (tt, tt))))))))))))
