-- `deallocate` makes the room the whole block again, and keeps it.
use Rattle.dlms_room.proofs.Steps.{◌≡◌, ℕ, ◌^◌, ◌<◌, List, [], ◌∷◌, ◌++◌, refl, sym, ap, subst, ◌∙◌, arith, w64, Ty, Val, vint, vptr, vunit, SProp, emp, never, id⊢, apply∗, ftrue, size, align, capped, capped_is, WpFn, fact, fact_i, tables, sem, ‵, raw, ◌⊛◌, some, later, prop, ◌$◌, ◌∵◌, !, qed, by, move, keep, drop, use0, use1, use2, split, split3, join, pick, await, rewrite, regoal, fsplit, fjoin, fpick, feq_l, feq_i, flt_i, agg, unit_lit, of_opd, no_more, and_then, returns, enter, alloc_all, pass_all, free_all, look_at, get, sets, lands_as, env, owns, usize, unit, Ptr, block_ptr, ptr_val, room_for, in_a_block, types_at, nothing, only, heard, alive, triple_of, calls_at, Lasts, lasts, Stays, stay_dropped, walk_of, Goes-dropped, fm, proved_at, leaves, sized_val, sized_own, sized_made, slot_at}
use Rattle.dlms_room.proofs.Lending.{block_even, block_fits}
use Rattle.dlms_room.specs.Sizes.{block_size}
use Rattle.dlms_room.specs.Blocks.{bytes_at, block_rest}
use Rattle.dlms_room.specs.contracts.sizes.size_of_block as sizer
use Rattle.dlms_room.proofs.sizes.size_of_block.Met.{met as sizes}
use Rattle.dlms_room.specs.contracts.heap.RoomHeap.give as callee
use Rattle.dlms_room.proofs.heap.RoomHeap.give.Met.{met as gives}
use Rattle.dlms_room.specs.contracts.room.Room as room
use Rattle.dlms_room.specs.contracts.heap.RoomHeapAllocator.deallocate.{ended, clauses}
use Rattle.dlms_room.specs.contracts.heap.RoomHeapAllocator.deallocate.Key.{name as #self}
use Rattle.dlms_room.proofs.heap.RoomHeapAllocator.deallocate.Statement.{statement}
use Rattle.dlms_room.proofs.heap.RoomHeapAllocator.deallocate.Code as code

abbrev stayed : Stays ended.signature.params ended.kept
stayed = (stay_dropped (slot_at 0 ended.signature.params) ended.kept.0, (stay_dropped (slot_at 1 ended.signature.params) ended.kept.1.0, (stay_dropped (slot_at 2 ended.signature.params) ended.kept.1.1.0, (stay_dropped (slot_at 3 ended.signature.params) ended.kept.1.1.1.0, tt))))

pub deallocate_spec : {M : Type 1} → statement M
deallocate_spec 𝓤 𝓛 𝓜 𝓡 wired =
    let 𝓣 = tables 𝓤 𝓛.H 𝓜 𝓡 𝓡.env in let c = clauses 𝓛 𝓜.mem 𝓡.returns in
    proved_at 𝓛 ended stayed c 𝓜 𝓡 (Goes-dropped 𝓛 1 (slot_at 0 ended.signature.params) ended.kept.0 (λ κs x f. refl), (Goes-dropped 𝓛 1 (slot_at 1 ended.signature.params) ended.kept.1.0 (λ κs x f. refl), (Goes-dropped 𝓛 1 (slot_at 2 ended.signature.params) ended.kept.1.1.0 (λ κs x f. refl), (Goes-dropped 𝓛 1 (slot_at 3 ended.signature.params) ended.kept.1.1.1.0 (λ κs x f. refl), tt)))) #self code.function (code.unfolded 𝓤 𝓛.H 𝓜 𝓡 wired) (λ z are.
    let Post : Val → SProp 𝓤 = (walk_of 𝓛 ended stayed c).post z in let Run : List Val → SProp 𝓤 = λ us. WpFn 𝓤 𝓛.H 𝓣.C 𝓣.Λ code.function us Post in
    let a = z.0.3 in let vss = z.0.4 in let τ : Ty = z.1 in let from = a.1.0 in let n = a.1.1.0 in let al = a.1.1.1.0 in let m = block_size (size τ) in
    let me : Val = vptr a.0.ref_ptr.0 a.0.ref_ptr.1 in
    let k₀ = triple_of 𝓛 sizer.signature (sizer.spec 𝓛 𝓜.mem 𝓡.returns) in let y₀ : k₀.Ghost = ((tt, tt, tt, (n, tt), (vint w64 n ∷ [], tt)), tt) in
    let k = triple_of 𝓛 callee.signature (callee.spec 𝓛 𝓜.mem 𝓡.returns) in
    let Asked : Type 0 = (capped (size τ) ≡ n) × (capped (align τ) ≡ al) in
    qed 𝓛 ((raw (alive 𝓛 ended.signature z.0.0 z.0.1) ⊛ ‵ (owns (types_at ended.signature.params z.0.0) a vss)) ∷ (raw (fact 𝓤 Asked) ⊛ ‵ (room_for τ from) ⊛ ‵ (block_rest τ from)) ∷ []) ∵
    move ! (1 ∷ []) $ split3 ! $ heard ! Asked (λ asked. move ! (1 ∷ []) $ fpick ! (λ below. move ! (1 ∷ 0 ∷ []) $
    use2 𝓛 (‵ (bytes_at from m)) (apply∗ 𝓤 (sem 𝓛 (room_for τ from)) (sem 𝓛 (bytes_at from m))) $
    in_a_block ! from (λ p. bytes_at p m) (id⊢ 𝓤 (never 𝓤)) (λ b o at. let p : Ptr = block_ptr b o in
    let same : size τ ≡ n = sym (capped_is (size τ) (omega arith)) ∙ asked.0 in let small : n < 2 ^ 62 = subst (λ (j : ℕ). j < 2 ^ 62) same below in
    move ! (1 ∷ []) $ split ! $ move ! (1 ∷ []) $ fsplit ! $ fsplit ! $ keep ! (4 ∷ 1 ∷ 3 ∷ []) $
    regoal ! (λ (us : List Val). prop (Run us)) (λ i. are.0.0 i ++ ((are.1.0 ∙ ap (λ (u : Ptr). ptr_val u ∷ []) at) i ++ (are.1.1.0.0 i ++ (are.1.1.1.0.0 i ++ [])))) refl $
    enter ! 𝓣.C 𝓣.Λ code.function (me ∷ vptr b o ∷ vint w64 n ∷ vint w64 al ∷ []) Post $
    alloc_all ! (λ l. pass_all ! refl ((tt, tt), ((tt, tt), ((tt, record { fits = are.1.1.0.1 }), ((tt, record { fits = are.1.1.1.0.1 }), tt)))) $
    use0 𝓛 (raw (fact 𝓤 (n < 2 ^ 62))) (fact_i 𝓤 (n < 2 ^ 62) (emp 𝓤) small) $ nothing ! $ flt_i ! n (2 ^ 64) are.1.1.0.1 $ feq_i ! (List Val) (vint w64 n ∷ []) (vint w64 n ∷ []) refl $ fjoin ! $ fjoin ! $ nothing ! $ join ! $ join ! $ use1 𝓛 (raw (k₀.pre y₀)) (id⊢ 𝓤 _) $
    calls_at ! (fm 𝓛 𝓜 𝓡) k₀ (sizes 𝓤 𝓛 𝓜 𝓡 (code.calls-dlms_room::sizes::size_of_block 𝓡.env wired)) y₀ (and_then ! (get ! refl) (no_more !)) (λ v.
    use1 𝓛 (later (some (λ (j : ℕ). (‵ ftrue ⊛ ‵ (usize.own_val j (v ∷ []))) ⊛ some (λ (ls : Lasts sizer.ended tt y₀.0.3). ‵ (lasts sizer.ended tt y₀.0.3 ls) ⊛ raw (fact 𝓤 (j ≡ block_size n)))))) (id⊢ 𝓤 (k₀.post y₀ v)) $
    await ! tt $ pick ! (λ j. split ! $ move ! (1 ∷ []) $ pick ! (λ _. split ! $ drop ! $ heard ! (j ≡ block_size n) (λ said. split ! $ drop ! $ fsplit ! $ feq_l ! (λ e. drop ! $ let fits = block_fits (size τ) below in
    lands_as ! (ap only e ∙ ap (vint w64) (said ∙ ap block_size (sym same))) refl (tt, record { fits = fits }) $
    sets ! (agg ! (and_then ! (get ! refl) (and_then ! (get ! refl) (no_more !)))) refl (tt, (tt, (record { fits = fits }, tt))) $
    let x : (room.the_row).Denot = record { start = p; size = m; whole = block_even (size τ) } in
    let y : k.Ghost = ((z.0.0, z.0.1, z.0.2, (a.0, (x, tt)), (me ∷ [], (sized_val p m ∷ [], tt))), tt) in
    use0 𝓛 (‵ (sized_own p m (sized_val p m ∷ []))) (sized_made 𝓛 p m fits) $ fjoin ! $ nothing ! $ move ! (1 ∷ 0 ∷ []) $ fjoin ! $
    move ! (1 ∷ []) $ feq_i ! (List Val) (me ∷ []) (me ∷ []) refl $ fjoin ! $ fjoin ! $ move ! (1 ∷ 0 ∷ []) $ join ! $
    nothing ! $ move ! (1 ∷ 0 ∷ []) $ join ! $ use1 𝓛 (raw (k.pre y)) (id⊢ 𝓤 _) $
    calls_at ! (fm 𝓛 𝓜 𝓡) k (gives 𝓤 𝓛 𝓜 𝓡 (code.calls-dlms_room::heap::RoomHeap::give 𝓡.env wired)) y (and_then ! (get ! refl) (and_then ! (get ! refl) (no_more !))) (λ u.
    use1 𝓛 (later (some (λ (t : Unit {0}). (raw (alive 𝓛 ended.signature z.0.0 z.0.1) ⊛ ‵ (unit.own_val t (u ∷ []))) ⊛ some (λ (ls : Lasts callee.ended z.0.0 y.0.3). ‵ (lasts callee.ended z.0.0 y.0.3 ls) ⊛ ‵ ftrue)))) (id⊢ 𝓤 (k.post y u)) $
    await ! tt $ pick ! (λ t. split ! $ move ! (1 ∷ []) $ drop ! $ split ! $ move ! (1 ∷ []) $ feq_l ! (λ e'. lands_as ! (ap only e') refl (tt, tt) $
    sets ! (of_opd ! (unit_lit !)) refl (tt, tt) $
    returns ! (look_at ! 0 refl) $ free_all ! refl $
    feq_i ! (List Val) (vunit ∷ []) (vunit ∷ []) refl $ nothing ! $ nothing ! $ nothing ! $ fjoin ! $ nothing ! $ fjoin ! $ nothing ! $ fjoin ! $ nothing ! $ fjoin ! $ move ! (3 ∷ 0 ∷ 2 ∷ 1 ∷ []) $
    by ! (leaves 𝓛 ended stayed c z vunit tt (tt, (tt, (tt, (tt, tt)))) (tt, (tt, (tt, (tt, tt))))))))))))))))))
