-- `split` cuts the bytes in two.
use Rattle.dlms_room.proofs.Steps.{◌≡◌, ◌+◌, ◌-◌, ◌%◌, ◌^◌, ◌<◌, ◌≤◌, List, [], ◌∷◌, ◌++◌, refl, sym, ap, ◌∙◌, arith, w64, Val, vint, vptr, SProp, emp, never, id⊢, WpFn, fact, fact_i, tables, ‵, raw, ◌⊛◌, prop, at_ret, ◌$◌, ◌∵◌, !, qed, by, move, drop, use0, use1, use2, split, join, regoal, fsplit, fjoin, whole, sub, agg, stop, fld, bin, of_opd, no_more, and_then, first, blocks, exec, returns, enter, alloc_all, pass_all, free_all, look_at, get, get_in, sets, sets_last, is, env, owns, Ptr, block_ptr, in_a_block, types_at, nothing, heard, Tuple, alive, Stays, stay_dropped, walk_of, Goes-blank, Goes-dropped, after, pair_of, pair_val, proved_at, leaves, sized_val, sized_own, sized_told, sized_made, cuts, resized, slot_at}
use Rattle.dlms_room.proofs.Lending.{left_even, left_fits, left_parts, left_sum}
use Rattle.dlms_room.specs.Blocks.{bytes_at}
use Rattle.dlms_room.specs.contracts.room.Room as room
use Rattle.dlms_room.specs.contracts.room.Room.split.{ended, clauses}
use Rattle.dlms_room.specs.contracts.room.Room.split.Key.{name as #self}
use Rattle.dlms_room.proofs.room.Room.split.Statement.{statement}
use Rattle.dlms_room.proofs.room.Room.split.Code as code

abbrev stayed : Stays ended.signature.params ended.kept
stayed = (stay_dropped (slot_at 0 ended.signature.params) ended.kept.0, (stay_dropped (slot_at 1 ended.signature.params) ended.kept.1.0, tt))

pub split_spec : {M : Type 1} → statement M
split_spec 𝓤 𝓛 𝓜 𝓡 wired =
    let 𝓣 = tables 𝓤 𝓛.H 𝓜 𝓡 𝓡.env in let c = clauses 𝓛 𝓜.mem 𝓡.returns in
    proved_at 𝓛 ended stayed c 𝓜 𝓡 (Goes-blank 𝓛 0 (slot_at 0 ended.signature.params) ended.kept.0 (λ κs x f. tt), (Goes-dropped 𝓛 0 (slot_at 1 ended.signature.params) ended.kept.1.0 (λ κs x f. refl), tt)) #self code.function (code.unfolded 𝓤 𝓛.H 𝓜 𝓡 wired) (λ z are.
    let Post : Val → SProp 𝓤 = (walk_of 𝓛 ended stayed c).post z in let Run : List Val → SProp 𝓤 = λ us. WpFn 𝓤 𝓛.H 𝓣.C 𝓣.Λ code.function us Post in
    let x = z.0.3.0 in let n = x.size in let m = z.0.3.1.0 in let told = sized_told x.start n z.0.4.0 are.0.0 in let fits = told.1 in
    let Asked : Type 0 = (m % 16 ≡ 0) × (m ≤ n) in
    qed 𝓛 ((raw (alive 𝓛 ended.signature z.0.0 z.0.1) ⊛ ‵ (owns (types_at ended.signature.params z.0.0) z.0.3 z.0.4)) ∷ raw (fact 𝓤 Asked) ∷ []) ∵
    move ! (1 ∷ []) $ heard ! Asked (λ asked. let low = asked.1 in split ! $ move ! (1 ∷ []) $ fsplit ! $ fsplit ! $ drop ! $ move ! (1 ∷ []) $ drop ! $
    in_a_block ! x.start (λ p. bytes_at p n) (id⊢ 𝓤 (never 𝓤)) (λ b o at.
    let start : Ptr = block_ptr b o in let behind : Ptr = block_ptr b (o + m) in let k = n - m in
    use1 𝓛 (‵ (bytes_at start (m + k))) (resized 𝓛 b o n (m + k) (left_parts n m low)) $ use1 𝓛 (‵ (bytes_at start m) ⊛ ‵ (bytes_at behind k)) (cuts 𝓛 b o m k asked.0) $ split ! $
    regoal ! (λ (us : List Val). prop (Run us)) (λ i. (told.0 ∙ ap (λ (p : Ptr). sized_val p n ∷ []) at) i ++ (are.1.0.0 i ++ [])) refl $
    enter ! 𝓣.C 𝓣.Λ code.function (sized_val start n ∷ vint w64 m ∷ []) Post $ alloc_all ! (λ l. pass_all ! refl ((tt, (tt, (record { fits = fits }, tt))), ((tt, record { fits = are.1.0.1 }), tt)) $ let En = env code.function.locals l in
    sets ! (of_opd ! (get_in ! (fld ! refl (stop !)) (sub ! 0 refl (whole !)))) refl (tt, tt) $
    sets ! (of_opd ! (get_in ! (fld ! refl (stop !)) (sub ! 1 refl (whole !)))) refl (tt, record { fits = fits }) $
    first ! $ blocks ! $
    sets_last ! (is ! (bin ! (get ! refl) (get ! refl) tt) (ap (vptr b) (omega arith))) refl (tt, tt) $
    exec ! 𝓣.C 𝓣.Λ En (after 3 (code.function).body) (at_ret En Post) $
    sets ! (of_opd ! (get ! refl)) refl (tt, tt) $
    sets ! (agg ! (and_then ! (get ! refl) (and_then ! (get ! refl) (no_more !)))) refl (tt, (tt, (record { fits = are.1.0.1 }, tt))) $
    sets ! (bin ! (get ! refl) (get ! refl) low) refl (tt, record { fits = left_fits n m fits }) $
    sets ! (agg ! (and_then ! (get ! refl) (and_then ! (get ! refl) (no_more !)))) refl (tt, (tt, (record { fits = left_fits n m fits }, tt))) $
    sets ! (agg ! (and_then ! (get ! refl) (and_then ! (get ! refl) (no_more !)))) refl (tt, ((tt, (record { fits = are.1.0.1 }, tt)), ((tt, (record { fits = left_fits n m fits }, tt)), tt))) $
    returns ! (look_at ! 0 refl) $ free_all ! refl $
    let first : (room.the_row).Denot = record { start = start; size = m; whole = asked.0 } in let other : (room.the_row).Denot = record { start = behind; size = k; whole = left_even n m x.whole asked.0 low } in
    let v : Val = pair_val (sized_val start m) (sized_val behind k) in let Both = Tuple (room.the_row ∷ room.the_row ∷ []) in
    use0 𝓛 (‵ (sized_own start m (sized_val start m ∷ []))) (sized_made 𝓛 start m are.1.0.1) $ fjoin ! $ move ! (1 ∷ []) $
    use0 𝓛 (‵ (sized_own behind k (sized_val behind k ∷ []))) (sized_made 𝓛 behind k (left_fits n m fits)) $ fjoin ! $ move ! (1 ∷ 0 ∷ []) $
    use2 𝓛 (‵ (Both.own_val (first, other) (v ∷ []))) (pair_of 𝓛 room.the_row room.the_row first other (sized_val start m) (sized_val behind k)) $
    use0 𝓛 (raw (fact 𝓤 (k + m ≡ n))) (fact_i 𝓤 (k + m ≡ n) (emp 𝓤) (left_sum n m low)) $ use0 𝓛 (raw (fact 𝓤 (m ≡ m))) (fact_i 𝓤 (m ≡ m) (emp 𝓤) refl) $ join ! $
    nothing ! $ nothing ! $ fjoin ! $ nothing ! $ fjoin ! $ move ! (3 ∷ 0 ∷ 2 ∷ 1 ∷ []) $
    by ! (leaves 𝓛 ended stayed c z v (first, other) (tt, (tt, tt)) (tt, (tt, tt)))))))
