-- `with_size` reads the size and puts the room together again.
use Rattle.dlms_room.proofs.Steps.{◌≡◌, ◌^◌, List, [], ◌∷◌, ◌++◌, refl, w64, Val, vint, SProp, emp, ftrue, WpFn, fact, fact_i, tables, ‵, raw, ◌⊛◌, prop, ◌$◌, ◌∵◌, !, qed, by, move, drop, use0, use2, split, regoal, fsplit, fjoin, feq_i, flt_i, whole, sub, agg, stop, fld, of_opd, no_more, and_then, returns, enter, alloc_all, pass_all, free_all, look_at, get, get_in, sets, owns, usize, types_at, nothing, Tuple, alive, Stays, stay_dropped, walk_of, Goes-blank, and_tt, pair_of, pair_val, proved_at, leaves, ptr_typed, sized_val, sized_own, sized_told, sized_made, slot_at}
use Rattle.dlms_room.specs.contracts.room.Room as room
use Rattle.dlms_room.specs.contracts.room.Room.with_size.{ended, clauses}
use Rattle.dlms_room.specs.contracts.room.Room.with_size.Key.{name as #self}
use Rattle.dlms_room.proofs.room.Room.with_size.Statement.{statement}
use Rattle.dlms_room.proofs.room.Room.with_size.Code as code

abbrev stayed : Stays ended.signature.params ended.kept
stayed = (stay_dropped (slot_at 0 ended.signature.params) ended.kept.0, tt)

pub with_size_spec : {M : Type 1} → statement M
with_size_spec 𝓤 𝓛 𝓜 𝓡 wired =
    let 𝓣 = tables 𝓤 𝓛.H 𝓜 𝓡 𝓡.env in let c = clauses 𝓛 𝓜.mem 𝓡.returns in
    proved_at 𝓛 ended stayed c 𝓜 𝓡 (Goes-blank 𝓛 0 (slot_at 0 ended.signature.params) ended.kept.0 (λ κs x f. tt), tt) #self code.function (code.unfolded 𝓤 𝓛.H 𝓜 𝓡 wired) (λ z are.
    let Post : Val → SProp 𝓤 = (walk_of 𝓛 ended stayed c).post z in let Run : List Val → SProp 𝓤 = λ us. WpFn 𝓤 𝓛.H 𝓣.C 𝓣.Λ code.function us Post in
    let x = z.0.3.0 in let n = x.size in let told = sized_told x.start n z.0.4.0 are.0.0 in let fits = told.1 in
    let here = ptr_typed x.start in
    qed 𝓛 ((raw (alive 𝓛 ended.signature z.0.0 z.0.1) ⊛ ‵ (owns (types_at ended.signature.params z.0.0) z.0.3 z.0.4)) ∷ ‵ ftrue ∷ []) ∵
    move ! (1 ∷ []) $ drop ! $ split ! $ move ! (1 ∷ []) $ fsplit ! $ fsplit ! $ drop ! $ move ! (1 ∷ []) $ drop ! $
    regoal ! (λ (us : List Val). prop (Run us)) (λ i. told.0 i ++ []) refl $
    enter ! 𝓣.C 𝓣.Λ code.function (sized_val x.start n ∷ []) Post $ alloc_all ! (λ l. pass_all ! refl ((and_tt _ here.0, (here.1, (record { fits = fits }, tt))), tt) $
    sets ! (of_opd ! (get_in ! (fld ! refl (stop !)) (sub ! 0 refl (whole !)))) refl here $
    sets ! (of_opd ! (get_in ! (fld ! refl (stop !)) (sub ! 1 refl (whole !)))) refl (tt, record { fits = fits }) $
    sets ! (agg ! (and_then ! (get ! refl) (and_then ! (get ! refl) (no_more !)))) refl (and_tt _ here.0, (here.1, (record { fits = fits }, tt))) $
    sets ! (agg ! (and_then ! (get ! refl) (and_then ! (get ! refl) (no_more !)))) refl (and_tt _ (and_tt _ here.0), (record { fits = fits }, ((here.1, (record { fits = fits }, tt)), tt))) $
    returns ! (look_at ! 0 refl) $ free_all ! refl $
    use0 𝓛 (‵ (sized_own x.start n (sized_val x.start n ∷ []))) (sized_made 𝓛 x.start n fits) $ fjoin ! $
    flt_i ! n (2 ^ 64) fits $ feq_i ! (List Val) (vint w64 n ∷ []) (vint w64 n ∷ []) refl $ fjoin ! $
    use2 𝓛 (‵ ((Tuple (usize ∷ room.the_row ∷ [])).own_val (n, x) (pair_val (vint w64 n) (sized_val x.start n) ∷ []))) (pair_of 𝓛 usize room.the_row n x (vint w64 n) (sized_val x.start n)) $
    use0 𝓛 (raw (fact 𝓤 ((n ≡ n) × (x ≡ x)))) (fact_i 𝓤 ((n ≡ n) × (x ≡ x)) (emp 𝓤) (refl, refl)) $ nothing ! $ nothing ! $ fjoin ! $ move ! (3 ∷ 0 ∷ 2 ∷ 1 ∷ []) $
    by ! (leaves 𝓛 ended stayed c z (pair_val (vint w64 n) (sized_val x.start n)) (n, x) (tt, tt) (tt, tt))))
