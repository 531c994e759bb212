-- `take_kept` returns the pointer, if there is one. Assumes `Logic`.
use Rattle.std.proofs.Common.{◌≡◌, List, [], ◌∷◌, ◌++◌, refl, sym, ap, ◌∙◌, subst, lit<}
use mathlib.Core.Bool.{Bool, true, false}
use mir.Val.{Val, vptr, vcons, vnil}
use base.Logic.{SProp, ent, emp, id⊢}
use prog.Wp.{WpFn}
use contract.Monad.{fact, fact_i}
use contract.Running.{tables}
use types.Kit.{‵, raw, ◌⊛◌, at_ret, ◌$◌, ◌∵◌, !, qed, by, move, keep, split, fsplit, fjoin, suffices, use0, use1}
use types.Part.{agg, sub, whole}
use types.Match.{live}
use types.Run.{enter, returns, returns_within, stop, fld, lit, of_opd, and_then, no_more, first, branches, skips, exec}
use types.ByLocal.{alloc_all, pass_all, free_all, look_at, get, get_in, sets, env}
use denote.Exit.{yes}
use denote.RattleType.{RattleType, owns}
use denote.Param.{layout}
use denote.RawPtr.{Ptr, block_ptr}
use denote.Signature.{types_at, type_at, plain}
use denote.Steps.{nothing}
use denote.Triple.Entry.{alive}
use denote.Triple.Walked.{Stays, stay_dropped, Goes-dropped, walk_of}
use Rattle.core.specs.declared.option.Option.TheVariants.{None, Some}
use Rattle.core.proofs.alloc.Calls.{handle_tells}
use Rattle.core.proofs.cell.Inside.{Good}
use Rattle.core.proofs.atomic.Steps.{Ptr-Good}
use Rattle.core.proofs.option.Made.{Some-of, none_of}
use Rattle.std.specs.contracts.alloc.Global as heap
use Rattle.std.proofs.alloc.Global.TheLaws as heap_laws
use Rattle.std.specs.contracts.impls.GlobalAllocator.TheImpl.{ghosts}
use Rattle.std_alloc.proofs.ResultValues.{and_tt}
use Rattle.std.proofs.raw_atomic.Walks.{proved_at, leaves}
use Rattle.std.specs.Prelude.{option_map}
use Rattle.dlms_c.proofs.Values.{al, both, Loose, loose_good, loose_in}
use Rattle.dlms_c.proofs.MeterValues.{word, word_good, handle_out, either_kept}
use Rattle.dlms_c.specs.contracts.kept_meter.KeptMeter.{the_row as kept_row}
use Rattle.dlms_c.specs.contracts.meter_handle.MeterHandle as handle
use Rattle.dlms_c.specs.contracts.meter_handle.take_kept.{ended, clauses}
use Rattle.dlms_c.specs.contracts.meter_handle.take_kept.Key.{name as #self}
use Rattle.dlms_c.proofs.meter_handle.take_kept.Statement.{statement}
use Rattle.dlms_c.proofs.meter_handle.take_kept.Code as code

abbrev Z : RattleType
Z = heap.the_row

abbrev Lr : RattleType
Lr = Loose kept_row Z heap_laws.the_row_laws ghosts

abbrev stayed : Stays ended.signature.params ended.kept
stayed = (stay_dropped (plain (λ _. handle.the_row)) yes, (stay_dropped (plain (λ _. Z)) yes, tt))

pub take_kept_spec : {M : Type 1} → statement M
take_kept_spec 𝓤 𝓛 𝓜 𝓡 wired =
    let H = 𝓛.H in let 𝓣 = tables 𝓤 H 𝓜 𝓡 𝓡.env in let c = clauses 𝓛 𝓜.mem 𝓡.returns in
    proved_at 𝓛 ended stayed c 𝓜 𝓡 (Goes-dropped 𝓛 0 (plain (λ _. handle.the_row)) yes (λ κs x f. refl), (Goes-dropped 𝓛 0 (plain (λ _. Z)) yes (λ κs x f. refl), tt)) #self code.function (code.unfolded 𝓤 H 𝓜 𝓡 wired) (λ z are.
    let Post : Val → SProp 𝓤 = (walk_of 𝓛 ended stayed c).post z in let Run : List Val → SProp 𝓤 = λ ws. WpFn 𝓤 H 𝓣.C 𝓣.Λ code.function ws Post in let Out : RattleType = type_at ended.signature.result z.0.0 in
    let v = z.0.3.0 in let a = z.0.3.1.0 in
    qed 𝓛 ((raw (alive 𝓛 ended.signature z.0.0 z.0.1) ⊛ ‵ (owns (types_at ended.signature.params z.0.0) z.0.3 z.0.4)) ∷ raw ((c z.0.0 z.0.3).requires z.1) ∷ []) ∵
    split ! $ move ! (1 ∷ []) $ fsplit ! $ handle_out ! v z.0.4.0 (λ ws. move ! (1 ∷ []) $ fsplit ! $ handle_tells (al kept_row Z heap_laws.the_row_laws ghosts) ! a z.0.4.1.0 (λ h eh fits. move ! (2 ∷ []) $
    let passes : (p : Ptr) (f : Bool) → v.at ≡ p → v.is_full ≡ f → z.0.4.0 ≡ word p f ∷ [] = λ p f ep ef. ws ∙ (λ i. word (ep i) (ef i) ∷ []) in
    let told : (x : List Val) → z.0.4.0 ≡ x → ent 𝓤 (Run (x ++ (h ∷ []))) (Run (z.0.4.0 ++ (z.0.4.1.0 ++ []))) = λ x e. subst (λ (us : List Val). ent 𝓤 (Run (x ++ (h ∷ []))) (Run us)) (sym (λ i. e i ++ (eh i ++ []))) (id⊢ 𝓤 (Run (x ++ (h ∷ [])))) in
    either_kept ! v.at v.is_full v.value
    (λ empty none.
    let w : Val = word v.at false in
    suffices ! (Run (w ∷ h ∷ [])) (told (w ∷ []) (passes v.at false refl empty)) $
    enter ! 𝓣.C 𝓣.Λ code.function (w ∷ h ∷ []) Post $ alloc_all ! (λ l. pass_all ! refl (word_good v.at false, (fits, tt)) $ let Ev = env code.function.locals l in
    sets ! (of_opd ! (get_in ! (fld ! refl (stop !)) (sub ! 0 refl (whole !)))) refl (Ptr-Good v.at) $
    sets ! (of_opd ! (get_in ! (fld ! refl (stop !)) (sub ! 1 refl (whole !)))) refl (tt, tt) $
    sets ! (of_opd ! (get ! refl)) refl (tt, tt) $
    first ! $ branches ! (get ! refl) (λ wrong. absurd wrong) (λ _. skips ! $ exec ! 𝓣.C 𝓣.Λ Ev code.Mir.t-5 (at_ret Ev Post) $
    sets ! (agg ! (and_then ! (lit ! tt) (no_more !))) refl (tt, (record { fits = lit< tt }, tt)) $
    use0 𝓛 (‵ (Out.own_val None (live 0 vnil ∷ []))) (none_of 𝓛 Lr) $
    use0 𝓛 (raw (fact 𝓤 (None ≡ v.value))) (fact_i 𝓤 (None ≡ v.value) (emp 𝓤) (sym none)) $ nothing ! $ nothing ! $ fjoin ! $ nothing ! $ fjoin ! $
    returns ! (look_at ! 0 refl) $ free_all ! refl $ keep ! (5 ∷ 0 ∷ 2 ∷ 1 ∷ []) $
    by ! (leaves 𝓛 ended stayed c z (live 0 vnil) None (tt, (tt, tt)) (tt, (tt, tt))))))
    (λ b o y at full some.
    let w : Val = word (block_ptr b o) true in let made : Val = both (vptr b o) h in let typed = loose_good kept_row Z heap_laws.the_row_laws ghosts b o h fits in
    let out : Val = live 1 (vcons made vnil) in let d : Lr.Denot = record { at = block_ptr b o; alloc = a; value = y } in
    let good : Good (layout Out) out = (and_tt _ typed.0, (record { fits = lit< tt }, (typed.1, tt))) in
    suffices ! (Run (w ∷ h ∷ [])) (told (w ∷ []) (passes (block_ptr b o) true at full)) $
    enter ! 𝓣.C 𝓣.Λ code.function (w ∷ h ∷ []) Post $ alloc_all ! (λ l. pass_all ! refl (word_good (block_ptr b o) true, (fits, tt)) $
    sets ! (of_opd ! (get_in ! (fld ! refl (stop !)) (sub ! 0 refl (whole !)))) refl (tt, tt) $
    sets ! (of_opd ! (get_in ! (fld ! refl (stop !)) (sub ! 1 refl (whole !)))) refl (tt, tt) $
    sets ! (of_opd ! (get ! refl)) refl (tt, tt) $
    first ! $ branches ! (get ! refl) (λ _.
    sets ! (of_opd ! (get ! refl)) refl (tt, tt) $
    sets ! (agg ! (and_then ! (get ! refl) (and_then ! (get ! refl) (no_more !)))) refl typed $
    sets ! (agg ! (and_then ! (lit ! tt) (and_then ! (get ! refl) (no_more !)))) refl good $
    loose_in kept_row Z heap_laws.the_row_laws ghosts ! b o h a y $ use1 𝓛 (‵ (Out.own_val (Some d) (out ∷ []))) (Some-of 𝓛 Lr d made) $
    use0 𝓛 (raw (fact 𝓤 (Some y ≡ v.value))) (fact_i 𝓤 (Some y ≡ v.value) (emp 𝓤) (sym some)) $ nothing ! $ nothing ! $ fjoin ! $ nothing ! $ fjoin ! $
    returns_within ! Post refl (look_at ! 0 refl) $ free_all ! refl $ keep ! (4 ∷ 0 ∷ 2 ∷ 1 ∷ []) $
    by ! (leaves 𝓛 ended stayed c z out (Some d) (tt, (tt, tt)) (tt, (tt, tt)))) (λ wrong. absurd wrong))))))
