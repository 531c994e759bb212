-- `kept` takes the pointer over. Assumes `Logic`.
use Rattle.std.proofs.Common.{◌≡◌, List, [], ◌∷◌, ◌++◌, refl, sym, subst}
use mathlib.Core.Bool.{true}
use mir.Val.{Val, vptr}
use base.Logic.{SProp, ent, id⊢}
use prog.Wp.{WpFn}
use contract.Running.{tables}
use types.Kit.{‵, raw, ◌⊛◌, ◌$◌, ◌∵◌, !, qed, by, move, keep, split, fsplit, fjoin, fpack, suffices}
use types.Part.{agg, sub, whole}
use types.Run.{enter, returns, stop, fld, of_opd, true_lit, and_then, no_more}
use types.ByLocal.{alloc_all, pass_all, free_all, look_at, get, get_in, sets}
use denote.Exit.{no}
use denote.RattleType.{RattleType, owns}
use denote.RawPtr.{block_ptr}
use denote.Signature.{types_at, plain}
use denote.Steps.{nothing}
use denote.Triple.Entry.{alive}
use denote.Triple.Walked.{Stays, stay_dropped, walk_of}
use Rattle.std_alloc.specs.Box.Ownership.{box_owns}
use Rattle.dlms_room.specs.Blocks.{block_rest}
use Rattle.dlms_room.specs.contracts.spent.Spent as heap
use Rattle.dlms_room.proofs.spent.Spent.TheLaws as heap_laws
use Rattle.dlms_room.specs.contracts.spent.SpentAllocator.TheImpl.{ghosts}
use Rattle.core.proofs.alloc.Calls.{Goes-blank}
use Rattle.std.proofs.raw_atomic.Walks.{proved_at, leaves}
use Rattle.dlms_web.proofs.Values.{both, Loose, loose_good, loose_out}
use Rattle.dlms_web.proofs.HandleValues.{word, word_good, handle_in}
use Rattle.dlms_web.specs.contracts.kept_feed.KeptFeed.{the_row as kept_row}
use Rattle.dlms_web.specs.contracts.feed_handle.kept.{ended, clauses}
use Rattle.dlms_web.specs.contracts.feed_handle.kept.Key.{name as #self}
use Rattle.dlms_web.proofs.feed_handle.kept.Statement.{statement}
use Rattle.dlms_web.proofs.feed_handle.kept.Code as code

abbrev Lr : RattleType
Lr = Loose kept_row heap.the_row heap_laws.the_row_laws ghosts

abbrev stayed : Stays ended.signature.params ended.kept
stayed = (stay_dropped (plain (λ _. Lr)) no, tt)

pub kept_spec : {M : Type 1} → statement M
kept_spec 𝓤 𝓛 𝓜 𝓡 wired =
    let H = 𝓛.H in let 𝓣 = tables 𝓤 H 𝓜 𝓡 𝓡.env in let c = clauses 𝓛 𝓜.mem 𝓡.returns in
    proved_at 𝓛 ended stayed c 𝓜 𝓡 (Goes-blank 𝓛 0 (plain (λ _. Lr)) no (λ κs x f. tt), tt) #self code.function (code.unfolded 𝓤 H 𝓜 𝓡 wired) (λ z are.
    let Post : Val → SProp 𝓤 = (walk_of 𝓛 ended stayed c).post z in let Run : List Val → SProp 𝓤 = λ ws. WpFn 𝓤 H 𝓣.C 𝓣.Λ code.function ws Post in let v = z.0.3.0 in
    qed 𝓛 ((raw (alive 𝓛 ended.signature z.0.0 z.0.1) ⊛ ‵ (owns (types_at ended.signature.params z.0.0) z.0.3 z.0.4)) ∷ raw ((c z.0.0 z.0.3).requires z.1) ∷ []) ∵
    split ! $ move ! (1 ∷ []) $ fsplit ! $ loose_out kept_row heap.the_row heap_laws.the_row_laws ghosts ! v z.0.4.0 (λ b o h e ws fits.
    let w : Val = both (vptr b o) h in let typed = loose_good kept_row heap.the_row heap_laws.the_row_laws ghosts b o h fits in
    suffices ! (Run (w ∷ [])) (subst (λ (us : List Val). ent 𝓤 (Run (w ∷ [])) (Run us)) (sym (λ i. ws i ++ [])) (id⊢ 𝓤 (Run (w ∷ [])))) $
    enter ! 𝓣.C 𝓣.Λ code.function (w ∷ []) Post $ alloc_all ! (λ l. pass_all ! refl (typed, tt) $
    sets ! (of_opd ! (get_in ! (fld ! refl (stop !)) (sub ! 0 refl (whole !)))) refl (tt, tt) $
    sets ! (of_opd ! (get ! refl)) refl (tt, tt) $
    sets ! (agg ! (and_then ! (get ! refl) (and_then ! (true_lit !) (no_more !)))) refl (word_good (block_ptr b o) true) $
    fpack ! (kept_row.Denot) (λ y. box_owns block_rest kept_row (block_ptr b o) y) v.value $ handle_in ! (block_ptr b o) true $
    nothing ! $ nothing ! $ nothing ! $ fjoin ! $
    returns ! (look_at ! 0 refl) $ free_all ! refl $ keep ! (5 ∷ 0 ∷ 2 ∷ 1 ∷ []) $
    by ! (leaves 𝓛 ended stayed c z (word (block_ptr b o) true) (record { at = block_ptr b o; is_full = true }) (tt, tt) (tt, tt)))))
