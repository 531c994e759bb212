-- `settled` names another allocator of the same block. Assumes `Logic`.
use Rattle.std.proofs.Common.{◌≡◌, List, [], ◌∷◌, ◌++◌, refl, sym, subst}
use mir.Val.{Val, vptr, vstruct, vnil}
use base.Logic.{SProp, ent, id⊢}
use prog.Wp.{WpFn}
use contract.Running.{tables}
use types.Kit.{‵, raw, ◌⊛◌, ◌$◌, ◌∵◌, !, qed, by, move, keep, drop, split, fsplit, fjoin, suffices}
use types.Part.{agg, sub, whole}
use types.Run.{enter, returns, stop, fld, of_opd, and_then, no_more}
use types.ByLocal.{alloc_all, pass_all, free_all, look_at, get, get_in, sets}
use denote.Exit.{no}
use denote.Laws.{Is}
use denote.Param.Laws.{Laws, of_field}
use denote.Param.Shared.{copy_shared}
use denote.RattleType.{RattleType, owns}
use denote.RawPtr.{block_ptr}
use denote.Signature.{static_lft, types_at, plain}
use denote.Steps.{nothing, owned}
use denote.Struct.Declared as Declared
use denote.Struct.Field.{Field, shr_ref_field}
use denote.Struct.Laws.{shr_ref_laws, shr_ref_copy}
use denote.Struct.Struct.{Struct, Struct-Makes}
use denote.Triple.Entry.{alive}
use denote.Triple.Walked.{Stays, stay_dropped, walk_of}
use Rattle.core.specs.declared.alloc.Allocator.{Ghosts}
use Rattle.core.specs.contracts.alloc.RefAllocator.TheImpl as refs
use Rattle.core.proofs.alloc.Calls.{Goes-blank}
use Rattle.std.proofs.raw_atomic.Walks.{proved_at, leaves}
use Rattle.dlms_room.specs.contracts.heap.RoomHeap as owner
use Rattle.dlms_room.proofs.heap.RoomHeap.TheLaws as owner_laws
use Rattle.dlms_room.specs.contracts.heap.RoomHeapAllocator.TheImpl as lent
use Rattle.dlms_room.specs.contracts.spent.Spent as heap
use Rattle.dlms_room.proofs.spent.Spent.TheLaws as heap_laws
use Rattle.dlms_room.specs.contracts.spent.SpentAllocator.TheImpl.{ghosts}
use Rattle.dlms_web.proofs.Values.{both, Loose, loose_good, loose_in, loose_out}
use Rattle.dlms_web.specs.contracts.kept_feed.KeptFeed.{the_row as kept_row}
use Rattle.dlms_web.specs.contracts.feed_handle.settled.{ended, clauses}
use Rattle.dlms_web.specs.contracts.feed_handle.settled.Key.{name as #self}
use Rattle.dlms_web.proofs.feed_handle.settled.Statement.{statement}
use Rattle.dlms_web.proofs.feed_handle.settled.Code as code

abbrev F : Field
F = shr_ref_field static_lft owner.the_row tt

abbrev LZ : Laws F.row
LZ = of_field F (shr_ref_laws static_lft owner.the_row tt) refl (copy_shared F (shr_ref_copy static_lft owner.the_row tt (owner_laws.the_row_laws).shr_laws))

abbrev g : Ghosts F.row.Denot
g = refs.ghosts owner.the_row lent.ghosts refs.no_dict refs.no_dict

abbrev Lr : RattleType
Lr = Loose kept_row F.row LZ g

abbrev stayed : Stays ended.signature.params ended.kept
stayed = (stay_dropped (plain (λ _. Lr)) no, tt)

pub settled_spec : {M : Type 1} → statement M
settled_spec 𝓤 𝓛 𝓜 𝓡 wired =
    let H = 𝓛.H in let 𝓣 = tables 𝓤 H 𝓜 𝓡 𝓡.env in let c = clauses 𝓛 𝓜.mem 𝓡.returns in
    proved_at 𝓛 ended stayed c 𝓜 𝓡 (Goes-blank 𝓛 0 (plain (λ _. Lr)) no (λ κs x f. tt), tt) #self code.function (code.unfolded 𝓤 H 𝓜 𝓡 wired) (λ z are.
    let Post : Val → SProp 𝓤 = (walk_of 𝓛 ended stayed c).post z in let Run : List Val → SProp 𝓤 = λ ws. WpFn 𝓤 H 𝓣.C 𝓣.Λ code.function ws Post in let v = z.0.3.0 in let none : Val = vstruct vnil in
    qed 𝓛 ((raw (alive 𝓛 ended.signature z.0.0 z.0.1) ⊛ ‵ (owns (types_at ended.signature.params z.0.0) z.0.3 z.0.4)) ∷ raw ((c z.0.0 z.0.3).requires z.1) ∷ []) ∵
    split ! $ move ! (1 ∷ []) $ fsplit ! $ loose_out kept_row F.row LZ g ! v z.0.4.0 (λ b o h e ws fits.
    let w : Val = both (vptr b o) h in let typed = loose_good kept_row F.row LZ g b o h fits in let made : Val = both (vptr b o) none in let good = loose_good kept_row heap.the_row heap_laws.the_row_laws ghosts b o none (tt, tt) in
    suffices ! (Run (w ∷ [])) (subst (λ (us : List Val). ent 𝓤 (Run (w ∷ [])) (Run us)) (sym (λ i. ws i ++ [])) (id⊢ 𝓤 (Run (w ∷ [])))) $
    enter ! 𝓣.C 𝓣.Λ code.function (w ∷ []) Post $ alloc_all ! (λ l. pass_all ! refl (typed, tt) $
    sets ! (of_opd ! (get_in ! (fld ! refl (stop !)) (sub ! 0 refl (whole !)))) refl (tt, tt) $
    sets ! (agg ! (no_more !)) refl (tt, tt) $
    sets ! (agg ! (and_then ! (get ! refl) (and_then ! (get ! refl) (no_more !)))) refl good $
    move ! (1 ∷ []) $ drop ! $ owned ! (Struct (Declared.shape heap.the_type)) (Is (Struct (Declared.shape heap.the_type))) (Struct-Makes 𝓛 (Declared.shape heap.the_type) tt) tt (none ∷ []) (tt, (refl, tt)) $
    move ! (1 ∷ 0 ∷ []) $ loose_in kept_row heap.the_row heap_laws.the_row_laws ghosts ! b o none (record {}) v.value $
    nothing ! $ nothing ! $ nothing ! $ fjoin ! $
    returns ! (look_at ! 0 refl) $ free_all ! refl $ keep ! (4 ∷ 0 ∷ 2 ∷ 1 ∷ []) $
    by ! (leaves 𝓛 ended stayed c z made (record { at = block_ptr b o; alloc = record {}; value = v.value }) (tt, tt) (tt, tt)))))
