-- The machine values of a `FeedHandle`. Assumes `Logic`.
use Rattle.std.proofs.Common.{◌≡◌, ℕ, List, [], ◌∷◌, ◌++◌, refl, ◌∙◌}
use mathlib.Core.Bool.{Bool, true, false, ◌&&◌}
use lib.Dec.{T}
use seplogic.Ra.Ura.{Ura}
use mir.Syntax.{ty_ptr}
use mir.Raw.{raw as bare}
use mir.Val.{Val, vbool, vstruct, vcons, vnil, of_list, has_ty, WT}
use base.Logic.{never, fst∗}
use types.Logic.{Logic, sem}
use types.Kit.{Item, Goal, Seq, Step, step, ‵, ◌$◌, move, drop, fsplit, fjoin, fpick, fpack, feq_i, feq_l}
use denote.RattleType.{Valss}
use denote.Builtin.{RawPtr, bool}
use denote.Memory.{lone}
use denote.RawPtr.{Ptr, block_ptr, null_ptr, ptr_val, in_a_block}
use denote.Steps.{nothing}
use denote.Struct.Struct.{within}
use denote.Struct.Owning.{shape}
use Rattle.core.proofs.atomic.Steps.{Ptr-Good}
use Rattle.dlms_room.specs.Blocks.{block_rest}
use Rattle.std_alloc.specs.Box.Ownership.{box_owns}
use Rattle.std_alloc.proofs.ResultValues.{and_tt}
use Rattle.dlms_web.proofs.Values.{both}
use Rattle.dlms_web.specs.Kept.{keeps}
use Rattle.dlms_web.specs.declared.kept_feed.KeptFeed.{KeptFeed}
use Rattle.dlms_web.specs.contracts.kept_feed.KeptFeed.{the_row as kept_row}
use Rattle.dlms_web.specs.contracts.feed_handle.FeedHandle as handle

abbrev pub word : Ptr → Bool → Val
word p f = both (ptr_val p) (vbool f)

pub word_good : (p : Ptr) (f : Bool) → T (has_ty ty_ptr (ptr_val p) && true) × WT (word p f)
word_good p f = (and_tt (has_ty ty_ptr (ptr_val p)) (Ptr-Good p).0, ((Ptr-Good p).1, (tt, tt)))

module _ {M : Type 1} {𝓤 : Ura M} {𝓛 : Logic 𝓤} {K : Type 0} {Γ : List (Item 𝓤)} {G : Goal 𝓤 𝓛.H} where
  pub handle_out : K → (d : (handle.the_row).Denot) (vs : List Val)
      → (vs ≡ word d.at d.is_full ∷ [] → Seq K 𝓛 (‵ (keeps kept_row d.is_full d.at) ∷ Γ) G)
      → Seq K 𝓛 (‵ ((handle.the_row).own_val d vs) ∷ Γ) G
  handle_out t d vs k =
      fsplit t $ fpick t (λ vss. fsplit t $ feq_l t (λ ev. fsplit t $ feq_l t (λ ep. fsplit t $ feq_l t (λ eb. drop t $
      k (ev ∙ (λ i. vstruct (of_list (ep i ++ (eb i ++ []))) ∷ []))))))

  pub handle_in : K → (p : Ptr) (f : Bool)
      → Step K 𝓛 (‵ ((handle.the_row).own_val (record { at = p; is_full = f }) (word p f ∷ [])) ∷ Γ) G (‵ (keeps kept_row f p) ∷ Γ) G
  handle_in t p f = step (λ s.
      nothing t $ feq_i t (List Val) (vbool f ∷ []) (vbool f ∷ []) refl $ fjoin t $ feq_i t (List Val) (ptr_val p ∷ []) (ptr_val p ∷ []) refl $ fjoin t $ feq_i t (List Val) (word p f ∷ []) (word p f ∷ []) refl $ fjoin t $
      fpack t (Valss (RawPtr ∷ bool ∷ [])) (within (shape handle.the_type) (p, (f, tt)) (word p f ∷ [])) (ptr_val p ∷ [], (vbool f ∷ [], tt)) $ fjoin t $ s)

  -- what is kept is nothing, or a box
  pub either_kept : K → (p : Ptr) (f : Bool)
      → (f ≡ false → Seq K 𝓛 Γ G)
      → ((b o : ℕ) (y : KeptFeed) → p ≡ block_ptr b o → f ≡ true → Seq K 𝓛 (‵ (box_owns block_rest kept_row (block_ptr b o) y) ∷ Γ) G)
      → Seq K 𝓛 (‵ (keeps kept_row f p) ∷ Γ) G
  either_kept t p false empty full = drop t $ empty refl
  either_kept t p true empty full = fpick t (λ y.
      in_a_block t p (λ q. box_owns block_rest kept_row q y) (fst∗ 𝓤 (never 𝓤) (sem 𝓛 (block_rest (bare (lone kept_row.mir)) null_ptr))) (λ b o e. full b o y e refl))
