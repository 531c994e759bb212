-- The machine values of a `Handle`. Assumes `Logic`.
use Rattle.std.proofs.Common.{◌≡◌, ℕ, List, [], ◌∷◌, ◌++◌, refl, ◌∙◌}
use mathlib.Core.Bool.{Bool, true, false, ◌&&◌}
use lib.Dec.{T}
use seplogic.Ra.Ura.{Ura}
use mir.Syntax.{ty_ptr}
use mir.Raw.{raw as bare}
use mir.Val.{Val, vbool, vstruct, vcons, vnil, of_list, has_ty, WT}
use base.Logic.{never, never_e, fst∗}
use base.Fml.{ftrue, ffalse}
use types.Logic.{Logic, sem}
use types.Kit.{Item, Goal, Seq, Step, step, given, learn, use1, ‵, ◌$◌, move, drop, fsplit, fjoin, fpick, fpack, feq_i, feq_l}
use denote.RattleType.{Valss}
use denote.Builtin.{RawPtr, bool}
use denote.Memory.{lone}
use denote.RawPtr.{Ptr, block_ptr, null_ptr, ptr_val, in_a_block}
use denote.Steps.{nothing}
use denote.Struct.Struct.{within}
use denote.Struct.Owning.{shape}
use Rattle.core.proofs.atomic.Steps.{Ptr-Good}
use Rattle.core.specs.declared.option.Option.{Option}
use Rattle.core.specs.declared.option.Option.TheVariants.{None, Some}
use Rattle.libc.specs.Heap.{chunk}
use Rattle.std_alloc.specs.Box.Ownership.{box_owns}
use Rattle.std_alloc.proofs.ResultValues.{and_tt}
use Rattle.dlms_c.proofs.Values.{both}
use Rattle.dlms_c.specs.Kept.{keeps}
use Rattle.dlms_c.specs.declared.kept_meter.KeptMeter.{KeptMeter}
use Rattle.dlms_c.specs.contracts.kept_meter.KeptMeter.{the_row as kept_row}
use Rattle.dlms_c.specs.contracts.meter_handle.MeterHandle as handle

abbrev pub word : Ptr → Bool → Val
word p f = both (ptr_val p) (vbool f)

pub word_good : (p : Ptr) (f : Bool) → T (has_ty ty_ptr (ptr_val p) && true) × WT (word p f)
word_good p f = (and_tt (has_ty ty_ptr (ptr_val p)) (Ptr-Good p).0, ((Ptr-Good p).1, (tt, tt)))

module _ {M : Type 1} {𝓤 : Ura M} {𝓛 : Logic 𝓤} {K : Type 0} {Γ : List (Item 𝓤)} {G : Goal 𝓤 𝓛.H} where
  pub handle_out : K → (d : (handle.the_row).Denot) (vs : List Val)
      → (vs ≡ word d.at d.is_full ∷ [] → Seq K 𝓛 (‵ (keeps kept_row d.is_full d.at d.value) ∷ Γ) G)
      → Seq K 𝓛 (‵ ((handle.the_row).own_val d vs) ∷ Γ) G
  handle_out t d vs k =
      fsplit t $ fpick t (λ vss. fsplit t $ feq_l t (λ ev. fsplit t $ feq_l t (λ ep. fsplit t $ feq_l t (λ eb. drop t $
      k (ev ∙ (λ i. vstruct (of_list (ep i ++ (eb i ++ []))) ∷ []))))))

  pub handle_in : K → (p : Ptr) (f : Bool) (x : Option KeptMeter)
      → Step K 𝓛 (‵ ((handle.the_row).own_val (record { at = p; is_full = f; value = x }) (word p f ∷ [])) ∷ Γ) G (‵ (keeps kept_row f p x) ∷ Γ) G
  handle_in t p f x = step (λ s.
      nothing t $ feq_i t (List Val) (vbool f ∷ []) (vbool f ∷ []) refl $ fjoin t $ feq_i t (List Val) (ptr_val p ∷ []) (ptr_val p ∷ []) refl $ fjoin t $ feq_i t (List Val) (word p f ∷ []) (word p f ∷ []) refl $ fjoin t $
      fpack t (Valss (RawPtr ∷ bool ∷ [])) (within (shape handle.the_type) (p, (f, tt)) (word p f ∷ [])) (ptr_val p ∷ [], (vbool f ∷ [], tt)) $ fjoin t $ s)

  -- what is kept is nothing, or a box
  pub either_kept : K → (p : Ptr) (f : Bool) (x : Option KeptMeter)
      → (f ≡ false → x ≡ None → Seq K 𝓛 Γ G)
      → ((b o : ℕ) (y : KeptMeter) → p ≡ block_ptr b o → f ≡ true → x ≡ Some y → Seq K 𝓛 (‵ (box_owns chunk kept_row (block_ptr b o) y) ∷ Γ) G)
      → Seq K 𝓛 (‵ (keeps kept_row f p x) ∷ Γ) G
  either_kept t p false None empty full = drop t $ empty refl refl
  either_kept t p false (Some y) empty full = use1 𝓛 (given ⊥ (‵ ftrue)) (never_e 𝓤 _) $ learn t (λ z. absurd z)
  either_kept t p true None empty full = use1 𝓛 (given ⊥ (‵ ftrue)) (never_e 𝓤 _) $ learn t (λ z. absurd z)
  either_kept t p true (Some y) empty full =
      in_a_block t p (λ q. box_owns chunk kept_row q y) (fst∗ 𝓤 (never 𝓤) (sem 𝓛 (chunk (bare (lone kept_row.mir)) null_ptr))) (λ b o e. full b o y e refl refl)
