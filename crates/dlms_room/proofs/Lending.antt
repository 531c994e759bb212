-- A block as room for a type, and the two outcomes of a request.
use Rattle.std.proofs.Common.{◌≡◌, ℕ, ◌+◌, ◌-◌, ◌*◌, ◌/◌, ◌%◌, ◌^◌, ◌<◌, ◌≤◌, List, [], ◌∷◌, ◌++◌, Bool, true, false, IfSome, None, Some, refl, sym, ap, subst, ◌∙◌, arith, nat_le, if◌then◌else◌}
use seplogic.Ra.Ura.{Ura}
use mir.Syntax.{Ty, Width, w8, w16, w32, w64, w128}
use mir.Val.{Val, vcons, vnil, of_list, bytes}
use base.Logic.{ent, sep}
use base.Fml.{fwand, froom, ffalse}
use prog.Memory.{size, align, capped}
use prog.Align.{Dv, align_w, align-bytes}
use prog.Capped.{capped_is, capped_small}
use types.Logic.{Logic, sem}
use types.Kit.{Item, Goal, Seq, ‵, ◌⊛◌, ◌$◌, ◌∵◌, !, qed, move, drop, use1, split, frame, rewrite, fsplit, fpick, fpack, feq_l, done}
use types.Match.{live}
use denote.RattleType.{RattleType}
use denote.RawPtr.{Ptr, block_ptr}
use denote.Shadow.{pure_l}
use denote.Steps.{only}
use Rattle.core.specs.contracts.option.Option as option
use Rattle.linked_list_allocator.proofs.Values.{sized_val, sized_own, sized_told}
use Rattle.linked_list_allocator.proofs.Nodes.{retypes}
use Rattle.dlms_room.specs.Sizes.{block_size}
use Rattle.dlms_room.specs.Blocks.{bytes_at, block_rest}
use Rattle.dlms_room.specs.contracts.room.Room as room

-- what is true of each of the three roundings is true of the block's size
of_each : (P : ℕ → Type 0) (n : ℕ) → P ((n + 15) / 16 * 16) → P ((n + 1023) / 1024 * 1024) → P ((n + 65535) / 65536 * 65536) → P (block_size n)
of_each P n small middle large = of_two (nat_le n 1024) _ _ small (of_two (nat_le n 65536) _ _ middle large) where
  of_two : (t : Bool) (a b : ℕ) → P a → P b → P (if t then a else b)
  of_two true a b x y = x
  of_two false a b x y = y

pub block_holds : (n : ℕ) → n ≤ block_size n
block_holds n = of_each (λ k. n ≤ k) n (omega arith) (omega arith) (omega arith)

pub block_even : (n : ℕ) → block_size n % 16 ≡ 0
block_even n = of_each (λ k. k % 16 ≡ 0) n (omega arith) (omega arith) (omega arith)

pub block_fits : (n : ℕ) → n < 2 ^ 62 → block_size n < 2 ^ 64
block_fits n small = of_each (λ k. k < 2 ^ 64) n (omega arith) (omega arith) (omega arith)

-- what is left of n bytes after m of them
pub left_even : (n m : ℕ) → n % 16 ≡ 0 → m % 16 ≡ 0 → m ≤ n → (n - m) % 16 ≡ 0
left_even n m whole part low = omega arith

pub left_fits : (n m : ℕ) → n < 2 ^ 64 → n - m < 2 ^ 64
left_fits n m fits = omega arith

pub left_sum : (n m : ℕ) → m ≤ n → n - m + m ≡ n
left_sum n m low = omega arith

pub left_parts : (n m : ℕ) → m ≤ n → n ≡ m + (n - m)
left_parts n m low = omega arith

divides_16 : (w : Width) → Dv (bytes w) 16
divides_16 w8 = tt
divides_16 w16 = tt
divides_16 w32 = tt
divides_16 w64 = tt
divides_16 w128 = tt

-- a block's bytes are room for the value that it was asked for, and the right to give it back
pub lends : {M : Type 1} {𝓤 : Ura M} (𝓛 : Logic 𝓤) (τ : Ty) (b o n : ℕ) → capped (size τ) ≡ n → n < 2 ^ 62
    → ent 𝓤 (sem 𝓛 (bytes_at (block_ptr b o) (block_size n))) (sep 𝓤 (𝓛.H.room τ b o) (sem 𝓛 (block_rest τ (block_ptr b o))))
lends {𝓤 = 𝓤} 𝓛 τ b o n sized small =
    let p : Ptr = block_ptr b o in
    let short : size τ < 2 ^ 63 = capped_small (size τ) (omega arith) in
    let same : n ≡ size τ = sym sized ∙ capped_is (size τ) (omega arith) in
    let m = block_size (size τ) in
    let below : size τ < 2 ^ 62 = subst (λ (k : ℕ). k < 2 ^ 62) same small in
    qed 𝓛 (‵ (bytes_at p (block_size n)) ∷ []) ∵ rewrite ! 0 (λ (k : ℕ). ‵ (bytes_at p (block_size k))) same refl $
    use1 𝓛 (‵ (froom τ b o) ⊛ ‵ (fwand (froom τ b o) (bytes_at p m)))
    (retypes 𝓛 b τ o m (block_even (size τ)) (block_holds (size τ)) (subst (λ (k : ℕ). Dv k 16) (sym (align-bytes τ)) (divides_16 (align_w τ)))) $ split ! $ frame ! $
    fpack ! (size τ < 2 ^ 62) (λ _. fwand (froom τ b o) (bytes_at p m)) below $ done !

abbrev pub Taken : RattleType
Taken = option.the_row room.the_row

-- what a request is answered
abbrev pub Told : ℕ → ℕ → Taken.Denot → Type 0
Told n a x = IfSome x (λ block. (block.size ≡ block_size n) × (n < 2 ^ 62) × (a ≤ 16))

module _ {M : Type 1} {𝓤 : Ura M} {𝓛 : Logic 𝓤} {K : Type 0} {Γ : List (Item 𝓤)} {G : Goal 𝓤 𝓛.H} where
  pub taken : K → (n a : ℕ) (x : Taken.Denot) (v : Val) → Told n a x
      → ((p : Ptr) → n < 2 ^ 62 → a ≤ 16 → v ≡ live 1 (vcons (sized_val p (block_size n)) vnil) → Seq K 𝓛 (‵ (bytes_at p (block_size n)) ∷ Γ) G)
      → (v ≡ live 0 vnil → Seq K 𝓛 Γ G) → Seq K 𝓛 (‵ (Taken.own_val x (v ∷ [])) ∷ Γ) G
  taken t n a None v told some none =
      fpick t (λ us. fsplit t $ feq_l t (λ is. fpick t (λ vss. fsplit t $ feq_l t (λ is'. drop t $ none (ap only is ∙ ap (λ (ws : List Val). live 0 (of_list ws)) is')))))
  taken t n a (Some w) v told some none =
      fpick t (λ us. fsplit t $ feq_l t (λ is. fpick t (λ vss. fsplit t $ feq_l t (λ is'. fsplit t $ move t (1 ∷ []) $ drop t $ fsplit t $ pure_l t (sized_own w.start w.size vss.0) (λ s.
      let parts = sized_told w.start w.size vss.0 s in
      rewrite t 0 (λ (k : ℕ). ‵ (bytes_at w.start k)) told.0 refl $
      some w.start told.1 told.2
      (ap only is ∙ ap (λ (xs : List Val). live 1 (of_list xs)) (is' ∙ ap (λ (xs : List Val). xs ++ []) parts.0) ∙ (λ i. live 1 (vcons (sized_val w.start (told.0 i)) vnil))))))))
