-- A file that is opened: its slots are written again, one after another.
use Rattle.std.proofs.Common.{◌≡◌, ◌+◌, ℕ, suc, Bool, true, List, [], ◌∷◌, ◌++◌, length, refl, sym, ◌∙◌, ap, arith, append_assoc, subst, Result, Ok, Err}
use Rattle.std.proofs.lemmas.List.{append-nil, length-append}
use Rattle.std.specs.Prelude.{IfOk}
use Rattle.dlms_pages.specs.SlotCalls.{Asks, passed, renewal_of, renewals, IsThere, AreThere, IsSlotRenewed, IsSlotTouched, IsRenewed}
use Rattle.dlms_pages.specs.declared.asking.SlotCall.{SlotCall}
use Rattle.dlms_pages.specs.declared.asking.SlotCall.TheVariants.{Reads, Writes, Syncs}
use Rattle.dlms_pages.specs.declared.asking.Came.{Came}
use Rattle.dlms_pages.specs.declared.asking.Came.TheVariants.{Slot}
use Rattle.dlms_pages.specs.Slots.{Slots, Gives}
use Rattle.dlms_pages.proofs.FileCalls.{nothing, then_asks}

-- the slots below this one were renewed
pub record RenewedTo (index : ℕ) (old new : Slots) : Type 0 where
  pub cames : List Came
  pub counted : length cames ≡ index
  pub there : AreThere cames
  pub calls : Asks old new (renewals 0 cames)

behind : (cames : List Came) (came : Came) (from : ℕ) → renewals from (cames ++ came ∷ []) ≡ renewals from cames ++ renewal_of (from + length cames) came
behind [] came from = append-nil (renewal_of from came) ∙ ap (λ (n : ℕ). renewal_of n came) (omega arith)
behind (first ∷ cames) came from =
    let next : from + 1 + length cames ≡ from + suc (length cames) = omega arith in
    ap (λ (l : List SlotCall). renewal_of from first ++ l) (behind cames came (from + 1) ∙ ap (λ (n : ℕ). renewals (from + 1) cames ++ renewal_of n came) next)
    ∙ sym (append_assoc (renewal_of from first) (renewals (from + 1) cames) (renewal_of (from + suc (length cames)) came))

there_too : (cames : List Came) (came : Came) → AreThere cames → IsThere came → AreThere (cames ++ came ∷ [])
there_too [] came all one = (one, tt)
there_too (first ∷ cames) came all one = (all.0, there_too cames came all.1 one)

pub none_yet : (a : Slots) → RenewedTo 0 a a
none_yet a = record { cames = []; counted = refl; there = tt; calls = nothing a }

pub one_more : (index : ℕ) (old mid new : Slots) → RenewedTo index old mid → IsSlotRenewed index mid new → RenewedTo (index + 1) old new
one_more index old mid new made next = record {
  cames = made.cames ++ next.came ∷ [];
  counted = length-append made.cames (next.came ∷ []) ∙ ap (λ (n : ℕ). n + 1) made.counted;
  there = there_too made.cames next.came made.there next.there;
  calls =
      let place : index ≡ 0 + length made.cames = omega (arith, made.counted) in
      let here = subst (λ (n : ℕ). Asks mid new (renewal_of n next.came)) place next.calls in
      subst (Asks old new) (sym (behind made.cames next.came 0)) (then_asks old mid new (renewals 0 made.cames) (renewal_of (0 + length made.cames) next.came) made.calls here);
}

pub all_and_synced : (count index : ℕ) (old mid new : Slots) → index ≡ count → RenewedTo index old mid → Asks mid new (Syncs true ∷ []) → IsRenewed count old new
all_and_synced count index old mid new same made synced = record {
  cames = made.cames;
  counted = made.counted ∙ same;
  there = made.there;
  calls = then_asks old mid new (renewals 0 made.cames) (Syncs true ∷ []) made.calls synced;
}

-- one slot that the file has all of
pub slot_again : {T E : Type 0} (index : ℕ) (bytes : List ℕ) (old mid new : Slots) (result : Result T E) → Asks old mid (Reads index (Slot bytes) ∷ []) → (old.keeps ≡ true → Gives old index (Slot bytes)) → Asks mid new (Writes index bytes (passed result) ∷ [])
    → IfOk result (λ _. IsSlotRenewed index old new)
slot_again index bytes old mid new (Ok x) read gives written = record {
  came = Slot bytes;
  there = tt;
  gives = gives;
  calls = then_asks old mid new (Reads index (Slot bytes) ∷ []) (Writes index bytes true ∷ []) read written;
}
slot_again index bytes old mid new (Err e) read gives written = tt

pub slot_touched : (index : ℕ) (bytes : List ℕ) (old mid new : Slots) (passed : Bool) → Asks old mid (Reads index (Slot bytes) ∷ []) → (old.keeps ≡ true → Gives old index (Slot bytes)) → Asks mid new (Writes index bytes passed ∷ []) → IsSlotTouched index old new
slot_touched index bytes old mid new passed read gives written = record {
  came = Slot bytes;
  passed = passed;
  gives = gives;
  calls = then_asks old mid new (Reads index (Slot bytes) ∷ []) (Writes index bytes passed ∷ []) read written;
}
