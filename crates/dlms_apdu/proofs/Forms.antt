-- A result reported without memory is an answer.
use Rattle.std.proofs.Common.{◌≡◌, ◌∙◌, sym, refl, Result, Ok, Err, IfOk, MatchResult}
use Rattle.dlms_apdu.specs.Fault.{fault_of}
use Rattle.dlms_apdu.specs.declared.fault.Refusal.{Refusal}
use Rattle.dlms_apdu.specs.declared.fault.Refusal.TheVariants.{Short, Choice, Trailing, Data}
use Rattle.dlms_apdu.specs.declared.fault.ApduFault.{ApduFault}
use Rattle.dlms_apdu.specs.declared.fault.ApduFault.TheVariants as fault
use Rattle.dlms_apdu.specs.Reading.{Wants, Answers}
use Rattle.dlms_apdu.proofs.Takes.{ok_is}

pub told : {Y : Type 0} (needs : Y → Type 0) (r : Refusal) (read : Result Y Refusal) → read ≡ Err r → Wants needs (fault_of r) read
told needs Short read e = e
told needs Choice read e = e
told needs Trailing read e = e
told needs Data read e = e

-- what an answer comes to, where reading is known
pub answered_found : {X Y : Type 0} (view : X → Y) (needs : Y → Type 0) (result : Result X ApduFault) (read : Result Y Refusal) → Answers view needs result read → IfOk result (λ x. read ≡ Ok (view x))
answered_found view needs (Ok x) read h = h
answered_found view needs (Err e) read h = tt

pub wanted : {Y : Type 0} (needs : Y → Type 0) (e : ApduFault) (y : Y) → Wants needs e (Ok y) → (e ≡ fault.Memory) × needs y
wanted needs fault.Short y h = absurd cc
wanted needs fault.Choice y h = absurd cc
wanted needs fault.Trailing y h = absurd cc
wanted needs fault.Data y h = absurd cc
wanted needs fault.Memory y h = (refl, h)

pub answered_only : {X Y : Type 0} (view : X → Y) (needs : Y → Type 0) (result : Result X ApduFault) (read : Result Y Refusal) → Answers view needs result read
    → (y : Y) → read ≡ Ok y → MatchResult result (λ x. view x ≡ y) (λ e. (e ≡ fault.Memory) × needs y)
answered_only view needs (Ok x) read h y e = ok_is (view x) y (sym h ∙ e)
answered_only view needs (Err d) read h y e = wanted needs d y (rw e at h)
