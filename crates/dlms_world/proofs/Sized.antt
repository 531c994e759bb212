-- The size of an association that the meter accepts.
use Rattle.std.proofs.Common.{arith, ◌≡◌, ℕ, Bool, true, false, Option, Some, None, Result, Ok, Err, unwrap_or, List, [], ◌∷◌, ◌++◌, refl, sym, subst, if◌then◌else◌, nat_lt}
use Rattle.std.specs.Prelude.{◌&&◌, not}
use Rattle.std.proofs.lemmas.Bool.Decides.{nat_tests}
use Rattle.dlms_acse.specs.Reading.{aarq_at}
use Rattle.dlms_acse.specs.Verdict.{Request, verdict, cases, first_fit, accepted, size_in_use, agreed, doubts, proposes, refused, initiate_error, has_get}
use Rattle.dlms_acse.specs.declared.aarq.Initiate.{Initiate}
use Rattle.dlms_acse.specs.declared.fault.AcseFault.{AcseFault}
use Rattle.dlms_acse.specs.declared.outcome.Verdict.{Verdict}
use Rattle.dlms_acse.specs.declared.outcome.Verdict.TheVariants.{Accepted, Refused}
use Rattle.dlms_frame.specs.declared.client.Client.{Client}
use Rattle.dlms_apdu.specs.Forms.{RequestForm}
use Rattle.dlms_apdu.specs.Reading.{request_at}
use Rattle.dlms_service.specs.Serves.{secret_for, associated, opened_by}
use Rattle.dlms_meter.specs.Run.{Choice, Served, DeviceFails, Does}
use Rattle.dlms_service.specs.Session.{SessionValue, Outcome, HasSize}
use Rattle.dlms_state.specs.declared.event.Event.{Event}

abbrev Refuses : Verdict → Type 0
Refuses (Accepted conformance size) = ⊥
Refuses (Refused diagnostic error) = Unit {0}

abbrev AllRefuse : List (Bool × Verdict) → Type 0
AllRefuse [] = Unit {0}
AllRefuse (row ∷ rows) = Refuses row.1 × AllRefuse rows

refused_sized : (v : Verdict) → Refuses v → HasSize (opened_by v)
refused_sized (Accepted conformance size) none = absurd none
refused_sized (Refused diagnostic error) is = tt

fit_sized : (rows : List (Bool × Verdict)) (v : Verdict) → AllRefuse rows → (first_fit rows ≡ None → HasSize (opened_by v)) → HasSize (opened_by (unwrap_or (first_fit rows) v))
fit_sized [] v all otherwise = otherwise refl
fit_sized (row ∷ rows) v all otherwise =
    elim row.0 as (λ b. ((if b then Some row.1 else first_fit rows) ≡ None → HasSize (opened_by v)) → HasSize (opened_by (unwrap_or (if b then Some row.1 else first_fit rows) v))) [
      | true ↦ λ other. refused_sized row.1 all.0
      | false ↦ λ other. fit_sized rows v all.1 other
    ] otherwise

-- if no row fits, none of them does
not_first : (b : Bool) (v : Verdict) (rest : Option Verdict) → (if b then Some v else rest) ≡ None → (b ≡ false) × (rest ≡ None)
not_first true v rest e = cc
not_first false v rest e = (refl, e)

last_not : (rows : List (Bool × Verdict)) (b : Bool) (v : Verdict) → first_fit (rows ++ (b, v) ∷ []) ≡ None → b ≡ false
last_not [] b v e = (not_first b v None e).0
last_not (row ∷ rows) b v e = last_not rows b v (not_first row.0 row.1 (first_fit (rows ++ (b, v) ∷ [])) e).1

fine_size : (size : ℕ) → (nat_lt 0 size && nat_lt size 64) ≡ false → HasSize (Some (record { conformance = record { 0 = 0 }; size = size_in_use size }))
fine_size size e = grind (arith, nat_tests)

any_bits : (bits : ℕ) (i : Initiate) → HasSize (Some (record { conformance = record { 0 = 0 }; size = size_in_use i.size })) → HasSize (opened_by (accepted (Some i)))
any_bits bits i h = h

accepted_sized : (initiate : Option Initiate) → (proposes (λ i. nat_lt 0 i.size && nat_lt i.size 64) initiate) ≡ false → HasSize (opened_by (accepted initiate))
accepted_sized None e = tt
accepted_sized (Some i) e = any_bits 0 i (fine_size i.size e)

-- the rows before the one that looks at the size
abbrev all_but_last : Request → Client → List ℕ → List (Bool × Verdict)
all_but_last r client secret =
    (not r.context, refused 2) ∷ (doubts r client secret
    ++ ((not (proposes (λ i. true) r.initiate), refused 1)
    ∷ (proposes (λ i. nat_lt i.version 6) r.initiate, initiate_error 1)
    ∷ (proposes (λ i. not (has_get (agreed i))) r.initiate, initiate_error 2)
    ∷ []))

verdict_sized : (r : Request) (client : Client) (secret : List ℕ) → HasSize (opened_by (verdict r client secret))
verdict_sized r client secret =
    fit_sized (cases r client secret) (accepted r.initiate) (tt, (tt, (tt, (tt, (tt, (tt, (tt, (tt, (tt, (tt, tt))))))))))
    (λ none. accepted_sized r.initiate (last_not (all_but_last r client secret) (proposes (λ i. nat_lt 0 i.size && nat_lt i.size 64) r.initiate) (initiate_error 3) none))

judged_sized : (s : SessionValue) (secret : List ℕ) (r : Result Request AcseFault) → HasSize (associated s secret r).own.opened
judged_sized s secret (Ok r) = verdict_sized r s.client secret
judged_sized s secret (Err e) = tt

-- no request is read of an association request
no_request : (rest : List ℕ) (form : RequestForm) → request_at (0x60 ∷ rest) ≡ Ok form → ⊥
unfolding request_at
no_request rest form e = cc

-- by any APDU that begins as an association request, from any state
pub association_sized : (choice : Choice) (E : List Event) (rest : List ℕ) (s : SessionValue) (o : Outcome) → Does choice E s (0x60 ∷ rest) o → HasSize o.own.opened
association_sized (Served memory) E rest s o serves = subst (λ (x : Outcome). HasSize x.own.opened) (sym serves) (judged_sized s (secret_for s.client E) (aarq_at (0x60 ∷ rest)))
association_sized (DeviceFails kept wanted) E rest s o ((form, read, would, leads, success, is), wants) = absurd (no_request rest form read)
