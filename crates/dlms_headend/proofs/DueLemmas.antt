-- What is due at a stage, by the APDUs that led to it.
use Rattle.std.proofs.Common.{◌≡◌, refl, ap, inl, inr, ℕ, Bool, true, false, List, [], ◌++◌, Option, Some, None, if◌then◌else◌}
use Rattle.dlms_acse.specs.Writing.{credentials, field, initiate_request, logical_names}
use Rattle.dlms_blocks.specs.Joining.{Joining}
use Rattle.dlms_frame.specs.Client.{has_secret}
use Rattle.dlms_headend.specs.Asking.{PlanValue, association_bytes}
use Rattle.dlms_headend.specs.Due.{AsksFor, AsksTheSame, IsDueAt, IsNextGet, Requests, association_with, credentials_of, requests_by, sent_secret}
use Rattle.dlms_headend.specs.Due.AsksFor.{Associates, Names, Gets, GetsBlock, Checks, Releases}
use Rattle.dlms_headend.specs.Poll.{Asks, associates, names, gets, goes_on, checks, releases}
use Rattle.dlms_headend.specs.Talk.{CanTake, FitsAt}
use Rattle.dlms_headend.specs.declared.row.Row.{Row}
use Rattle.dlms_headend.specs.declared.stage.Stage.{Stage}
use Rattle.dlms_headend.specs.declared.stage.Stage.TheVariants.{Associating, Naming, Getting, Checking, Releasing, Leaving}

next_get : (r : Requests) (apdus : List (List ℕ)) (taken : ℕ) (blocks : Joining) (rows : List Row) (request : List ℕ) → FitsAt r.columns (Getting taken) blocks rows apdus → IsNextGet r.after r.until taken request → AsksFor r apdus request
next_get r apdus taken blocks rows request h (inl x) = Gets blocks.joined (rw x.0 at h.0) x.1
next_get r apdus taken blocks rows request h (inr x) = GetsBlock taken blocks.joined x.0 h.0 x.1

pub due_asks : (r : Requests) (apdus : List (List ℕ)) (stage : Stage) (blocks : Joining) (rows : List Row) (request : List ℕ) → FitsAt r.columns stage blocks rows apdus → IsDueAt r.association r.after r.until stage request → AsksFor r apdus request
due_asks r apdus Associating blocks rows request h is = Associates h.0 is
due_asks r apdus Naming blocks rows request h is = Names h.0 h.1 is
due_asks r apdus (Getting taken) blocks rows request h is = next_get r apdus taken blocks rows request h is
due_asks r apdus Checking blocks rows request h is = Checks rows h.0 h.1 is
due_asks r apdus Releasing blocks rows request h is = Releases rows h is
due_asks r apdus Leaving blocks rows request h is = absurd is

pub due_awaits : (association : List ℕ) (after until : Option ℕ) (stage : Stage) (request : List ℕ) → IsDueAt association after until stage request → CanTake stage
due_awaits association after until Associating request is = tt
due_awaits association after until Naming request is = tt
due_awaits association after until (Getting taken) request is = tt
due_awaits association after until Checking request is = tt
due_awaits association after until Releasing request is = tt
due_awaits association after until Leaving request is = absurd is

-- ---- over the client's link

credentials_by : (has : Bool) (secret : List ℕ) → credentials_of (if has then Some secret else None) ≡ (if has then credentials secret else [])
credentials_by true secret = refl
credentials_by false secret = refl

same_association : (plan : PlanValue) → association_with (sent_secret plan.client plan.secret) ≡ association_bytes plan
same_association plan =
    ap (λ (c : List ℕ). field 0x60 (field 0xA1 logical_names ++ c ++ field 0xBE (field 0x04 (initiate_request 0x007E1F 1200)))) (credentials_by (has_secret plan.client) plan.secret)

over_carrier : (plan : PlanValue) (apdus : List (List ℕ)) (apdu : List ℕ) → Asks plan apdus apdu → AsksFor (requests_by plan) apdus apdu
over_carrier plan apdus apdu (associates none is) = Associates none is
over_carrier plan apdus apdu (names asked h is) = Names asked h is
over_carrier plan apdus apdu (gets joined h is) = Gets joined h is
over_carrier plan apdus apdu (goes_on taken joined some h is) = GetsBlock taken joined some h is
over_carrier plan apdus apdu (checks rows asked h is) = Checks rows asked h is
over_carrier plan apdus apdu (releases rows h is) = Releases rows h is

over_link : (plan : PlanValue) (apdus : List (List ℕ)) (apdu : List ℕ) → AsksFor (requests_by plan) apdus apdu → Asks plan apdus apdu
over_link plan apdus apdu (Associates none is) = associates none is
over_link plan apdus apdu (Names asked h is) = names asked h is
over_link plan apdus apdu (Gets joined h is) = gets joined h is
over_link plan apdus apdu (GetsBlock taken joined some h is) = goes_on taken joined some h is
over_link plan apdus apdu (Checks rows asked h is) = checks rows asked h is
over_link plan apdus apdu (Releases rows h is) = releases rows h is

pub asks_the_same : (plan : PlanValue) → AsksTheSame plan
asks_the_same plan = record { association = same_association plan; over_carrier = over_carrier plan; over_link = over_link plan }
