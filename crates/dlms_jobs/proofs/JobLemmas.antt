-- The calls of a job with a piece, one after another.
use Rattle.std.proofs.Common.{arith, ◌≡◌, ◌∙◌, ◌-◌, ◌≤◌, refl, sym, ap, subst, append-nil, append_assoc, ℕ, List, [], ◌∷◌, ◌++◌, take, drop, length, Result, Ok, Err}
use Rattle.std.proofs.lemmas.List.{length-drop, take_all}
use Rattle.dlms_headend.specs.declared.poll_fault.PollFault.{PollFault}
use Rattle.dlms_headend.specs.declared.step.PollOutcome.{PollOutcome}
use Rattle.dlms_headend.specs.declared.step.PollOutcome.TheVariants.{Nothing, Done}
use Rattle.dlms_ends.specs.Carried.{fault_of, out_of}
use Rattle.dlms_ends.specs.PollEnds.{AllRead, IsOneRead, PollAt, PollEndValue, Reading, Reads, WaitsAt, cause}
use Rattle.dlms_ends.specs.PollEnds.AllRead.{NoCall, OneCall}
use Rattle.dlms_ends.specs.declared.fault.RunFault.{RunFault}
use Rattle.dlms_ends.proofs.EndLemmas.{nothing_left}
use Rattle.dlms_jobs.specs.PollJobs.{Collects, ReadsBytes, ReadsPiece, TakesTimeout, Withholds, octets_of}
use Rattle.dlms_jobs.specs.PollJobs.ReadsBytes.{HasCome}
use Rattle.dlms_jobs.specs.PollJobs.ReadsPiece.{Fails, IsDone, IsRead, IsWithheld}
use Rattle.dlms_jobs.specs.PollJobs.TakesTimeout.{HasFault}

octets_more : (calls : List Reading) (call : Reading) → octets_of calls ++ call.out ≡ octets_of (calls ++ call ∷ [])
octets_more [] call = sym (append-nil call.out)
octets_more (one ∷ calls) call = append_assoc one.out (octets_of calls) call.out ∙ ap (λ (t : List ℕ). one.out ++ t) (octets_more calls call)

-- the calls so far, after which this rest of the piece is to be read
pub record SoFar (old now : List ℕ) (p : PollAt) (bytes : List ℕ) (at : PollAt) (rest : List ℕ) : Type 0 where
  pub calls : List Reading
  pub all : AllRead p bytes calls at rest
  pub adds : now ≡ old ++ octets_of calls

pub none_yet : (old : List ℕ) (p : PollAt) (bytes : List ℕ) → SoFar old old p bytes p bytes
none_yet old p bytes = record { calls = []; all = NoCall; adds = sym (append-nil old) }

left_is : (n : ℕ) (xs : List ℕ) → take (length xs - n) (drop n xs) ≡ drop n xs
left_is n xs = take_all (length xs - n) (drop n xs) (omega (arith, length-drop n xs))

as_read : (p p' : PollAt) (octets : List ℕ) (count : ℕ) (r is : Result PollOutcome RunFault) → r ≡ is → IsOneRead p octets count r p' → IsOneRead p octets count is p'
as_read p p' octets count r is same h = subst (λ (x : Result PollOutcome RunFault). IsOneRead p octets count x p') same h

pub one_more : (old now new : List ℕ) (p at after : PollAt) (bytes rest : List ℕ) (count : ℕ) (r : Result PollOutcome RunFault) (o : PollOutcome) → r ≡ Ok Nothing
    → SoFar old now p bytes at rest → IsOneRead at rest count r after → Collects now new after (Ok o) → SoFar old new p bytes after (take (length rest - count) (drop count rest))
one_more old now new p at after bytes rest count r Done was s read goes = absurd goes
one_more old now new p at after bytes rest count r Nothing was s read goes =
    let call : Reading = record { count = count; out = out_of after.carrier } in
    let one : Reads at rest call after = record { feeds = as_read at after rest count r (Ok Nothing) was read; whole = goes.0; out = refl } in
    let more : SoFar old new p bytes after (drop count rest) = record {
      calls = s.calls ++ call ∷ [];
      all = OneCall s.calls at after rest call s.all one;
      adds = goes.1 ∙ ap (λ (t : List ℕ). t ++ out_of after.carrier) s.adds ∙ append_assoc old (octets_of s.calls) (out_of after.carrier) ∙ ap (λ (t : List ℕ). old ++ t) (octets_more s.calls call);
    } in
    subst (λ (left : List ℕ). SoFar old new p bytes after left) (sym (left_is count rest)) more

pub ends_with : (old now : List ℕ) (p at after : PollAt) (bytes rest : List ℕ) (count : ℕ) (why : RunFault) (r : Result PollOutcome RunFault) → r ≡ Err why
    → SoFar old now p bytes at rest → IsOneRead at rest count r after → ReadsPiece old now p bytes (Err why) after
ends_with old now p at after bytes rest count why r was s read = Fails s.calls at rest count why s.all (as_read at after rest count r (Err why) was read) refl

pub done_with : (old now : List ℕ) (p at after : PollAt) (bytes rest : List ℕ) (count : ℕ) (r : Result PollOutcome RunFault) → r ≡ Ok Done
    → SoFar old now p bytes at rest → IsOneRead at rest count r after → ReadsPiece old now p bytes (Ok Done) after
done_with old now p at after bytes rest count r was s read = IsDone s.calls at rest count s.all (as_read at after rest count r (Ok Done) was read) refl

pub withheld_at : (old now new : List ℕ) (p at after : PollAt) (bytes rest : List ℕ) (count : ℕ) (why : RunFault) (r : Result PollOutcome RunFault) → r ≡ Ok Nothing
    → SoFar old now p bytes at rest → IsOneRead at rest count r after → Withholds after why → ReadsPiece old new p bytes (Err why) after
withheld_at old now new p at after bytes rest count why r was s read withholds = IsWithheld s.calls at rest count why s.all (as_read at after rest count r (Ok Nothing) was read) withholds refl

pub all_is_read : (old now : List ℕ) (p at : PollAt) (bytes rest : List ℕ)
    → SoFar old now p bytes at rest → length rest ≡ 0 → ReadsPiece old now p bytes (Ok Nothing) at
all_is_read old now p at bytes rest s none =
    IsRead s.calls (subst (λ (left : List ℕ). AllRead p bytes s.calls at left) (nothing_left rest none) s.all) s.adds refl

-- the piece is counted, and then read
pub came_in : (old new : List ℕ) (t mid t' : PollEndValue) (bytes : List ℕ) (result : Result PollOutcome RunFault) → length bytes ≤ t.left → mid ≡ record t { left = t.left - length bytes }
    → t'.left ≡ mid.left → ReadsPiece old new mid.poll bytes result t'.poll → ReadsBytes old new t bytes result t'
came_in old new t mid t' bytes result may counted left piece =
    HasCome may (left ∙ ap (λ (v : PollEndValue). v.left) counted) (subst (λ (p : PollAt). ReadsPiece old new p bytes result t'.poll) (ap (λ (v : PollEndValue). v.poll) counted) piece)

-- ---- a timeout

pub timeout_fault : (octets : List ℕ) (p p0 p1 : PollAt) (why : PollFault) (told : RunFault) → p0 ≡ p → told ≡ cause (fault_of p1.carrier) why p1 → WaitsAt p0 (Err why) p1 → TakesTimeout octets octets p (Err told) p1
timeout_fault octets p p0 p1 why told before is waits =
    subst (λ (v : PollAt). TakesTimeout octets octets v (Err told) p1) before (HasFault why waits (ap (λ (f : RunFault). Err f) is))
