-- What a job does after a call of its client.
use Rattle.std.proofs.Common.{arith, ◌≡◌, ◌∙◌, ◌-◌, ◌<◌, ◌≤◌, inl, inr, refl, sym, ap, subst, append-nil, append_assoc, ℕ, Bool, true, List, [], ◌∷◌, ◌++◌, take, drop, length, Option, Some, None, Result, Ok, Err}
use Rattle.std.proofs.lemmas.List.{length-drop, take_all}
use Rattle.dlms_association.specs.declared.answer.Answer.{Answer}
use Rattle.std.specs.declared.alloc.AllocError.{AllocError}
use Rattle.dlms_association.specs.declared.fault.Fault.{Fault}
use Rattle.dlms_client.specs.Calls.{Begins, CanBegin}
use Rattle.dlms_client.specs.Run.{Call, IsCall, Begin, Feed, Wait, Ask, Disconnect}
use Rattle.dlms_client.specs.declared.outcome.Outcome.{Outcome}
use Rattle.dlms_fleet.specs.Inputs.{Input}
use Rattle.dlms_fleet.specs.Inputs.Input.{Begins as BeginsOf, Reads as ReadsOf, TimesOut}
use Rattle.dlms_fleet.specs.declared.job.JobStep.{JobStep}
use Rattle.dlms_fleet.specs.declared.job.JobStep.TheVariants as taken
use Rattle.dlms_inquiries.specs.Carried.{Steps, is_down, means, out_of}
use Rattle.dlms_inquiries.specs.Inquiries.{AllRead, AskValue, Chooses, ClientAt, Collects, Follows, FollowsOn, Goes, GoesAt, GoesOn, IsStep, JobSteps, Makes, OneRead, Reads, ReadsPiece, Requests, ScriptOf, Sent, Settled, Told, answer_in, form_of}
use Rattle.dlms_inquiries.specs.Inquiries.AllRead.{NoRead, OneMore}
use Rattle.dlms_inquiries.specs.Inquiries.Follows.{Moves}
use Rattle.dlms_inquiries.specs.Inquiries.Goes.{Asks, Ends}
use Rattle.dlms_inquiries.specs.declared.ask_job.Progress.{Progress}
use Rattle.dlms_inquiries.specs.declared.ask_job.Progress.TheVariants.{Waits, Done}
use Rattle.dlms_inquiries.specs.declared.fault.InquiryFault.{InquiryFault}
use Rattle.dlms_inquiries.specs.declared.script.Question.{Question}

-- a call, its octets collected
made : (old new : List ℕ) (c c' : ClientAt) (call : Call) → IsCall means c call c' → Collects old new c' (Ok Waits) → Makes c call (out_of c'.carrier) c'
made old new c c' call is collects = record { is_call = is; whole = collects.0; octets = refl }

-- ---- the script's next request

pub went_on : {S : Type 0} (follows : ScriptOf S) (old new : List ℕ) (t mid t' : AskValue S) (answer : Option Answer) (next : Option Question) (r : Result Progress InquiryFault)
    → follows t.script answer t.client.association.blocks.joined (Ok next) mid.script → mid ≡ record t { script = mid.script }
    → Chooses mid next (Ok Waits) t' → Collects old new t'.client r → GoesOn follows old new t answer r t'
went_on follows old new t mid t' answer next (Err why) gives same chooses collects = tt
went_on follows old new t mid t' answer next (Ok Done) gives same chooses collects = absurd collects
went_on {S} follows old new t mid t' answer None (Ok Waits) gives same chooses collects =
    let after = chooses.2 in (
      out_of t'.client.carrier,
      collects.1,
      Ends chooses.0 (subst (λ (s : S). follows t.script answer t.client.association.blocks.joined (Ok None) s) (sym (ap (λ (v : AskValue S). v.script) after)) gives)
          (made old new t.client t'.client (Disconnect chooses.0) (subst (λ (c : ClientAt). IsCall means c (Disconnect chooses.0) t'.client) (ap (λ (v : AskValue S). v.client) same) chooses.1) collects)
          (ap (λ (v : AskValue S). v.left) after ∙ ap (λ (v : AskValue S). v.left) same)
          (ap (λ (v : AskValue S). v.is_over) after),
    )
went_on {S} follows old new t mid t' answer (Some asked) (Ok Waits) gives same chooses collects =
    let after = chooses.1 in (
      out_of t'.client.carrier,
      collects.1,
      Asks asked (subst (λ (s : S). follows t.script answer t.client.association.blocks.joined (Ok (Some asked)) s) (sym (ap (λ (v : AskValue S). v.script) after)) gives)
          (made old new t.client t'.client (Ask (form_of asked) (Ok tt)) (subst (λ (c : ClientAt). IsCall means c (Ask (form_of asked) (Ok tt)) t'.client) (ap (λ (v : AskValue S). v.client) same) chooses.0) collects)
          (ap (λ (v : AskValue S). v.left) after ∙ ap (λ (v : AskValue S). v.left) same)
          (ap (λ (v : AskValue S). v.is_over) after ∙ ap (λ (v : AskValue S). v.is_over) same),
    )

-- the same as the code has it: from the fields of the job, and by the results of its calls
pub goes_on : {S : Type 0} (follows : ScriptOf S) (old new : List ℕ) (v t mid t' : AskValue S) (answer : Option Answer) (value : List ℕ) (told : Result (Option Question) AllocError) (next : Option Question) (was r : Result Progress InquiryFault)
    → v ≡ t → value ≡ v.client.association.blocks.joined → told ≡ Ok next → follows v.script answer value told mid.script → mid ≡ record v { script = mid.script } → was ≡ Ok Waits
    → Chooses mid next was t' → Collects old new t'.client r → GoesOn follows old new t answer r t'
goes_on {S} follows old new v t mid t' answer value told next was r is joined ok gives same waits chooses collects =
    subst (λ (x : AskValue S). GoesOn follows old new x answer r t') is
    (went_on follows old new v mid t' answer next r
    (subst (λ (octets : List ℕ). follows v.script answer octets (Ok next) mid.script) joined (subst (λ (x : Result (Option Question) AllocError). follows v.script answer value x mid.script) ok gives))
    same (subst (λ (x : Result Progress InquiryFault). Chooses mid next x t') waits chooses) collects)

pub over_at_once : {S : Type 0} (t t' : AskValue S) (next : Option Question) → Chooses t next (Ok Done) t' → t'.is_over ≡ true
over_at_once {S} t t' None chooses = ap (λ (v : AskValue S). v.is_over) chooses.2
over_at_once t t' (Some asked) chooses = absurd chooses

-- ---- an outcome of the client

pub followed : {S : Type 0} (follows : ScriptOf S) (old new : List ℕ) (t t' : AskValue S) (outcome : Outcome) (answer : Option Answer) (r : Result Progress InquiryFault)
    → answer_in outcome ≡ Some answer → GoesOn follows old new t answer r t' → FollowsOn follows old new t outcome r t'
followed follows old new t t' outcome answer (Ok Waits) is goes = (goes.0, goes.1, Moves answer is goes.2)
followed follows old new t t' outcome answer (Ok Done) is goes = goes
followed follows old new t t' outcome answer (Err why) is goes = tt

pub one_read : {S : Type 0} (follows : ScriptOf S) (old now new : List ℕ) (t mid t' : AskValue S) (octets : List ℕ) (count : ℕ) (outcome : Outcome) (p : Progress) (r : Result Progress InquiryFault)
    → IsCall means t.client (Feed octets count (Ok outcome)) mid.client → mid ≡ record t { client = mid.client } → Collects old now mid.client (Ok p)
    → FollowsOn follows now new mid outcome r t' → OneRead follows old new t octets count r t'
one_read follows old now new t mid t' octets count outcome p (Err why) is same collects does = tt
one_read follows old now new t mid t' octets count outcome p (Ok Done) is same collects does = does
one_read follows old now new t mid t' octets count outcome Done (Ok Waits) is same collects does = absurd collects
one_read {S} follows old now new t mid t' octets count outcome Waits (Ok Waits) is same collects does =
    let first = out_of mid.client.carrier in (
      first ++ does.0,
      does.1 ∙ ap (λ (o : List ℕ). o ++ does.0) collects.1 ∙ append_assoc old first does.0,
      record {
        outcome = outcome;
        first = first;
        second = does.0;
        client = mid.client;
        reads = made old now t.client mid.client (Feed octets count (Ok outcome)) is collects;
        does = subst (λ (v : AskValue S). Follows follows v outcome does.0 t') same does.2;
        all = refl;
      },
    )

pub read_so : {S : Type 0} (follows : ScriptOf S) (old now new : List ℕ) (v t mid t' : AskValue S) (octets : List ℕ) (count : ℕ) (told : Result Outcome Fault) (outcome : Outcome) (was : Result Progress InquiryFault) (p : Progress) (r : Result Progress InquiryFault)
    → v ≡ t → told ≡ Ok outcome → IsCall means v.client (Feed octets count told) mid.client → mid ≡ record v { client = mid.client } → was ≡ Ok p → Collects old now mid.client was
    → FollowsOn follows now new mid outcome r t' → OneRead follows old new t octets count r t'
read_so {S} follows old now new v t mid t' octets count told outcome was p r is ok calls same waits collects does =
    subst (λ (x : AskValue S). OneRead follows old new x octets count r t') is
    (one_read follows old now new v mid t' octets count outcome p r (subst (λ (x : Result Outcome Fault). IsCall means v.client (Feed octets count x) mid.client) ok calls) same
    (subst (λ (x : Result Progress InquiryFault). Collects old now mid.client x) waits collects) does)

-- ---- a piece

-- the reads so far, after which this rest of the piece is to be read
pub record SoFar {S : Type 0} (follows : ScriptOf S) (old now : List ℕ) (t : AskValue S) (bytes : List ℕ) (at : AskValue S) (rest : List ℕ) : Type 0 where
  pub octets : List ℕ
  pub adds : now ≡ old ++ octets
  pub all : AllRead follows t bytes octets at rest

pub none_yet : {S : Type 0} (follows : ScriptOf S) (old : List ℕ) (t : AskValue S) (bytes : List ℕ) → SoFar follows old old t bytes t bytes
none_yet follows old t bytes = record { octets = []; adds = sym (append-nil old); all = NoRead }

left_is : (n : ℕ) (xs : List ℕ) → take (length xs - n) (drop n xs) ≡ drop n xs
left_is n xs = take_all (length xs - n) (drop n xs) (omega (arith, length-drop n xs))

pub one_more : {S : Type 0} (follows : ScriptOf S) (old now new : List ℕ) (t at after : AskValue S) (bytes rest : List ℕ) (count : ℕ) (r : Result Progress InquiryFault) → r ≡ Ok Waits
    → SoFar follows old now t bytes at rest → OneRead follows now new at rest count r after → SoFar follows old new t bytes after (take (length rest - count) (drop count rest))
one_more follows old now new t at after bytes rest count (Err why) was s read = absurd (cc was)
one_more follows old now new t at after bytes rest count (Ok Done) was s read = absurd (cc was)
one_more follows old now new t at after bytes rest count (Ok Waits) was s read =
    let more : SoFar follows old new t bytes after (drop count rest) = record {
      octets = s.octets ++ read.0;
      adds = read.1 ∙ ap (λ (o : List ℕ). o ++ read.0) s.adds ∙ append_assoc old s.octets read.0;
      all = OneMore s.octets read.0 at after rest count s.all read.2;
    } in
    subst (λ (left : List ℕ). SoFar follows old new t bytes after left) (sym (left_is count rest)) more

nothing_left : (xs : List ℕ) → length xs ≡ 0 → xs ≡ []
nothing_left [] none = refl
nothing_left (x ∷ xs) none = absurd (cc none)

pub all_is_read : {S : Type 0} (follows : ScriptOf S) (old now : List ℕ) (t at : AskValue S) (bytes rest : List ℕ)
    → SoFar follows old now t bytes at rest → length rest ≡ 0 → ReadsPiece follows old now t bytes (Ok Waits) at
all_is_read follows old now t at bytes rest s none =
    (s.octets, s.adds, subst (λ (left : List ℕ). AllRead follows t bytes s.octets at left) (nothing_left rest none) s.all)

pub done_in : {S : Type 0} (follows : ScriptOf S) (old now new : List ℕ) (t at after : AskValue S) (bytes rest : List ℕ) (count : ℕ) (r : Result Progress InquiryFault) → r ≡ Ok Done
    → OneRead follows now new at rest count r after → ReadsPiece follows old new t bytes (Ok Done) after
done_in follows old now new t at after bytes rest count (Err why) was read = absurd (cc was)
done_in follows old now new t at after bytes rest count (Ok Waits) was read = absurd (cc was)
done_in follows old now new t at after bytes rest count (Ok Done) was read = read

-- ---- the calls at an input

told_with : {S : Type 0} (follows : ScriptOf S) (at : Input) (old new : List ℕ) (t t' : AskValue S) (r : Result Progress InquiryFault)
    → (Collects old new t'.client (Ok Waits) → GoesAt follows at (out_of t'.client.carrier) t t') → Collects old new t'.client r → Told follows at old new t r t'
told_with follows at old new t t' (Ok Waits) goes collects = (out_of t'.client.carrier, collects.1, goes collects)
told_with follows at old new t t' (Ok Done) goes collects = absurd collects
told_with follows at old new t t' (Err why) goes collects = tt

pub connected : {S : Type 0} (follows : ScriptOf S) (old new : List ℕ) (v t t' : AskValue S) (r : Result Progress InquiryFault)
    → v ≡ t → CanBegin is_down v.client → Begins Steps v.client t'.client → t' ≡ record v { client = t'.client } → Collects old new t'.client r → Told follows BeginsOf old new t r t'
connected {S} follows old new v t t' r is may begins same collects =
    subst (λ (x : AskValue S). Told follows BeginsOf old new x r t') is
    (told_with follows BeginsOf old new v t' r (λ whole. (made old new v.client t'.client Begin (may.closed, begins) whole, same)) collects)

pub waited : {S : Type 0} (follows : ScriptOf S) (old new : List ℕ) (v t t' : AskValue S) (told : Result Outcome Fault) (outcome : Outcome) (r : Result Progress InquiryFault)
    → v ≡ t → told ≡ Ok outcome → IsCall means v.client (Wait told) t'.client → t' ≡ record v { client = t'.client } → Collects old new t'.client r → Told follows TimesOut old new t r t'
waited {S} follows old new v t t' told outcome r is ok waits same collects =
    subst (λ (x : AskValue S). Told follows TimesOut old new x r t') is
    (told_with follows TimesOut old new v t' r
    (λ whole. (outcome, made old new v.client t'.client (Wait (Ok outcome)) (subst (λ (x : Result Outcome Fault). IsCall means v.client (Wait x) t'.client) ok waits) whole, same)) collects)

pub took : {S : Type 0} (follows : ScriptOf S) (old new : List ℕ) (t mid t' : AskValue S) (bytes : List ℕ) (r : Result Progress InquiryFault)
    → length bytes ≤ t.left → mid ≡ record t { left = t.left - length bytes } → ReadsPiece follows old new mid bytes r t' → Told follows (ReadsOf bytes) old new t r t'
took {S} follows old new t mid t' bytes (Ok Waits) may counted piece =
    (piece.0, piece.1, (may, subst (λ (x : AskValue S). AllRead follows x bytes piece.0 t' []) counted piece.2))
took follows old new t mid t' bytes (Ok Done) may counted piece = piece
took follows old new t mid t' bytes (Err why) may counted piece = tt

-- ---- the step

stepped_with : {S : Type 0} (follows : ScriptOf S) (at : Input) (new : List ℕ) (t t' : AskValue S) (r : Result Progress InquiryFault) (step : JobStep Sent InquiryFault)
    → Told follows at [] new t r t' → IsStep new r step → JobSteps follows t at step t'
stepped_with follows at new t t' (Ok Waits) taken.Nothing told is = subst (λ (out : List ℕ). GoesAt follows at out t t') (sym told.1 ∙ is) told.2
stepped_with follows at new t t' (Ok Waits) (taken.Sends message) told is =
    (subst (λ (out : List ℕ). GoesAt follows at out t t') (sym told.1 ∙ sym is.0) told.2, subst (λ (out : List ℕ). 0 < length out) (sym is.0) is.1)
stepped_with follows at new t t' (Ok Waits) taken.Done told is = absurd is
stepped_with follows at new t t' (Ok Waits) (taken.Fails fault) told is = absurd is
stepped_with {S} follows at new t t' (Ok Done) step told is = subst (λ (x : JobStep Sent InquiryFault). JobSteps follows t at x t') (sym is) told
stepped_with {S} follows at new t t' (Err why) step told is = subst (λ (x : JobStep Sent InquiryFault). JobSteps follows t at x t') (sym is) tt

pub stepped : {S : Type 0} (follows : ScriptOf S) (at : Input) (old new : List ℕ) (t t' : AskValue S) (r : Result Progress InquiryFault) (step : JobStep Sent InquiryFault)
    → old ≡ [] → Told follows at old new t r t' → IsStep new r step → JobSteps follows t at step t'
stepped follows at old new t t' r step none told is = stepped_with follows at new t t' r step (subst (λ (o : List ℕ). Told follows at o new t r t') none told) is

pub settled_so : {S : Type 0} (follows : ScriptOf S) (at : Input) (old new : List ℕ) (t mid t' : AskValue S) (told r : Result Progress InquiryFault) (step : JobStep Sent InquiryFault)
    → old ≡ [] → Told follows at old new t told mid → t' ≡ mid → Settled t' told r → IsStep new r step → JobSteps follows t at step t'
settled_so {S} follows at old new t mid t' told r step none was same (inl is) sends =
    stepped follows at old new t t' r step none
    (subst (λ (x : Result Progress InquiryFault). Told follows at old new t x t') (sym is) (subst (λ (x : AskValue S). Told follows at old new t told x) (sym same) was)) sends
settled_so {S} follows at old new t mid t' told r step none was same (inr over) sends =
    stepped follows at old new t t' r step none (subst (λ (x : Result Progress InquiryFault). Told follows at old new t x t') (sym over.0) over.1) sends
