-- A poll over a carrier at its end of a line: its calls with a piece, one after another, and all calls of a poll.
use Rattle.std.proofs.Common.{arith, ◌≡◌, ◌∙◌, ◌+◌, ◌<◌, ◌≤◌, ◌-◌, refl, sym, ap, subst, inl, inr, append-nil, append_assoc, ℕ, List, [], ◌∷◌, ◌++◌, take, drop, length, Option, Some, None, Result, Ok, Err}
use Rattle.std.proofs.lemmas.List.{length-drop, take_all}
use Rattle.dlms_carrier.specs.declared.any.Route.{Route}
use Rattle.dlms_headend.specs.CarrierPollValue.{TermsValue}
use Rattle.dlms_headend.specs.CarrierRun.{AreDone, Beside, Call, Begin, Feed, Wait, IsCall, PollsLead, ReturnsDone, Runs}
use Rattle.dlms_headend.specs.declared.poll_fault.PollFault.{PollFault}
use Rattle.dlms_headend.specs.declared.poll_fault.PollFault.TheVariants as failing
use Rattle.dlms_headend.specs.declared.stage.PollCourse.TheVariants.{Ready}
use Rattle.dlms_headend.specs.declared.step.PollOutcome.{PollOutcome}
use Rattle.dlms_headend.specs.declared.step.PollOutcome.TheVariants.{Nothing, Done}
use Rattle.dlms_secured.specs.Guard.{GuardValue}
use Rattle.dlms_secured.specs.declared.fault.SecuredFault.{SecuredFault}
use Rattle.dlms_ends.specs.Carried.{fault_of, out_of}
use Rattle.dlms_ends.specs.Moments.{Moment, Adds, Breaks}
use Rattle.dlms_ends.specs.Moments.Moment.{Came}
use Rattle.dlms_ends.specs.PollEnds.{AllRead, Dials, Ends, FeedsAt, Goes, IsLost, IsNew, IsOneRead, IsPolledOver, Listens, ListensOn, PollAt, PollEndValue, PollsOver, Reading, Reads, Stops, TakesPiece, TakesTimeout, WaitsAt, Writes, cause, means, moments_of, outcome_of_loss, went}
use Rattle.dlms_ends.specs.PollEnds.AllRead.{NoCall, OneCall}
use Rattle.dlms_ends.specs.PollEnds.Stops.{IsInsecure, LineBreaks}
use Rattle.dlms_ends.specs.PollEnds.Listens.{IsQuiet, HasCome, Floods, ReadFails}
use Rattle.dlms_ends.specs.PollEnds.ListensOn.{NoRead, OneMore}
use Rattle.dlms_ends.specs.PollEnds.PollsOver.{DialsInVain, Listened, Tires}
use Rattle.dlms_ends.specs.PollEnds.TakesPiece.{Fails, IsDone, IsRead, IsStopped}
use Rattle.dlms_ends.specs.PollEnds.TakesTimeout.{HasFault, IsEnough, IsRepeated, IsStopped as IsStoppedThen}
use Rattle.dlms_ends.specs.declared.fault.RunFault.{RunFault}
use Rattle.dlms_ends.specs.declared.fault.RunFault.TheVariants.{Poll, Insecure}
use Rattle.dlms_ends.specs.declared.poll_end.TheConstants.{MOST_READS}
use Rattle.dlms_ends.proofs.EndLemmas.{nothing_left}
use Rattle.dlms_ends.proofs.MomentLemmas.{adds_as, adds_more, adds_none}

-- ---- a piece

moments_more : (calls : List Reading) (call : Reading) → moments_of calls ++ went call.out ≡ moments_of (calls ++ call ∷ [])
moments_more [] call = sym (append-nil (went call.out))
moments_more (one ∷ calls) call = append_assoc (went one.out) (moments_of calls) (went call.out) ∙ ap (λ (t : List Moment). went one.out ++ t) (moments_more calls call)

-- the calls so far, after which this rest of the piece is to be read
pub record SoFar (old now : Option (List Moment)) (p : PollAt) (bytes : List ℕ) (at : PollAt) (rest : List ℕ) : Type 0 where
  pub calls : List Reading
  pub all : AllRead p bytes calls at rest
  pub adds : Adds old now (moments_of calls)

pub none_yet : (past : Option (List Moment)) (p : PollAt) (bytes : List ℕ) → SoFar past past p bytes p bytes
none_yet past p bytes = record { calls = []; all = NoCall; adds = adds_none past }

left_is : (n : ℕ) (xs : List ℕ) → take (length xs - n) (drop n xs) ≡ drop n xs
left_is n xs = take_all (length xs - n) (drop n xs) (omega (arith, length-drop n xs))

as_read : (p p' : PollAt) (octets : List ℕ) (count : ℕ) (r is : Result PollOutcome RunFault) → r ≡ is → IsOneRead p octets count r p' → IsOneRead p octets count is p'
as_read p p' octets count r is same h = subst (λ (x : Result PollOutcome RunFault). IsOneRead p octets count x p') same h

pub one_more : (old now new : Option (List Moment)) (p at after after' : PollAt) (bytes rest : List ℕ) (count : ℕ) (r : Result PollOutcome RunFault) → r ≡ Ok Nothing
    → SoFar old now p bytes at rest → IsOneRead at rest count r after → Writes now new after (Ok tt) → after' ≡ after → SoFar old new p bytes after' (take (length rest - count) (drop count rest))
one_more old now new p at after after' bytes rest count r was s read goes same =
    let call : Reading = record { count = count; out = out_of after.carrier } in
    let one : Reads at rest call after = record { feeds = as_read at after rest count r (Ok Nothing) was read; whole = goes.0; out = refl } in
    let more : SoFar old new p bytes after (drop count rest) = record {
      calls = s.calls ++ call ∷ [];
      all = OneCall s.calls at after rest call s.all one;
      adds = adds_as old new (moments_of s.calls ++ went call.out) (moments_of (s.calls ++ call ∷ [])) (moments_more s.calls call) (adds_more old now new (moments_of s.calls) (went call.out) s.adds goes.1);
    } in
    subst (λ (v : PollAt). SoFar old new p bytes v (take (length rest - count) (drop count rest))) (sym same)
    (subst (λ (o : List ℕ). SoFar old new p bytes after o) (sym (left_is count rest)) more)

pub ends_with : (old now : Option (List Moment)) (p at after : PollAt) (bytes rest : List ℕ) (count : ℕ) (why : RunFault) (r : Result PollOutcome RunFault) → r ≡ Err why
    → SoFar old now p bytes at rest → IsOneRead at rest count r after → TakesPiece old now p bytes (Err why) after
ends_with old now p at after bytes rest count why r was s read = Fails s.calls at rest count why s.all (as_read at after rest count r (Err why) was read) s.adds refl

pub done_with : (old now : Option (List Moment)) (p at after : PollAt) (bytes rest : List ℕ) (count : ℕ) (r : Result PollOutcome RunFault) → r ≡ Ok Done
    → SoFar old now p bytes at rest → IsOneRead at rest count r after → TakesPiece old now p bytes (Ok Done) after
done_with old now p at after bytes rest count r was s read = IsDone s.calls at rest count s.all (as_read at after rest count r (Ok Done) was read) s.adds refl

pub breaks_at : (old now new : Option (List Moment)) (p at after after' : PollAt) (bytes rest : List ℕ) (count : ℕ) (why : RunFault) (r : Result PollOutcome RunFault) → r ≡ Ok Nothing
    → SoFar old now p bytes at rest → IsOneRead at rest count r after → Stops now new after why → after' ≡ after → TakesPiece old new p bytes (Err why) after'
breaks_at old now new p at after after' bytes rest count why r was s read stops same =
    subst (λ (v : PollAt). TakesPiece old new p bytes (Err why) v) (sym same)
    (IsStopped s.calls at rest count now why s.all (as_read at after rest count r (Ok Nothing) was read) s.adds stops refl)

pub all_is_read : (old now : Option (List Moment)) (p at : PollAt) (bytes rest : List ℕ)
    → SoFar old now p bytes at rest → length rest ≡ 0 → TakesPiece old now p bytes (Ok Nothing) at
all_is_read old now p at bytes rest s none =
    IsRead s.calls (subst (λ (o : List ℕ). AllRead p bytes s.calls at o) (nothing_left rest none) s.all) s.adds refl

-- ---- what goes out

-- there are octets to write only while the security layer has no fault
pub writes : (old new : Option (List Moment)) (p : PollAt) (octets : List ℕ) (result : Result (Unit {0}) RunFault) → fault_of p.carrier ≡ None → octets ≡ out_of p.carrier → Goes old new octets result → Writes old new p result
writes old new p octets (Ok done) whole is goes = (whole, adds_as old new (went octets) (went (out_of p.carrier)) (ap (λ (o : List ℕ). went o) is) goes)
writes old new p octets (Err why) whole is goes = LineBreaks goes.0 (subst (λ (o : List ℕ). Breaks old new o) is goes.1)

pub writes_nothing : (past : Option (List Moment)) (p : PollAt) (fault : SecuredFault) → fault_of p.carrier ≡ Some fault → Writes past past p (Err (Insecure fault))
writes_nothing past p fault is = IsInsecure fault is refl (adds_none past)

-- ---- one call

feeds_as : (p p0 p' : PollAt) (octets : List ℕ) (count : ℕ) (r so : Result PollOutcome PollFault) → r ≡ so → p0 ≡ p → FeedsAt p0 octets count r p' → FeedsAt p octets count so p'
feeds_as p p0 p' octets count r so was is feeds = subst (λ (x : Result PollOutcome PollFault). FeedsAt p octets count x p') was (subst (λ (v : PollAt). FeedsAt v octets count r p') is feeds)

pub read_fault : (p p0 p' : PollAt) (octets : List ℕ) (count : ℕ) (fault : PollFault) (why : RunFault) (r : Result PollOutcome PollFault) → r ≡ Err fault → p0 ≡ p → FeedsAt p0 octets count r p' → why ≡ cause (fault_of p'.carrier) fault p' → IsOneRead p octets count (Err why) p'
read_fault p p0 p' octets count fault why r was is feeds told = record { fault = fault; feeds = feeds_as p p0 p' octets count r (Err fault) was is feeds; told = told }

pub read_so : (p p0 p' : PollAt) (octets : List ℕ) (count : ℕ) (outcome : PollOutcome) (r : Result PollOutcome PollFault) → r ≡ Ok outcome → p0 ≡ p → FeedsAt p0 octets count r p' → IsOneRead p octets count (Ok outcome) p'
read_so p p0 p' octets count outcome r was is feeds = feeds_as p p0 p' octets count r (Ok outcome) was is feeds

timeout_between : (old new : Option (List Moment)) (p p0 p1 p' : PollAt) (result : Result PollOutcome RunFault) → p0 ≡ p → p' ≡ p1 → TakesTimeout old new p0 result p1 → TakesTimeout old new p result p'
timeout_between old new p p0 p1 p' result before after h =
    subst (λ (v : PollAt). TakesTimeout old new v result p') before (subst (λ (v : PollAt). TakesTimeout old new p0 result v) (sym after) h)

pub timeout_told : (old new : Option (List Moment)) (p p0 p1 p' : PollAt) (outcome : PollOutcome) → outcome ≡ Nothing → p0 ≡ p → p' ≡ p1 → WaitsAt p0 (Ok outcome) p1 → Writes old new p1 (Ok tt) → TakesTimeout old new p (Ok Nothing) p'
timeout_told old new p p0 p1 p' outcome is before after waits goes =
    timeout_between old new p p0 p1 p' (Ok Nothing) before after (IsRepeated (subst (λ (o : PollOutcome). WaitsAt p0 (Ok o) p1) is waits) goes refl)

pub timeout_enough : (past : Option (List Moment)) (p p0 p1 : PollAt) (outcome : PollOutcome) → outcome ≡ Done → p0 ≡ p → WaitsAt p0 (Ok outcome) p1 → TakesTimeout past past p (Ok Done) p1
timeout_enough past p p0 p1 outcome is before waits =
    timeout_between past past p p0 p1 p1 (Ok Done) before refl (IsEnough (subst (λ (o : PollOutcome). WaitsAt p0 (Ok o) p1) is waits) (adds_none past) refl)

pub timeout_breaks : (old new : Option (List Moment)) (p p0 p1 p' : PollAt) (outcome : PollOutcome) (why : RunFault) → outcome ≡ Nothing → p0 ≡ p → p' ≡ p1 → WaitsAt p0 (Ok outcome) p1 → Stops old new p1 why → TakesTimeout old new p (Err why) p'
timeout_breaks old new p p0 p1 p' outcome why is before after waits stops =
    timeout_between old new p p0 p1 p' (Err why) before after (IsStoppedThen why (subst (λ (o : PollOutcome). WaitsAt p0 (Ok o) p1) is waits) stops refl)

pub timeout_fault : (past : Option (List Moment)) (p p0 p1 : PollAt) (why : PollFault) (told : RunFault) → p0 ≡ p → told ≡ cause (fault_of p1.carrier) why p1 → WaitsAt p0 (Err why) p1 → TakesTimeout past past p (Err told) p1
timeout_fault past p p0 p1 why told before is waits = timeout_between past past p p0 p1 p1 (Err told) before refl (HasFault why waits (adds_none past) (ap (λ (f : RunFault). Err f) is))

-- ---- the line fails

pub lost_as : (p p0 p' : PollAt) (why : RunFault) (told : Result PollOutcome PollFault) (result : Result PollOutcome RunFault) → p0 ≡ p → WaitsAt p0 told p' → result ≡ outcome_of_loss why told → IsLost p why result p'
lost_as p p0 p' why told result before waits is = (told, subst (λ (v : PollAt). WaitsAt v told p') before waits, is)

-- ---- one read of the line

-- a piece arrived of which this many octets may come, and it is counted and read
pub came_in : (old now new : Option (List Moment)) (t mid t' : PollEndValue) (bytes : List ℕ) (count : ℕ) (result : Result PollOutcome RunFault) → Adds old now (Came bytes ∷ []) → length bytes ≡ count → count ≤ t.left
    → mid ≡ record t { left = t.left - count } → t'.left ≡ mid.left → TakesPiece now new mid.poll bytes result t'.poll → Listens old new t result t'
came_in old now new t mid t' bytes count result came long may counted left piece =
    HasCome bytes now came (subst (λ (n : ℕ). n ≤ t.left) (sym long) may) (left ∙ ap (λ (v : PollEndValue). v.left) counted ∙ ap (λ (n : ℕ). t.left - n) (sym long))
    (subst (λ (p : PollAt). TakesPiece now new p bytes result t'.poll) (ap (λ (v : PollEndValue). v.poll) counted) piece)

pub floods : (old new : Option (List Moment)) (t t' : PollEndValue) (bytes : List ℕ) (count : ℕ) → Adds old new (Came bytes ∷ []) → length bytes ≡ count → t.left < count → t' ≡ t → Listens old new t (Err (Poll failing.Protocol)) t'
floods old new t t' bytes count came long more same = Floods bytes came (subst (λ (n : ℕ). t.left < n) (sym long) more) refl same

pub heard_as : (old new : Option (List Moment)) (t t' : PollEndValue) (given outcome : PollOutcome) → given ≡ outcome → Listens old new t (Ok given) t' → Listens old new t (Ok outcome) t'
heard_as old new t t' given outcome is h = subst (λ (o : PollOutcome). Listens old new t (Ok o) t') is h

-- ---- the calls of a poll

runs_append : (xs ys : List Call) (a b c : PollAt) → Runs means a xs b → Runs means b ys c → Runs means a (xs ++ ys) c
runs_append [] ys a b c h k = subst (λ (v : PollAt). Runs means v ys c) h k
runs_append (x ∷ xs) ys a b c h k = (h.0, h.1, runs_append xs ys h.0 b c h.2 k)

-- one of the later calls returned it
done_later : (xs ys : List Call) → AreDone ys → AreDone (xs ++ ys)
done_later [] ys h = h
done_later (x ∷ xs) ys h = inr (done_later xs ys h)

-- the calls that read a piece
read_runs : (p : PollAt) (octets : List ℕ) (calls : List Reading) (p' : PollAt) (rest : List ℕ) → AllRead p octets calls p' rest → (made : List Call) × Runs means p made p'
read_runs p octets calls p' rest NoCall = ([], refl)
read_runs p octets calls p' rest (OneCall front mid end left call all one) =
    let first = read_runs p octets front mid left all in
    (first.0 ++ Feed left call.count (Ok Nothing) ∷ [], runs_append first.0 (Feed left call.count (Ok Nothing) ∷ []) p mid end first.1 (end, one.feeds, refl))

-- calls that lead from here to there; one of them returned that the poll is done, if the outcome is that
record Made (p : PollAt) (outcome : PollOutcome) (p' : PollAt) : Type 0 where
  calls : List Call
  runs : Runs means p calls p'
  done : outcome ≡ Done → AreDone calls

made_as : (p p' : PollAt) (given outcome : PollOutcome) → given ≡ outcome → Made p given p' → Made p outcome p'
made_as p p' given outcome e h = subst (λ (o : PollOutcome). Made p o p') e h

waited : (p p' : PollAt) (outcome : PollOutcome) → WaitsAt p (Ok outcome) p' → Made p outcome p'
waited p p' Nothing h = record { calls = Wait (Ok Nothing) ∷ []; runs = (p', h, refl); done = λ e. absurd (cc) }
waited p p' Done h = record { calls = Wait (Ok Done) ∷ []; runs = (p', h, refl); done = λ e. inl tt }

timeout_made : (old new : Option (List Moment)) (p p' : PollAt) (outcome : PollOutcome) → TakesTimeout old new p (Ok outcome) p' → Made p outcome p'
timeout_made old new p p' outcome (IsRepeated h writes told) = let same : Nothing ≡ outcome = cc in made_as p p' Nothing outcome same (waited p p' Nothing h)
timeout_made old new p p' outcome (IsEnough h adds told) = let same : Done ≡ outcome = cc in made_as p p' Done outcome same (waited p p' Done h)
timeout_made old new p p' outcome (HasFault why h adds told) = absurd (cc)
timeout_made old new p p' outcome (IsStoppedThen why h stops told) = absurd (cc)

piece_made : (old new : Option (List Moment)) (p p' : PollAt) (octets : List ℕ) (outcome : PollOutcome) → TakesPiece old new p octets (Ok outcome) p' → Made p outcome p'
piece_made old new p p' octets outcome (IsRead calls all adds told) =
    let same : Nothing ≡ outcome = cc in
    let made = read_runs p octets calls p' [] all in
    made_as p p' Nothing outcome same (record { calls = made.0; runs = made.1; done = λ e. absurd (cc) })
piece_made old new p p' octets outcome (IsDone calls mid rest count all feeds adds told) =
    let same : Done ≡ outcome = cc in
    let made = read_runs p octets calls mid rest all in
    let last : List Call = Feed rest count (Ok Done) ∷ [] in
    made_as p p' Done outcome same (record { calls = made.0 ++ last; runs = runs_append made.0 last p mid p' made.1 (p', feeds, refl); done = λ e. done_later made.0 last (inl tt) })
piece_made old new p p' octets outcome (Fails calls mid rest count why all fails adds told) = absurd (cc)
piece_made old new p p' octets outcome (IsStopped calls mid rest count now why all feeds adds stops told) = absurd (cc)

-- a poll that is done as its line fails
lost_made : (p p' : PollAt) (why : RunFault) (told : Result PollOutcome PollFault) (outcome : PollOutcome) → WaitsAt p told p' → Ok outcome ≡ outcome_of_loss why told → Made p outcome p'
lost_made p p' why (Ok Done) outcome h is = let same : Done ≡ outcome = cc in made_as p p' Done outcome same (waited p p' Done h)
lost_made p p' why (Ok Nothing) outcome h is = absurd (cc)
lost_made p p' why (Err fault) outcome h is = absurd (cc)

listens_made : (old new : Option (List Moment)) (t t' : PollEndValue) (outcome : PollOutcome) → Listens old new t (Ok outcome) t' → Made t.poll outcome t'.poll
listens_made old new t t' outcome (IsQuiet now adds left h) = timeout_made now new t.poll t'.poll outcome h
listens_made old new t t' outcome (HasCome bytes now adds may left h) = piece_made now new t.poll t'.poll bytes outcome h
listens_made old new t t' outcome (Floods bytes adds more told same) = absurd (cc)
listens_made old new t t' outcome (ReadFails error why adds tells left lost) = lost_made t.poll t'.poll why lost.0 outcome lost.1 lost.2

-- reads of the line, one after another
listening_made : (old : Option (List Moment)) (t : PollEndValue) (count : ℕ) (new : Option (List Moment)) (t' : PollEndValue) → ListensOn old t count new t' → (calls : List Call) × Runs means t.poll calls t'.poll
listening_made old t count new t' NoRead = ([], refl)
listening_made old t count new t' (OneMore before now last mid end h listens) =
    let first = listening_made old t before now mid h in
    let next : Made mid.poll Nothing end.poll = listens_made now last mid end Nothing listens in
    (first.0 ++ next.calls, runs_append first.0 next.calls t.poll mid.poll end.poll first.1 next.runs)

-- ---- the poll is done

pub polled : PollsLead means → (route : Route) (terms : TermsValue) (guard : Option GuardValue) (old new : Option (List Moment)) (t t' : PollEndValue) (u : Unit {0}) → IsNew route terms guard t → PollsOver old new t (Ok u) t' → IsPolledOver route terms guard t'
polled law route terms guard old new t t' u is (DialsInVain why dials told) = absurd (cc)
polled law route terms guard old new t t' u is (Tires dialled first dials on told) = absurd (cc)
polled law route terms guard old new t t' u is (Listened dialled first count now mid (Err fault) dials on listens told) = absurd (cc)
polled law route terms guard old new t t' u is (Listened dialled first count now mid (Ok Nothing) dials on listens told) = absurd told
polled law route terms guard old new t t' u is (Listened dialled first count now mid (Ok Done) dials on listens told) =
    let reads = listening_made dialled first count now mid on in
    let last : Made mid.poll Done t'.poll = listens_made now new mid t' Done listens in
    let calls : List Call = Begin ∷ (reads.0 ++ last.calls) in
    let ready : t.poll.course ≡ Ready = ap (λ (v : PollAt). v.course) is.poll in
    let runs : Runs means t.poll calls t'.poll = (first.poll, (ready, dials.begins), runs_append reads.0 last.calls first.poll mid.poll t'.poll reads.1 last.runs) in
    let beside : Beside means (record { carrier = is.carrier; guard = guard }) terms calls t'.poll = law (record { carrier = is.carrier; guard = guard }) terms calls t'.poll (subst (λ (v : PollAt). Runs means v calls t'.poll) is.poll runs) in
    record {
      carrier = is.carrier;
      fresh = is.fresh;
      calls = calls;
      beside = beside;
      done = beside.told (inr (done_later reads.0 last.calls (last.done refl)));
    }

-- ---- the loop of a poll

-- it dialled, and read the line this many times since then
pub record Dialled (old : Option (List Moment)) (t : PollEndValue) (count : ℕ) (now : Option (List Moment)) (mid : PollEndValue) : Type 0 where
  pub dialled : Option (List Moment)
  pub first : PollEndValue
  pub dials : Dials old dialled t (Ok tt) first
  pub on : ListensOn dialled first count now mid

pub dialled_first : (old now : Option (List Moment)) (t first : PollEndValue) (u : Unit {0}) → Dials old now t (Ok u) first → Dialled old t 0 now first
dialled_first old now t first u h = record { dialled = now; first = first; dials = h; on = NoRead }

pub one_read : (old now new : Option (List Moment)) (t mid t' : PollEndValue) (count : ℕ) → Dialled old t count now mid → Listens now new mid (Ok Nothing) t' → Dialled old t (count + 1) new t'
one_read old now new t mid t' count h listens = record { dialled = h.dialled; first = h.first; dials = h.dials; on = OneMore count now new mid t' h.on listens }

pub listened : (old now new : Option (List Moment)) (t mid t' : PollEndValue) (count : ℕ) (told : Result PollOutcome RunFault) (result : Result (Unit {0}) RunFault) → Dialled old t count now mid → Listens now new mid told t' → Ends told result
    → PollsOver old new t result t'
listened old now new t mid t' count told result h listens ends = Listened h.dialled h.first count now mid told h.dials h.on listens ends

pub tired : (old new : Option (List Moment)) (t t' : PollEndValue) (count : ℕ) → Dialled old t count new t' → count ≡ MOST_READS → PollsOver old new t (Err (Poll failing.Line)) t'
tired old new t t' count h all = Tires h.dialled h.first h.dials (subst (λ (n : ℕ). ListensOn h.dialled h.first n new t') all h.on) refl
