-- The calls of an association: what was joined is what came since its request.
use Rattle.std.proofs.Common.{◌≡◌, ◌∙◌, refl, sym, ap, subst, inl, inr, ℕ, ◌+◌, ◌-◌, ◌==◌, IfSome, if◌then◌else◌, List, [], ◌∷◌, ◌++◌, append-nil, Bool, true, false, Option, Some, None, Result, Ok, Err}
use Rattle.dlms_apdu.specs.Forms.{RequestForm}
use Rattle.dlms_blocks.specs.Block.{BlockValue, is_last}
use Rattle.dlms_blocks.specs.Going.{Going, beginning, answer, after}
use Rattle.dlms_blocks.specs.declared.put_out.TheConstants.{PUT_HEAD}
use Rattle.dlms_blocks.specs.Joining.{Joining, empty}
use Rattle.dlms_association.specs.Association.{granted_at, released_at}
use Rattle.dlms_association.specs.Calls.{fresh, HasFailed, IsPassedOver, OpensBy, ReleasesBy, Sends, GivesBlock, GivesNext, next_of_set, next_of_action, next_bytes, AsksMore, emptied, long_value, most_bytes, GoesOn, TakesAt, TakesUnless, IsFree, Asks}
use Rattle.dlms_association.specs.AssociationValue.{AssociationValue}
use Rattle.dlms_association.specs.Hearing.{Hears}
use Rattle.dlms_association.specs.Run.{Call, Open, Take, Ask, Release, Close, Break, asked_of, IsCall, taken_at, taken_unless, Since, nothing_yet, since_after, Runs, AnswersAreSaid, IsOfTheRequest, BlocksAreOfTheRequest}
use Rattle.dlms_association.specs.Saying.{Says}
use Rattle.dlms_association.specs.declared.answer.Answer.{Answer}
use Rattle.dlms_association.specs.declared.ask_fault.AskFault.{AskFault}
use Rattle.dlms_association.specs.declared.ask_fault.AskFault.TheVariants.{TooLong, Memory}
use Rattle.dlms_association.specs.declared.fault.Fault.{Fault}
use Rattle.dlms_association.specs.declared.granted.Granted.{Granted}
use Rattle.dlms_association.specs.declared.hearing.Heard.{Heard}
use Rattle.dlms_association.specs.declared.hearing.Heard.TheVariants.{More, Told}
use Rattle.dlms_association.specs.declared.stage.Asked.{Asked}
use Rattle.dlms_association.specs.declared.stage.Asked.TheVariants.{Get, Set, Action}
use Rattle.dlms_association.specs.declared.stage.Stage.{Stage}
use Rattle.dlms_association.specs.declared.stage.Stage.TheVariants.{Closed, Associating, Free, Asking, Releasing, Released}
use Rattle.dlms_association.specs.declared.step.Step.{Step}
use Rattle.dlms_association.specs.declared.step.Step.TheVariants as step
use Rattle.dlms_association.proofs.SaidLemmas.{AreOf, said, more_came}

-- the blocks that were joined are those that came since the request
record HasJoined (asked : Asked) (blocks : Joining) (sent : Option Going) (since : Since) : Type 0 where
  form : RequestForm
  request : since.request ≡ Some form
  same : asked ≡ asked_of form
  come : AreOf asked since.taken blocks
  goes : IfSome sent (λ going. long_value form ≡ Some going.encoding)

abbrev FitsAt : Stage → Joining → Option Going → Since → Type 0
FitsAt (Asking asked) blocks sent since = HasJoined asked blocks sent since
FitsAt Closed blocks sent since = Unit {0}
FitsAt Associating blocks sent since = Unit {0}
FitsAt Free blocks sent since = Unit {0}
FitsAt Releasing blocks sent since = Unit {0}
FitsAt Released blocks sent since = Unit {0}

abbrev FitsUnless : Option Fault → Stage → Joining → Option Going → Since → Type 0
FitsUnless None stage blocks sent since = FitsAt stage blocks sent since
FitsUnless (Some fault) stage blocks sent since = Unit {0}

abbrev Fits : AssociationValue → Since → Type 0
Fits c since = FitsUnless c.failed c.stage c.blocks c.sent since

-- a client after which it still fits
fits_at : (c d : AssociationValue) (since : Since) → c ≡ d → Fits d since → Fits c since
fits_at c d since e h = subst (λ (x : AssociationValue). Fits x since) (sym e) h

-- nothing was taken
same_since : (c : AssociationValue) (since : Since) → Fits c since → Fits c (record since { taken = since.taken ++ [] })
same_since c since h = subst (λ (l : List (List ℕ)). Fits c (record since { taken = l })) (sym (append-nil since.taken)) h

failed_fits : {X : Type 0} (at new : AssociationValue) (fault : Fault) (result : Result X Fault) (since : Since) → HasFailed at fault result new → Fits new since
failed_fits at new fault result since h = fits_at new (record at { failed = Some fault }) since h.after tt

free_fits : (failed : Option Fault) (blocks : Joining) (sent : Option Going) (since : Since) → FitsUnless failed Free blocks sent since
free_fits None blocks sent since = tt
free_fits (Some fault) blocks sent since = tt

released_fits : (failed : Option Fault) (blocks : Joining) (sent : Option Going) (since : Since) → FitsUnless failed Released blocks sent since
released_fits None blocks sent since = tt
released_fits (Some fault) blocks sent since = tt

releasing_fits : (failed : Option Fault) (blocks : Joining) (sent : Option Going) (since : Since) → FitsUnless failed Releasing blocks sent since
releasing_fits None blocks sent since = tt
releasing_fits (Some fault) blocks sent since = tt

associating_fits : (failed : Option Fault) (blocks : Joining) (sent : Option Going) (since : Since) → FitsUnless failed Associating blocks sent since
associating_fits None blocks sent since = tt
associating_fits (Some fault) blocks sent since = tt

closed_fits : (failed : Option Fault) (blocks : Joining) (sent : Option Going) (since : Since) → FitsUnless failed Closed blocks sent since
closed_fits None blocks sent since = tt
closed_fits (Some fault) blocks sent since = tt

-- ---- an APDU

opens_fits : (granted : Result Granted Fault) (at new : AssociationValue) (result : Result Step Fault) (since : Since) → OpensBy granted at result new → Fits new since
opens_fits (Ok granted) at new result since h = fits_at new (record at { stage = Free; granted = granted }) since h.1 (free_fits at.failed at.blocks at.sent since)
opens_fits (Err fault) at new result since h = failed_fits at new fault result since h

releases_fits : (released : Result (Unit {0}) Fault) (at new : AssociationValue) (result : Result Step Fault) (since : Since) → ReleasesBy released at result new → Fits new since
releases_fits (Ok u) at new result since h = fits_at new (record at { stage = Released }) since h.1 (released_fits at.failed at.blocks at.sent since)
releases_fits (Err fault) at new result since h = failed_fits at new fault result since h

sends_fit : (asked : Asked) (at new : AssociationValue) (apdu given : List ℕ) (since : Since) → at.failed ≡ None → HasJoined asked at.blocks at.sent since → Sends at apdu (Asking asked) given new → Fits new since
sends_fit asked at new apdu given since whole joined s = fits_at new _ since s.after (subst (λ (failed : Option Fault). FitsUnless failed (Asking asked) at.blocks at.sent since) (sym whole) joined)

gives_fits : (block : Result BlockValue ℕ) (spelled : BlockValue → List ℕ) (asked : Asked) (at new : AssociationValue) (result : Result Step Fault) (since : Since) → at.failed ≡ None → HasJoined asked at.blocks at.sent since → GivesBlock block spelled asked at result new
    → Fits new since
gives_fits (Ok b) spelled asked at new result since whole joined h = sends_fit asked at new (spelled b) h.0 since whole joined h.2
gives_fits (Err code) spelled asked at new result since whole joined h = failed_fits at new _ result since h

after-by : (g : Going) (over same : Bool) (given : ℕ) (last : Bool) → (if over then g else if same then record g { given = given; over = last } else record g { over = true }).encoding ≡ g.encoding
after-by g true same given last = refl
after-by g false true given last = refl
after-by g false false given last = refl

same_encoding : (g : Going) (number : ℕ) → (after g number).encoding ≡ g.encoding
same_encoding g number = after-by g g.over (number == g.given) (g.given + 1) (is_last g.encoding g.room (g.given + 1))

goes_after : (sent : Option Going) (going : Going) (number : ℕ) (form : RequestForm) → sent ≡ Some going → IfSome sent (λ g. long_value form ≡ Some g.encoding) → long_value form ≡ Some (after going number).encoding
goes_after sent going number form e h = subst (λ (o : Option Going). IfSome o (λ g. long_value form ≡ Some g.encoding)) e h ∙ ap (λ (bytes : List ℕ). Some bytes) (sym (same_encoding going number))

next_fits : (sent : Option Going) (number : ℕ) (spelled : BlockValue → List ℕ) (asked : Asked) (at new : AssociationValue) (result : Result Step Fault) (since : Since) → at.sent ≡ sent → at.failed ≡ None → HasJoined asked at.blocks at.sent since
    → GivesNext sent number spelled asked at result new → Fits new since
next_fits None number spelled asked at new result since same whole joined h = failed_fits at new _ result since h
next_fits (Some going) number spelled asked at new result since same whole joined h =
    let here : HasJoined asked at.blocks (Some (after going number)) since = record { form = joined.form; request = joined.request; same = joined.same; come = joined.come; goes = goes_after at.sent going number joined.form same joined.goes } in
    gives_fits (answer going number) spelled asked (record at { sent = Some (after going number) }) new result since whole here h

more_fits : (asked : Asked) (number : ℕ) (at new : AssociationValue) (result : Result Step Fault) (since : Since) → at.failed ≡ None → HasJoined asked at.blocks at.sent since → AsksMore asked number at result new → Fits new since
more_fits Get number at new result since whole joined h = sends_fit Get at new (next_bytes number) h.0 since whole joined h.2
more_fits Set number at new result since whole joined h = next_fits at.sent number next_of_set Set at new result since refl whole joined h
more_fits Action number at new result since whole joined h = next_fits at.sent number next_of_action Action at new result since refl whole joined h

answers_fit : (heard : Result Heard Fault) (blocks : Joining) (asked : Asked) (apdu : List ℕ) (at new : AssociationValue) (result : Result Step Fault) (since : Since) → at.failed ≡ None → HasJoined asked at.blocks at.sent since → Hears asked at.blocks apdu heard blocks
    → GoesOn heard asked (record at { blocks = blocks }) result new → Fits new (record since { taken = since.taken ++ apdu ∷ [] })
answers_fit (Ok (More number)) blocks asked apdu at new result since whole joined hears goes =
    let here : HasJoined asked blocks at.sent (record since { taken = since.taken ++ apdu ∷ [] }) = record { form = joined.form; request = joined.request; same = joined.same; come = more_came asked since.taken apdu at.blocks blocks number joined.come hears; goes = joined.goes } in
    more_fits asked number (record at { blocks = blocks }) new result _ whole here goes
answers_fit (Ok (Told answer)) blocks asked apdu at new result since whole joined hears goes = fits_at new _ _ goes.1 (free_fits at.failed blocks at.sent _)
answers_fit (Err fault) blocks asked apdu at new result since whole joined hears goes = failed_fits (record at { blocks = blocks }) new fault result _ goes

passed_fits : (old new : AssociationValue) (result : Result Step Fault) (since : Since) → Fits old since → IsPassedOver old result new → Fits new (record since { taken = since.taken ++ [] })
passed_fits old new result since fits h = same_since new since (fits_at new old since h.after fits)

takes_fits : (stage : Stage) (at new : AssociationValue) (apdu : List ℕ) (result : Result Step Fault) (since : Since) → at.stage ≡ stage → at.failed ≡ None → Fits at since → TakesAt stage at apdu result new → Fits new (record since { taken = since.taken ++ taken_at stage apdu })
takes_fits Associating at new apdu result since is whole fits h = opens_fits (granted_at apdu) at new result _ h
takes_fits (Asking asked) at new apdu result since is whole fits h =
    answers_fit h.0 h.1 asked apdu at new result since whole (subst (λ (stage : Stage). FitsAt stage at.blocks at.sent since) is (subst (λ (failed : Option Fault). FitsUnless failed at.stage at.blocks at.sent since) whole fits)) h.2 h.3
takes_fits Releasing at new apdu result since is whole fits h = releases_fits (released_at apdu) at new result _ h
takes_fits Closed at new apdu result since is whole fits h = passed_fits at new result since fits h
takes_fits Free at new apdu result since is whole fits h = passed_fits at new result since fits h
takes_fits Released at new apdu result since is whole fits h = passed_fits at new result since fits h

takes_fits-unless : (failed : Option Fault) (old new : AssociationValue) (apdu : List ℕ) (result : Result Step Fault) (since : Since) → old.failed ≡ failed → Fits old since → TakesUnless failed old apdu result new
    → Fits new (record since { taken = since.taken ++ taken_unless failed old.stage apdu })
takes_fits-unless None old new apdu result since whole fits h = takes_fits old.stage old new apdu result since refl whole fits h
takes_fits-unless (Some fault) old new apdu result since over fits h = same_since new since (fits_at new old since h.1 fits)

-- ---- the other calls

none_of : (asked : Asked) → AreOf asked [] empty
none_of Get = (refl, refl)
none_of Set = refl
none_of Action = refl

begun_fits : (form : RequestForm) (at new : AssociationValue) (apdu given : List ℕ) (sent : Option Going) → at.failed ≡ None → IfSome sent (λ going. long_value form ≡ Some going.encoding)
    → Sends (emptied at sent) apdu (Asking (asked_of form)) given new → Fits new (record { request = Some form; taken = [] })
begun_fits form at new apdu given sent whole goes s =
    sends_fit (asked_of form) (emptied at sent) new apdu given (record { request = Some form; taken = [] }) whole (record { form = form; request = refl; same = refl; come = none_of (asked_of form); goes = goes }) s

asks_fits : (form : RequestForm) (result : Result (List ℕ) AskFault) (old new : AssociationValue) (since : Since) → IsFree old → Fits old since → Asks (asked_of form) form old result new → Fits new (since_after old (Ask form result) since)
asks_fits form (Ok given) old new since free fits (inl h) = begun_fits form old new _ given None free.whole tt h.1
asks_fits form (Ok given) old new since free fits (inr h) =
    let going : Going = beginning h.0 (most_bytes old - PUT_HEAD) in
    begun_fits form old new _ given (Some (after going 0)) free.whole (h.1.encodes ∙ ap (λ (bytes : List ℕ). Some bytes) (sym (same_encoding going 0))) h.2
asks_fits form (Err TooLong) old new since free fits h = fits_at new old since h.2 fits
asks_fits form (Err Memory) old new since free fits h = fits_at new old since h fits

call_fits : (call : Call) (old new : AssociationValue) (since : Since) → Fits old since → IsCall old call new → Fits new (since_after old call since)
call_fits (Open given) old new since fits h = fits_at new _ since h.1.after (associating_fits old.failed old.blocks old.sent since)
call_fits (Take apdu result) old new since fits h = takes_fits-unless old.failed old new apdu result since refl fits h
call_fits (Ask form result) old new since fits h = asks_fits form result old new since h.0 fits h.1
call_fits (Release given) old new since fits h = fits_at new _ since h.1.after (releasing_fits old.failed old.blocks old.sent since)
call_fits Close old new since fits h = fits_at new _ since h (closed_fits old.failed old.blocks old.sent since)
call_fits (Break fault) old new since fits h = fits_at new _ since h tt

runs_fits : (calls : List Call) (old new : AssociationValue) (since now : Since) → Fits old since → Runs old since calls new now → Fits new now
runs_fits [] old new since now fits h = subst (λ (s : Since). Fits new s) (sym h.1) (fits_at new old since h.0 fits)
runs_fits (call ∷ calls) old new since now fits h = runs_fits calls h.0 new (since_after old call since) now (call_fits call old h.0 since fits h.1) h.2

-- ---- an answer

-- a result that is no answer
abbrev NoAnswer : AssociationValue → (Result Step Fault → Type 0) → Type 0
NoAnswer new P = (answer : Answer) → P (Ok (step.Answered answer)) → ⊥

opens_none : (granted : Result Granted Fault) (at new : AssociationValue) → NoAnswer new (λ result. OpensBy granted at result new)
opens_none (Ok granted) at new answer h = let clash = h.0 in cc
opens_none (Err fault) at new answer h = let clash = h.answer in cc

releases_none : (released : Result (Unit {0}) Fault) (at new : AssociationValue) → NoAnswer new (λ result. ReleasesBy released at result new)
releases_none (Ok u) at new answer h = let clash = h.0 in cc
releases_none (Err fault) at new answer h = let clash = h.answer in cc

failed_none : (fault : Fault) (at new : AssociationValue) → NoAnswer new (λ result. HasFailed at fault result new)
failed_none fault at new answer h = let clash = h.answer in cc

passed_none : (old new : AssociationValue) → NoAnswer new (λ result. IsPassedOver old result new)
passed_none old new answer h = let clash = h.answer in cc

gives_none : (block : Result BlockValue ℕ) (spelled : BlockValue → List ℕ) (asked : Asked) (at new : AssociationValue) → NoAnswer new (λ result. GivesBlock block spelled asked at result new)
gives_none (Ok b) spelled asked at new answer h = let clash = h.1 in cc
gives_none (Err code) spelled asked at new answer h = failed_none _ at new answer h

next_none : (sent : Option Going) (number : ℕ) (spelled : BlockValue → List ℕ) (asked : Asked) (at new : AssociationValue) → NoAnswer new (λ result. GivesNext sent number spelled asked at result new)
next_none None number spelled asked at new answer h = failed_none _ at new answer h
next_none (Some going) number spelled asked at new told h = gives_none (answer going number) spelled asked (record at { sent = Some (after going number) }) new told h

more_none : (asked : Asked) (number : ℕ) (at new : AssociationValue) → NoAnswer new (λ result. AsksMore asked number at result new)
more_none Get number at new answer h = let clash = h.1 in cc
more_none Set number at new answer h = next_none at.sent number next_of_set Set at new answer h
more_none Action number at new answer h = next_none at.sent number next_of_action Action at new answer h

-- what an answer is, at this APDU
record Tells (stage : Stage) (since : Since) (apdu : List ℕ) (answer : Answer) (new : AssociationValue) : Type 0 where
  form : RequestForm
  request : since.request ≡ Some form
  awaited : stage ≡ Asking (asked_of form)
  says : Says (asked_of form) since.taken apdu answer new.blocks.joined
  whole : new.failed ≡ None
  free : new.stage ≡ Free

answer_told : (heard : Result Heard Fault) (blocks : Joining) (asked : Asked) (apdu : List ℕ) (at new : AssociationValue) (answer : Answer) (since : Since) → at.failed ≡ None → HasJoined asked at.blocks at.sent since → Hears asked at.blocks apdu heard blocks
    → GoesOn heard asked (record at { blocks = blocks }) (Ok (step.Answered answer)) new → Tells (Asking asked) since apdu answer new
answer_told (Ok (More number)) blocks asked apdu at new answer since whole joined hears goes = absurd (more_none asked number (record at { blocks = blocks }) new answer goes)
answer_told (Ok (Told other)) blocks asked apdu at new answer since whole joined hears goes =
    let one = goes.0 in
    let is : other ≡ answer = cc in
    let spelled : Says asked since.taken apdu other blocks.joined = said since.taken apdu at.blocks blocks other asked joined.come hears in
    let same : blocks.joined ≡ new.blocks.joined = sym (ap (λ (v : AssociationValue). v.blocks.joined) goes.1) in
    record {
      form = joined.form;
      request = joined.request;
      awaited = ap (λ (a : Asked). Asking a) joined.same;
      says = subst (λ (a : Asked). Says a since.taken apdu answer new.blocks.joined) joined.same
          (subst (λ (bytes : List ℕ). Says asked since.taken apdu answer bytes) same (subst (λ (a : Answer). Says asked since.taken apdu a blocks.joined) is spelled));
      whole = ap (λ (v : AssociationValue). v.failed) goes.1 ∙ whole;
      free = ap (λ (v : AssociationValue). v.stage) goes.1;
    }
answer_told (Err fault) blocks asked apdu at new answer since whole joined hears goes = absurd (failed_none fault (record at { blocks = blocks }) new answer goes)

takes_told : (stage : Stage) (at new : AssociationValue) (apdu : List ℕ) (answer : Answer) (since : Since) → at.failed ≡ None → FitsAt stage at.blocks at.sent since → TakesAt stage at apdu (Ok (step.Answered answer)) new → Tells stage since apdu answer new
takes_told Associating at new apdu answer since whole fits h = absurd (opens_none (granted_at apdu) at new answer h)
takes_told (Asking asked) at new apdu answer since whole fits h = answer_told h.0 h.1 asked apdu at new answer since whole fits h.2 h.3
takes_told Releasing at new apdu answer since whole fits h = absurd (releases_none (released_at apdu) at new answer h)
takes_told Closed at new apdu answer since whole fits h = absurd (passed_none at new answer h)
takes_told Free at new apdu answer since whole fits h = absurd (passed_none at new answer h)
takes_told Released at new apdu answer since whole fits h = absurd (passed_none at new answer h)

told-unless : (failed : Option Fault) (old new : AssociationValue) (apdu : List ℕ) (answer : Answer) (since : Since) → old.failed ≡ failed → Fits old since → TakesUnless failed old apdu (Ok (step.Answered answer)) new
    → Tells old.stage since apdu answer new
told-unless None old new apdu answer since whole fits h = takes_told old.stage old new apdu answer since whole (subst (λ (failed : Option Fault). FitsUnless failed old.stage old.blocks old.sent since) whole fits) h
told-unless (Some fault) old new apdu answer since over fits h = let clash = h.0 in absurd (cc)

pub answers_are_said : AnswersAreSaid
answers_are_said terms calls at new since apdu answer runs h =
    let fits : Fits at since = runs_fits calls (fresh terms) at nothing_yet since tt runs in
    let told : Tells at.stage since apdu answer new = told-unless at.failed at new apdu answer since refl fits h in
    record { form = told.form; request = told.request; awaited = told.awaited; says = told.says; free = record { whole = told.whole; free = told.free } }

-- ---- blocks of a request

blocks_at : (stage : Stage) (asked : Asked) (at : AssociationValue) (since : Since) → stage ≡ Asking asked → FitsAt stage at.blocks at.sent since → IsOfTheRequest since at.sent
blocks_at stage asked at since e h =
    let joined : HasJoined asked at.blocks at.sent since = subst (λ (s : Stage). FitsAt s at.blocks at.sent since) e h in
    record { form = joined.form; request = joined.request; goes = joined.goes }

pub blocks_are_of_the_request : BlocksAreOfTheRequest
blocks_are_of_the_request terms calls at since asked runs whole awaited =
    let fits : Fits at since = runs_fits calls (fresh terms) at nothing_yet since tt runs in
    blocks_at at.stage asked at since awaited (subst (λ (failed : Option Fault). FitsUnless failed at.stage at.blocks at.sent since) whole fits)
