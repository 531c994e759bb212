-- The calls of a client with a piece, one after another.
use Rattle.std.proofs.Common.{arith, ◌≡◌, ◌∙◌, ◌↔◌, Bool, false, ◌<◌, ◌≤◌, ◌-◌, refl, sym, ap, subst, append-nil, append_assoc, ℕ, List, [], ◌∷◌, ◌++◌, take, drop, length, Option, Some, None, Result, Ok, Err}
use Rattle.std.proofs.lemmas.Bool.{false≢true}
use Rattle.std.proofs.lemmas.List.{length-drop, take_all}
use Rattle.std.specs.Prelude.{IsTrue}
use Rattle.dlms_ends.proofs.EndLemmas.{nothing_left}
use Rattle.dlms_association.specs.declared.fault.Fault.{Fault}
use Rattle.dlms_association.specs.declared.fault.Fault.TheVariants.{Form}
use Rattle.dlms_call.specs.Carried.{Steps, apdu_of, fault_of, is_waiting, out_of}
use Rattle.dlms_client.specs.Calls.{Feeds, Waits}
use Rattle.dlms_client.specs.declared.outcome.Outcome.{Outcome}
use Rattle.dlms_client.specs.declared.outcome.Outcome.TheVariants.{Nothing, Associated, Answered, Down}
use Rattle.dlms_ends.specs.Moments.{Moment, Adds, Breaks}
use Rattle.dlms_ends.specs.Moments.Moment.{Came}
use Rattle.dlms_ends.proofs.MomentLemmas.{adds_as, adds_more, adds_none}
use Rattle.dlms_call.specs.Talking.{AllRead, ClientAt, Goes, IsOneRead, Listens, Reading, Reads, Settles, Stops, TakesPiece, TakesTimeout, TalkValue, Writes, cause, joined, last_outcome, later, moments_of, went}
use Rattle.dlms_call.specs.Talking.Listens.{Floods, HasCome}
use Rattle.dlms_call.specs.Talking.TakesPiece.{Fails, IsRead, IsStopped}
use Rattle.dlms_call.specs.Talking.FailsToRead.{HasFault, IsTooLarge}
use Rattle.dlms_call.specs.Talking.TakesTimeout.{IsTold, HasFault as HasFaultThen, IsStopped as IsStoppedThen}
use Rattle.dlms_call.specs.Talking.Stops.{IsInsecure, LineBreaks}
use Rattle.dlms_secured.specs.declared.fault.SecuredFault.{SecuredFault}
use Rattle.dlms_call.specs.declared.fault.CallFault.{CallFault}
use Rattle.dlms_call.specs.declared.fault.CallFault.TheVariants.{Insecure, Talk, TooLarge}

all_read_more : (most : ℕ) (c mid c' : ClientAt) (octets rest : List ℕ) (calls : List Reading) (call : Reading)
    → AllRead most c octets calls mid rest → Reads most mid rest call c' → fault_of c'.carrier ≡ None → AllRead most c octets (calls ++ call ∷ []) c' (drop call.count rest)
all_read_more most c mid c' octets rest [] call (same, is) reads whole =
    (c', subst (λ (v : ClientAt). Reads most v octets call c') same (subst (λ (o : List ℕ). Reads most mid o call c') is reads), whole, (refl, ap (λ (o : List ℕ). drop call.count o) is))
all_read_more most c mid c' octets rest (one ∷ calls) call (next, first, goes, all) reads whole =
    (next, first, goes, all_read_more most next mid c' (drop one.count octets) rest calls call all reads whole)

moments_more : (calls : List Reading) (call : Reading) → moments_of calls ++ went call.out ≡ moments_of (calls ++ call ∷ [])
moments_more [] call = sym (append-nil (went call.out))
moments_more (one ∷ calls) call = append_assoc (went one.out) (moments_of calls) (went call.out) ∙ ap (λ (t : List Moment). went one.out ++ t) (moments_more calls call)

later_first : (outcome : Outcome) → later Nothing outcome ≡ outcome
later_first Nothing = refl
later_first Associated = refl
later_first (Answered answer) = refl
later_first Down = refl

later_later : (a b c : Outcome) → later (later a b) c ≡ later a (later b c)
later_later a b Nothing = refl
later_later a b Associated = refl
later_later a b (Answered answer) = refl
later_later a b Down = refl

last_more : (calls : List Reading) (call : Reading) → later (last_outcome calls) call.outcome ≡ last_outcome (calls ++ call ∷ [])
last_more [] call = later_first call.outcome
last_more (one ∷ calls) call = later_later one.outcome (last_outcome calls) call.outcome ∙ ap (λ (o : Outcome). later one.outcome o) (last_more calls call)

-- the calls so far, after which this rest of the piece is to be read
pub record SoFar (most : ℕ) (old now : Option (List Moment)) (c : ClientAt) (bytes : List ℕ) (at : ClientAt) (rest : List ℕ) (last : Outcome) : Type 0 where
  pub calls : List Reading
  pub all : AllRead most c bytes calls at rest
  pub adds : Adds old now (moments_of calls)
  pub is : last ≡ last_outcome calls

pub none_yet : (most : ℕ) (past : Option (List Moment)) (c : ClientAt) (bytes : List ℕ) → SoFar most past past c bytes c bytes Nothing
none_yet most past c bytes = record { calls = []; all = (refl, refl); adds = adds_none past; is = refl }

left_is : (n : ℕ) (xs : List ℕ) → take (length xs - n) (drop n xs) ≡ drop n xs
left_is n xs = take_all (length xs - n) (drop n xs) (omega (arith, length-drop n xs))

as_read : (most : ℕ) (c c' : ClientAt) (octets : List ℕ) (count : ℕ) (r is : Result Outcome CallFault) → r ≡ is → IsOneRead most c octets count r c' → IsOneRead most c octets count is c'
as_read most c c' octets count r is same h = subst (λ (x : Result Outcome CallFault). IsOneRead most c octets count x c') same h

pub one_more : (most : ℕ) (old now new : Option (List Moment)) (c at after after' : ClientAt) (bytes rest : List ℕ) (last outcome next : Outcome) (count : ℕ) (r : Result Outcome CallFault) → r ≡ Ok outcome
    → SoFar most old now c bytes at rest last → IsOneRead most at rest count r after → Writes now new after (Ok tt) → after' ≡ after → next ≡ later last outcome
    → SoFar most old new c bytes after' (take (length rest - count) (drop count rest)) next
one_more most old now new c at after after' bytes rest last outcome next count r was s read goes same is =
    let (feeds, within) = as_read most at after rest count r (Ok outcome) was read in
    let call : Reading = record { count = count; outcome = outcome; out = out_of after.carrier } in
    let one : Reads most at rest call after = record { feeds = feeds; within = within; out = refl } in
    let last_is : next ≡ last_outcome (s.calls ++ call ∷ []) = is ∙ ap (λ (o : Outcome). later o outcome) s.is ∙ last_more s.calls call in
    let more : SoFar most old new c bytes after (drop count rest) next = record {
      calls = s.calls ++ call ∷ [];
      all = all_read_more most c at after bytes rest s.calls call s.all one goes.0;
      adds = adds_as old new (moments_of s.calls ++ went call.out) (moments_of (s.calls ++ call ∷ [])) (moments_more s.calls call) (adds_more old now new (moments_of s.calls) (went call.out) s.adds goes.1);
      is = last_is;
    } in
    subst (λ (v : ClientAt). SoFar most old new c bytes v (take (length rest - count) (drop count rest)) next) (sym same)
    (subst (λ (o : List ℕ). SoFar most old new c bytes after o next) (sym (left_is count rest)) more)

pub ends_with : (most : ℕ) (old now : Option (List Moment)) (c at after : ClientAt) (bytes rest : List ℕ) (last : Outcome) (count : ℕ) (why : CallFault) (r : Result Outcome CallFault) → r ≡ Err why
    → SoFar most old now c bytes at rest last → IsOneRead most at rest count r after → TakesPiece most old now c bytes (Err why) after
ends_with most old now c at after bytes rest last count why r was s read = Fails s.calls at rest count why s.all (as_read most at after rest count r (Err why) was read) s.adds refl

pub breaks_at : (most : ℕ) (old now new : Option (List Moment)) (c at after after' : ClientAt) (bytes rest : List ℕ) (last outcome : Outcome) (count : ℕ) (why : CallFault) (r : Result Outcome CallFault) → r ≡ Ok outcome
    → SoFar most old now c bytes at rest last → IsOneRead most at rest count r after → Stops now new after why → after' ≡ after → TakesPiece most old new c bytes (Err why) after'
breaks_at most old now new c at after after' bytes rest last outcome count why r was s read goes same =
    let (feeds, within) = as_read most at after rest count r (Ok outcome) was read in
    subst (λ (v : ClientAt). TakesPiece most old new c bytes (Err why) v) (sym same)
    (IsStopped s.calls at rest (record { count = count; outcome = outcome; out = out_of after.carrier }) now why s.all (record { feeds = feeds; within = within; out = refl }) s.adds goes refl)

pub all_is_read : (most : ℕ) (old now : Option (List Moment)) (c at : ClientAt) (bytes rest : List ℕ) (last : Outcome)
    → SoFar most old now c bytes at rest last → length rest ≡ 0 → TakesPiece most old now c bytes (Ok last) at
all_is_read most old now c at bytes rest last s none =
    IsRead s.calls (subst (λ (o : List ℕ). AllRead most c bytes s.calls at o) (nothing_left rest none) s.all) s.adds (ap (λ (o : Outcome). Ok o) s.is)

-- ---- one call

feeds_as : (c c0 c' : ClientAt) (octets : List ℕ) (count : ℕ) (r so : Result Outcome Fault) → r ≡ so → c0 ≡ c → Feeds Steps apdu_of c0 octets count r c' → Feeds Steps apdu_of c octets count so c'
feeds_as c c0 c' octets count r so was is feeds = subst (λ (x : Result Outcome Fault). Feeds Steps apdu_of c octets count x c') was (subst (λ (v : ClientAt). Feeds Steps apdu_of v octets count r c') is feeds)

pub read_fault : (most : ℕ) (c c0 c' : ClientAt) (octets : List ℕ) (count : ℕ) (why : Fault) (told : CallFault) (r : Result Outcome Fault) → r ≡ Err why → c0 ≡ c → Feeds Steps apdu_of c0 octets count r c' → told ≡ cause (fault_of c'.carrier) why → IsOneRead most c octets count (Err told) c'
read_fault most c c0 c' octets count why told r was is feeds so = HasFault why (feeds_as c c0 c' octets count r (Err why) was is feeds) so

pub read_large : (most : ℕ) (c c0 c' : ClientAt) (octets : List ℕ) (count : ℕ) (outcome : Outcome) (r : Result Outcome Fault) → r ≡ Ok outcome → c0 ≡ c → Feeds Steps apdu_of c0 octets count r c' → most < joined c' → IsOneRead most c octets count (Err TooLarge) c'
read_large most c c0 c' octets count outcome r was is feeds large = IsTooLarge outcome (feeds_as c c0 c' octets count r (Ok outcome) was is feeds) large refl

timeout_between : (old new : Option (List Moment)) (c c0 c1 c' : ClientAt) (result : Result Outcome CallFault) → c0 ≡ c → c' ≡ c1 → TakesTimeout old new c0 result c1 → TakesTimeout old new c result c'
timeout_between old new c c0 c1 c' result before after h =
    subst (λ (v : ClientAt). TakesTimeout old new v result c') before (subst (λ (v : ClientAt). TakesTimeout old new c0 result v) (sym after) h)

pub timeout_told : (old new : Option (List Moment)) (c c0 c1 c' : ClientAt) (outcome : Outcome) → c0 ≡ c → c' ≡ c1 → Waits Steps is_waiting c0 (Ok outcome) c1 → Writes old new c1 (Ok tt) → TakesTimeout old new c (Ok outcome) c'
timeout_told old new c c0 c1 c' outcome before after waits goes = timeout_between old new c c0 c1 c' (Ok outcome) before after (IsTold outcome waits goes refl)

pub timeout_breaks : (old new : Option (List Moment)) (c c0 c1 c' : ClientAt) (outcome : Outcome) (why : CallFault) → c0 ≡ c → c' ≡ c1 → Waits Steps is_waiting c0 (Ok outcome) c1 → Stops old new c1 why → TakesTimeout old new c (Err why) c'
timeout_breaks old new c c0 c1 c' outcome why before after waits goes = timeout_between old new c c0 c1 c' (Err why) before after (IsStoppedThen outcome why waits goes refl)

pub timeout_fault : (past : Option (List Moment)) (c c0 c1 : ClientAt) (why : Fault) (told : CallFault) → c0 ≡ c → told ≡ cause (fault_of c1.carrier) why → Waits Steps is_waiting c0 (Err why) c1 → TakesTimeout past past c (Err told) c1
timeout_fault past c c0 c1 why told before is waits = timeout_between past past c c0 c1 c1 (Err told) before refl (HasFaultThen why waits (adds_none past) (ap (λ (f : CallFault). Err f) is))

pub heard_as : (most : ℕ) (old new : Option (List Moment)) (t t' : TalkValue) (given outcome : Outcome) → given ≡ outcome → Listens most old new t (Ok given) t' → Listens most old new t (Ok outcome) t'
heard_as most old new t t' given outcome is h = subst (λ (o : Outcome). Listens most old new t (Ok o) t') is h

-- a piece arrived of which this many octets may come, and it is counted and read
pub came_in : (most : ℕ) (old now new : Option (List Moment)) (t mid t' : TalkValue) (bytes : List ℕ) (count : ℕ) (result : Result Outcome CallFault) → Adds old now (Came bytes ∷ []) → length bytes ≡ count → count ≤ t.left
    → mid ≡ record t { left = t.left - count } → t'.left ≡ mid.left → TakesPiece most now new mid.client bytes result t'.client → Listens most old new t result t'
came_in most old now new t mid t' bytes count result came long may counted left piece =
    HasCome bytes now came (subst (λ (n : ℕ). n ≤ t.left) (sym long) may) (left ∙ ap (λ (v : TalkValue). v.left) counted ∙ ap (λ (n : ℕ). t.left - n) (sym long))
    (subst (λ (c : ClientAt). TakesPiece most now new c bytes result t'.client) (ap (λ (v : TalkValue). v.client) counted) piece)

pub floods : (most : ℕ) (old new : Option (List Moment)) (t t' : TalkValue) (bytes : List ℕ) (count : ℕ) → Adds old new (Came bytes ∷ []) → length bytes ≡ count → t.left < count → t' ≡ t → Listens most old new t (Err (Talk Form)) t'
floods most old new t t' bytes count came long more same = Floods bytes came (subst (λ (n : ℕ). t.left < n) (sym long) more) refl same

pub settles_from : (most : ℕ) (old new : Option (List Moment)) (t0 t t' : TalkValue) (told : Result Outcome CallFault) → t0 ≡ t → Settles most old new t0 told t' → Settles most old new t told t'
settles_from most old new t0 t t' told is h = subst (λ (v : TalkValue). Settles most old new v told t') is h

-- what is tested is not so
pub is_false : {X : Type 0} (b : Bool) → b ≡ false → (IsTrue b ↔ X) → X → ⊥
is_false b is iff x = absurd (false≢true (sym is ∙ iff.1 x))

-- ---- what goes out

-- there are octets to write only while the security layer has no fault
pub writes : (old new : Option (List Moment)) (c : ClientAt) (octets : List ℕ) (result : Result (Unit {0}) CallFault) → fault_of c.carrier ≡ None → octets ≡ out_of c.carrier → Goes old new octets result → Writes old new c result
writes old new c octets (Ok done) whole is goes = (whole, adds_as old new (went octets) (went (out_of c.carrier)) (ap (λ (o : List ℕ). went o) is) goes)
writes old new c octets (Err why) whole is goes = LineBreaks goes.0 (subst (λ (o : List ℕ). Breaks old new o) is goes.1)

pub writes_nothing : (past : Option (List Moment)) (c : ClientAt) (fault : SecuredFault) → fault_of c.carrier ≡ Some fault → Writes past past c (Err (Insecure fault))
writes_nothing past c fault is = IsInsecure fault is refl (adds_none past)
