-- A poll over a carrier that is done has the rows of the meter's buffer, and these are settled captures.
use Rattle.std.proofs.Common.{arith, ◌≡◌, ◌∙◌, ◌+◌, ◌≤◌, ◌<◌, ◌⊎◌, inl, inr, refl, sym, ap, subst, append-nil, append_assoc, ℕ, Bool, true, false, if◌then◌else◌, List, [], ◌∷◌, ◌++◌, length, length-append, map}
use Rattle.std.specs.List.{filter_map}
use Rattle.std.proofs.lemmas.List.{map-append}
use Rattle.std.proofs.lemmas.List.Elements.{Contains-append_left}
use Rattle.dlms_acse.specs.Writing.{release_request, release_response}
use Rattle.dlms_apdu.specs.Forms.{exception}
use Rattle.dlms_apdu.specs.Reading.{response_at}
use Rattle.dlms_apdu.specs.Writing.{response_bytes}
use Rattle.dlms_frame.specs.declared.client.Client.{Client}
use Rattle.dlms_carrier.specs.Carrying.{Meaning}
use Rattle.dlms_headend.specs.Asking.{PlanValue, first_second}
use Rattle.dlms_headend.specs.CarrierPollValue.{TermsValue, requests_of}
use Rattle.dlms_headend.specs.CarrierRun.{InTurn as PassInTurn, Passage, Request, Answer, answers, carried_in, passages, requests}
use Rattle.dlms_headend.specs.Due.{AsksFor, Requests, association_with}
use Rattle.dlms_headend.specs.Due.AsksFor.{Associates, Names, Gets, GetsBlock, Checks, Releases}
use Rattle.dlms_headend.specs.Merged.{merged}
use Rattle.dlms_headend.specs.Poll.{Asks, names, gets, goes_on, checks, releases, AreBlocks, AreNamed, HasNamed, HasPolled}
use Rattle.dlms_headend.specs.declared.plan.Columns.{Columns}
use Rattle.dlms_headend.specs.declared.plan.Columns.TheVariants.{Trusted, Asked as AsksColumns}
use Rattle.dlms_headend.specs.declared.row.Row.{Row}
use Rattle.dlms_headend.proofs.Told.{Followed, blocks_not_followed, ending, named_not_followed, rows_before, rows_not_followed}
use Rattle.dlms_meter.proofs.Apart.{same-is, is_itself}
use Rattle.dlms_meter.specs.ClientRecord.{ClientRecord}
use Rattle.dlms_meter.specs.Run.{MeterWorld, Choice, Served, DeviceFails, Does, events_of, is_same, recovered}
use Rattle.dlms_meter.specs.Transfers.{Exchange, Own, Asked, Cleared, InTurn}
use Rattle.dlms_meter.specs.declared.meter.Meter.{Meter}
use Rattle.dlms_pages.specs.declared.device.Pages.{Ghosts}
use Rattle.dlms_service.specs.Serves.{Choice as Memory, FindsMemory, Associated, Released, begins_with, released}
use Rattle.dlms_service.specs.Session.{SessionValue, Outcome, HasSize, fresh}
use Rattle.dlms_service.specs.Stake.{is_success}
use Rattle.dlms_state.specs.Refusal.{IsLegal}
use Rattle.dlms_state.specs.declared.event.Event.{Event}
use Rattle.dlms_state.proofs.Limits.{IsWithinLimits-legal}
use Rattle.dlms_store.specs.World.{IsBeginning}
use Rattle.dlms_store.specs.World.StoreWorld.{Rests}
use Rattle.dlms_store.specs.World.StoreStep.{Stops}
use Rattle.dlms_world.specs.Agree.{AreCaptures, BringsBuffer, Rise}
use Rattle.dlms_world.specs.Carrier.{AgreeingHolds, Delivers, FirstHolds, HeldAreCaptures, Holds, LinesHold, LivesHold, PollsHold, StopsHold, exchange_in, own_in, plan_of, served_to, world_at}
use Rattle.dlms_headend.specs.Polling.{fresh_poll}
use Rattle.dlms_world.specs.MeterTurns.{IsMeterOf}
use Rattle.dlms_world.specs.Named.{IsNamed}
use Rattle.dlms_world.specs.Turn.{Goes, Stays}
use Rattle.dlms_world.specs.Sublists.{IsSublist}
use Rattle.dlms_world.specs.Told.{IsTold, Talks}
use Rattle.dlms_world.specs.World.{World, GivesData, all_readings, rows_asked, settled_in}
use Rattle.dlms_world.proofs.CallsAreTurns.{known_legal, known_on}
use Rattle.dlms_world.proofs.Ending.{is_settled}
use Rattle.dlms_world.proofs.Following.{more_data, not_named, spells_data}
use Rattle.dlms_world.proofs.Gets.{no_data_in, read_exception}
use Rattle.dlms_world.proofs.Growing.{grows, settled_begins, through}
use Rattle.dlms_world.proofs.Lawful.{beginning_legal}
use Rattle.dlms_world.proofs.Readings.{asked_are_captures, asked_rise, merged_among, merged_rise, rose_before, still_captures, sublist_among, sublist_rise}
use Rattle.dlms_world.proofs.SameAsMeter.{due_range}
use Rattle.dlms_world.proofs.ServedOver.{life_grows, life_in_turn, life_own, life_settled}
use Rattle.dlms_world.proofs.Sized.{association_sized}
use Rattle.dlms_world.proofs.Telling.{named_parts, short_named, short_rows, tells_data, told_after}
use Rattle.dlms_world.proofs.Chains.{anew}
use Rattle.dlms_world.proofs.Keeping.{new_sound, whose_meter}
use Rattle.dlms_world.proofs.OverLine.{Is, ended, nothing_on, poll_over}
use Rattle.dlms_world.proofs.Whole.{Good, Start, good, good_from}
use Rattle.dlms_world.proofs.Telling.{tells}

-- ---- a list that has as many elements as the one that it is a part of

shorter : {A : Type 0} (xs ys : List A) → IsSublist xs ys → length xs ≤ length ys
shorter [] ys is = omega arith
shorter (x ∷ xs) [] is = absurd is
shorter (x ∷ xs) (y ∷ ys) (inl is) = omega (arith, shorter xs ys is.1)
shorter (x ∷ xs) (y ∷ ys) (inr is) = omega (arith, shorter (x ∷ xs) ys is)

all_of : {A : Type 0} (xs ys : List A) → IsSublist xs ys → length ys ≤ length xs → xs ≡ ys
all_of [] [] is long = refl
all_of [] (y ∷ ys) is long = absurd (omega (arith, long))
all_of (x ∷ xs) [] is long = absurd is
all_of (x ∷ xs) (y ∷ ys) (inl is) long = ap (λ z. z ∷ xs) is.0 ∙ ap (λ zs. y ∷ zs) (all_of xs ys is.1 (omega (arith, long)))
all_of (x ∷ xs) (y ∷ ys) (inr is) long = absurd (omega (arith, long, shorter (x ∷ xs) ys is))

as_many : {A B : Type 0} (f : A → B) (xs : List A) → length (map f xs) ≡ length xs
as_many f [] = refl
as_many f (x ∷ xs) = omega (arith, as_many f xs)

never_empty : {A : Type 0} (xs : List A) (x : A) → xs ++ x ∷ [] ≡ [] → ⊥
never_empty xs x e = omega (arith, ap length e, length-append xs (x ∷ []))

-- ---- requests and answers in turn

-- Each request is asked after the answers before it, and answered by the next answer. The last one may lack its answer, and the last
-- answer its request.
abbrev Alternate : Requests → (taken ts qs : List (List ℕ)) → Type 0
Alternate r taken [] [] = Unit {0}
Alternate r taken [] (q ∷ []) = AsksFor r taken q
Alternate r taken [] (q ∷ p ∷ qs) = ⊥
Alternate r taken (t ∷ ts) [] = ts ≡ []
Alternate r taken (t ∷ ts) (q ∷ qs) = AsksFor r taken q × Alternate r (taken ++ t ∷ []) ts qs

abbrev awaited : Bool → List ℕ → List (List ℕ) → List (List ℕ)
awaited false q qs = qs
awaited true q qs = q ∷ qs

alternate : (r : Requests) (taken : List (List ℕ)) (awaits : Bool) (q : List ℕ) (passed : List Passage) → (awaits ≡ true → AsksFor r taken q) → PassInTurn r taken awaits passed → Alternate r taken (answers passed) (awaited awaits q (requests passed))
alternate r taken false q [] asks turn = tt
alternate r taken true q [] asks turn = asks refl
alternate r taken false q (Request p ∷ rest) asks turn = alternate r taken true p rest (λ e. turn.0) turn.1
alternate r taken false q (Answer t ∷ rest) asks turn = subst (λ l. Alternate r taken (t ∷ answers l) (requests l)) (sym turn) refl
alternate r taken true q (Request p ∷ rest) asks turn = absurd turn
alternate r taken true q (Answer t ∷ rest) asks turn = (asks refl, alternate r (taken ++ t ∷ []) false q rest (λ e. cc) turn)

abbrev asked_of : List Exchange → List (List ℕ)
asked_of served = map (λ x. x.apdu) served

abbrev said_in : List Exchange → List (List ℕ)
said_in served = map (λ x. x.outcome.answer) served

at_most : (r : Requests) (taken ts qs : List (List ℕ)) → Alternate r taken ts qs → (length qs ≤ length ts) ⊎ (length qs ≡ length ts + 1)
at_most r taken [] [] turn = inl (omega arith)
at_most r taken [] (q ∷ []) turn = inr (omega arith)
at_most r taken [] (q ∷ p ∷ qs) none = absurd none
at_most r taken (t ∷ ts) [] turn = inl (omega arith)
at_most r taken (t ∷ ts) (q ∷ qs) turn = elim (at_most r (taken ++ t ∷ []) ts qs turn.1) [
  | inl few ↦ inl (omega (arith, few))
  | inr long ↦ inr (omega (arith, long))
]

-- once an APDU followed all that a poll asks for, nothing is asked
short_followed : (columns : Columns) (apdus : List (List ℕ)) (rows : List Row) → Followed columns apdus rows → length apdus ≤ 1 → ⊥
short_followed columns apdus rows k short = short_named columns k.before rows k.polled (omega (arith, short, ap length k.are, length-append k.before (k.first ∷ k.more)))

none_asked : (r : Requests) (apdus : List (List ℕ)) (q : List ℕ) (rows : List Row) → AsksFor r apdus q → Followed r.columns apdus rows → ⊥
none_asked r apdus q rows (Associates none is) k = short_followed r.columns apdus rows k (omega (arith, ap length none))
none_asked r apdus q rows (Names asked h is) k = short_followed r.columns apdus rows k (omega (arith, ap length h.are))
none_asked r apdus q rows (Gets joined h is) k = blocks_not_followed r.columns apdus 0 joined rows h k
none_asked r apdus q rows (GetsBlock n joined some h is) k = blocks_not_followed r.columns apdus n joined rows h k
none_asked r apdus q rows (Checks other asked h is) k = rows_not_followed r.columns apdus other rows h k
none_asked r apdus q rows (Releases other h is) k = named_not_followed r.columns apdus other rows h k

no_more : (r : Requests) (taken ts qs : List (List ℕ)) (rows : List Row) → Alternate r taken ts qs → Followed r.columns (taken ++ ts) rows → length qs ≤ length ts
no_more r taken [] [] rows turn k = omega arith
no_more r taken [] (q ∷ []) rows asks k = absurd (none_asked r taken q rows asks (subst (λ l. Followed r.columns l rows) (append-nil taken) k))
no_more r taken [] (q ∷ p ∷ qs) rows none k = absurd none
no_more r taken (t ∷ ts) [] rows turn k = omega arith
no_more r taken (t ∷ ts) (q ∷ qs) rows turn k =
    let rest = no_more r (taken ++ t ∷ []) ts qs rows turn.1 (subst (λ l. Followed r.columns l rows) (sym (append_assoc taken (t ∷ []) ts)) k) in
    omega (arith, rest)

-- once it has all, the release is asked
release_asked : (r : Requests) (apdus : List (List ℕ)) (q : List ℕ) (rows : List Row) → AsksFor r apdus q → HasNamed r.columns apdus rows → q ≡ release_request
release_asked r apdus q rows (Associates none is) k = absurd (short_named r.columns apdus rows k (omega (arith, ap length none)))
release_asked r apdus q rows (Names asked h is) k = absurd (short_named r.columns apdus rows k (omega (arith, ap length h.are)))
release_asked r apdus q rows (Gets joined h is) k = absurd (not_named r.columns apdus 0 joined rows h k)
release_asked r apdus q rows (GetsBlock n joined some h is) k = absurd (not_named r.columns apdus n joined rows h k)
release_asked r apdus q rows (Checks other asked h is) k =
    let one : AreNamed AsksColumns k.names = subst (λ (c : Columns). AreNamed c k.names) asked k.named in
    absurd (rows_before r.columns apdus k.before [] one.0 other rows h k.polled (k.are ∙ ap (λ (l : List (List ℕ)). k.before ++ l) one.1))
release_asked r apdus q rows (Releases other h is) k = is

-- the requests whose answers are these, and the one after them, if there is one
record IsLast (r : Requests) (taken ts qs : List (List ℕ)) : Type 0 where
  front : List (List ℕ)
  are : qs ≡ front ++ release_request ∷ []
  turn : Alternate r taken ts front

last_is_release : (r : Requests) (taken ts qs : List (List ℕ)) (rows : List Row) → Alternate r taken ts qs → HasNamed r.columns (taken ++ ts) rows → length ts < length qs → IsLast r taken ts qs
last_is_release r taken [] [] rows turn k more = absurd (omega (arith, more))
last_is_release r taken [] (q ∷ []) rows asks k more =
    record { front = []; are = ap (λ z. z ∷ []) (release_asked r taken q rows asks (subst (λ l. HasNamed r.columns l rows) (append-nil taken) k)); turn = tt }
last_is_release r taken [] (q ∷ p ∷ qs) rows none k more = absurd none
last_is_release r taken (t ∷ ts) [] rows turn k more = absurd (omega (arith, more))
last_is_release r taken (t ∷ ts) (q ∷ qs) rows turn k more =
    let rest = last_is_release r (taken ++ t ∷ []) ts qs rows turn.1 (subst (λ l. HasNamed r.columns l rows) (sym (append_assoc taken (t ∷ []) ts)) k) (omega (arith, more)) in
    record { front = q ∷ rest.front; are = ap (λ zs. q ∷ zs) rest.are; turn = (turn.0, rest.turn) }

alternate_front : (r : Requests) (taken : List (List ℕ)) (front back : List Exchange) → Alternate r taken (said_in (front ++ back)) (asked_of (front ++ back)) → Alternate r taken (said_in front) (asked_of front)
alternate_front r taken [] back turn = tt
alternate_front r taken (x ∷ front) back turn = (turn.0, alternate_front r (taken ++ x.outcome.answer ∷ []) front back turn.1)

-- ---- the last of a list that is a part of another

none_in_empty : {A : Type 0} (xs : List A) (x : A) → IsSublist (xs ++ x ∷ []) [] → ⊥
none_in_empty [] x is = is
none_in_empty (y ∷ xs) x is = is

last_part : {A : Type 0} (xs ys : List A) (x y : A) → IsSublist (xs ++ x ∷ []) (ys ++ y ∷ []) → IsSublist (xs ++ x ∷ []) ys ⊎ ((x ≡ y) × IsSublist xs ys)
last_part [] [] x y (inl is) = inr (is.0, tt)
last_part [] [] x y (inr is) = absurd is
last_part [] (b ∷ ys) x y (inl is) = inl (inl (is.0, tt))
last_part [] (b ∷ ys) x y (inr is) = elim (last_part [] ys x y is) [
  | inl k ↦ inl (inr k)
  | inr k ↦ inr (k.0, tt)
]
last_part (a ∷ xs) [] x y (inl is) = absurd (none_in_empty xs x is.1)
last_part (a ∷ xs) [] x y (inr is) = absurd is
last_part (a ∷ xs) (b ∷ ys) x y (inl is) = elim (last_part xs ys x y is.1) [
  | inl k ↦ inl (inl (is.0, k))
  | inr k ↦ inr (k.0, inl (is.0, k.1))
]
last_part (a ∷ xs) (b ∷ ys) x y (inr is) = elim (last_part (a ∷ xs) ys x y is) [
  | inl k ↦ inl (inr k)
  | inr k ↦ inr (k.0, inr k.1)
]

-- ---- what the meter served, up to the last answer that the poll needs

-- the answer to a release is none with data
release_no_data : (choice : Choice) (E : List Event) (s : SessionValue) (apdu : List ℕ) (o : Outcome) → apdu ≡ release_request → Does choice E s apdu o → GivesData o.answer → ⊥
unfolding response_at
release_no_data (Served memory) E s apdu o asked does given =
    let is : o ≡ released s = subst (λ a. Does (Served memory) E s a o) asked does in
    let given_so : GivesData release_response = subst (λ (x : Outcome). GivesData x.answer) is given in
    given_so
release_no_data (DeviceFails kept wanted) E s apdu o asked does given =
    let ((form, read, would, leads, success, is), wants) = subst (λ a. Does (DeviceFails kept wanted) E s a o) asked does in
    let released_so : would ≡ released s = leads in
    let e : is_success release_response ≡ true = subst (λ (x : Outcome). is_success x.answer ≡ true) released_so success in
    cc

last_no_data : (own : List Own) (s last : SessionValue) (front : List Exchange) (x : Exchange) → InTurn s own last → filter_map exchange_in own ≡ front ++ x ∷ [] → x.apdu ≡ release_request → GivesData x.outcome.answer → ⊥
last_no_data [] s last front x turn are asked given = never_empty front x (sym are)
last_no_data (Cleared ∷ own) s last front x turn are asked given = last_no_data own (fresh s.client) last front x turn are asked given
last_no_data (Asked y ∷ own) s last [] x turn are asked given =
    let same : y ≡ x = cc are in
    release_no_data x.choice x.before s x.apdu x.outcome asked (subst (λ (z : Exchange). Does z.choice z.before s z.apdu z.outcome) same turn.0) given
last_no_data (Asked y ∷ own) s last (z ∷ front) x turn are asked given =
    let rest : filter_map exchange_in own ≡ front ++ x ∷ [] = cc are in
    last_no_data own y.outcome.own last front x turn.1 rest asked given

-- the last answer that a poll needs is one with data
record EndsWithData (ts : List (List ℕ)) : Type 0 where
  front : List (List ℕ)
  last : List ℕ
  are : ts ≡ front ++ last ∷ []
  given : GivesData last

ends_with_data : (columns : Columns) (ts : List (List ℕ)) (rows : List Row) → HasNamed columns ts rows → EndsWithData ts
ends_with_data Trusted ts rows k = record {
  front = k.polled.before;
  last = k.polled.answer;
  are = k.are ∙ (ap (λ l. k.before ++ l) k.named ∙ (append-nil k.before ∙ k.polled.are));
  given = spells_data k.polled.taken k.polled.joined (response_at k.polled.answer) rows k.polled.spelled;
}
ends_with_data AsksColumns ts rows k = record {
  front = k.before;
  last = k.named.0;
  are = k.are ∙ ap (λ l. k.before ++ l) k.named.1;
  given = tells_data (response_at k.named.0) k.named.2;
}

-- the first exchanges are those of the poll up to its last answer before the release
record Needed (r : Requests) (served : List Exchange) (rows : List Row) : Type 0 where
  front : List Exchange
  back : List Exchange
  are : served ≡ front ++ back
  turn : Alternate r [] (said_in front) (asked_of front)
  named : HasNamed r.columns (said_in front) rows

cut_at : (served : List Exchange) (before more : List (List ℕ)) → said_in served ≡ before ++ more → (front : List Exchange) × (back : List Exchange) × (served ≡ front ++ back) × (said_in front ≡ before)
cut_at served [] more e = ([], served, refl, refl)
cut_at [] (t ∷ before) more e = absurd (cc)
cut_at (x ∷ served) (t ∷ before) more e =
    let heads : x.outcome.answer ≡ t = cc in
    let tails : said_in served ≡ before ++ more = cc in
    let rest = cut_at served before more tails in
    (x ∷ rest.0, rest.1, ap (λ zs. x ∷ zs) rest.2, ap (λ z. z ∷ said_in rest.0) heads ∙ ap (λ zs. t ∷ zs) rest.3)

as_many_served : (served : List Exchange) → length (asked_of served) ≡ length (said_in served)
as_many_served served = as_many (λ (x : Exchange). x.apdu) served ∙ sym (as_many (λ (x : Exchange). x.outcome.answer) served)

module _ (r : Requests) (ts qs : List (List ℕ)) (served : List Exchange) (rows : List Row) (turn : Alternate r [] ts qs) (up : IsSublist (asked_of served) qs) (down : IsSublist ts (said_in served)) where
  -- nothing was lost
  whole_needed : HasPolled r.columns ts rows → length qs ≤ length ts → Needed r served rows
  whole_needed k few =
      let less = shorter (asked_of served) qs up in
      let fewer = shorter ts (said_in served) down in
      let same = as_many_served served in
      let asked : asked_of served ≡ qs = all_of (asked_of served) qs up (omega (arith, few, less, fewer, same)) in
      let said : ts ≡ said_in served = all_of ts (said_in served) down (omega (arith, few, less, fewer, same)) in
      let parts = cut_at served k.before k.more (sym said ∙ k.are) in
      let all : Alternate r [] (said_in served) (asked_of served) = subst (λ l. Alternate r [] l (asked_of served)) said (subst (λ l. Alternate r [] ts l) (sym asked) turn) in
      record {
        front = parts.0;
        back = parts.1;
        are = parts.2;
        turn = alternate_front r [] parts.0 parts.1 (subst (λ l. Alternate r [] (said_in l) (asked_of l)) parts.2 all);
        named = subst (λ l. HasNamed r.columns l rows) (sym parts.3) k.polled;
      }

  -- the answer to the release is missing
  module _ (own : List Own) (s last : SessionValue) (in_turn : InTurn s own last) (of_own : filter_map exchange_in own ≡ served) (k : HasNamed r.columns ts rows) (z : IsLast r [] ts qs) (long : length qs ≡ length ts + 1) where
    fewer_asked : length z.front ≡ length ts
    fewer_asked = omega (arith, long, ap length z.are, length-append z.front (release_request ∷ []))

    taken_all : (front back : List Exchange) → served ≡ front ++ back → IsSublist (asked_of front) z.front → IsSublist ts (said_in front) → Needed r served rows
    taken_all front back are above below =
        let less = shorter (asked_of front) z.front above in
        let fewer = shorter ts (said_in front) below in
        let same = as_many_served front in
        let asked : asked_of front ≡ z.front = all_of (asked_of front) z.front above (omega (arith, fewer_asked, less, fewer, same)) in
        let said : ts ≡ said_in front = all_of ts (said_in front) below (omega (arith, fewer_asked, less, fewer, same)) in
        record {
          front = front;
          back = back;
          are = are;
          turn = subst (λ l. Alternate r [] l (asked_of front)) said (subst (λ l. Alternate r [] ts l) (sym asked) z.turn);
          named = subst (λ l. HasNamed r.columns l rows) said k;
        }

    by_last : (front : List Exchange) (x : Exchange) → served ≡ front ++ x ∷ [] → Needed r served rows
    by_last front x are =
        let told = ends_with_data r.columns ts rows k in
        let above = subst (λ l. IsSublist l (z.front ++ release_request ∷ [])) (ap asked_of are ∙ map-append (λ (y : Exchange). y.apdu) front (x ∷ [])) (subst (λ l. IsSublist (asked_of served) l) z.are up) in
        let below = subst (λ l. IsSublist l (said_in front ++ x.outcome.answer ∷ [])) told.are (subst (λ l. IsSublist ts l) (ap said_in are ∙ map-append (λ (y : Exchange). y.outcome.answer) front (x ∷ [])) down) in
        elim (last_part (asked_of front) z.front x.apdu release_request above) [
          | inl all ↦ taken_all served [] (sym (append-nil served)) (subst (λ l. IsSublist l z.front) (sym (ap asked_of are ∙ map-append (λ (y : Exchange). y.apdu) front (x ∷ []))) all) down
          | inr asked ↦ elim (last_part told.front (said_in front) told.last x.outcome.answer below) [
            | inl all ↦ taken_all front (x ∷ []) are asked.1 (subst (λ l. IsSublist l (said_in front)) (sym told.are) all)
            | inr said ↦ absurd (last_no_data own s last front x in_turn (of_own ∙ are) asked.0 (subst GivesData said.0 told.given))
          ]
        ]

    some_served : (served' : List Exchange) → served ≡ served' → Needed r served rows
    some_served [] none =
        let told = ends_with_data r.columns ts rows k in
        absurd (none_in_empty told.front told.last (subst (λ l. IsSublist l []) told.are (subst (λ l. IsSublist ts (said_in l)) none down)))
    some_served (x ∷ rest) are = let end = ending x rest in by_last end.front end.last (are ∙ end.are)

  needed : (own : List Own) (s last : SessionValue) → InTurn s own last → filter_map exchange_in own ≡ served → (apdus more : List (List ℕ)) → ts ≡ apdus ++ more → HasNamed r.columns apdus rows → Needed r served rows
  needed own s last in_turn of_own apdus (t ∷ more) are k =
      whole_needed (record { before = apdus; more = t ∷ more; are = are; polled = k }) (no_more r [] ts qs rows turn (record { before = apdus; first = t; more = more; are = are; polled = k }))
  needed own s last in_turn of_own apdus [] are k =
      let named : HasNamed r.columns ts rows = subst (λ l. HasNamed r.columns l rows) (sym (are ∙ append-nil apdus)) k in
      elim (at_most r [] ts qs turn) [
        | inl few ↦ whole_needed (record { before = apdus; more = []; are = are; polled = k }) few
        | inr long ↦ some_served own s last in_turn of_own named (last_is_release r [] ts qs rows turn named (omega (arith, long))) long served refl
      ]

-- ---- what the poll asks after the association

asks_so : (who : Client) (terms : TermsValue) (taken : List (List ℕ)) (q : List ℕ) → (taken ≡ [] → ⊥) → AsksFor (requests_of terms) taken q → Asks (plan_of who terms) taken q
asks_so who terms taken q some (Associates none is) = absurd (some none)
asks_so who terms taken q some (Names asked h is) = names asked h is
asks_so who terms taken q some (Gets joined h is) = gets joined h is
asks_so who terms taken q some (GetsBlock n joined more h is) = goes_on n joined more h is
asks_so who terms taken q some (Checks rows asked h is) = checks rows asked h is
asks_so who terms taken q some (Releases rows h is) = releases rows h is

talks : (who : Client) (terms : TermsValue) (taken : List (List ℕ)) (served : List Exchange) → (taken ≡ [] → ⊥) → Alternate (requests_of terms) taken (said_in served) (asked_of served) → Talks (plan_of who terms) taken served (said_in served)
talks who terms taken [] some turn = tt
talks who terms taken (x ∷ served) some turn =
    (asks_so who terms taken x.apdu some turn.0, refl, talks who terms (taken ++ x.outcome.answer ∷ []) served (never_empty taken x.outcome.answer) turn.1)

first_asks : (r : Requests) (q : List ℕ) → AsksFor r [] q → q ≡ r.association
first_asks r q (Associates none is) = is
first_asks r q (Names asked h is) = cc (h.are)
first_asks r q (Gets joined h is) = cc (h.are)
first_asks r q (GetsBlock n joined some h is) = cc (h.are)
first_asks r q (Checks rows asked h is) = absurd (short_rows r.columns [] rows h (omega arith))
first_asks r q (Releases rows h is) = absurd (short_named r.columns [] rows h (omega arith))

-- no other association
no_association : (r : Requests) (taken : List (List ℕ)) (q : List ℕ) → (taken ≡ [] → ⊥) → AsksFor r taken q → begins_with 0x60 q ≡ false
no_association r taken q some (Associates none is) = absurd (some none)
no_association r taken q some (Names asked h is) = ap (begins_with 0x60) is
no_association r taken q some (Gets joined h is) = ap (begins_with 0x60) is.is
no_association r taken q some (GetsBlock n joined more h is) = ap (begins_with 0x60) is
no_association r taken q some (Checks rows asked h is) = ap (begins_with 0x60) is
no_association r taken q some (Releases rows h is) = ap (begins_with 0x60) is

-- ---- the answers that a poll takes after the acceptance

-- the exception without an association
abbrev unassociated : List ℕ
unassociated = response_bytes (exception 1 1)

abbrev Differ : List (List ℕ) → Type 0
Differ [] = Unit {0}
Differ (t ∷ ts) = (t ≡ unassociated → ⊥) × Differ ts

both_differ : (ts us : List (List ℕ)) → Differ ts → Differ us → Differ (ts ++ us)
both_differ [] us a b = b
both_differ (t ∷ ts) us a b = (a.0, both_differ ts us a.1 b)

data_differs : (t : List ℕ) → GivesData t → t ≡ unassociated → ⊥
data_differs t given is = no_data_in t (exception 1 1) (read_exception 1 1) tt is given

names_differ : (columns : Columns) (ts : List (List ℕ)) → AreNamed columns ts → Differ ts
names_differ Trusted ts is = subst Differ (sym is) tt
names_differ AsksColumns ts (t, is, tells) = subst Differ (sym is) (data_differs t (tells_data (response_at t) tells), tt)

blocks_differ : (before : ℕ) (ts : List (List ℕ)) (n : ℕ) (joined : List ℕ) → AreBlocks before ts n joined → Differ ts
blocks_differ before [] n joined h = tt
blocks_differ before (t ∷ ts) n joined h = (data_differs t (more_data before (response_at t) h.0 h.2), blocks_differ (before + 1) ts n h.1 h.4)

rest_differ : (columns : Columns) (first : List ℕ) (ts : List (List ℕ)) (rows : List Row) → HasNamed columns (first ∷ ts) rows → Differ ts
rest_differ columns first ts rows named =
    let polled = named.polled in
    let hb = polled.blocks in
    let all : first ∷ ts ≡ hb.response ∷ (hb.names ++ (hb.blocks ++ polled.answer ∷ (named.names ++ []))) = sym (append-nil (first ∷ ts)) ∙ named_parts columns (first ∷ ts) [] rows named in
    let tails : ts ≡ hb.names ++ (hb.blocks ++ polled.answer ∷ (named.names ++ [])) = cc all in
    let end = both_differ named.names [] (names_differ columns named.names named.named) tt in
    let table = data_differs polled.answer (spells_data polled.taken polled.joined (response_at polled.answer) rows polled.spelled) in
    subst Differ (sym tails)
    (both_differ hb.names (hb.blocks ++ polled.answer ∷ (named.names ++ [])) (names_differ columns hb.names hb.named)
    (both_differ hb.blocks (polled.answer ∷ (named.names ++ [])) (blocks_differ 0 hb.blocks polled.taken polled.joined hb.come) (table, end)))

-- ---- an association that is lost in between

-- no association request, and not answered for want of an association
abbrev AreWithin : List Exchange → Type 0
AreWithin [] = Unit {0}
AreWithin (x ∷ served) = (begins_with 0x60 x.apdu ≡ false) × (x.outcome.answer ≡ unassociated → ⊥) × AreWithin served

are_within : (r : Requests) (taken : List (List ℕ)) (served : List Exchange) → (taken ≡ [] → ⊥) → Alternate r taken (said_in served) (asked_of served) → Differ (said_in served) → AreWithin served
are_within r taken [] some turn differ = tt
are_within r taken (x ∷ served) some turn differ =
    (no_association r taken x.apdu some turn.0, differ.0, are_within r (taken ++ x.outcome.answer ∷ []) served (never_empty taken x.outcome.answer) turn.1 differ.1)

not_success : (memory : Memory) (E : List Event) (client : Client) (apdu : List ℕ) (would : Outcome) (b : Bool) → Released memory E (fresh client) apdu b would → is_success would.answer ≡ true → ⊥
not_success memory E client apdu would true is success = let e : is_success release_response ≡ true = subst (λ (o : Outcome). is_success o.answer ≡ true) is success in cc
not_success memory E client apdu would false is success = let e : is_success unassociated ≡ true = subst (λ (o : Outcome). is_success o.answer ≡ true) is success in cc

-- what a client without an association is answered otherwise, it would have been answered with one
module _ (E : List Event) (s : SessionValue) (apdu : List ℕ) (o : Outcome) (other : begins_with 0x60 apdu ≡ false) (differs : o.answer ≡ unassociated → ⊥) where
  by_release : (memory : Memory) (b : Bool) → Released memory E (fresh s.client) apdu b o → Released memory E s apdu b o
  by_release memory true is = is
  by_release memory false is = absurd (differs (ap (λ (x : Outcome). x.answer) is))

  as_with : (choice : Choice) → Does choice E (fresh s.client) apdu o → Does choice E s apdu o
  as_with (Served memory) does =
      subst (λ b. Associated memory E s apdu b o) (sym other)
      (by_release memory (begins_with 0x62 apdu) (subst (λ b. Associated memory E (fresh s.client) apdu b o) other does))
  as_with (DeviceFails kept wanted) ((form, read, would, leads, success, is), wants) =
      absurd (not_success FindsMemory E s.client apdu would (begins_with 0x62 apdu) (subst (λ b. Associated FindsMemory E (fresh s.client) apdu b would) other leads) success)

-- if the association was lost before one of them, it is as if it had not been
unbroken : (lost : Bool) (s : SessionValue) (own : List Own) (last : SessionValue) → InTurn (if lost then fresh s.client else s) own last → AreWithin (filter_map exchange_in own)
    → (end : SessionValue) × InTurn s (map Asked (filter_map exchange_in own)) end
unbroken lost s [] last turn within = (s, refl)
unbroken true s (Cleared ∷ own) last turn within = unbroken true s own last turn within
unbroken false s (Cleared ∷ own) last turn within = unbroken true s own last turn within
unbroken true s (Asked x ∷ own) last turn within =
    let rest = unbroken false x.outcome.own own last turn.1 within.2 in
    (rest.0, (as_with x.before s x.apdu x.outcome within.0 within.1 x.choice turn.0, rest.1))
unbroken false s (Asked x ∷ own) last turn within =
    let rest = unbroken false x.outcome.own own last turn.1 within.2 in
    (rest.0, (turn.0, rest.1))

-- ---- what the answers say

module _ (who : Client) (terms : TermsValue) (rows : List Row) where
  says_rows : (own : List Own) (s last : SessionValue) → InTurn s own last → Alternate (requests_of terms) [] (said_in (filter_map exchange_in own)) (asked_of (filter_map exchange_in own))
      → HasNamed terms.columns (said_in (filter_map exchange_in own)) rows → IsTold (plan_of who terms) (filter_map exchange_in own) rows
  says_rows [] s last turn alternates k = absurd (short_named terms.columns [] rows k (omega arith))
  says_rows (Cleared ∷ own) s last turn alternates k = says_rows own (fresh s.client) last turn alternates k
  says_rows (Asked x ∷ own) s last turn alternates k =
      let served : List Exchange = filter_map exchange_in own in
      let asked : x.apdu ≡ association_with terms.secret = first_asks (requests_of terms) x.apdu alternates.0 in
      let sized : HasSize x.outcome.own.opened = association_sized x.choice x.before _ s x.outcome (subst (λ a. Does x.choice x.before s a x.outcome) asked turn.0) in
      let within = are_within (requests_of terms) (x.outcome.answer ∷ []) served (λ e. cc) alternates.1 (rest_differ terms.columns x.outcome.answer (said_in served) rows k) in
      let chain = unbroken false x.outcome.own own last turn.1 within in
      told_after (plan_of who terms) x served chain.0 (said_in served) (x.outcome.answer ∷ said_in served) [] rows sized chain.1 (talks who terms (x.outcome.answer ∷ []) served (λ e. cc) alternates.1) k
      (sym (append-nil (x.outcome.answer ∷ said_in served)))

-- the first of the exchanges, in turn
own_front : (own : List Own) (s last : SessionValue) (front back : List Exchange) → InTurn s own last → filter_map exchange_in own ≡ front ++ back → (first : List Own) × (mid : SessionValue) × InTurn s first mid × (filter_map exchange_in first ≡ front)
own_front own s last [] back turn are = ([], s, refl, refl)
own_front [] s last (x ∷ front) back turn are = absurd (cc)
own_front (Cleared ∷ own) s last (x ∷ front) back turn are =
    let rest = own_front own (fresh s.client) last (x ∷ front) back turn are in
    (Cleared ∷ rest.0, rest.1, rest.2, rest.3)
own_front (Asked y ∷ own) s last (x ∷ front) back turn are =
    let same : y ≡ x = cc are in
    let tails : filter_map exchange_in own ≡ front ++ back = cc are in
    let rest = own_front own y.outcome.own last front back turn.1 tails in
    (Asked y ∷ rest.0, rest.1, (turn.0, rest.2), ap (λ (z : Exchange). z ∷ filter_map exchange_in rest.0) same ∙ ap (λ (l : List Exchange). x ∷ l) rest.3)

named_more : (plan : PlanValue) (front back : List Exchange) (rows : List Row) → IsNamed plan front rows → IsNamed plan (front ++ back) rows
named_more plan front back rows n = record {
  association = n.association;
  first = n.first;
  get = n.get;
  between = n.between;
  last = n.last;
  more = n.more ++ back;
  are = ap (λ (l : List Exchange). l ++ back) n.are ∙ ap (λ (l : List Exchange). n.association ∷ n.first ∷ n.get ∷ l) (append_assoc n.between (n.last ∷ n.more) back);
  asked_first = n.asked_first;
  asked = n.asked;
  asked_last = n.asked_last;
  success_first = n.success_first;
  success = n.success;
  names_first = n.names_first;
  names_last = n.names_last;
  named = n.named;
}

told_more : (plan : PlanValue) (front back : List Exchange) (rows : List Row) → IsTold plan front rows → IsTold plan (front ++ back) rows
told_more plan front back rows is = record {
  get = is.get;
  took = Contains-append_left front back is.get is.took;
  asked = is.asked;
  success = is.success;
  are = is.are;
  names = λ asked. named_more plan front back rows (is.names asked);
}

-- ---- the laws

pub first_holds : FirstHolds
first_holds = record { captures = tt; order = λ rise. tt; own = λ who. (refl, refl) }

-- each record is that of the world, which is its client's own
its_own : (m : MeterWorld) (w : World) → Good w.plan.client w → IsMeterOf m w → (who : Client) → ((m.records who).link.client ≡ who) × ((m.records who).session.client ≡ who)
its_own m w all at who = by_test (is_same w.plan.client who) refl
  where
    apart : is_same w.plan.client who ≡ false → who ≡ w.plan.client → ⊥
    apart e is = let itself : is_same w.plan.client who ≡ true = subst (λ (c : Client). is_same w.plan.client c ≡ true) (sym is) (is_itself w.plan.client) in cc

    by_test : (b : Bool) → is_same w.plan.client who ≡ b → ((m.records who).link.client ≡ who) × ((m.records who).session.client ≡ who)
    by_test true e =
        subst (λ (c : Client). ((m.records c).link.client ≡ c) × ((m.records c).session.client ≡ c)) (same-is w.plan.client who e)
        (ap (λ (r : ClientRecord). r.link.client) at.own ∙ whose_meter w.plan.client w.link all.link.sound, ap (λ (r : ClientRecord). r.session.client) at.own ∙ all.link.session)
    by_test false e =
        let same = at.others who (apart e) in
        (ap (λ (r : ClientRecord). r.link.client) same ∙ (all.link.others who).0, ap (λ (r : ClientRecord). r.session.client) same ∙ (all.link.others who).1)

-- the meter of a world holds the rows of the world's file
good_holds : (m : MeterWorld) (w : World) → Good w.plan.client w → IsMeterOf m w → Holds m w.file
good_holds m w all at =
    let same : settled_in m.store ≡ settled_in w.memory = ap settled_in at.store in
    record {
      captures = subst (λ E. AreCaptures E w.file) (sym same) all.file;
      order = λ rise. all.order (subst (λ E. Rise (all_readings E)) same rise);
      own = its_own m w all at;
    }

pub agreeing_holds : AgreeingHolds
agreeing_holds m file (w, x) = subst (Holds m) x.same (good_holds m w (good tells x.plan w x.run) x.meter)

pub held_are_captures : HeldAreCaptures
held_are_captures m file h = (
  still_captures (settled_in m.store) (events_of m) file (settled_begins m.store) h.captures,
  λ rise. h.order (rose_before (settled_in m.store) (events_of m) (settled_begins m.store) rise),
)

-- settled events are followed by others
kept_on : (m m' : MeterWorld) (file : List Row) → IsBeginning (settled_in m.store) (settled_in m'.store) → ((who : Client) → ((m'.records who).link.client ≡ who) × ((m'.records who).session.client ≡ who)) → Holds m file → Holds m' file
kept_on m m' file grown own h = record {
  captures = still_captures (settled_in m.store) (settled_in m'.store) file grown h.captures;
  order = λ rise. h.order (rose_before (settled_in m.store) (settled_in m'.store) grown rise);
  own = own;
}

pub lives_hold : LivesHold
lives_hold m m' file life h = kept_on m m' file (life_grows m m' life) (λ who. life_own who m m' life (h.own who)) h

pub stops_hold : StopsHold
stops_hold m left file h stops = kept_on m (recovered left) file (grows m.store Stops (Rests left) stops) (λ who. (refl, refl)) h

-- rows of the buffer join the file
merged_holds : (plan : PlanValue) (m : MeterWorld) (file rows kept : List Row) (E : List Event) → IsBeginning E (settled_in m.store) → rows ≡ rows_asked plan E → Holds m file → IsSublist kept rows → Holds m (merged file kept)
merged_holds plan m file rows kept E begins are h some = record {
  captures = merged_among (all_readings (settled_in m.store)) file kept h.captures (sublist_among (all_readings (settled_in m.store)) kept rows brought some);
  order = λ rise. merged_rise file kept (h.order rise) (sublist_rise kept rows (subst Rise (sym are) (asked_rise plan E (rose_before E (settled_in m.store) begins rise))) some);
  own = h.own;
}
  where
    brought : AreCaptures (settled_in m.store) rows
    brought = subst (AreCaptures (settled_in m.store)) (sym are) (still_captures E (settled_in m.store) (rows_asked plan E) begins (asked_are_captures plan E))

brings : (plan : PlanValue) (served : List Exchange) (rows : List Row) (is : IsTold plan served rows) → IsLegal is.get.before → BringsBuffer plan served rows
brings plan served rows is legal = record {
  get = is.get;
  took = is.took;
  asked = is.asked;
  are = is.are ∙ due_range (first_second plan.after) plan.until is.get.before (IsWithinLimits-legal is.get.before legal);
}

pub polls_hold : {C P A : Type 0} {ghosts : Ghosts P} (meaning : Meaning C) (new : Meter P A ghosts) → PollsHold meaning new
polls_hold meaning new who carrier terms calls done poll m m' life file over delivers stands h = record {
  brings = brings plan served done.talk.rows is (beginning_legal is.get.before (events_of m') (through is.get.before (settled_in m'.store) (events_of m') settled (settled_begins m'.store)) (known_legal new m'.store stands.store));
  named = is.names;
  merges = λ kept some. merged_holds plan m' file done.talk.rows kept is.get.before settled is.are (lives_hold m m' file life h) some;
}
  where
    plan : PlanValue
    plan = plan_of who terms

    passed : List Passage
    passed = passages (carried_in poll.shares)

    served : List Exchange
    served = served_to who m m' life

    polled : HasPolled terms.columns (answers passed) done.talk.rows
    polled = poll.done over

    own : List Own
    own = own_in who m m' life

    in_turn : InTurn (m.records who).session own (m'.records who).session
    in_turn = life_in_turn who m m' life (h.own who).1

    turn : Alternate (requests_of terms) [] (answers passed) (requests passed)
    turn = alternate (requests_of terms) [] false [] passed (λ e. cc) poll.turns

    need : Needed (requests_of terms) served done.talk.rows
    need = needed (requests_of terms) (answers passed) (requests passed) served done.talk.rows turn delivers.up delivers.down own (m.records who).session (m'.records who).session in_turn refl polled.before polled.more polled.are polled.polled

    is : IsTold plan served done.talk.rows
    is =
        let first = own_front own (m.records who).session (m'.records who).session need.front need.back in_turn need.are in
        let told : IsTold plan (filter_map exchange_in first.0) done.talk.rows =
        says_rows who terms done.talk.rows first.0 (m.records who).session first.1 first.2 (subst (λ l. Alternate (requests_of terms) [] (said_in l) (asked_of l)) (sym first.3) need.turn)
        (subst (λ l. HasNamed terms.columns (said_in l) done.talk.rows) (sym first.3) need.named) in
        subst (λ l. IsTold plan l done.talk.rows) (sym need.are) (told_more plan need.front need.back done.talk.rows (subst (λ l. IsTold plan l done.talk.rows) first.3 told))

    settled : IsBeginning is.get.before (settled_in m'.store)
    settled = is_settled m'.store served is.get (life_settled who m m' life) is.took is.success

-- ---- a poll over a line

-- where it starts
abbrev start_at : (plan : PlanValue) (m : MeterWorld) (file : List Row) → IsLegal (events_of m) → Holds m file → Start
start_at plan m file legal h =
    let r : ClientRecord = m.records plan.client in
    record {
      world = world_at plan m file;
      good = record {
        link = record { sound = new_sound plan.client r.link [] [] (h.own plan.client).0 refl refl; plan = refl; session = (h.own plan.client).1; others = h.own };
        poll = refl;
        chain = anew plan.client r.link [] [] r.session;
        settled = tt;
        done = tt;
        file = h.captures;
        order = h.order;
        legal = legal;
      };
    }

pub lines_hold : {P A : Type 0} {ghosts : Ghosts P} (old new : Meter P A ghosts) → LinesHold old new
lines_hold old new plan front frame done m m' steps run file stands stands' h calls joins =
    let start : Start = start_at plan m file (known_legal old m.store stands.store) h in
    let begun : Is start (fresh_poll plan) m nothing_on file = (
      world_at plan m file,
      record {
        run = Stays;
        on = known_on old m.store stands.store;
        poller = record { plan = refl; course = refl; link = λ under. refl; rows = λ over. cc; fits = (refl, refl, refl) };
        meter = record { own = refl; others = λ other differs. refl; store = refl };
        up = refl;
        down = refl;
        kept = refl;
      },
    ) in
    let end = ended start plan done m' file (poll_over start plan front frame done m m' steps run file (known_legal new m'.store stands'.store) begun calls joins) in
    record {
      world = end.world;
      run = end.run;
      meter = end.meter;
      same = end.kept;
      brings = end.brings;
      merges = λ kept some.
          good_holds m' (record end.world { file = merged file kept }) (good_from tells start (record end.world { file = merged file kept }) (Goes end.world (record end.world { file = merged file kept }) end.run (end.merges kept some)))
          (record { own = end.meter.own; others = end.meter.others; store = end.meter.store });
    }
