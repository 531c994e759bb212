-- A meter that has captured its first row, and a poll that brings it over a carrier of messages.
use Rattle.std.proofs.Common.{arith, ◌≡◌, ◌∙◌, ◌≤◌, ◌<◌, ◌+◌, inl, refl, sym, ap, subst, ℕ, Bool, true, false, if◌then◌else◌, nat_le, List, [], ◌∷◌, ◌++◌, length, map, All, Option}
use Rattle.std.specs.Prelude.{◌^◌, ◌&&◌}
use Rattle.std.specs.List.{filter_map}
use Rattle.std.proofs.lemmas.Bool.Decides.{nat_tests}
use Rattle.dlms_acse.specs.Writing.{release_request}
use Rattle.dlms_data.specs.Building.{IsTime}
use Rattle.dlms_data.specs.DateTime.{NamesSecond, IsPlainlyWritten}
use Rattle.dlms_data.specs.Value.{Value}
use Rattle.dlms_data.specs.Writing.{canonical}
use Rattle.dlms_frame.specs.declared.client.Client.{Client}
use Rattle.dlms_headend.specs.Asking.{IsBufferRequest, PlanValue, IsRange, association_bytes, buffer_bytes, first_second, range, last_second}
use Rattle.dlms_headend.specs.CarrierRun.{Beside, carried_in, passages}
use Rattle.dlms_headend.specs.Due.{association_with}
use Rattle.dlms_headend.proofs.DueLemmas.{asks_the_same}
use Rattle.dlms_headend.specs.Poll.{Spells}
use Rattle.dlms_headend.specs.declared.plan.Columns.TheVariants.{Trusted}
use Rattle.dlms_headend.specs.declared.row.Row.{Row}
use Rattle.dlms_meter.specs.ClientRecord.{fresh_record}
use Rattle.dlms_meter.specs.Histories.{Asks, exchanged}
use Rattle.dlms_meter.specs.Messages.{IsRequest, MeetsBy, answers as answers_in}
use Rattle.dlms_meter.specs.Run.{MeterWorld, Records, Served, StoredFor, is_same, with_record}
use Rattle.dlms_meter.specs.Transfers.{Exchange, Own, Asked}
use Rattle.dlms_meter.specs.declared.connection.TheConstants.{MOST_OCTETS}
use Rattle.dlms_meter.proofs.Apart.{is_itself}
use Rattle.dlms_service.specs.Serves.{FindsMemory, Serves, released}
use Rattle.dlms_service.specs.Session.{SessionValue, Outcome, fresh}
use Rattle.dlms_service.specs.Stake.{is_success}
use Rattle.dlms_state.specs.declared.event.Event.{Event}
use Rattle.dlms_store.specs.World.{StoreStep, StoreRun}
use Rattle.dlms_store.specs.World.StoreStep.{Settles}
use Rattle.dlms_store.specs.World.StoreWorld.{Runs}
use Rattle.dlms_world.specs.Carrier.{CanBeCarried, CarriedPoll, Delivers, Life, any_carrier, exchange_in, first_captured, served_to, terms_by}
use Rattle.dlms_world.specs.Possible.{KnowsSecret, first_rows, quarter}
use Rattle.dlms_world.specs.Sublists.{IsSublist}
use Rattle.dlms_world.proofs.Captured as captured
use Rattle.dlms_world.proofs.CarriedPoll as polled
use Rattle.dlms_world.proofs.Captured.{columns_first, quarter_legal}
use Rattle.dlms_world.proofs.Done.{range_of, rows_between_are, still_knows}
use Rattle.dlms_world.proofs.Served as served

-- ---- one message

-- a meter that has captured its first row, with these records of its clients
abbrev at : Records → MeterWorld
at records = record { stretch = []; place = 0; records = records; store = Runs quarter [] }

abbrev steps_for : Bool → List StoreStep
steps_for true = Settles ∷ []
steps_for false = []

stored : (b : Bool) (accepted : List Event) → accepted ≡ [] → StoredFor b accepted (steps_for b)
stored true accepted none = subst (λ es. StoredFor true es (Settles ∷ [])) (sym none) ([], refl, refl)
stored false accepted none = (none, refl)

runs : (b : Bool) → StoreRun (Runs quarter []) (steps_for b) (Runs quarter [])
runs true = (Runs quarter [], refl, refl)
runs false = refl

accepts : (apdu : List ℕ) → length apdu ≤ 125 → nat_le (length apdu) MOST_OCTETS ≡ true
accepts apdu small = grind (arith, nat_tests, small)

module _ (who : Client) (records : Records) (s : SessionValue) (same : (records who).session ≡ s) (apdu : List ℕ) (small : length apdu ≤ 125) (o : Outcome) (serves : Serves FindsMemory quarter s apdu o) (little : length o.answer ≤ 1024) (none : o.accepted ≡ []) where
  abbrev then_records : Records
  then_records = with_record records who (answers_in (records who) o).own

  abbrev asks : IsRequest (at records) who apdu o.answer (at then_records)
  asks = record {
    choice = Served FindsMemory;
    outcome = o;
    answered = refl;
    steps = steps_for (is_success o.answer);
    store = Runs quarter [];
    meets = subst (λ b. MeetsBy b (Served FindsMemory) quarter (records who).session apdu o) (sym (accepts apdu small)) (subst (λ x. Serves FindsMemory quarter x apdu o) (sym same) serves);
    stored = stored (is_success o.answer) o.accepted none;
    run = runs (is_success o.answer);
    promise = λ success. refl;
    short = little;
    same = refl;
  }

  then_session : (then_records who).session ≡ o.own
  then_session = ap (λ (b : Bool). (if b then (answers_in (records who) o).own else records who).session) (is_itself who)

-- ---- the poll

module _ (plan : PlanValue) (h : KnowsSecret plan quarter) (value : Value) (wanted : IsRange (first_second plan.after) (last_second plan.until) value) (octets : List ℕ) (bytes : All (λ octet. octet < 2 ^ 8) octets) (named : NamesSecond octets 900) (plainly : IsPlainlyWritten octets) where
  abbrev who : Client
  who = plan.client

  abbrev b : Bool
  b = nat_le (first_second plan.after) 900 && nat_le 900 (last_second plan.until)

  abbrev v : Value
  v = captured.table octets bytes named plainly b

  abbrev rows : List Row
  rows = captured.rows octets bytes named plainly b

  size : length (canonical v) ≤ 40
  size = captured.table_size octets bytes named plainly b

  few : length (canonical v) ≤ 29764
  few = omega (arith, size)

  whole : nat_le (4 + length (canonical v)) 1024 ≡ true
  whole = grind (arith, nat_tests, size)

  abbrev opens : Outcome
  opens = served.associates who

  abbrev tells : Outcome
  tells = served.whole v rows (captured.table_fits octets bytes named plainly b) few (captured.is_profile octets bytes named plainly b) who

  abbrev ends : Outcome
  ends = released (served.session who)

  serves_rows : Serves FindsMemory quarter (served.session who) (buffer_bytes value) tells
  serves_rows =
      subst (λ (x : Outcome). Serves FindsMemory quarter (served.session who) (buffer_bytes value) x) (served.is_whole v rows (captured.table_fits octets bytes named plainly b) few (captured.is_profile octets bytes named plainly b) who whole)
      (served.serves_rows v rows (captured.table_fits octets bytes named plainly b) few (captured.is_profile octets bytes named plainly b) quarter columns_first plan h (first_second plan.after) (last_second plan.until) value wanted (captured.is_buffer octets bytes named plainly (first_second plan.after) (last_second plan.until) b refl))

  abbrev one : List ℕ
  one = association_bytes plan

  abbrev two : List ℕ
  two = buffer_bytes value

  abbrev first : Records
  first = with_record fresh_record who (answers_in (fresh_record who) opens).own

  abbrev second : Records
  second = with_record first who (answers_in (first who) tells).own

  abbrev third : Records
  third = with_record second who (answers_in (second who) ends).own

  one_short : length one ≤ 125
  one_short = served.association_short quarter quarter_legal plan h

  two_short : length two ≤ 125
  two_short = served.buffer_short (first_second plan.after) (last_second plan.until) value wanted

  opened : Serves FindsMemory quarter (fresh who) one opens
  opened = served.serves_association quarter quarter_legal plan h

  tells_short : length tells.answer ≤ 1024
  tells_short = served.whole_short v rows (captured.table_fits octets bytes named plainly b) few (captured.is_profile octets bytes named plainly b) who whole

  abbrev is_one : IsRequest first_captured who one opens.answer (at first)
  is_one = asks who fresh_record (fresh who) refl one one_short opens opened (omega arith) refl

  abbrev is_two : IsRequest (at first) who two tells.answer (at second)
  is_two = asks who first (served.session who) (then_session who fresh_record (fresh who) refl one one_short opens opened (omega arith) refl) two two_short tells serves_rows tells_short refl

  abbrev is_three : IsRequest (at second) who release_request ends.answer (at third)
  is_three =
      asks who second (served.session who) (then_session who first (served.session who) (then_session who fresh_record (fresh who) refl one one_short opens opened (omega arith) refl) two two_short tells serves_rows tells_short refl)
      release_request (omega arith) ends (served.serves_release quarter who (served.session who).getting) (omega arith) refl

  abbrev life : Life first_captured (at third)
  life = record {
    eras = [];
    last = first_captured;
    in_eras = refl;
    acts = Asks who one opens.answer ∷ Asks who two tells.answer ∷ Asks who release_request ends.answer ∷ [];
    history = (at first, is_one, (at second, is_two, (at third, is_three, refl)));
  }

  abbrev x : List ℕ → Outcome → Exchange
  x apdu o = record { apdu = apdu; before = quarter; choice = Served FindsMemory; outcome = o }

  abbrev made : List ℕ → Outcome → List Own
  made apdu o = if is_same who who then exchanged (nat_le (length apdu) MOST_OCTETS) (x apdu o) else []

  is_made : (apdu : List ℕ) (o : Outcome) → length apdu ≤ 125 → made apdu o ≡ Asked (x apdu o) ∷ []
  is_made apdu o small =
      ap (λ (c : Bool). if c then exchanged (nat_le (length apdu) MOST_OCTETS) (x apdu o) else []) (is_itself who) ∙ ap (λ (c : Bool). exchanged c (x apdu o)) (accepts apdu small)

  serves_three : served_to who first_captured (at third) life ≡ x one opens ∷ x two tells ∷ x release_request ends ∷ []
  serves_three =
      ap (λ l. filter_map exchange_in (l ++ (made two tells ++ (made release_request ends ++ [])))) (is_made one opens one_short)
      ∙ ap (λ l. x one opens ∷ filter_map exchange_in (l ++ (made release_request ends ++ []))) (is_made two tells two_short)
      ∙ ap (λ l. x one opens ∷ x two tells ∷ filter_map exchange_in (l ++ [])) (is_made release_request ends (omega arith))

  same_association : association_with (terms_by plan).secret ≡ one
  same_association = (asks_the_same plan).association

  module _ (trusts : plan.columns ≡ Trusted) where
    found_rows : Spells 0 [] tells.answer rows
    found_rows = served.spells v rows (captured.table_fits octets bytes named plainly b) few (captured.is_profile octets bytes named plainly b) who

    wants : IsBufferRequest plan.after plan.until two
    wants = record { value = value; is = refl; wanted = wanted }

    abbrev its_poll : Beside any_carrier [] (terms_by plan) (polled.calls (terms_by plan) two opens.answer tells.answer ends.answer rows trusts served.accepts found_rows served.is_released wants) (polled.done (terms_by plan) two opens.answer tells.answer ends.answer rows trusts served.accepts found_rows served.is_released wants)
    its_poll = polled.poll (terms_by plan) two opens.answer tells.answer ends.answer rows trusts served.accepts found_rows served.is_released wants

    delivers : Delivers (passages (carried_in its_poll.shares)) (served_to who first_captured (at third) life)
    delivers = record {
      up = subst (λ l. IsSublist (map (λ y. y.apdu) l) (association_with (terms_by plan).secret ∷ two ∷ release_request ∷ [])) (sym serves_three) (inl (sym same_association, inl (refl, inl (refl, tt))));
      down = subst (λ l. IsSublist (opens.answer ∷ tells.answer ∷ ends.answer ∷ []) (map (λ y. y.outcome.answer) l)) (sym serves_three) (inl (refl, inl (refl, inl (refl, tt))));
    }

    brought : (after until : Option ℕ) → plan.after ≡ after → plan.until ≡ until → CarriedPoll plan (first_rows after until) first_captured (at third)
    brought after until same ends = record {
      calls = _;
      done = _;
      poll = its_poll;
      course = refl;
      rows = rows_between_are octets bytes named plainly plan after until b refl same ends;
      life = life;
      delivers = delivers;
    }

pub carried_first : (octets : List ℕ) → All (λ octet. octet < 2 ^ 8) octets → NamesSecond octets 900 → IsPlainlyWritten octets → (after until : Option ℕ) (first last : Value) → IsTime (first_second after) first → IsTime (last_second until) last → CanBeCarried after until
carried_first octets bytes named plainly after until first last from to plan h same ends trusts =
    let wanted : IsRange (first_second plan.after) (last_second plan.until) (range first last) = range_of after until plan first last same ends from to in (
      _,
      brought plan (still_knows plan h) (range first last) wanted octets bytes named plainly trusts after until same ends,
    )
