-- What a meter serves to a client in its life: one APDU after another. Events accepted before an answer of success or data are settled.
use Rattle.std.proofs.Common.{◌≡◌, ◌∙◌, refl, sym, ap, subst, append_assoc, ℕ, Bool, true, false, if◌then◌else◌, List, [], ◌∷◌, ◌++◌, length, Option, Some, None, nat_le}
use Rattle.std.specs.Prelude.{IfSome}
use Rattle.std.specs.List.{filter_map}
use Rattle.dlms_frame.specs.declared.client.Client.{Client}
use Rattle.dlms_link.specs.Server.{ServerRecord, server_on}
use Rattle.dlms_link.specs.declared.out.LinkOut.{LinkOut}
use Rattle.dlms_link.specs.declared.out.LinkOut.TheVariants.{Nothing, Reply, Apdu, Oversize, BadLlc, Up, Down}
use Rattle.dlms_meter.specs.ClientRecord.{ClientRecord}
use Rattle.dlms_meter.specs.Histories.{Act, OverLinks, Asks, Disconnects, Makes, History, Era, Eras, IsEra, OnItsOwn, OwnAct, own_acts, own_by as own_by_act, own_of_all, exchanged}
use Rattle.dlms_meter.specs.Messages.{Input, Frame, Message, Loss, Takes as MessageTakes}
use Rattle.dlms_meter.specs.Run.{Choice, MeterWorld, Records, Turn, Handled, Handles, Answered, Takes, Answers, IsTurn, after_turn, client_at, events_in, events_of, grown, is_same, pending_in, recovered}
use Rattle.dlms_meter.specs.Steps.{Step, Piece, Silence, Happens, Leads}
use Rattle.dlms_meter.specs.Storing.{steps_in, steps_of}
use Rattle.dlms_meter.specs.Transfers.{Exchange, Own, Asked, Cleared, InTurn, handled, own_among, own_at, own_by, own_here, own_in as own_in_step}
use Rattle.dlms_meter.specs.declared.connection.TheConstants.{MOST_OCTETS}
use Rattle.dlms_meter.proofs.Events.{turn_events}
use Rattle.dlms_meter.proofs.HistoryOwn.{all_in_turn, on_their_own}
use Rattle.dlms_meter.proofs.InTurn.{by_link, then_own}
use Rattle.dlms_meter.proofs.OwnRecords.{handled_keeps}
use Rattle.dlms_meter.proofs.LifeLaw.{ends_opened}
use Rattle.dlms_meter.proofs.StoreLaw.{step_run, turns_run}
use Rattle.dlms_service.specs.Session.{SessionValue, fresh}
use Rattle.dlms_service.specs.Stake.{is_success}
use Rattle.dlms_state.specs.declared.event.Event.{Event}
use Rattle.dlms_store.specs.World.{StoreWorld as Store, StoreStep, Next as StoreNext, StoreRun, IsBeginning}
use Rattle.dlms_store.specs.World.StoreWorld.{Runs, InDoubt, Rests}
use Rattle.dlms_store.specs.World.StoreStep.{Adds, AddsBehind, Settles, Refuses, Fails as Fault, Closes, ClosesInDoubt, Stops, Opens, OpenFails}
use Rattle.dlms_world.specs.Carrier.{Life, own_in_eras, own_in, exchange_in, served_to}
use Rattle.dlms_world.specs.World.{IsUsual, AreUsual, settled_in}
use Rattle.dlms_world.proofs.CallsAreTurns.{stored_usual}
use Rattle.dlms_world.proofs.Clients.{does_stay}
use Rattle.dlms_world.proofs.Growing.{same, longer, through, run_grows, all_settled}
use Rattle.dlms_world.proofs.Keeping.{DataSettled}
use Rattle.dlms_world.proofs.OverLine.{keeps_promise}

-- ---- events

moved : (e : List Event) (mid now : Store) → mid ≡ now → IsBeginning e (events_in now) → IsBeginning e (events_in mid)
moved e mid now is begins = subst (λ (s : Store). IsBeginning e (events_in s)) (sym is) begins

-- a usual step takes no event back
usual_adds : (step : StoreStep) (before now : Store) → IsUsual step → StoreNext before step now → IsBeginning (events_in before) (events_in now)
usual_adds (Adds e) (Runs s p) now usual next = moved (s ++ p) now (Runs s (p ++ e ∷ [])) next.0 (e ∷ [], append_assoc s p (e ∷ []))
usual_adds (AddsBehind e) (Runs s p) now usual next = moved (s ++ p) now (Runs (s ++ p) (e ∷ [])) next.0 (longer (s ++ p) (e ∷ []))
usual_adds Settles (Runs s p) now usual next = moved (s ++ p) now (Runs (s ++ p) []) next (longer (s ++ p) [])
usual_adds Refuses (Runs s p) now usual next = moved (s ++ p) now (Runs s p) next (same (s ++ p))
usual_adds Fault (Runs s p) now usual next = moved (s ++ p) now (InDoubt s p) next (same (s ++ p))
usual_adds Refuses (InDoubt s p) now usual next = moved (s ++ p) now (InDoubt s p) next (same (s ++ p))
usual_adds (Adds e) (InDoubt s p) now usual next = absurd next
usual_adds (AddsBehind e) (InDoubt s p) now usual next = absurd next
usual_adds Settles (InDoubt s p) now usual next = absurd next
usual_adds Fault (InDoubt s p) now usual next = absurd next
usual_adds (Adds e) (Rests es) now usual next = absurd next
usual_adds (AddsBehind e) (Rests es) now usual next = absurd next
usual_adds Settles (Rests es) now usual next = absurd next
usual_adds Refuses (Rests es) now usual next = absurd next
usual_adds Fault (Rests es) now usual next = absurd next
usual_adds Closes before now usual next = absurd usual
usual_adds ClosesInDoubt before now usual next = absurd usual
usual_adds Stops before now usual next = absurd usual
usual_adds (Opens es) before now usual next = absurd usual
usual_adds OpenFails before now usual next = absurd usual

usual_run_adds : (steps : List StoreStep) (before now : Store) → AreUsual steps → StoreRun before steps now → IsBeginning (events_in before) (events_in now)
usual_run_adds [] before now usual run = moved (events_in before) now before run (same (events_in before))
usual_run_adds (step ∷ steps) before now usual (mid, next, run) =
    through (events_in before) (events_in mid) (events_in now) (usual_adds step before mid usual.0 next) (usual_run_adds steps mid now usual.1 run)

-- ---- events accepted before an answer of success or data are settled

abbrev IsSettled : Store → List Event → List ℕ → Type 0
IsSettled memory E answer = is_success answer ≡ true → IsBeginning E (settled_in memory)

abbrev pub OwnSettled : Store → List Own → Type 0
OwnSettled memory [] = Unit {0}
OwnSettled memory (Cleared ∷ xs) = OwnSettled memory xs
OwnSettled memory (Asked x ∷ xs) = IsSettled memory x.before x.outcome.answer × OwnSettled memory xs

both_settled : (memory : Store) (xs ys : List Own) → OwnSettled memory xs → OwnSettled memory ys → OwnSettled memory (xs ++ ys)
both_settled memory [] ys a b = b
both_settled memory (Cleared ∷ xs) ys a b = both_settled memory xs ys a b
both_settled memory (Asked x ∷ xs) ys a b = (a.0, both_settled memory xs ys a.1 b)

later_settled : (before after : Store) (xs : List Own) → IsBeginning (settled_in before) (settled_in after) → OwnSettled before xs → OwnSettled after xs
later_settled before after [] grown a = tt
later_settled before after (Cleared ∷ xs) grown a = later_settled before after xs grown a
later_settled before after (Asked x ∷ xs) grown a = (λ success. through x.before (settled_in before) (settled_in after) (a.0 success) grown, later_settled before after xs grown a.1)

served_settled : (memory : Store) (xs : List Own) → OwnSettled memory xs → DataSettled memory (filter_map exchange_in xs)
served_settled memory [] a = tt
served_settled memory (Cleared ∷ xs) a = served_settled memory xs a
served_settled memory (Asked x ∷ xs) a = (a.0, served_settled memory xs a.1)

module _ (who : Client) (E : List Event) (memory : Store) (turn : Turn) (kept : (answer : List ℕ) → turn.answer ≡ Some answer → IsSettled memory E answer) where
  by_out : (r : ServerRecord) (s : SessionValue) (out : LinkOut) (own : ClientRecord) (answered : Answered turn.choice E r s out (handled own turn)) → OwnSettled memory (own_by turn.choice E r s out (handled own turn) answered)
  by_out r s (Up frame) own answered = tt
  by_out r s (Down frame) own answered = tt
  by_out r s Apdu own (o, serves, is) = (kept o.answer (ap (λ (h : Handled). h.answer) is), tt)
  by_out r s Nothing own answered = tt
  by_out r s (Reply frame) own answered = tt
  by_out r s Oversize own answered = tt
  by_out r s BadLlc own answered = tt

  by_client : (mine : Bool) (before own : ClientRecord) (handles : Handles turn.choice E before turn.frame (handled own turn)) → OwnSettled memory (own_here mine E before own turn handles)
  by_client true before own handles = by_out (server_on before.link turn.frame).0 before.session (server_on before.link turn.frame).1 own handles
  by_client false before own handles = tt

  turn_settled : (records : Records) (from : Option Client) (takes : Takes E records turn from) → OwnSettled memory (own_at who E records turn from takes)
  turn_settled records None takes = tt
  turn_settled records (Some other) (own, handles, is) = by_client (is_same other who) (records other) own handles

promise_kept : (m : MeterWorld) (turn : Turn) → IsTurn m turn → (answer : List ℕ) → turn.answer ≡ Some answer → IsSettled turn.store (events_of m) answer
promise_kept m turn is answer said success =
    let none = subst (λ (a : Option (List ℕ)). IfSome a (λ bytes. is_success bytes ≡ true → pending_in turn.store ≡ [])) said (keeps_promise m turn is) success in
    (turn.accepted, sym (turn_events m turn is) ∙ all_settled turn.store none)

turns_settled : (who : Client) (w w' : MeterWorld) (turns : List Turn) (replies : List (List ℕ)) (answers : Answers w turns replies w') → OwnSettled w'.store (own_among who w turns replies w' answers)
turns_settled who w w' [] replies answers = tt
turns_settled who w w' (turn ∷ turns) replies (is, rest, listed, answers) =
    let from : Option Client = client_at turn.frame.src in
    let here = own_at who (events_of w) w.records turn from is.takes in
    both_settled w'.store here (own_among who (after_turn w turn) turns rest w' answers)
    (later_settled turn.store w'.store here (run_grows turn.store (steps_of turns) w'.store (turns_run (after_turn w turn) turns rest w' answers))
    (turn_settled who (events_of w) turn.store turn (promise_kept w turn is) w.records from is.takes))
    (turns_settled who (after_turn w turn) w' turns rest answers)

step_settled : (who : Client) (w w' : MeterWorld) (step : Step) (leads : Leads w step w') → OwnSettled w'.store (own_in_step who w step w' leads)
step_settled who w w' (Piece bytes replies) leads = turns_settled who (grown w bytes) w' leads.turns replies leads.answers
step_settled who w w' Silence leads = tt
step_settled who w w' (Happens event outcome) leads = tt

exchange_settled : (memory : Store) (is_short : Bool) (x : Exchange) → IsSettled memory x.before x.outcome.answer → OwnSettled memory (exchanged is_short x)
exchange_settled memory true x kept = (kept, tt)
exchange_settled memory false x kept = tt

if_settled : (memory : Store) (mine : Bool) (xs : List Own) → OwnSettled memory xs → OwnSettled memory (if mine then xs else [])
if_settled memory true xs a = a
if_settled memory false xs a = tt

act_settled : (who : Client) (w w' : MeterWorld) (act : Act) (makes : Makes w act w') → OwnSettled w'.store (own_by_act who w act w' makes)
act_settled who w w' (OverLinks step) leads = step_settled who w w' step leads
act_settled who w w' (Asks other apdu answer) is =
    let x : Exchange = record { apdu = apdu; before = events_of w; choice = is.choice; outcome = is.outcome } in
    let kept : IsSettled is.store (events_of w) is.outcome.answer =
    λ success. subst (λ (es : List Event). IsBeginning (events_of w) es) (all_settled is.store (is.promise success))
    (usual_run_adds is.steps w.store is.store (stored_usual is.choice (Some is.outcome.answer) is.outcome.accepted is.steps is.stored) is.run) in
    subst (λ (v : MeterWorld). OwnSettled v.store (own_by_act who w (Asks other apdu answer) w' is)) (sym is.same)
    (if_settled is.store (is_same other who) (exchanged (nat_le (length apdu) MOST_OCTETS) x) (exchange_settled is.store (nat_le (length apdu) MOST_OCTETS) x kept))
act_settled who w w' (Disconnects other) is = if_settled w'.store (is_same other who) (Cleared ∷ []) tt

-- ---- settled events are never taken back

act_grows : (w w' : MeterWorld) (act : Act) → Makes w act w' → IsBeginning (settled_in w.store) (settled_in w'.store)
act_grows w w' (OverLinks step) leads = run_grows w.store (steps_in w step w' leads) w'.store (step_run w step w' leads)
act_grows w w' (Asks who apdu answer) is = subst (λ (v : MeterWorld). IsBeginning (settled_in w.store) (settled_in v.store)) (sym is.same) (run_grows w.store is.steps is.store is.run)
act_grows w w' (Disconnects who) is = subst (λ (v : MeterWorld). IsBeginning (settled_in w.store) (settled_in v.store)) (sym is) (same (settled_in w.store))

history_grows : (w w' : MeterWorld) (acts : List Act) → History w acts w' → IsBeginning (settled_in w.store) (settled_in w'.store)
history_grows w w' [] history = subst (λ (v : MeterWorld). IsBeginning (settled_in w.store) (settled_in v.store)) (sym history) (same (settled_in w.store))
history_grows w w' (act ∷ acts) (mid, makes, more) = through (settled_in w.store) (settled_in mid.store) (settled_in w'.store) (act_grows w mid act makes) (history_grows mid w' acts more)

-- from a cut-off call, over stops and recoveries
recovery_grows : (w : MeterWorld) (era : Era) (is : IsEra w era) → IsBeginning (settled_in is.last.store) era.found
recovery_grows w era is =
    subst (λ (s : Store). IsBeginning (settled_in is.last.store) (settled_in s)) (ends_opened (era.cut ++ era.quiet) is.last.store is.now era.found is.store)
    (run_grows is.last.store ((era.cut ++ era.quiet) ++ Opens era.found ∷ []) is.now is.store)

eras_grow : (w w' : MeterWorld) (eras : List Era) → Eras w eras w' → IsBeginning (settled_in w.store) (settled_in w'.store)
eras_grow w w' [] is = subst (λ (v : MeterWorld). IsBeginning (settled_in w.store) (settled_in v.store)) (sym is) (same (settled_in w.store))
eras_grow w w' (era ∷ eras) (is, more) =
    through (settled_in w.store) era.found (settled_in w'.store)
    (through (settled_in w.store) (settled_in is.last.store) era.found (history_grows w is.last era.acts is.history) (recovery_grows w era is)) (eras_grow (recovered era.found) w' eras more)

pub life_grows : (m m' : MeterWorld) → Life m m' → IsBeginning (settled_in m.store) (settled_in m'.store)
life_grows m m' life = through (settled_in m.store) (settled_in life.last.store) (settled_in m'.store) (eras_grow m life.last life.eras life.in_eras) (history_grows life.last m' life.acts life.history)

-- ---- in a whole life

history_settled : (who : Client) (w w' : MeterWorld) (acts : List Act) (history : History w acts w') → OwnSettled w'.store (own_of_all who w acts w' history)
history_settled who w w' [] history = tt
history_settled who w w' (act ∷ acts) (mid, makes, more) =
    let here = own_by_act who w act mid makes in
    both_settled w'.store here (own_of_all who mid acts w' more) (later_settled mid.store w'.store here (history_grows mid w' acts more) (act_settled who w mid act makes)) (history_settled who mid w' acts more)

eras_settled : (who : Client) (w w' : MeterWorld) (eras : List Era) (is : Eras w eras w') → OwnSettled w'.store (own_in_eras who w eras w' is)
eras_settled who w w' [] is = tt
eras_settled who w w' (era ∷ eras) (is, more) =
    let here = own_of_all who w era.acts is.last is.history in
    both_settled w'.store here (Cleared ∷ own_in_eras who (recovered era.found) eras w' more)
    (later_settled is.last.store w'.store here (through (settled_in is.last.store) era.found (settled_in w'.store) (recovery_grows w era is) (eras_grow (recovered era.found) w' eras more)) (history_settled who w is.last era.acts is.history))
    (eras_settled who (recovered era.found) w' eras more)

pub life_settled : (who : Client) (m m' : MeterWorld) (life : Life m m') → DataSettled m'.store (served_to who m m' life)
life_settled who m m' life =
    let early = own_in_eras who m life.eras life.last life.in_eras in
    served_settled m'.store (own_in who m m' life)
    (both_settled m'.store early (own_of_all who life.last life.acts m' life.history)
    (later_settled life.last.store m'.store early (history_grows life.last m' life.acts life.history) (eras_settled who m life.last life.eras life.in_eras))
    (history_settled who life.last m' life.acts life.history))

-- ---- one after another

still_own : (s s' : SessionValue) (xs : List Own) → InTurn s xs s' → s'.client ≡ s.client
still_own s s' [] is = ap (λ (x : SessionValue). x.client) is
still_own s s' (Cleared ∷ xs) is = still_own (fresh s.client) s' xs is
still_own s s' (Asked x ∷ xs) is = still_own x.outcome.own s' xs is.1 ∙ does_stay x.choice x.before s x.apdu x.outcome is.0

history_own : (who : Client) (w w' : MeterWorld) (acts : List Act) → History w acts w' → (w.records who).session.client ≡ who → (w'.records who).session.client ≡ who
history_own who w w' acts history own = still_own (w.records who).session (w'.records who).session (own_of_all who w acts w' history) (all_in_turn who w w' acts history) ∙ own

-- no input makes a client's link another's
input_keeps : (choice : Choice) (E : List Event) (own : ClientRecord) (input : Input) (h : Handled) → MessageTakes choice E own input h → h.own.link.client ≡ own.link.client
input_keeps choice E own (Frame frame) h takes = handled_keeps choice E own frame h takes
input_keeps choice E own (Message apdu) h (o, meets, is) = ap (λ (x : Handled). x.own.link.client) is
input_keeps choice E own Loss h takes = ap (λ (x : Handled). x.own.link.client) (by_link choice takes)

acts_keep : (acts : List OwnAct) (own own' : ClientRecord) → OnItsOwn own acts own' → own'.link.client ≡ own.link.client
acts_keep [] own own' is = ap (λ (r : ClientRecord). r.link.client) is
acts_keep (act ∷ acts) own own' (mid, takes, more) =
    acts_keep acts mid own' more
    ∙ input_keeps act.choice act.prompt.before own act.prompt.input (record { own = mid; reply = act.reply; answer = act.answer; accepted = act.accepted }) takes

history_link : (who : Client) (w w' : MeterWorld) (acts : List Act) → History w acts w' → (w.records who).link.client ≡ who → (w'.records who).link.client ≡ who
history_link who w w' acts history own = acts_keep (own_acts who w acts w' history) (w.records who) (w'.records who) (on_their_own who w w' acts history) ∙ own

eras_own : (who : Client) (w w' : MeterWorld) (eras : List Era) → Eras w eras w' → ((w.records who).link.client ≡ who) × ((w.records who).session.client ≡ who) → ((w'.records who).link.client ≡ who) × ((w'.records who).session.client ≡ who)
eras_own who w w' [] is own = (ap (λ (v : MeterWorld). (v.records who).link.client) is ∙ own.0, ap (λ (v : MeterWorld). (v.records who).session.client) is ∙ own.1)
eras_own who w w' (era ∷ eras) (is, more) own = eras_own who (recovered era.found) w' eras more (refl, refl)

pub life_own : (who : Client) (m m' : MeterWorld) → Life m m' → ((m.records who).link.client ≡ who) × ((m.records who).session.client ≡ who) → ((m'.records who).link.client ≡ who) × ((m'.records who).session.client ≡ who)
life_own who m m' life own =
    let there = eras_own who m life.last life.eras life.in_eras own in
    (history_link who life.last m' life.acts life.history there.0, history_own who life.last m' life.acts life.history there.1)

eras_in_turn : (who : Client) (w w' : MeterWorld) (eras : List Era) (is : Eras w eras w') → (w.records who).session.client ≡ who → InTurn (w.records who).session (own_in_eras who w eras w' is) (w'.records who).session
eras_in_turn who w w' [] is own = ap (λ (v : MeterWorld). (v.records who).session) is
eras_in_turn who w w' (era ∷ eras) (is, more) own =
    let s : SessionValue = (is.last.records who).session in
    let after = own_in_eras who (recovered era.found) eras w' more in
    then_own (w.records who).session s (w'.records who).session (own_of_all who w era.acts is.last is.history) (Cleared ∷ after) (all_in_turn who w is.last era.acts is.history)
    (subst (λ (c : Client). InTurn (fresh c) after (w'.records who).session) (sym (history_own who w is.last era.acts is.history own)) (eras_in_turn who (recovered era.found) w' eras more refl))

pub life_in_turn : (who : Client) (m m' : MeterWorld) (life : Life m m') → (m.records who).session.client ≡ who → InTurn (m.records who).session (own_in who m m' life) (m'.records who).session
life_in_turn who m m' life own =
    then_own (m.records who).session (life.last.records who).session (m'.records who).session (own_in_eras who m life.eras life.last life.in_eras) (own_of_all who life.last life.acts m' life.history)
    (eras_in_turn who m life.last life.eras life.in_eras own) (all_in_turn who life.last m' life.acts life.history)
