-- A client's inputs in a history lead where they lead on their own, and its APDUs are answered one after another.
use Rattle.std.proofs.Common.{◌≡◌, ◌∙◌, refl, sym, ap, subst, ℕ, Bool, true, false, if◌then◌else◌, List, [], ◌∷◌, ◌++◌, length, Option, Some}
use Rattle.std.specs.Prelude.{map, nat_le}
use Rattle.dlms_frame.specs.declared.client.Client.{Client}
use Rattle.dlms_meter.specs.declared.connection.TheConstants.{MOST_OCTETS}
use Rattle.dlms_service.specs.Session.{SessionValue, Outcome}
use Rattle.dlms_service.specs.Serves.{FindsMemory}
use Rattle.dlms_service.proofs.Once.{served_once}
use Rattle.dlms_state.specs.declared.event.Event.{Event}
use Rattle.dlms_store.specs.World.{StoreWorld}
use Rattle.dlms_meter.specs.ClientRecord.{ClientRecord}
use Rattle.dlms_meter.specs.Histories.{Act, OverLinks, Asks, Disconnects, Makes, History, Era, Eras, AreOwnInEras, Prompt, OwnAct, of_turn, asking, losing, own_by_act, own_acts, OnItsOwn, AllOnTheirOwn, OwnFindMemory, prompts, answers_to, AreIndependent, exchanged, own_by, own_of_all, AllInTurn, AllBlocksJoin, NoneUnasked}
use Rattle.dlms_meter.specs.Independence.{OwnTurn, Alone, own_in_step}
use Rattle.dlms_meter.specs.Messages.{Input, Frame, Message, Loss, IsRequest, MeetsBy, Meets, Takes, answers, disconnected_record}
use Rattle.dlms_meter.specs.Own.{AreOwn}
use Rattle.dlms_meter.specs.Run.{MeterWorld, Records, Choice, Served, Handled, Stored, events_of, first_world, is_same, recovered, with_record}
use Rattle.dlms_meter.specs.Transfers.{Exchange, Own, Cleared, InTurn}
use Rattle.dlms_meter.proofs.Apart.{first_is, no_front, others_are, same-is, step_alone}
use Rattle.dlms_meter.proofs.Events.{stored_once}
use Rattle.dlms_meter.proofs.Given.{join_blocks, no_block_given}
use Rattle.dlms_meter.proofs.InTurn.{by_link, step_in_turn, then_own}
use Rattle.dlms_meter.proofs.Once.{handled_once}
use Rattle.dlms_meter.proofs.OwnRecords.{first_own, handled_keeps, recovered_own}

-- ---- one outcome

meets_once : (is_short : Bool) (E : List Event) (s : SessionValue) (apdu : List ℕ) (o p : Outcome) → MeetsBy is_short (Served FindsMemory) E s apdu o → MeetsBy is_short (Served FindsMemory) E s apdu p → o ≡ p
meets_once true E s apdu o p h k = served_once FindsMemory E s apdu o p h k
meets_once false E s apdu o p h k = h ∙ sym k

taken_once : (E : List Event) (own : ClientRecord) (input : Input) (h k : Handled) → Takes (Served FindsMemory) E own input h → Takes (Served FindsMemory) E own input k → h ≡ k
taken_once E own (Frame frame) h k p q = handled_once E own frame h k p q
taken_once E own (Message apdu) h k (o, meets, is) (o', meets', is') =
    is ∙ ap (answers own) (meets_once (nat_le (length apdu) MOST_OCTETS) E own.session apdu o o' meets meets') ∙ sym is'
taken_once E own Loss h k p q = p ∙ sym q

pub request_once : (w u v : MeterWorld) (who : Client) (apdu first second : List ℕ) (a : IsRequest w who apdu first u) (b : IsRequest w who apdu second v)
    → a.choice ≡ Served FindsMemory → b.choice ≡ Served FindsMemory → (first ≡ second) × (u ≡ v)
request_once w u v who apdu first second a b found found' =
    let E = events_of w in
    let s = (w.records who).session in
    let same : a.outcome ≡ b.outcome = meets_once (nat_le (length apdu) MOST_OCTETS) E s apdu a.outcome b.outcome
    (subst (λ (c : Choice). Meets c E s apdu a.outcome) found a.meets) (subst (λ (c : Choice). Meets c E s apdu b.outcome) found' b.meets) in
    let there : Stored a.choice (Some a.outcome.answer) a.outcome.accepted b.steps =
    subst (λ (c : Choice). Stored c (Some a.outcome.answer) a.outcome.accepted b.steps) (found' ∙ sym found)
    (subst (λ (o : Outcome). Stored b.choice (Some o.answer) o.accepted b.steps) (sym same) b.stored) in
    let store : a.store ≡ b.store = stored_once (Some a.outcome.answer) a.choice FindsMemory a.outcome.accepted a.steps b.steps w.store a.store b.store found a.stored a.run there b.run in
    let world : Outcome → StoreWorld → MeterWorld = λ o now. record { stretch = w.stretch; place = w.place; records = with_record w.records who (answers (w.records who) o).own; store = now } in (
      a.answered ∙ ap (λ (o : Outcome). o.answer) same ∙ sym b.answered,
      a.same ∙ ap (λ (o : Outcome). world o a.store) same ∙ ap (λ (now : StoreWorld). world b.outcome now) store ∙ sym b.same,
    )

-- ---- a client on its own

then_acts : (own mid own' : ClientRecord) (xs ys : List OwnAct) → OnItsOwn own xs mid → OnItsOwn mid ys own' → OnItsOwn own (xs ++ ys) own'
then_acts own mid own' [] ys h k = subst (λ (r : ClientRecord). OnItsOwn r ys own') h k
then_acts own mid own' (x ∷ xs) ys (next, takes, more) k = (next, takes, then_acts next mid own' xs ys more k)

of_turns : (turns : List OwnTurn) (own own' : ClientRecord) → Alone own turns own' → OnItsOwn own (map of_turn turns) own'
of_turns [] own own' is = is
of_turns (turn ∷ turns) own own' (mid, handles, more) = (mid, handles, of_turns turns mid own' more)

module _ (who other : Client) (records : Records) where
  -- an act, by whether it is the client's own
  by_client : (mine : Bool) (act : OwnAct) (own : ClientRecord) → is_same other who ≡ mine
      → Takes act.choice act.prompt.before (records other) act.prompt.input (record { own = own; reply = act.reply; answer = act.answer; accepted = act.accepted })
      → OnItsOwn (records who) (if mine then act ∷ [] else []) (if mine then own else records who)
  by_client true act own e takes =
      let h : Handled = record { own = own; reply = act.reply; answer = act.answer; accepted = act.accepted } in
      (own, subst (λ (c : Client). Takes act.choice act.prompt.before (records c) act.prompt.input h) (same-is other who e) takes, refl)
  by_client false act own e takes = refl

  own_in_turn : (mine : Bool) (xs : List Own) (own : ClientRecord) → is_same other who ≡ mine → InTurn (records other).session xs own.session
      → InTurn (records who).session (if mine then xs else []) (if mine then own else records who).session
  own_in_turn true xs own e is = subst (λ (c : Client). InTurn (records c).session xs own.session) (same-is other who e) is
  own_in_turn false xs own e is = refl

act_alone : (who : Client) (w w' : MeterWorld) (act : Act) (makes : Makes w act w') → OnItsOwn (w.records who) (own_by_act who w act w' makes) (w'.records who)
act_alone who w w' (OverLinks step) leads = of_turns (own_in_step who w step w' leads) (w.records who) (w'.records who) (step_alone who w w' step leads)
act_alone who w w' (Asks other apdu answer) is =
    let act = asking w other apdu answer w' is in
    subst (λ (x : MeterWorld). OnItsOwn (w.records who) (if is_same other who then act ∷ [] else []) (x.records who)) (sym is.same)
    (by_client who other w.records (is_same other who) act (answers (w.records other) is.outcome).own refl (is.outcome, is.meets, refl))
act_alone who w w' (Disconnects other) is =
    subst (λ (x : MeterWorld). OnItsOwn (w.records who) (if is_same other who then losing w ∷ [] else []) (x.records who)) (sym is)
    (by_client who other w.records (is_same other who) (losing w) (disconnected_record (w.records other)) refl refl)

pub on_their_own : AllOnTheirOwn
on_their_own who w w' [] history = ap (λ (v : MeterWorld). v.records who) history
on_their_own who w w' (act ∷ acts) (mid, makes, more) =
    then_acts (w.records who) (mid.records who) (w'.records who) (own_by_act who w act mid makes) (own_acts who mid acts w' more)
    (act_alone who w mid act makes) (on_their_own who mid w' acts more)

-- ---- equal inputs

same_act : (own own' mid mid' : ClientRecord) (x y : OwnAct) → own ≡ own' → x.prompt ≡ y.prompt → x.choice ≡ Served FindsMemory → y.choice ≡ Served FindsMemory
    → Takes x.choice x.prompt.before own x.prompt.input (record { own = mid; reply = x.reply; answer = x.answer; accepted = x.accepted })
    → Takes y.choice y.prompt.before own' y.prompt.input (record { own = mid'; reply = y.reply; answer = y.answer; accepted = y.accepted })
    → (x.reply ≡ y.reply) × (mid ≡ mid')
same_act own own' mid mid' x y records prompted found found' h k =
    let hx : Handled = record { own = mid; reply = x.reply; answer = x.answer; accepted = x.accepted } in
    let hy : Handled = record { own = mid'; reply = y.reply; answer = y.answer; accepted = y.accepted } in
    let one : Takes (Served FindsMemory) y.prompt.before own' y.prompt.input hx =
    subst (λ (q : Prompt). Takes (Served FindsMemory) q.before own' q.input hx) prompted
    (subst (λ (r : ClientRecord). Takes (Served FindsMemory) x.prompt.before r x.prompt.input hx) records
    (subst (λ (c : Choice). Takes c x.prompt.before own x.prompt.input hx) found h)) in
    let other : Takes (Served FindsMemory) y.prompt.before own' y.prompt.input hy = subst (λ (c : Choice). Takes c y.prompt.before own' y.prompt.input hy) found' k in
    let same : hx ≡ hy = taken_once y.prompt.before own' y.prompt.input hx hy one other in
    (ap (λ (z : Handled). z.reply) same, ap (λ (z : Handled). z.own) same)

same_acts : (xs ys : List OwnAct) (own own' last last' : ClientRecord) → own ≡ own' → prompts xs ≡ prompts ys → OwnFindMemory xs → OwnFindMemory ys
    → OnItsOwn own xs last → OnItsOwn own' ys last' → (answers_to xs ≡ answers_to ys) × (last ≡ last')
same_acts [] [] own own' last last' records prompted found found' h k = (refl, h ∙ records ∙ sym k)
same_acts [] (y ∷ ys) own own' last last' records prompted found found' h k = no_front prompted
same_acts (x ∷ xs) [] own own' last last' records prompted found found' h k = no_front (sym prompted)
same_acts (x ∷ xs) (y ∷ ys) own own' last last' records prompted found found' (mid, takes, more) (mid', takes', more') =
    let here = same_act own own' mid mid' x y records (first_is prompted) found.0 found'.0 takes takes' in
    let rest = same_acts xs ys mid mid' last last' here.1 (others_are prompted) found.1 found'.1 more more' in
    (ap (λ (r : Option (List ℕ)). r ∷ answers_to xs) here.0 ∙ ap (λ (rs : List (Option (List ℕ))). y.reply ∷ rs) rest.0, rest.1)

pub are_independent : AreIndependent
are_independent who v v' w w' acts others a b records prompted found found' =
    same_acts (own_acts who v acts v' a) (own_acts who w others w' b) (v.records who) (w.records who) (v'.records who) (w'.records who) records prompted found found'
    (on_their_own who v v' acts a) (on_their_own who w w' others b)

-- ---- no input makes a client's record another's

taken_keeps : (choice : Choice) (E : List Event) (own : ClientRecord) (input : Input) (h : Handled) → Takes choice E own input h → h.own.link.client ≡ own.link.client
taken_keeps choice E own (Frame frame) h takes = handled_keeps choice E own frame h takes
taken_keeps choice E own (Message apdu) h (o, meets, is) = ap (λ (x : Handled). x.own.link.client) is
taken_keeps choice E own Loss h takes = ap (λ (x : Handled). x.own.link.client) (by_link choice takes)

acts_keep : (acts : List OwnAct) (own own' : ClientRecord) → OnItsOwn own acts own' → own'.link.client ≡ own.link.client
acts_keep [] own own' is = ap (λ (r : ClientRecord). r.link.client) is
acts_keep (act ∷ acts) own own' (mid, takes, more) =
    acts_keep acts mid own' more
    ∙ taken_keeps act.choice act.prompt.before own act.prompt.input (record { own = mid; reply = act.reply; answer = act.answer; accepted = act.accepted }) takes

history_own : (w w' : MeterWorld) (acts : List Act) → History w acts w' → AreOwn w → AreOwn w'
history_own w w' acts history own = λ who. acts_keep (own_acts who w acts w' history) (w.records who) (w'.records who) (on_their_own who w w' acts history) ∙ own who

eras_own : (w w' : MeterWorld) (eras : List Era) → Eras w eras w' → AreOwn w → AreOwn w'
eras_own w w' [] is own = subst AreOwn (sym is) own
eras_own w w' (era ∷ eras) (is, more) own = eras_own (recovered era.found) w' eras more (recovered_own era.found)

pub own_in_eras : AreOwnInEras
own_in_eras w last eras acts is history = history_own w last acts history (eras_own first_world w eras is first_own)

-- ---- one APDU after another

exchanged_in_turn : (is_short : Bool) (x : Exchange) (s : SessionValue) → MeetsBy is_short x.choice x.before s x.apdu x.outcome → InTurn s (exchanged is_short x) x.outcome.own
exchanged_in_turn true x s meets = (meets, refl)
exchanged_in_turn false x s meets = ap (λ (o : Outcome). o.own) (by_link x.choice meets)

act_in_turn : (who : Client) (w w' : MeterWorld) (act : Act) (makes : Makes w act w') → InTurn (w.records who).session (own_by who w act w' makes) (w'.records who).session
act_in_turn who w w' (OverLinks step) leads = step_in_turn who w w' step leads
act_in_turn who w w' (Asks other apdu answer) is =
    let x : Exchange = record { apdu = apdu; before = events_of w; choice = is.choice; outcome = is.outcome } in
    let xs = exchanged (nat_le (length apdu) MOST_OCTETS) x in
    subst (λ (v : MeterWorld). InTurn (w.records who).session (if is_same other who then xs else []) (v.records who).session) (sym is.same)
    (own_in_turn who other w.records (is_same other who) xs (answers (w.records other) is.outcome).own refl
    (exchanged_in_turn (nat_le (length apdu) MOST_OCTETS) x (w.records other).session is.meets))
act_in_turn who w w' (Disconnects other) is =
    subst (λ (v : MeterWorld). InTurn (w.records who).session (if is_same other who then Cleared ∷ [] else []) (v.records who).session) (sym is)
    (own_in_turn who other w.records (is_same other who) (Cleared ∷ []) (disconnected_record (w.records other)) refl refl)

pub all_in_turn : AllInTurn
all_in_turn who w w' [] history = ap (λ (v : MeterWorld). (v.records who).session) history
all_in_turn who w w' (act ∷ acts) (mid, makes, more) =
    then_own (w.records who).session (mid.records who).session (w'.records who).session (own_by who w act mid makes) (own_of_all who mid acts w' more)
    (act_in_turn who w mid act makes) (all_in_turn who mid w' acts more)

pub all_blocks_join : AllBlocksJoin
all_blocks_join who w w' acts history =
    join_blocks who (w.records who).session (w'.records who).session (own_of_all who w acts w' history) (all_in_turn who w w' acts history)

pub none_unasked : NoneUnasked
none_unasked who w w' acts history gone none =
    no_block_given (own_of_all who w acts w' history) (w.records who).session (w'.records who).session gone (all_in_turn who w w' acts history) none
