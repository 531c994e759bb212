-- The calls of a meter are steps of the world.
use Rattle.std.proofs.Common.{arith, ◌≡◌, ◌⊎◌, ◌≤◌, inl, inr, ℕ, Bool, true, false, List, [], ◌∷◌, ◌++◌, length, Option, None, Some, Result, Ok, Err, refl, sym, subst, ap, ◌∙◌, append-nil}
use Rattle.std.specs.Prelude.{IfSome, ◌≢◌, if◌then◌else◌}
use Rattle.dlms_frame.specs.Frame.{Parts, spelling}
use Rattle.dlms_frame.specs.declared.client.Client.{Client}
use Rattle.dlms_link.specs.Server.{ServerRecord, server_on, server_send}
use Rattle.dlms_headend.specs.declared.stage.Course.TheVariants.{Running}
use Rattle.dlms_link.specs.World.{LinkWorld as Link, happens, ReachesMeter, Intrudes, reaches_meter, meter_does, intrudes, settled as settled_by}
use Rattle.dlms_link.specs.declared.phase.Phase.{Phase}
use Rattle.dlms_link.specs.declared.phase.Phase.TheVariants.{Closed}
use Rattle.dlms_link.specs.declared.out.LinkOut.{LinkOut}
use Rattle.dlms_link.specs.declared.out.LinkOut.TheVariants.{Nothing, Reply, Apdu, Oversize, BadLlc, Up, Down}
use Rattle.dlms_meter.specs.ClientRecord.{ClientRecord}
use Rattle.dlms_meter.specs.Run.{MeterWorld, Turn as MeterTurn, Records, Choice, Served, DeviceFails, Does, ByLink, Handled, Handles, Answered, sends, replies, Takes as MeterTakes, IsTurn, IsTaking, IsSettling, IsUnsettling, StoredFor, Stored, HasNoFrame, Promised, pending_in, events_in, events_of, after_turn, grown, with_record, is_same, client_at, Stands, Feeds, Fed, Judges, Judged, with_store, IsRunningIn, IsStoppedIn}
use Rattle.dlms_meter.specs.declared.meter.Meter.{Meter}
use Rattle.dlms_meter.proofs.Apart.{same-is, is_itself, not_same, differing}
use Rattle.dlms_meter.proofs.Events.{turn_events, added_one}
use Rattle.dlms_pages.specs.declared.device.Pages.{Ghosts}
use Rattle.dlms_service.specs.Session.{SessionValue, Outcome, fresh, not_possible, unknown_service}
use Rattle.dlms_service.specs.Stake.{is_success}
use Rattle.dlms_state.specs.Refusal.{IsLegal, MayFollow}
use Rattle.dlms_state.specs.declared.event.Event.{Event}
use Rattle.dlms_store.specs.Going.{Knows, IsAdd}
use Rattle.dlms_store.specs.World.{StoreWorld as Store, StoreStep, Next, StoreRun}
use Rattle.dlms_store.specs.World.StoreWorld.{Runs, InDoubt, Rests}
use Rattle.dlms_store.specs.World.StoreStep.{Settles, Fails as Fault, Refuses}
use Rattle.dlms_store.specs.declared.fault.AddFault.{AddFault}
use Rattle.dlms_store.specs.declared.fault.AddFault.TheVariants as add
use Rattle.dlms_world.specs.World.{World, IsOn, IsUsual, AreUsual, Remembers}
use Rattle.dlms_world.specs.Turn.{Arrives, Intruded, OtherSends, Happens, Works, Answers, Takes, silent}
use Rattle.dlms_world.specs.MeterTurns.{IsMeterOf, StepsTo, Puts, AnswersTo, StepsFrom, StepsAt, EndsInStep, IsToldIn, FeedsAreTurns, EventsAreTurns}
use Rattle.dlms_world.proofs.Clients.{by_link}

-- ---- what a store knows

-- a store that knows of a world is on, and its events are legal
pub known_on : {P A : Type 0} {ghosts : Ghosts P} (m : Meter P A ghosts) (memory : Store) → Knows m.store memory → IsOn memory
known_on m (Runs s p) knows = tt
known_on m (InDoubt s p) knows = tt
known_on m (Rests events) knows = knows

pub known_legal : {P A : Type 0} {ghosts : Ghosts P} (m : Meter P A ghosts) (memory : Store) → Knows m.store memory → IsLegal (events_in memory)
known_legal m (Runs s p) knows = knows.1.state.legal
known_legal m (InDoubt s p) knows = knows.1.state.legal
known_legal m (Rests events) knows = absurd knows

-- ---- the steps of a store are usual ones

pub add_usual : (event : Event) (step : StoreStep) → IsAdd event step → IsUsual step
add_usual event step (inl e) = subst IsUsual (sym e) tt
add_usual event step (inr e) = subst IsUsual (sym e) tt

both_usual : (first rest : List StoreStep) → AreUsual first → AreUsual rest → AreUsual (first ++ rest)
both_usual [] rest a b = b
both_usual (step ∷ first) rest a b = (a.0, both_usual first rest a.1 b)

taking_usual : (events : List Event) (steps : List StoreStep) → IsTaking events steps → AreUsual steps
taking_usual [] steps is = subst AreUsual (sym is) tt
taking_usual (event ∷ []) steps (step, is_add, is) = subst AreUsual (sym is) (add_usual event step is_add, tt)
taking_usual (event ∷ other ∷ more) steps is = absurd is

last_usual : (last : StoreStep) → (last ≡ Fault) ⊎ (last ≡ Refuses) → IsUsual last
last_usual last (inl e) = subst IsUsual (sym e) tt
last_usual last (inr e) = subst IsUsual (sym e) tt

for_usual : (b : Bool) (events : List Event) (steps : List StoreStep) → StoredFor b events steps → AreUsual steps
for_usual true events steps (taking, is, same) = subst AreUsual (sym same) (both_usual taking (Settles ∷ []) (taking_usual events taking is) (tt, tt))
for_usual false events steps (none, is) = subst AreUsual (sym is) tt

pub stored_usual : (choice : Choice) (answer : Option (List ℕ)) (events : List Event) (steps : List StoreStep) → Stored choice answer events steps → AreUsual steps
stored_usual choice None events steps (none, is) = subst AreUsual (sym is) tt
stored_usual (Served memory) (Some bytes) events steps stored = for_usual (is_success bytes) events steps stored
stored_usual (DeviceFails kept wanted) (Some bytes) events steps (taking, last, is, which, same) =
    subst AreUsual (sym same) (both_usual taking (last ∷ []) (taking_usual events taking is) (last_usual last which, tt))

remembered : (m : MeterWorld) (turn : MeterTurn) → IsTurn m turn → IsLegal (events_in turn.store) → Remembers m.store turn.accepted turn.store
remembered m turn is legal = record {
  steps = turn.steps;
  usual = stored_usual turn.choice turn.answer turn.accepted turn.steps is.stored;
  run = is.run;
  all = turn_events m turn is;
  legal = legal;
}

-- ---- a frame of the poller's client

-- the answer above the link to a frame
record Said (choice : Choice) (E : List Event) (r : ServerRecord) (s : SessionValue) (given : LinkOut) (h : Handled) : Type 0 where
  o : Outcome
  answers : Answers choice E r s given o
  accepted : h.accepted ≡ o.accepted
  session : h.own.session ≡ o.own
  link : (link : Link) → h.own.link ≡ (meter_does (record link { meter = r }) o.answer given).meter
  answer : (o.answer ≡ []) ⊎ (h.answer ≡ Some o.answer)
  puts : (link : Link) → Puts h.reply link.down_line (meter_does (record link { meter = r }) o.answer given).down_line

-- the link alone replies, or an answer goes out
abbrev same_said : (choice : Choice) (E : List Event) (r : ServerRecord) (s : SessionValue) (given : LinkOut) (h h' : Handled) → h ≡ h' → Said choice E r s given h' → Said choice E r s given h
same_said choice E r s given h h' is said = subst (λ (x : Handled). Said choice E r s given x) (sym is) said

made : (choice : Choice) (p : Type 0) → p → (what : Type 0) → ByLink choice what → ByLink choice p
made (Served memory) p is what done = is
made (DeviceFails kept wanted) p is what done = absurd done

said : (choice : Choice) (E : List Event) (r : ServerRecord) (s : SessionValue) (given : LinkOut) (h : Handled) → Answered choice E r s given h → Said choice E r s given h
said choice E r s Nothing h is = same_said choice E r s Nothing h _ (by_link choice (h ≡ replies r s None) is)
    (record { o = silent s; answers = made choice (silent s ≡ silent s) refl (h ≡ replies r s None) is; accepted = refl; session = refl; link = λ link. refl; answer = inl refl; puts = λ link. refl })
said choice E r s (Reply f) h is = same_said choice E r s (Reply f) h _ (by_link choice (h ≡ replies r s (Some (spelling f))) is)
    (record { o = silent s; answers = made choice (silent s ≡ silent s) refl (h ≡ replies r s (Some (spelling f))) is; accepted = refl; session = refl; link = λ link. refl; answer = inl refl; puts = λ link. (f, refl, refl) })
said choice E r s (Up f) h is = same_said choice E r s (Up f) h _ (by_link choice (h ≡ replies r (fresh s.client) (Some (spelling f))) is)
    (record { o = silent (fresh s.client); answers = made choice (silent (fresh s.client) ≡ silent (fresh s.client)) refl (h ≡ replies r (fresh s.client) (Some (spelling f))) is; accepted = refl; session = refl; link = λ link. refl; answer = inl refl; puts = λ link. (f, refl, refl) })
said choice E r s (Down f) h is = same_said choice E r s (Down f) h _ (by_link choice (h ≡ replies r (fresh s.client) (Some (spelling f))) is)
    (record { o = silent (fresh s.client); answers = made choice (silent (fresh s.client) ≡ silent (fresh s.client)) refl (h ≡ replies r (fresh s.client) (Some (spelling f))) is; accepted = refl; session = refl; link = λ link. refl; answer = inl refl; puts = λ link. (f, refl, refl) })
said choice E r s Apdu h (o, does, is) = same_said choice E r s Apdu h (sends r o) is (record { o = o; answers = does; accepted = refl; session = refl; link = λ link. refl; answer = inr refl; puts = λ link. ((server_send r o.answer).1, refl, refl) })
said choice E r s Oversize h is = same_said choice E r s Oversize h _ (by_link choice (h ≡ sends r (not_possible s)) is)
    (record { o = not_possible s; answers = made choice (not_possible s ≡ not_possible s) refl (h ≡ sends r (not_possible s)) is; accepted = refl; session = refl; link = λ link. refl; answer = inr refl; puts = λ link. ((server_send r (not_possible s).answer).1, refl, refl) })
said choice E r s BadLlc h is = same_said choice E r s BadLlc h _ (by_link choice (h ≡ sends r (unknown_service s)) is)
    (record { o = unknown_service s; answers = made choice (unknown_service s ≡ unknown_service s) refl (h ≡ sends r (unknown_service s)) is; accepted = refl; session = refl; link = λ link. refl; answer = inr refl; puts = λ link. ((server_send r (unknown_service s).answer).1, refl, refl) })

-- a property of an answer that goes out is one of the answer above the link
short_by : (answer : Option (List ℕ)) (bytes : List ℕ) → (bytes ≡ []) ⊎ (answer ≡ Some bytes) → IfSome answer (λ a. length a ≤ 1024) → length bytes ≤ 1024
short_by answer bytes (inl none) short = subst (λ (b : List ℕ). length b ≤ 1024) (sym none) (omega arith)
short_by answer bytes (inr is) short = subst (λ (a : Option (List ℕ)). IfSome a (λ b. length b ≤ 1024)) is short

not_said : is_success [] ≡ true → ⊥
not_said e = cc

promised_by : (answer : Option (List ℕ)) (bytes : List ℕ) (memory : Store) → (bytes ≡ []) ⊎ (answer ≡ Some bytes) → IfSome answer (λ a. is_success a ≡ true → pending_in memory ≡ []) → is_success bytes ≡ true → pending_in memory ≡ []
promised_by answer bytes memory (inl none) promise says = absurd (not_said (ap is_success (sym none) ∙ says))
promised_by answer bytes memory (inr is) promise says = subst (λ (a : Option (List ℕ)). IfSome a (λ b. is_success b ≡ true → pending_in memory ≡ [])) is promise says

-- the client whose record changed, and the others
own_record : (records : Records) (who : Client) (own : ClientRecord) → with_record records who own who ≡ own
own_record records who own = ap (λ (b : Bool). if b then own else records who) (is_itself who)

others_record : (records : Records) (who : Client) (own : ClientRecord) (other : Client) → other ≢ who → with_record records who own other ≡ records other
others_record records who own other differs = ap (λ (b : Bool). if b then own else records other) (differing who other differs)

-- the handling of a frame of the poller's client, and the answer above the link
record Taken (m : MeterWorld) (turn : MeterTurn) (w : World) (own : ClientRecord) : Type 0 where
  o : Outcome
  takes : Takes w turn.frame turn.choice o turn.store
  session : own.session ≡ o.own
  link : (link : Link) → own.link ≡ (meter_does (record link { meter = (server_on w.link.meter turn.frame).0 }) o.answer (server_on w.link.meter turn.frame).1).meter
  puts : (link : Link) → Puts turn.reply link.down_line (meter_does (record link { meter = (server_on w.link.meter turn.frame).0 }) o.answer (server_on w.link.meter turn.frame).1).down_line

taken : (m : MeterWorld) (turn : MeterTurn) (w : World) (own : ClientRecord) → IsMeterOf m w → IsOn w.memory → IsTurn m turn → Promised turn → IsLegal (events_in turn.store)
    → Handles turn.choice (events_of m) (m.records w.plan.client) turn.frame (record { own = own; reply = turn.reply; answer = turn.answer; accepted = turn.accepted }) → Taken m turn w own
taken m turn w own at on is promise legal handles =
    let h : Handled = record { own = own; reply = turn.reply; answer = turn.answer; accepted = turn.accepted } in
    let here : Handles turn.choice (events_in w.memory) (record { link = w.link.meter; session = w.session }) turn.frame h =
    subst (λ (E : Store). Handles turn.choice (events_in E) (record { link = w.link.meter; session = w.session }) turn.frame h) at.store (subst (λ (r : ClientRecord). Handles turn.choice (events_of m) r turn.frame h) at.own handles) in
    let done = server_on w.link.meter turn.frame in
    let x : Said turn.choice (events_in w.memory) done.0 w.session done.1 h = said turn.choice (events_in w.memory) done.0 w.session done.1 h here in
    let remembers : Remembers w.memory x.o.accepted turn.store =
    subst (λ (es : List Event). Remembers w.memory es turn.store) x.accepted (subst (λ (s : Store). Remembers s turn.accepted turn.store) at.store (remembered m turn is legal)) in
    record {
      o = x.o;
      takes = record {
        on = on;
        answers = x.answers;
        short = short_by turn.answer x.o.answer x.answer is.short;
        remembers = remembers;
        promise = promised_by turn.answer x.o.answer turn.store x.answer promise;
      };
      session = x.session;
      link = x.link;
      puts = x.puts;
    }

-- the others stay
others_stay : (m : MeterWorld) (turn : MeterTurn) (w : World) (own : ClientRecord) → IsMeterOf m w → turn.records ≡ with_record m.records w.plan.client own
    → (c : Client) → c ≢ w.plan.client → turn.records c ≡ w.others c
others_stay m turn w own at same c differs = ap (λ (r : Records). r c) same ∙ others_record m.records w.plan.client own c differs ∙ at.others c differs

-- what the meter does leaves the client's end as it is
abbrev reached_by : Link → Parts → List Parts → Link
reached_by link frame rest = record link { meter = (server_on link.meter frame).0; up_line = rest }

its_client : (link : Link) (answer : List ℕ) (given : LinkOut) → (meter_does link answer given).client ≡ link.client
its_client link answer Nothing = refl
its_client link answer _ = refl

its_taken : (link : Link) (answer : List ℕ) (given : LinkOut) → (meter_does link answer given).taken ≡ link.taken
its_taken link answer Nothing = refl
its_taken link answer _ = refl

its_line : (link : Link) (answer : List ℕ) (given : LinkOut) → (meter_does link answer given).up_line ≡ link.up_line
its_line link answer Nothing = refl
its_line link answer _ = refl

arrives : (m : MeterWorld) (turn : MeterTurn) (w : World) (rest : List Parts) (own : ClientRecord) → IsMeterOf m w → w.link.up_line ≡ turn.frame ∷ rest → Taken m turn w own → turn.records ≡ with_record m.records w.plan.client own
    → AnswersTo w rest turn.reply (after_turn m turn)
arrives m turn w rest own at line x same = (
  _,
  Arrives w turn.frame rest turn.choice x.o turn.store line x.takes,
  record {
    own = ap (λ (r : Records). r w.plan.client) same ∙ own_record m.records w.plan.client own
        ∙ ap (λ (l : ServerRecord). (let r : ClientRecord = record { link = l; session = own.session } in r)) (x.link (record w.link { up_line = rest }) ∙ ap (λ l. (reaches_meter w.link x.o.answer l).meter) (sym line))
        ∙ ap (λ (s : SessionValue). (let r : ClientRecord = record { link = (happens w.link (ReachesMeter x.o.answer x.takes.short)).meter; session = s } in r)) x.session;
    others = others_stay m turn w own at same;
    store = refl;
  },
  record {
    plan = refl;
    course = refl;
    rows = refl;
    file = refl;
    client = ap (λ l. (reaches_meter w.link x.o.answer l).client) line ∙ its_client (reached_by w.link turn.frame rest) x.o.answer (server_on w.link.meter turn.frame).1;
    taken = ap (λ l. (reaches_meter w.link x.o.answer l).taken) line ∙ its_taken (reached_by w.link turn.frame rest) x.o.answer (server_on w.link.meter turn.frame).1;
  },
  ap (λ l. (reaches_meter w.link x.o.answer l).up_line) line ∙ its_line (reached_by w.link turn.frame rest) x.o.answer (server_on w.link.meter turn.frame).1,
  subst (λ (l : List Parts). Puts turn.reply w.link.down_line (reaches_meter w.link x.o.answer l).down_line) (sym line) (x.puts (record w.link { up_line = rest })),
)

-- another hand's frame leaves the meter's end as the poller's own would
settled_meter : (link : Link) (r : ServerRecord) (answer : List ℕ) (given : LinkOut) → (meter_does (record link { meter = r }) answer given).meter ≡ settled_by r answer given
settled_meter link r answer Nothing = refl
settled_meter link r answer (Reply f) = refl
settled_meter link r answer (Up f) = refl
settled_meter link r answer (Down f) = refl
settled_meter link r answer Apdu = refl
settled_meter link r answer Oversize = refl
settled_meter link r answer BadLlc = refl

intruded : (m : MeterWorld) (turn : MeterTurn) (w : World) (own : ClientRecord) → IsMeterOf m w → w.course ≢ Running → w.link.client.phase ≡ Closed → Taken m turn w own → turn.records ≡ with_record m.records w.plan.client own
    → StepsTo w (after_turn m turn)
intruded m turn w own at idle closed x same =
    let done = server_on w.link.meter turn.frame in
    let here : settled_by done.0 x.o.answer done.1 ≡ (happens w.link (Intrudes turn.frame x.o.answer)).meter = ap (λ (p : Phase). (intrudes w.link turn.frame x.o.answer p).meter) (sym closed) in (
      _,
      Intruded w turn.frame turn.choice x.o turn.store idle closed x.takes,
      record {
        own = ap (λ (r : Records). r w.plan.client) same ∙ own_record m.records w.plan.client own
            ∙ ap (λ (l : ServerRecord). (let r : ClientRecord = record { link = l; session = own.session } in r)) (x.link w.link ∙ settled_meter w.link done.0 x.o.answer done.1 ∙ here)
            ∙ ap (λ (s : SessionValue). (let r : ClientRecord = record { link = (happens w.link (Intrudes turn.frame x.o.answer)).meter; session = s } in r)) x.session;
        others = others_stay m turn w own at same;
        store = refl;
      },
      record {
        plan = refl;
        course = refl;
        rows = refl;
        file = refl;
        client = ap (λ (p : Phase). (intrudes w.link turn.frame x.o.answer p).client) closed;
        taken = ap (λ (p : Phase). (intrudes w.link turn.frame x.o.answer p).taken) closed;
      },
      ap (λ (p : Phase). (intrudes w.link turn.frame x.o.answer p).up_line) closed,
      ap (λ (p : Phase). (intrudes w.link turn.frame x.o.answer p).down_line) closed,
    )

-- ---- a frame of another client

other_sends : (m : MeterWorld) (turn : MeterTurn) (w : World) (who : Client) (own : ClientRecord) → IsMeterOf m w → IsOn w.memory → IsTurn m turn → IsLegal (events_in turn.store) → who ≢ w.plan.client → client_at turn.frame.src ≡ Some who
    → Handles turn.choice (events_of m) (m.records who) turn.frame (record { own = own; reply = turn.reply; answer = turn.answer; accepted = turn.accepted })
    → turn.records ≡ with_record m.records who own → StepsTo w (after_turn m turn)
other_sends m turn w who own at on is legal differs from handles same =
    let h : Handled = record { own = own; reply = turn.reply; answer = turn.answer; accepted = turn.accepted } in
    let here : Handles turn.choice (events_in w.memory) (w.others who) turn.frame h =
    subst (λ (E : Store). Handles turn.choice (events_in E) (w.others who) turn.frame h) at.store (subst (λ (r : ClientRecord). Handles turn.choice (events_of m) r turn.frame h) (at.others who differs) handles) in
    let remembers : Remembers w.memory turn.accepted turn.store = subst (λ (s : Store). Remembers s turn.accepted turn.store) at.store (remembered m turn is legal) in (
      _,
      OtherSends w who turn.frame turn.choice own turn.reply turn.answer turn.accepted turn.store on differs from here remembers,
      record {
        own = ap (λ (r : Records). r w.plan.client) same ∙ others_record m.records who own w.plan.client (λ e. differs (sym e)) ∙ at.own;
        others = λ c apart. ap (λ (r : Records). r c) same ∙ ap (λ (kept : ClientRecord). if is_same who c then own else kept) (at.others c apart);
        store = refl;
      },
      record { plan = refl; course = refl; rows = refl; file = refl; client = refl; taken = refl },
      refl,
      refl,
    )

-- ---- a frame of anyone

still_its : (m m' : MeterWorld) (w : World) → IsMeterOf m w → m'.records ≡ m.records → m'.store ≡ m.store → IsMeterOf m' w
still_its m m' w at records store = record {
  own = ap (λ (r : Records). r w.plan.client) records ∙ at.own;
  others = λ c differs. ap (λ (r : Records). r c) records ∙ at.others c differs;
  store = store ∙ at.store;
}

of_client : (b : Bool) (m : MeterWorld) (turn : MeterTurn) (w : World) (who : Client) → is_same w.plan.client who ≡ b → IsMeterOf m w → IsOn w.memory → IsTurn m turn → Promised turn → IsLegal (events_in turn.store)
    → client_at turn.frame.src ≡ Some who → MeterTakes (events_of m) m.records turn (Some who) → StepsFrom b w turn.frame turn.reply (after_turn m turn)
of_client true m turn w who same at on is promise legal from (own, handles, records) =
    let it : who ≡ w.plan.client = sym (same-is w.plan.client who same) in
    let x = taken m turn w own at on is promise legal (subst (λ (c : Client). Handles turn.choice (events_of m) (m.records c) turn.frame (record { own = own; reply = turn.reply; answer = turn.answer; accepted = turn.accepted })) it handles) in
    let changed : turn.records ≡ with_record m.records w.plan.client own = subst (λ (c : Client). turn.records ≡ with_record m.records c own) it records in
    (λ rest line. arrives m turn w rest own at line x changed, λ idle closed. intruded m turn w own at idle closed x changed)
of_client false m turn w who same at on is promise legal from (own, handles, records) =
    other_sends m turn w who own at on is legal (not_same w.plan.client who same) from handles records

unstored : (choice : Choice) (answer : Option (List ℕ)) (events : List Event) (steps : List StoreStep) (before now : Store) → answer ≡ None → Stored choice answer events steps → StoreRun before steps now → now ≡ before
unstored choice None events steps before now none (nothing, is) run = subst (λ (xs : List StoreStep). StoreRun before xs now) is run
unstored choice (Some bytes) events steps before now none stored run = cc

pub at_client : (from : Option Client) (m : MeterWorld) (turn : MeterTurn) (w : World) → client_at turn.frame.src ≡ from → IsMeterOf m w → IsOn w.memory → IsTurn m turn → Promised turn → IsLegal (events_in turn.store)
    → MeterTakes (events_of m) m.records turn from → StepsAt from w turn.frame turn.reply (after_turn m turn)
at_client None m turn w from at on is promise legal (same, unsaid, unanswered, nothing) =
    (still_its m (after_turn m turn) w at same (unstored turn.choice turn.answer turn.accepted turn.steps m.store turn.store unanswered is.stored is.run), unsaid)
at_client (Some who) m turn w from at on is promise legal takes = of_client (is_same w.plan.client who) m turn w who refl at on is promise legal from takes

pub feeds_are_turns : {P A : Type 0} {ghosts : Ghosts P} (old new : Meter P A ghosts) → FeedsAreTurns old new
feeds_are_turns old new taken reply m w feeds stands at =
    let fed = feeds m stands in
    let on : IsOn w.memory = subst IsOn at.store (known_on old m.store stands.store) in
    (fed.0, fed.3, fed.4.fits, by_fed fed.0 fed.1 fed.2 fed.3.store on)
  where
    by_fed : (m' : MeterWorld) (steps : List StoreStep) → Fed (Rattle.dlms_meter.specs.Run.MayChoose old.store new.store) m taken reply steps m' → Knows new.store m'.store → IsOn w.memory
        → (HasNoFrame (m.stretch ++ taken) m.place × (reply ≡ None) × IsMeterOf m' w) ⊎ EndsInStep m taken w reply m'
    by_fed m' steps (inl (free, none, no_steps, is)) knows on = inl (free, none, still_its m m' w at (ap (λ (x : MeterWorld). x.records) is) (ap (λ (x : MeterWorld). x.store) is))
    by_fed m' steps (inr (turn, is_turn, may, promise, ends, told, same_steps, is)) knows on =
        let legal : IsLegal (events_in turn.store) = subst (λ (x : MeterWorld). IsLegal (events_in x.store)) is (known_legal new m'.store knows) in
        let grew : IsMeterOf (grown m taken) w = record { own = at.own; others = at.others; store = at.store } in
        let stepped : StepsAt (client_at turn.frame.src) w turn.frame turn.reply (after_turn (grown m taken) turn) =
        at_client (client_at turn.frame.src) (grown m taken) turn w refl grew on is_turn promise legal is_turn.takes in
        inr (
          turn.from,
          turn.to,
          turn.frame,
          is_turn.next,
          ends,
          subst (λ (o : Option (List ℕ)). StepsAt (client_at turn.frame.src) w turn.frame o m') (sym told) (subst (λ (x : MeterWorld). StepsAt (client_at turn.frame.src) w turn.frame turn.reply x) (sym is) stepped),
        )

-- ---- pulses and moments

follows : (E : List Event) (event : Event) → IsLegal (E ++ event ∷ []) → MayFollow E event
follows E event legal = legal.each E event [] refl

took : (m : MeterWorld) (event : Event) (step : StoreStep) (now : Store) → IsAdd event step → Next m.store step now → IsLegal (events_in now) → Remembers m.store (event ∷ []) now
took m event step now is_add next legal = record {
  steps = step ∷ [];
  usual = (add_usual event step is_add, tt);
  run = (now, next, refl);
  all = added_one step event m.store now is_add next;
  legal = legal;
}

pub fault_events : (before now : Store) → Next before Fault now → events_in now ≡ events_in before
fault_events (Runs s p) now next = ap events_in next
fault_events (InDoubt s p) now next = absurd next
fault_events (Rests events) now next = absurd next

failed : (before now : Store) → Next before Fault now → IsLegal (events_in now) → Remembers before [] now
failed before now next legal = record {
  steps = Fault ∷ [];
  usual = (tt, tt);
  run = (now, next, refl);
  all = fault_events before now next ∙ sym (append-nil (events_in before));
  legal = legal;
}

with_its : (m : MeterWorld) (w : World) (now : Store) → IsMeterOf m w → IsMeterOf (with_store m now) (record w { memory = now })
with_its m w now at = record { own = at.own; others = at.others; store = refl }

pub judged : (m : MeterWorld) (w : World) (event : Event) (outcome : Result (Unit {0}) AddFault) (step : StoreStep) (m' : MeterWorld) → IsMeterOf m w → IsOn w.memory → IsLegal (events_in m'.store) → Judged m event outcome step m'
    → IsToldIn w event outcome m'
judged m w event (Ok done) step m' at on legal (free, is_add, now, next, is) =
    let lawful : IsLegal (events_in now) = subst (λ (x : MeterWorld). IsLegal (events_in x.store)) is legal in
    let remembers : Remembers w.memory (event ∷ []) now = subst (λ (s : Store). Remembers s (event ∷ []) now) at.store (took m event step now is_add next lawful) in (
      record w { memory = now },
      Happens w event now on (follows (events_in w.memory) event (subst IsLegal remembers.all lawful)) remembers,
      subst (λ (x : MeterWorld). IsMeterOf x (record w { memory = now })) (sym is) (with_its m w now at),
      refl,
      remembers.all,
    )
judged m w event (Err (add.Refused cause)) step m' at on legal (runs, refused, none, is) = subst (λ (x : MeterWorld). IsMeterOf x w) (sym is) at
judged m w event (Err add.Device) step m' at on legal (free, fault, now, next, is) =
    let lawful : IsLegal (events_in now) = subst (λ (x : MeterWorld). IsLegal (events_in x.store)) is legal in
    let remembers : Remembers w.memory [] now = subst (λ (s : Store). Remembers s [] now) at.store (failed m.store now next lawful) in
    (record w { memory = now }, Works w now on remembers, subst (λ (x : MeterWorld). IsMeterOf x (record w { memory = now })) (sym is) (with_its m w now at), refl, remembers.all)
judged m w event (Err add.Stopped) step m' at on legal (stopped, none, is) = subst (λ (x : MeterWorld). IsMeterOf x w) (sym is) at
judged m w event (Err add.Exhausted) step m' at on legal (runs, free, none, is) = subst (λ (x : MeterWorld). IsMeterOf x w) (sym is) at

pub events_are_turns : {P A : Type 0} {ghosts : Ghosts P} (old new : Meter P A ghosts) → EventsAreTurns old new
events_are_turns old new event outcome m w judges stands at =
    let done = judges m stands in
    (done.0, done.4, done.5.fits, judged m w event outcome done.1 done.0 at (subst IsOn at.store (known_on old m.store stands.store)) (known_legal new done.0.store done.4.store) done.2)
