-- The invariant of the world, kept by each step.
use Rattle.std.proofs.Common.{◌≡◌, ℕ, ◌&&◌, Bool, true, List, [], ◌∷◌, ◌++◌, refl, sym, ◌∙◌, ap, subst}
use Rattle.std.proofs.lemmas.List.{append-nil}
use Rattle.dlms_frame.specs.declared.client.Client.{Client}
use Rattle.dlms_frame.specs.Frame.{Parts}
use Rattle.dlms_headend.specs.Asking.{PlanValue}
use Rattle.dlms_headend.specs.declared.plan.Columns.{Columns}
use Rattle.dlms_headend.specs.declared.stage.Course.{Course}
use Rattle.dlms_headend.specs.declared.stage.Course.TheVariants.{Ready, Running, Done, Failed}
use Rattle.dlms_link.specs.Client.{ClientRecord}
use Rattle.dlms_link.specs.Server.{ServerRecord, server_on}
use Rattle.dlms_link.specs.World.{LinkWorld as Link, happens, LinkEvent, Connect, Give, Disconnect, ReachesMeter, ReachesClient, LostUp, LostDown, TimesOut, Restarts, Intrudes, start, reaches_meter, intrudes}
use Rattle.dlms_link.specs.declared.phase.Phase.{Phase}
use Rattle.dlms_link.specs.declared.phase.Phase.TheVariants.{Closed, Connecting, Open, Closing}
use Rattle.dlms_link.specs.declared.out.LinkOut.{LinkOut}
use Rattle.dlms_link.specs.declared.out.LinkOut.TheVariants.{Nothing, Reply, Apdu, Oversize, BadLlc, Up, Down}
use Rattle.dlms_link.proofs.Sound.{Sound, Away}
use Rattle.dlms_link.proofs.Steps.{keep as link_keeps}
use Rattle.dlms_meter.specs.Transfers.{Exchange}
use Rattle.dlms_meter.specs.Run.{Choice}
use Rattle.dlms_service.specs.Stake.{is_success}
use Rattle.dlms_service.specs.Session.{SessionValue, Outcome, fresh}
use Rattle.dlms_state.specs.declared.event.Event.{Event}
use Rattle.dlms_store.specs.World.{StoreWorld as Store, IsBeginning}
use Rattle.dlms_world.specs.World.{World, settled_in, Remembers}
use Rattle.dlms_meter.specs.Run.{events_in}
use Rattle.dlms_world.specs.Turn.{Turn, Begins, GoesOn, AsksNext, Leaves, Ends, FailsAt, TimedOut, GivesUp, TurnsTo, Merges, LosesUp, LosesDown, Arrives, Intruded, OtherSends, Happens, Works, StopsInside, Restarted, Takes, served_by, still_ours}
use Rattle.dlms_world.proofs.Growing.{grows, run_grows, through, same as same_events, all_settled}
use Rattle.dlms_world.proofs.Live.{live, allows, AllowsAt, server_stands, aside_same, live_before, IsAside, IsSame}
use Rattle.dlms_link.proofs.LineLaws.{quiet, IsQuiet}
use Rattle.dlms_world.proofs.Clients.{answers_stay, handles_own}
use Rattle.dlms_world.proofs.Records.{AreOwn, with_own}
use Rattle.dlms_world.proofs.Standing.{client_stands, waited, WaitsAt, IsAwaited}
use Rattle.dlms_world.proofs.Standing as standing
use Rattle.std.proofs.Common.{None}
use Rattle.dlms_link.specs.declared.out.ClientOut.TheVariants as out
use Rattle.dlms_link.specs.Client.{client_step}
use Rattle.dlms_link.specs.declared.out.ClientOut.{ClientOut}
use Rattle.dlms_link.specs.World.{client_does, reaches_client}
use Rattle.dlms_headend.specs.declared.poll_fault.PollFault.{PollFault}
use Rattle.dlms_world.specs.Turn.{Fails, IsOver, records_in}
use Rattle.dlms_link.proofs.LineLaws.{silent, IsSilent, resting, IsResting}
use Rattle.dlms_world.proofs.Chains as chain
use Rattle.dlms_world.proofs.Chains.{Chain, asked_in, told_in}
use Rattle.dlms_world.proofs.Asked as asking
use Rattle.dlms_world.proofs.Asked.{Fit, FitsBy, Answered, Waits, IsSameThere}

-- ---- what is settled only grows

remembered : (before : Store) (taken : List Event) (after : Store) → Remembers before taken after → IsBeginning (settled_in before) (settled_in after)
remembered before taken after r = run_grows before r.steps after r.run

pub settles_on : {w now : World} → Turn w now → IsBeginning (settled_in w.memory) (settled_in now.memory)
settles_on (Begins w ready) = same_events (settled_in w.memory)
settles_on (GoesOn w frame rest runs line own) = same_events (settled_in w.memory)
settles_on (AsksNext w frame rest apdu short runs line free asks) = same_events (settled_in w.memory)
settles_on (Leaves w frame rest rows runs line free released) = same_events (settled_in w.memory)
settles_on (Ends w frame rest rows runs line down released) = same_events (settled_in w.memory)
settles_on (FailsAt w frame rest fault runs line fails) = same_events (settled_in w.memory)
settles_on (TimedOut w runs up) = same_events (settled_in w.memory)
settles_on (GivesUp w fault runs closed) = same_events (settled_in w.memory)
settles_on (TurnsTo w plan up down) = same_events (settled_in w.memory)
settles_on (Merges w kept done some) = same_events (settled_in w.memory)
settles_on (LosesUp w) = same_events (settled_in w.memory)
settles_on (LosesDown w) = same_events (settled_in w.memory)
settles_on (Arrives w frame rest choice o memory line takes) = remembered w.memory o.accepted memory takes.remembers
settles_on (Intruded w frame choice o memory between closed takes) = remembered w.memory o.accepted memory takes.remembers
settles_on (OtherSends w other frame choice own reply answer accepted memory on differs of handles remembers) = remembered w.memory accepted memory remembers
settles_on (Happens w event memory on follows remembers) = remembered w.memory (event ∷ []) memory remembers
settles_on (Works w memory on remembers) = remembered w.memory [] memory remembers
settles_on (StopsInside w accepted mid memory on remembers stops) =
    through (settled_in w.memory) (settled_in mid) (settled_in memory) (remembered w.memory accepted mid remembers) (grows mid _ memory stops)
settles_on (Restarted w step memory unusual next) = grows w.memory step memory next

-- ---- the link, and whose it is

pub record Linked (who : Client) (w : World) : Type 0 where
  pub sound : Sound who w.link
  pub plan : w.plan.client ≡ who
  pub session : w.session.client ≡ who
  pub others : AreOwn w.others

-- the client of the poll after a step
abbrev pub whose_after : Client → {w now : World} → Turn w now → Client
whose_after who (TurnsTo w plan up down) = plan.client
whose_after who _ = who

-- the meter's end of a line is that of its client
pub whose_meter : (who : Client) (link : Link) → Sound who link → link.meter.client ≡ who
whose_meter who link (Away m x asked served answers taken ps pt) = refl
whose_meter who link _ = refl

-- and of a new one's
pub new_sound : (who : Client) (m : ServerRecord) (up down : List Parts) → m.client ≡ who → up ≡ [] → down ≡ [] → Sound who (record (start who) { meter = m; up_line = up; down_line = down })
new_sound who m up down is no_up no_down =
    subst (λ (frames : List Parts). Sound who (record (start who) { meter = m; up_line = frames; down_line = down })) (sym no_up)
    (subst (λ (frames : List Parts). Sound who (record (start who) { meter = m; down_line = frames })) (sym no_down)
    (subst (λ (r : ServerRecord). Sound who (record (start who) { meter = r })) (ap (λ (c : Client). record m { client = c }) (sym is)) (Away m [] [] [] [] [] ([], refl) ([], refl))))

pub all_own : (who : Client) (w : World) → Linked who w → AreOwn (records_in w)
all_own who w l = with_own w.others w.plan.client (record { link = w.link.meter; session = w.session }) l.others (whose_meter who w.link l.sound ∙ sym l.plan) (l.session ∙ sym l.plan)

pub linked : (who : Client) {w now : World} (turn : Turn w now) → Linked who w → Linked (whose_after who turn) now
linked who (Begins w ready) l = record { sound = link_keeps who Connect l.sound; plan = l.plan; session = l.session; others = l.others }
linked who (GoesOn w frame rest runs line own) l = record { sound = link_keeps who ReachesClient l.sound; plan = l.plan; session = l.session; others = l.others }
linked who (AsksNext w frame rest apdu short runs line free asks) l = record { sound = link_keeps who (Give apdu short) (link_keeps who ReachesClient l.sound); plan = l.plan; session = l.session; others = l.others }
linked who (Leaves w frame rest rows runs line free released) l = record { sound = link_keeps who Disconnect (link_keeps who ReachesClient l.sound); plan = l.plan; session = l.session; others = l.others }
linked who (Ends w frame rest rows runs line down released) l = record { sound = link_keeps who ReachesClient l.sound; plan = l.plan; session = l.session; others = l.others }
linked who (FailsAt w frame rest fault runs line fails) l = record { sound = link_keeps who ReachesClient l.sound; plan = l.plan; session = l.session; others = l.others }
linked who (TimedOut w runs up) l = record { sound = link_keeps who TimesOut l.sound; plan = l.plan; session = l.session; others = l.others }
linked who (GivesUp w fault runs closed) l = record { sound = link_keeps who TimesOut l.sound; plan = l.plan; session = l.session; others = l.others }
linked who (TurnsTo w plan up down) l =
    let own : AreOwn (records_in w) = all_own who w l in
    record { sound = new_sound plan.client (records_in w plan.client).link w.link.up_line w.link.down_line (own plan.client).0 up down; plan = refl; session = (own plan.client).1; others = own }
linked who (Merges w kept done some) l = record { sound = l.sound; plan = l.plan; session = l.session; others = l.others }
linked who (LosesUp w) l = record { sound = link_keeps who LostUp l.sound; plan = l.plan; session = l.session; others = l.others }
linked who (LosesDown w) l = record { sound = link_keeps who LostDown l.sound; plan = l.plan; session = l.session; others = l.others }
linked who (Arrives w frame rest choice o memory line takes) l = record {
  sound = link_keeps who (ReachesMeter o.answer takes.short) l.sound;
  plan = l.plan;
  session = answers_stay choice (events_in w.memory) (server_on w.link.meter frame).0 w.session (server_on w.link.meter frame).1 o takes.answers ∙ l.session;
  others = l.others;
}
linked who (Intruded w frame choice o memory between closed takes) l = record {
  sound = link_keeps who (Intrudes frame o.answer) l.sound;
  plan = l.plan;
  session = answers_stay choice (events_in w.memory) (server_on w.link.meter frame).0 w.session (server_on w.link.meter frame).1 o takes.answers ∙ l.session;
  others = l.others;
}
linked who (OtherSends w other frame choice own reply answer accepted memory on differs of handles remembers) l =
    let kept = handles_own choice (events_in w.memory) (w.others other) frame (record { own = own; reply = reply; answer = answer; accepted = accepted }) handles in
    record { sound = l.sound; plan = l.plan; session = l.session; others = with_own w.others other own l.others (kept.0 ∙ (l.others other).0) (kept.1 ∙ (l.others other).1) }
linked who (Happens w event memory on follows remembers) l = record { sound = l.sound; plan = l.plan; session = l.session; others = l.others }
linked who (Works w memory on remembers) l = record { sound = l.sound; plan = l.plan; session = l.session; others = l.others }
linked who (StopsInside w accepted mid memory on remembers stops) l = record { sound = link_keeps who Restarts l.sound; plan = l.plan; session = l.session; others = λ c. (refl, refl) }
linked who (Restarted w step memory unusual next) l = record { sound = link_keeps who Restarts l.sound; plan = l.plan; session = l.session; others = λ c. (refl, refl) }

-- ---- where the poll stands

abbrev pub StandsBy : Course → PlanValue → Link → Type 0
StandsBy Ready plan link = link.client.phase ≡ Closed
StandsBy Running plan link = Fit plan link
StandsBy Done plan link = link.client.waits ≡ None
StandsBy (Failed fault) plan link = link.client.waits ≡ None

same_stands : (course : Course) (plan : PlanValue) (before after : Link) → IsSameThere before after → StandsBy course plan before → StandsBy course plan after
same_stands Ready plan before after is s = ap (λ (c : ClientRecord). c.phase) is.client ∙ s
same_stands Running plan before after is s = asking.same_fit plan before after is s
same_stands Done plan before after is s = ap (λ (c : ClientRecord). c.waits) is.client ∙ s
same_stands (Failed fault) plan before after is s = ap (λ (c : ClientRecord). c.waits) is.client ∙ s

runs_fit : (course : Course) (plan : PlanValue) (link : Link) → course ≡ Running → StandsBy course plan link → Fit plan link
runs_fit course plan link runs s = subst (λ c. StandsBy c plan link) runs s

fits_run : (course : Course) (plan : PlanValue) (link : Link) → course ≡ Running → Fit plan link → StandsBy course plan link
fits_run course plan link runs fit = subst (λ c. StandsBy c plan link) (sym runs) fit

awaited : (who : Client) (link : Link) (frame : Parts) (rest : List Parts) → Sound who link → link.down_line ≡ frame ∷ rest → IsAwaited link.client.waits
awaited who link frame rest sound line = subst (λ l. WaitsAt l link.client.waits) line (waited who sound)

-- a poll that is over awaits nothing, and nothing is on the line
over_waits : (course : Course) (plan : PlanValue) (link : Link) → IsOver course → StandsBy course plan link → link.client.waits ≡ None
over_waits Ready plan link over s = absurd over
over_waits Running plan link over s = absurd over
over_waits Done plan link over s = s
over_waits (Failed fault) plan link over s = s

pub over_silent : (who : Client) (course : Course) (plan : PlanValue) (link : Link) → Sound who link → IsOver course → StandsBy course plan link → (link.up_line ≡ []) × (link.down_line ≡ [])
over_silent who course plan link sound over s = subst (λ v. IsSilent v link.up_line link.down_line) (over_waits course plan link over s) (silent who sound)

does_client : (link : Link) (result : ClientOut) → (client_does link result).client ≡ link.client
does_client link out.Nothing = refl
does_client link out.Up = refl
does_client link (out.Send f) = refl
does_client link out.Apdu = refl
does_client link out.Down = refl

reached_client : (link : Link) (frame : Parts) (rest : List Parts) → link.down_line ≡ frame ∷ rest → (happens link ReachesClient).client ≡ (client_step link.client frame).0
reached_client link frame rest line =
    subst (λ l. (reaches_client link l).client ≡ (client_step link.client frame).0) (sym line) (does_client (record link { client = (client_step link.client frame).0; down_line = rest }) (client_step link.client frame).1)

fails_waits : (old new : ClientRecord) (result : ClientOut) (columns : Columns) (taken : List (List ℕ)) (link : Link) (fault : PollFault) → standing.Stands old result new → Fails columns taken link fault result → new.waits ≡ None
fails_waits old new out.Nothing columns taken link fault is none = absurd none
fails_waits old new out.Up columns taken link fault is none = absurd none
fails_waits old new (out.Send f) columns taken link fault is none = absurd none
fails_waits old new out.Apdu columns taken link fault is fails = is.1.1
fails_waits old new out.Down columns taken link fault is fails = is.1

nothing_there : (link : Link) → IsSameThere link link
nothing_there link = record { client = refl; asked = refl; taken = refl }

pub stands : (who : Client) {w now : World} → Turn w now → Linked who w → StandsBy w.course w.plan w.link → StandsBy now.course now.plan now.link
stands who (Begins w ready) l s = asking.begins w.plan w.link w.link.client.phase (subst (λ c. StandsBy c w.plan w.link) ready s)
stands who (GoesOn w frame rest runs line own) l s =
    fits_run w.course w.plan (happens w.link ReachesClient) runs (asking.goes_on w.plan w.link frame rest line (client_stands w.link.client frame) (awaited who w.link frame rest l.sound line) (runs_fit w.course w.plan w.link runs s) own)
stands who (AsksNext w frame rest apdu short runs line free asks) l s =
    fits_run w.course w.plan (happens (happens w.link ReachesClient) (Give apdu short)) runs (asking.gives_fit w.plan (happens w.link ReachesClient) apdu short (asking.freed w.plan w.link frame rest line (client_stands w.link.client frame) (awaited who w.link frame rest l.sound line) (runs_fit w.course w.plan w.link runs s) free) asks)
stands who (Leaves w frame rest rows runs line free released) l s =
    fits_run w.course w.plan (happens (happens w.link ReachesClient) Disconnect) runs (asking.leaves_fit w.plan (happens w.link ReachesClient) (asking.freed w.plan w.link frame rest line (client_stands w.link.client frame) (awaited who w.link frame rest l.sound line) (runs_fit w.course w.plan w.link runs s) free))
stands who (Ends w frame rest rows runs line down released) l s =
    ap (λ (c : ClientRecord). c.waits) (reached_client w.link frame rest line) ∙ (subst (λ r. standing.Stands w.link.client r (client_step w.link.client frame).0) down (client_stands w.link.client frame)).1
stands who (FailsAt w frame rest fault runs line fails) l s =
    ap (λ (c : ClientRecord). c.waits) (reached_client w.link frame rest line) ∙ fails_waits w.link.client (client_step w.link.client frame).0 (client_step w.link.client frame).1 w.plan.columns w.link.taken (happens w.link ReachesClient) fault (client_stands w.link.client frame) fails
stands who (TimedOut w runs up) l s = fits_run w.course w.plan (happens w.link TimesOut) runs (asking.late_fits w.plan w.link (runs_fit w.course w.plan w.link runs s) up)
stands who (GivesUp w fault runs closed) l s = subst (λ p. IsResting p (happens w.link TimesOut).client.waits) closed (resting who (link_keeps who TimesOut l.sound))
stands who (TurnsTo w plan up down) l s = refl
stands who (Merges w kept done some) l s = s
stands who (LosesUp w) l s = same_stands w.course w.plan w.link (happens w.link LostUp) (record { client = refl; asked = refl; taken = refl }) s
stands who (LosesDown w) l s = same_stands w.course w.plan w.link (happens w.link LostDown) (record { client = refl; asked = refl; taken = refl }) s
stands who (Arrives w frame rest choice o memory line takes) l s = same_stands w.course w.plan w.link (happens w.link (ReachesMeter o.answer takes.short)) (asking.meter_there w.link o.answer w.link.up_line) s
stands who (Intruded w frame choice o memory between closed takes) l s = same_stands w.course w.plan w.link (happens w.link (Intrudes frame o.answer)) (asking.intrudes_there w.link frame o.answer w.link.client.phase) s
stands who (OtherSends w other frame choice own reply answer accepted memory on differs of handles remembers) l s = s
stands who (Happens w event memory on follows remembers) l s = s
stands who (Works w memory on remembers) l s = s
stands who (StopsInside w accepted mid memory on remembers stops) l s = same_stands w.course w.plan w.link (happens w.link Restarts) (record { client = refl; asked = refl; taken = refl }) s
stands who (Restarted w step memory unusual next) l s = same_stands w.course w.plan w.link (happens w.link Restarts) (record { client = refl; asked = refl; taken = refl }) s

-- ---- what was served

ready_closed : (w : World) → w.course ≡ Ready → StandsBy w.course w.plan w.link → w.link.client.phase ≡ Closed
ready_closed w ready s = subst (λ c. StandsBy c w.plan w.link) ready s

closed_silent : (who : Client) (link : Link) → Sound who link → link.client.phase ≡ Closed → link.down_line ≡ []
closed_silent who link sound closed = (subst (λ p. IsQuiet p link.up_line link.down_line) closed (quiet who sound)).1

reached_aside : (who : Client) (link : Link) (e : LinkEvent) → IsAside e → Sound who link → (ours : Bool) (session : SessionValue) (served : List Exchange) → Chain who link ours session served → Chain who (happens link e) ours session served
reached_aside who link e a sound ours session served c = chain.aside who link (happens link e) ours session served c (aside_same link e a) (live_before who e a sound)

intrudes_dead : (link : Link) (f : Parts) (answer : List ℕ) (phase : Phase) → link.client.phase ≡ phase → phase ≡ Closed → live (intrudes link f answer phase) ≡ true → ⊥
intrudes_dead link f answer Closed is closed h =
    Rattle.dlms_world.proofs.Live.nothing_true (intrudes link f answer Closed).meter.up (subst (λ p. ((intrudes link f answer Closed).meter.up && Rattle.dlms_world.proofs.Live.is_linked p link.down_line) ≡ true) is h)
intrudes_dead link f answer Connecting is closed h = cc
intrudes_dead link f answer Open is closed h = cc
intrudes_dead link f answer Closing is closed h = cc

intrudes_served : (link : Link) (f : Parts) (answer : List ℕ) (phase : Phase) → ((intrudes link f answer phase).served ≡ link.served) × ((intrudes link f answer phase).answers ≡ link.answers)
intrudes_served link f answer Closed = (refl, refl)
intrudes_served link f answer Connecting = (refl, refl)
intrudes_served link f answer Open = (refl, refl)
intrudes_served link f answer Closing = (refl, refl)

restarts_dead : (link : Link) → live (happens link Restarts) ≡ true → ⊥
restarts_dead link h = cc

abbrev pub Chained : Client → World → Type 0
Chained who w = Chain who w.link w.ours w.session w.served

pub chained : (who : Client) {w now : World} (turn : Turn w now) → Linked who w → StandsBy w.course w.plan w.link → Chained who w → Chained (whose_after who turn) now
chained who (Begins w ready) l s c =
    let closed : w.link.client.phase ≡ Closed = ready_closed w ready s in
    chain.begins who w.link w.session w.link.client.phase closed (closed_silent who w.link l.sound closed)
chained who (GoesOn w frame rest runs line own) l s c = reached_aside who w.link ReachesClient tt l.sound w.ours w.session w.served c
chained who (AsksNext w frame rest apdu short runs line free asks) l s c =
    reached_aside who (happens w.link ReachesClient) (Give apdu short) tt (link_keeps who ReachesClient l.sound) w.ours w.session w.served (reached_aside who w.link ReachesClient tt l.sound w.ours w.session w.served c)
chained who (Leaves w frame rest rows runs line free released) l s c =
    reached_aside who (happens w.link ReachesClient) Disconnect tt (link_keeps who ReachesClient l.sound) w.ours w.session w.served (reached_aside who w.link ReachesClient tt l.sound w.ours w.session w.served c)
chained who (Ends w frame rest rows runs line down released) l s c = reached_aside who w.link ReachesClient tt l.sound w.ours w.session w.served c
chained who (FailsAt w frame rest fault runs line fails) l s c = reached_aside who w.link ReachesClient tt l.sound w.ours w.session w.served c
chained who (TimedOut w runs up) l s c = reached_aside who w.link TimesOut tt l.sound w.ours w.session w.served c
chained who (GivesUp w fault runs closed) l s c = reached_aside who w.link TimesOut tt l.sound w.ours w.session w.served c
chained who (TurnsTo w plan up down) l s c = chain.anew plan.client (records_in w plan.client).link w.link.up_line w.link.down_line (records_in w plan.client).session
chained who (Merges w kept done some) l s c = c
chained who (LosesUp w) l s c = reached_aside who w.link LostUp tt l.sound w.ours w.session w.served c
chained who (LosesDown w) l s c = reached_aside who w.link LostDown tt l.sound w.ours w.session w.served c
chained who (Arrives w frame rest choice o memory line takes) l s c =
    let done = server_on w.link.meter frame in
    let allowed = subst (λ lines. AllowsAt w.link lines) line (allows who l.sound) in
    subst (λ lines. Chain who (reaches_meter w.link o.answer lines) (still_ours w.ours done.1) o.own (w.served ++ served_by choice (events_in w.memory) done.0 done.1 o)) (sym line)
    (chain.arrives who w.link done.0 rest choice (events_in w.memory) w.session done.1 o w.ours w.served c (server_stands w.link.meter frame) allowed takes.answers l.session)
chained who (Intruded w frame choice o memory between closed takes) l s c =
    let same = intrudes_served w.link frame o.answer w.link.client.phase in
    chain.broken who w.link (happens w.link (Intrudes frame o.answer)) w.ours w.session o.own w.served c same.0 same.1 (intrudes_dead w.link frame o.answer w.link.client.phase refl closed)
chained who (OtherSends w other frame choice own reply answer accepted memory on differs of handles remembers) l s c = c
chained who (Happens w event memory on follows remembers) l s c = c
chained who (Works w memory on remembers) l s c = c
chained who (StopsInside w accepted mid memory on remembers stops) l s c =
    chain.broken who w.link (happens w.link Restarts) w.ours w.session (fresh w.session.client) w.served c refl refl (restarts_dead w.link)
chained who (Restarted w step memory unusual next) l s c =
    chain.broken who w.link (happens w.link Restarts) w.ours w.session (fresh w.session.client) w.served c refl refl (restarts_dead w.link)

-- ---- the events behind answers of success or data are settled

abbrev pub DataSettled : Store → List Exchange → Type 0
DataSettled memory [] = Unit {0}
DataSettled memory (x ∷ served) = (is_success x.outcome.answer ≡ true → IsBeginning x.before (settled_in memory)) × DataSettled memory served

pub still_settled : (before after : Store) (served : List Exchange) → IsBeginning (settled_in before) (settled_in after) → DataSettled before served → DataSettled after served
still_settled before after [] grown d = tt
still_settled before after (x ∷ served) grown d = (λ success. through x.before (settled_in before) (settled_in after) (d.0 success) grown, still_settled before after served grown d.1)

one_settled : (memory : Store) (served : List Exchange) (x : Exchange) → DataSettled memory served → (is_success x.outcome.answer ≡ true → IsBeginning x.before (settled_in memory)) → DataSettled memory (served ++ x ∷ [])
one_settled memory [] x d new = (new, tt)
one_settled memory (y ∷ served) x d new = (d.0, one_settled memory served x d.1 new)

more_settled : (memory : Store) (served : List Exchange) (choice : Choice) (E : List Event) (r : ServerRecord) (result : LinkOut) (o : Outcome) → DataSettled memory served → (is_success o.answer ≡ true → IsBeginning E (settled_in memory)) →
    DataSettled memory (served ++ served_by choice E r result o)
more_settled memory served choice E r Apdu o d new = one_settled memory served (record { apdu = r.apdu; before = E; choice = choice; outcome = o }) d new
more_settled memory served choice E r Nothing o d new = subst (DataSettled memory) (sym (append-nil served)) d
more_settled memory served choice E r (Reply f) o d new = subst (DataSettled memory) (sym (append-nil served)) d
more_settled memory served choice E r Oversize o d new = subst (DataSettled memory) (sym (append-nil served)) d
more_settled memory served choice E r BadLlc o d new = subst (DataSettled memory) (sym (append-nil served)) d
more_settled memory served choice E r (Up f) o d new = subst (DataSettled memory) (sym (append-nil served)) d
more_settled memory served choice E r (Down f) o d new = subst (DataSettled memory) (sym (append-nil served)) d

-- what was events_in before an answer of data is settled after it
promised : (w : World) (frame : Parts) (choice : Choice) (o : Outcome) (memory : Store) → Takes w frame choice o memory → is_success o.answer ≡ true → IsBeginning (events_in w.memory) (settled_in memory)
promised w frame choice o memory takes success = (o.accepted, sym takes.remembers.all ∙ all_settled memory (takes.promise success))

pub data_settled : {w now : World} → Turn w now → DataSettled w.memory w.served → DataSettled now.memory now.served
data_settled (Begins w ready) d = tt
data_settled (GoesOn w frame rest runs line own) d = d
data_settled (AsksNext w frame rest apdu short runs line free asks) d = d
data_settled (Leaves w frame rest rows runs line free released) d = d
data_settled (Ends w frame rest rows runs line down released) d = d
data_settled (FailsAt w frame rest fault runs line fails) d = d
data_settled (TimedOut w runs up) d = d
data_settled (GivesUp w fault runs closed) d = d
data_settled (TurnsTo w plan up down) d = tt
data_settled (Merges w kept done some) d = d
data_settled (LosesUp w) d = d
data_settled (LosesDown w) d = d
data_settled (Arrives w frame rest choice o memory line takes) d =
    let done = server_on w.link.meter frame in
    more_settled memory w.served choice (events_in w.memory) done.0 done.1 o (still_settled w.memory memory w.served (remembered w.memory o.accepted memory takes.remembers) d) (promised w frame choice o memory takes)
data_settled (Intruded w frame choice o memory between closed takes) d = still_settled w.memory memory w.served (remembered w.memory o.accepted memory takes.remembers) d
data_settled (OtherSends w other frame choice own reply answer accepted memory on differs of handles remembers) d = still_settled w.memory memory w.served (remembered w.memory accepted memory remembers) d
data_settled (Happens w event memory on follows remembers) d = still_settled w.memory memory w.served (remembered w.memory (event ∷ []) memory remembers) d
data_settled (Works w memory on remembers) d = still_settled w.memory memory w.served (remembered w.memory [] memory remembers) d
data_settled (StopsInside w accepted mid memory on remembers stops) d =
    still_settled w.memory memory w.served (through (settled_in w.memory) (settled_in mid) (settled_in memory) (remembered w.memory accepted mid remembers) (grows mid _ memory stops)) d
data_settled (Restarted w step memory unusual next) d = still_settled w.memory memory w.served (grows w.memory step memory next) d
