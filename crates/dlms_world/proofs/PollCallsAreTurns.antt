-- The calls of a poller are steps of the world.
use Rattle.std.proofs.Common.{◌≡◌, ◌≢◌, inl, inr, ℕ, ◌+◌, Bool, true, false, List, [], ◌∷◌, ◌++◌, Option, None, Some, Result, Ok, Err, refl, sym, subst, ap, ◌∙◌, nat_lt, append-nil}
use Rattle.std.specs.Prelude.{IsSome}
use Rattle.dlms_blocks.specs.Joining.{Joining}
use Rattle.dlms_frame.specs.Frame.{Parts}
use Rattle.dlms_headend.specs.Asking.{PlanValue}
use Rattle.dlms_headend.specs.Poll.{Asks, HasReleased}
use Rattle.dlms_headend.specs.PollerValue.{PollerValue}
use Rattle.dlms_headend.specs.Polling.{FitsIn, StandsAt, Goes, asks, leaves, SendsOn, HasFailed, GoesDown, Continues, Answers, PollsBy, PollsIn, WantsRequest, BeginsIn, TimesOutIn, TimesOutBy, CanTimeOutIn, with_link}
use Rattle.dlms_headend.specs.Talk.{FitsAt, Ends as EndsBy, fresh_talk}
use Rattle.dlms_headend.specs.TalkValue.{TalkValue}
use Rattle.dlms_headend.specs.declared.poll_fault.PollFault.{PollFault}
use Rattle.dlms_headend.specs.declared.poll_fault.PollFault.TheVariants.{Line, Protocol}
use Rattle.dlms_headend.specs.declared.row.Row.{Row}
use Rattle.dlms_headend.specs.declared.stage.Course.{Course}
use Rattle.dlms_headend.specs.declared.stage.Course.TheVariants.{Ready, Running, Done, Failed}
use Rattle.dlms_headend.specs.declared.plan.Columns.{Columns}
use Rattle.dlms_headend.specs.declared.stage.Stage.{Stage}
use Rattle.dlms_headend.specs.declared.stage.Stage.TheVariants.{Associating, Naming, Getting, Checking, Releasing, Leaving}
use Rattle.dlms_headend.specs.declared.step.PollStep.{PollStep}
use Rattle.dlms_headend.specs.declared.step.PollStep.TheVariants as step
use Rattle.dlms_headend.proofs.Told.{stage_told}
use Rattle.dlms_link.specs.Client.{ClientRecord, IsIdle, client_step, client_send, client_connect, client_disconnect, client_timeout, by_count, disc_of, snrm_of}
use Rattle.dlms_link.specs.World.{LinkWorld as Link, happens, Connect, Give, Disconnect, ReachesClient, TimesOut as LineTimesOut, connects, gives as link_gives, disconnects, client_does, reaches_client, resent, times_out, timed_out}
use Rattle.dlms_link.specs.declared.out.ClientOut.{ClientOut}
use Rattle.dlms_link.specs.declared.out.ClientOut.TheVariants as out
use Rattle.dlms_link.specs.declared.phase.Phase.{Phase}
use Rattle.dlms_link.specs.declared.phase.Phase.TheVariants.{Closed, Connecting, Open}
use Rattle.dlms_world.specs.World.{World}
use Rattle.dlms_world.specs.Turn.{Begins as BeginsTurn, GoesOn, AsksNext, Leaves, Ends, FailsAt, TimedOut, GivesUp, reached, gives, IsFree, IsOnItsOwn, Fails}
use Rattle.dlms_world.specs.PollTurns.{IsPollerOf, IsUnderWay, taken_by, IsAsideSame, TurnsInto, sent_first, sent_on, sent_again, NewIsFirst, NextIsTurn, OnIsTurn, TimeoutIsTurn}
use Rattle.dlms_world.proofs.Standing.{Stands, client_stands}
use Rattle.dlms_world.proofs.Records.{same_records}

-- ---- a poller and its world

-- the poll is under way
record Polls_in (w : World) (p : PollerValue) : Type 0 where
  plan : p.plan ≡ w.plan
  course : p.course ≡ Running
  link : p.link ≡ w.link.client
  fits : FitsIn Running p w.link.taken

under_way : (w : World) (p : PollerValue) → IsPollerOf p w → w.course ≡ Running → Polls_in w p
under_way w p is runs = record {
  plan = is.plan;
  course = is.course ∙ runs;
  link = is.link (subst IsUnderWay (sym runs) tt);
  fits = subst (λ (c : Course). FitsIn c p w.link.taken) (is.course ∙ runs) (subst (λ (c : Course). FitsIn p.course p (taken_by c w.link.taken)) runs is.fits);
}

running_poller : (now : World) (p : PollerValue) → p.plan ≡ now.plan → p.course ≡ Running → now.course ≡ Running → p.link ≡ now.link.client → FitsIn Running p now.link.taken → IsPollerOf p now
running_poller now p plan course runs link fits = record {
  plan = plan;
  course = course ∙ sym runs;
  link = λ u. link;
  rows = λ d. absurd (cc);
  fits = subst (λ (c : Course). FitsIn p.course p (taken_by c now.link.taken)) (sym runs) (subst (λ (c : Course). FitsIn c p now.link.taken) (sym course) fits);
}

failed_poller : (now : World) (p : PollerValue) (fault : PollFault) → p.plan ≡ now.plan → p.course ≡ Failed fault → now.course ≡ Failed fault → IsPollerOf p now
failed_poller now p fault plan course failed = record {
  plan = plan;
  course = course ∙ sym failed;
  link = λ u. absurd (subst IsUnderWay failed u);
  rows = λ d. absurd (cc);
  fits = subst (λ (c : Course). FitsIn c p (taken_by now.course now.link.taken)) (sym course) tt;
}

done_poller : (now : World) (p : PollerValue) → p.plan ≡ now.plan → p.course ≡ Done → now.course ≡ Done → p.talk.rows ≡ now.rows → HasReleased p.plan.columns now.link.taken p.talk.rows → IsPollerOf p now
done_poller now p plan course done rows released = record {
  plan = plan;
  course = course ∙ sym done;
  link = λ u. absurd (subst IsUnderWay done u);
  rows = λ d. rows;
  fits = subst (λ (c : Course). FitsIn p.course p (taken_by c now.link.taken)) (sym done) (subst (λ (c : Course). FitsIn c p now.link.taken) (sym course) released);
}

-- ---- a frame comes

-- the link after a frame, and its output
abbrev after : Link → ClientRecord → List Parts → ClientOut → Link
after link c rest o = client_does (record link { client = c; down_line = rest }) o

reaches : (link : Link) (frame : Parts) (rest : List Parts) → link.down_line ≡ frame ∷ rest → happens link ReachesClient ≡ after link (client_step link.client frame).0 rest (client_step link.client frame).1
reaches link frame rest line = ap (λ l. reaches_client link l) line

-- a request goes out on a link that awaits nothing
given : (link : Link) (apdu : List ℕ) → IsIdle link.client → link_gives link apdu link.client.phase link.client.waits ≡ link_gives link apdu Open None
given link apdu idle = ap (λ v. link_gives link apdu link.client.phase v) idle.1 ∙ ap (λ ph. link_gives link apdu ph None) idle.0

left : (link : Link) → IsIdle link.client → disconnects link link.client.phase link.client.waits ≡ disconnects link Open None
left link idle = ap (λ v. disconnects link link.client.phase v) idle.1 ∙ ap (λ ph. disconnects link ph None) idle.0

-- a step at the oldest frame
record Frame_at (w : World) (frame : Parts) (rest : List Parts) (old : PollerValue) : Type 0 where
  polls : Polls_in w old
  runs : w.course ≡ Running
  line : w.link.down_line ≡ frame ∷ rest

-- the line after that frame, and the meter's end
record Behind (w : World) (rest : List Parts) (sent : List Parts) : Type 0 where
  going : (reached w).up_line ≡ w.link.up_line ++ sent
  coming : (reached w).down_line ≡ rest
  meter : (reached w).meter ≡ w.link.meter

aside : (w now : World) → now.plan.client ≡ w.plan.client → now.link.meter ≡ w.link.meter → now.session ≡ w.session → now.others ≡ w.others → now.memory ≡ w.memory → now.file ≡ w.file → IsAsideSame w now
aside w now client meter session others memory file = record { records = same_records w now client meter session others; memory = memory; file = file }

-- a frame more goes out
one_more : (w : World) (rest : List Parts) (frame : Parts) → Behind w rest [] → (reached w).up_line ++ frame ∷ [] ≡ w.link.up_line ++ frame ∷ []
one_more w rest frame behind = ap (λ (l : List Parts). l ++ frame ∷ []) (behind.going ∙ append-nil w.link.up_line)

sends_by : (w : World) (frame : Parts) (rest : List Parts) (old new : PollerValue) (c : ClientRecord) (taken : List (List ℕ)) (f : Parts) → Frame_at w frame rest old → IsFree (gives w frame)
    → (reached w).client ≡ c → (reached w).taken ≡ taken → IsIdle c → new.plan ≡ old.plan → new.course ≡ Running → FitsIn Running new taken → Behind w rest [] → Goes old.plan taken c f new.link → TurnsInto w (f ∷ []) rest new
sends_by w frame rest old new c taken f at free ec et idle keeps runs fits behind (asks apdu a g) =
    let there : IsIdle (reached w).client = subst IsIdle (sym ec) idle in
    let asked : Asks w.plan (reached w).taken apdu = subst (λ l. Asks w.plan l apdu) (sym et) (subst (λ (pl : PlanValue). Asks pl taken apdu) at.polls.plan a) in
    let is : happens (reached w) (Give apdu g.0) ≡ link_gives (reached w) apdu Open None = given (reached w) apdu there in (
      record w { link = happens (reached w) (Give apdu g.0) },
      AsksNext w frame rest apdu g.0 at.runs at.line free asked,
      running_poller (record w { link = happens (reached w) (Give apdu g.0) }) new (keeps ∙ at.polls.plan) runs at.runs
          (g.2 ∙ ap (λ (x : ClientRecord). (client_send x apdu).0) (sym ec) ∙ sym (ap (λ (l : Link). l.client) is))
          (subst (λ l. FitsIn Running new l) (sym et ∙ sym (ap (λ (l : Link). l.taken) is)) fits),
      ap (λ (l : Link). l.up_line) is ∙ one_more w rest (client_send (reached w).client apdu).1 behind ∙ ap (λ (x : ClientRecord). w.link.up_line ++ (client_send x apdu).1 ∷ []) ec
          ∙ ap (λ (x : Parts). w.link.up_line ++ x ∷ []) (sym g.1),
      ap (λ (l : Link). l.down_line) is ∙ behind.coming,
      aside w (record w { link = happens (reached w) (Give apdu g.0) }) refl (ap (λ (l : Link). l.meter) is ∙ behind.meter) refl refl refl refl,
    )
sends_by w frame rest old new c taken f at free ec et idle keeps runs fits behind (leaves rows h fe le) =
    let there : IsIdle (reached w).client = subst IsIdle (sym ec) idle in
    let is : happens (reached w) Disconnect ≡ disconnects (reached w) Open None = left (reached w) there in (
      record w { link = happens (reached w) Disconnect },
      Leaves w frame rest rows at.runs at.line free (subst (λ l. HasReleased w.plan.columns l rows) (sym et) (subst (λ (pl : PlanValue). HasReleased pl.columns taken rows) at.polls.plan h)),
      running_poller (record w { link = happens (reached w) Disconnect }) new (keeps ∙ at.polls.plan) runs at.runs
          (le ∙ ap client_disconnect (sym ec) ∙ sym (ap (λ (l : Link). l.client) is))
          (subst (λ l. FitsIn Running new l) (sym et ∙ sym (ap (λ (l : Link). l.taken) is)) fits),
      ap (λ (l : Link). l.up_line) is ∙ one_more w rest (disc_of (reached w).client) behind ∙ ap (λ (x : ClientRecord). w.link.up_line ++ disc_of x ∷ []) ec
          ∙ ap (λ (x : Parts). w.link.up_line ++ x ∷ []) (sym fe),
      ap (λ (l : Link). l.down_line) is ∙ behind.coming,
      aside w (record w { link = happens (reached w) Disconnect }) refl (ap (λ (l : Link). l.meter) is ∙ behind.meter) refl refl refl refl,
    )

sends : (w : World) (frame : Parts) (rest : List Parts) (old new : PollerValue) (c : ClientRecord) (taken : List (List ℕ)) (f : Parts) → Frame_at w frame rest old → IsFree (gives w frame)
    → (reached w).client ≡ c → (reached w).taken ≡ taken → IsIdle c → Behind w rest [] → SendsOn old.plan taken c f new → TurnsInto w (f ∷ []) rest new
sends w frame rest old new c taken f at free ec et idle behind s =
    sends_by w frame rest old new c taken f at free ec et idle s.keeps s.runs (subst (λ (x : Course). FitsIn x new taken) s.runs s.fits) behind s.goes

-- the poll fails
fails : (w : World) (frame : Parts) (rest : List Parts) (old new : PollerValue) (fault : PollFault) → Frame_at w frame rest old → Fails w.plan.columns w.link.taken (reached w) fault (gives w frame) → Behind w rest [] → new.plan ≡ old.plan → new.course ≡ Failed fault → TurnsInto w [] rest new
fails w frame rest old new fault at why behind plan course = (
  record w { link = reached w; course = Failed fault },
  FailsAt w frame rest fault at.runs at.line why,
  failed_poller (record w { link = reached w; course = Failed fault }) new fault (plan ∙ at.polls.plan) course refl,
  behind.going,
  behind.coming,
  aside w (record w { link = reached w; course = Failed fault }) refl behind.meter refl refl refl refl,
)

-- if the link comes up nothing was taken
none_taken : (columns : Columns) (stage : Stage) (blocks : Joining) (rows : List Row) (apdus : List (List ℕ)) (phase : Phase) → FitsAt columns stage blocks rows apdus → StandsAt stage phase → phase ≡ Connecting → apdus ≡ []
none_taken columns Associating blocks rows apdus phase h s e = h.0
none_taken columns Naming blocks rows apdus phase h s e = absurd (cc)
none_taken columns (Getting taken) blocks rows apdus phase h s e = absurd (cc)
none_taken columns Checking blocks rows apdus phase h s e = absurd (cc)
none_taken columns Releasing blocks rows apdus phase h s e = absurd (cc)
none_taken columns Leaving blocks rows apdus phase h s e = absurd (cc)

wants_none : (columns : Columns) → WantsRequest columns [] → ⊥
wants_none columns (taken, joined, has) = cc

up : (w : World) (frame : Parts) (rest : List Parts) (result : Result PollStep PollFault) (old new : PollerValue) (c : ClientRecord) → Frame_at w frame rest old → IsFree (gives w frame)
    → (reached w).client ≡ c → (reached w).taken ≡ w.link.taken → w.link.taken ≡ [] → IsIdle c → Behind w rest [] → Continues (with_link old c) w.link.taken result new → TurnsInto w (sent_on result) rest new
up w frame rest (Ok step.Nothing) old new c at free ec et none idle behind k = absurd k
up w frame rest (Ok (step.Send f)) old new c at free ec et none idle behind k = sends w frame rest old new c w.link.taken f at free ec et idle behind k
up w frame rest (Ok step.Done) old new c at free ec et none idle behind k = absurd k
up w frame rest (Err fault) old new c at free ec et none idle behind k = absurd (wants_none old.plan.columns (subst (WantsRequest old.plan.columns) none k.1))

apdu_comes : (w : World) (frame : Parts) (rest : List Parts) (result : Result PollStep PollFault) (old new : PollerValue) (c : ClientRecord) → Frame_at w frame rest old → out.Apdu ≡ gives w frame
    → (reached w).client ≡ c → (reached w).taken ≡ w.link.taken ++ c.apdu ∷ [] → IsIdle c → Behind w rest [] → Answers (with_link old c) w.link.taken result new → TurnsInto w (sent_on result) rest new
apdu_comes w frame rest (Ok step.Nothing) old new c at is ec et idle behind k = absurd k
apdu_comes w frame rest (Ok (step.Send f)) old new c at is ec et idle behind k = sends w frame rest old new c (w.link.taken ++ c.apdu ∷ []) f at (subst IsFree is tt) ec et idle behind k
apdu_comes w frame rest (Ok step.Done) old new c at is ec et idle behind k = absurd k
apdu_comes w frame rest (Err fault) old new c at is ec et idle behind (inl ends, failed) =
    let here : EndsBy w.plan.columns w.link.taken c.apdu fault = subst (λ (pl : PlanValue). EndsBy pl.columns w.link.taken c.apdu fault) at.polls.plan ends in
    fails w frame rest old new fault at (subst (Fails w.plan.columns w.link.taken (reached w) fault) is (inl (subst (λ (x : ClientRecord). EndsBy w.plan.columns w.link.taken x.apdu fault) (sym ec) here))) behind failed.plan failed.course
apdu_comes w frame rest (Err fault) old new c at is ec et idle behind (inr wants, failed) =
    let here : WantsRequest w.plan.columns (w.link.taken ++ c.apdu ∷ []) = subst (λ (pl : PlanValue). WantsRequest pl.columns (w.link.taken ++ c.apdu ∷ [])) at.polls.plan wants.1 in
    fails w frame rest old new fault at (subst (Fails w.plan.columns w.link.taken (reached w) fault) is (inr (wants.0, subst (WantsRequest w.plan.columns) (sym et) here))) behind failed.plan failed.course

-- the link goes down
not_leaving-a : Associating ≡ Leaving → ⊥
not_leaving-a e = cc

not_leaving-g : (taken : ℕ) → Getting taken ≡ Leaving → ⊥
not_leaving-g taken e = cc

not_leaving-r : Releasing ≡ Leaving → ⊥
not_leaving-r e = cc

not_leaving-n : Naming ≡ Leaving → ⊥
not_leaving-n e = cc

not_leaving-c : Checking ≡ Leaving → ⊥
not_leaving-c e = cc

down_early : (w : World) (frame : Parts) (rest : List Parts) (result : Result PollStep PollFault) (old new : PollerValue) (c : ClientRecord) → Frame_at w frame rest old → out.Down ≡ gives w frame
    → ((rows : List Row) → HasReleased w.plan.columns w.link.taken rows → ⊥) → Behind w rest [] → HasFailed (with_link old c) Protocol result new → TurnsInto w (sent_on result) rest new
down_early w frame rest result old new c at is none behind h =
    subst (λ (r : Result PollStep PollFault). TurnsInto w (sent_on r) rest new) (sym h.answer)
    (fails w frame rest old new Protocol at (subst (Fails w.plan.columns w.link.taken (reached w) Protocol) is (refl, none)) behind (ap (λ (p : PollerValue). p.plan) h.after) (ap (λ (p : PollerValue). p.course) h.after))

down : (w : World) (frame : Parts) (rest : List Parts) (result : Result PollStep PollFault) (old new : PollerValue) (c : ClientRecord) (stage : Stage) (blocks : Joining) → Frame_at w frame rest old → out.Down ≡ gives w frame
    → (reached w).taken ≡ w.link.taken → FitsAt w.plan.columns stage blocks old.talk.rows w.link.taken → Behind w rest [] → GoesDown stage (with_link old c) result new → TurnsInto w (sent_on result) rest new
down w frame rest result old new c Associating blocks at is et fits behind h =
    down_early w frame rest result old new c at is (λ rows k. absurd (not_leaving-a (stage_told w.plan.columns Associating blocks old.talk.rows rows w.link.taken fits k).0)) behind h
down w frame rest result old new c Naming blocks at is et fits behind h =
    down_early w frame rest result old new c at is (λ rows k. absurd (not_leaving-n (stage_told w.plan.columns Naming blocks old.talk.rows rows w.link.taken fits k).0)) behind h
down w frame rest result old new c Checking blocks at is et fits behind h =
    down_early w frame rest result old new c at is (λ rows k. absurd (not_leaving-c (stage_told w.plan.columns Checking blocks old.talk.rows rows w.link.taken fits k).0)) behind h
down w frame rest result old new c (Getting taken) blocks at is et fits behind h =
    down_early w frame rest result old new c at is (λ rows k. absurd (not_leaving-g taken (stage_told w.plan.columns (Getting taken) blocks old.talk.rows rows w.link.taken fits k).0)) behind h
down w frame rest result old new c Releasing blocks at is et fits behind h =
    down_early w frame rest result old new c at is (λ rows k. absurd (not_leaving-r (stage_told w.plan.columns Releasing blocks old.talk.rows rows w.link.taken fits k).0)) behind h
down w frame rest result old new c Leaving blocks at is et fits behind h =
    let rows : new.talk.rows ≡ old.talk.rows = ap (λ (p : PollerValue). p.talk.rows) h.after in
    let plan : new.plan ≡ w.plan = ap (λ (p : PollerValue). p.plan) h.after ∙ at.polls.plan in
    subst (λ (r : Result PollStep PollFault). TurnsInto w (sent_on r) rest new) (sym h.answer) (
      record w { link = reached w; course = Done; rows = old.talk.rows },
      Ends w frame rest old.talk.rows at.runs at.line (sym is) fits,
      done_poller (record w { link = reached w; course = Done; rows = old.talk.rows }) new plan (ap (λ (p : PollerValue). p.course) h.after) refl rows
          (subst (λ (pl : PlanValue). HasReleased pl.columns (reached w).taken new.talk.rows) (sym plan)
          (subst (λ l. HasReleased w.plan.columns l new.talk.rows) (sym et) (subst (HasReleased w.plan.columns w.link.taken) (sym rows) fits))),
      behind.going,
      behind.coming,
      aside w (record w { link = reached w; course = Done; rows = old.talk.rows }) refl behind.meter refl refl refl refl,
    )

-- whatever comes of the frame
by_out : (w : World) (frame : Parts) (rest : List Parts) (result : Result PollStep PollFault) (old new : PollerValue) (c : ClientRecord) (o : ClientOut) → Frame_at w frame rest old
    → o ≡ gives w frame → reached w ≡ after w.link c rest o → Stands w.link.client o c → PollsBy o c w.link.taken old result new → TurnsInto w (sent_on result) rest new
by_out w frame rest result old new c out.Nothing at is e stands k =
    subst (λ (r : Result PollStep PollFault). TurnsInto w (sent_on r) rest new) (sym k.0) (
      record w { link = reached w },
      GoesOn w frame rest at.runs at.line (subst IsOnItsOwn is tt),
      running_poller (record w { link = reached w }) new (ap (λ (p : PollerValue). p.plan) k.1 ∙ at.polls.plan) (ap (λ (p : PollerValue). p.course) k.1 ∙ at.polls.course) at.runs
          (ap (λ (p : PollerValue). p.link) k.1 ∙ at.polls.link ∙ sym stands ∙ sym (ap (λ (l : Link). l.client) e))
          (subst (λ l. FitsIn Running new l) (sym (ap (λ (l : Link). l.taken) e)) (subst (λ (p : PollerValue). FitsIn Running p w.link.taken) (sym k.1) at.polls.fits)),
      ap (λ (l : Link). l.up_line) e ∙ sym (append-nil w.link.up_line),
      ap (λ (l : Link). l.down_line) e,
      aside w (record w { link = reached w }) refl (ap (λ (l : Link). l.meter) e) refl refl refl refl,
    )
by_out w frame rest result old new c (out.Send f) at is e stands k =
    let course : new.course ≡ Running = ap (λ (p : PollerValue). p.course) k.1 ∙ at.polls.course in
    subst (λ (r : Result PollStep PollFault). TurnsInto w (sent_on r) rest new) (sym k.0) (
      record w { link = reached w },
      GoesOn w frame rest at.runs at.line (subst IsOnItsOwn is tt),
      running_poller (record w { link = reached w }) new (ap (λ (p : PollerValue). p.plan) k.1 ∙ at.polls.plan) course at.runs
          (ap (λ (p : PollerValue). p.link) k.1 ∙ sym (ap (λ (l : Link). l.client) e))
          (subst (λ l. FitsIn Running new l) (sym (ap (λ (l : Link). l.taken) e)) (subst (λ (x : Course). FitsIn x new w.link.taken) course k.2)),
      ap (λ (l : Link). l.up_line) e,
      ap (λ (l : Link). l.down_line) e,
      aside w (record w { link = reached w }) refl (ap (λ (l : Link). l.meter) e) refl refl refl refl,
    )
by_out w frame rest result old new c out.Up at is e stands k =
    let none : w.link.taken ≡ [] = none_taken old.plan.columns old.talk.stage old.talk.blocks old.talk.rows w.link.taken old.link.phase at.polls.fits.0 at.polls.fits.1 (ap (λ (x : ClientRecord). x.phase) at.polls.link ∙ stands.0) in
    up w frame rest result old new c at (subst IsFree is tt) (ap (λ (l : Link). l.client) e) (ap (λ (l : Link). l.taken) e) none stands.1
    (record { going = ap (λ (l : Link). l.up_line) e ∙ sym (append-nil w.link.up_line); coming = ap (λ (l : Link). l.down_line) e; meter = ap (λ (l : Link). l.meter) e }) k
by_out w frame rest result old new c out.Apdu at is e stands k =
    apdu_comes w frame rest result old new c at is (ap (λ (l : Link). l.client) e) (ap (λ (l : Link). l.taken) e) stands.1
    (record { going = ap (λ (l : Link). l.up_line) e ∙ sym (append-nil w.link.up_line); coming = ap (λ (l : Link). l.down_line) e; meter = ap (λ (l : Link). l.meter) e }) k
by_out w frame rest result old new c out.Down at is e stands k =
    down w frame rest result old new c old.talk.stage old.talk.blocks at is (ap (λ (l : Link). l.taken) e)
    (subst (λ (pl : PlanValue). FitsAt pl.columns old.talk.stage old.talk.blocks old.talk.rows w.link.taken) at.polls.plan at.polls.fits.0)
    (record { going = ap (λ (l : Link). l.up_line) e ∙ sym (append-nil w.link.up_line); coming = ap (λ (l : Link). l.down_line) e; meter = ap (λ (l : Link). l.meter) e }) k

pub on_is_turn : OnIsTurn
on_is_turn w frame rest result old new is runs line polls =
    let p : Polls_in w old = under_way w old is runs in
    let here : PollsIn Running w.link.taken frame old result new = subst (λ (x : Course). PollsIn x w.link.taken frame old result new) p.course polls in
    let there : PollsBy (client_step w.link.client frame).1 (client_step w.link.client frame).0 w.link.taken old result new =
    subst (λ (x : ClientRecord). PollsBy (client_step x frame).1 (client_step x frame).0 w.link.taken old result new) p.link here in
    by_out w frame rest result old new (client_step w.link.client frame).0 (client_step w.link.client frame).1 (record { polls = p; runs = runs; line = line }) refl (reaches w.link frame rest line)
    (client_stands w.link.client frame) there

-- ---- the first frame

fresh_closed : (w : World) (p : PollerValue) → FitsIn Ready p [] → p.link ≡ w.link.client → w.link.client.phase ≡ Closed
fresh_closed w p fits link = ap (λ (c : ClientRecord). c.phase) (sym link) ∙ ap (λ (c : ClientRecord). c.phase) fits.0

-- the talk has not begun
begun : (p : PollerValue) → p.talk ≡ fresh_talk → p.link.phase ≡ Connecting → FitsIn Running p []
begun p talk phase = (subst (λ (t : TalkValue). FitsAt p.plan.columns t.stage t.blocks t.rows []) (sym talk) (refl, refl, refl), subst (λ (t : TalkValue). StandsAt t.stage p.link.phase) (sym talk) (inl phase))

pub next_is_turn : NextIsTurn
next_is_turn w result old new is ready begins =
    let course : old.course ≡ Ready = is.course ∙ ready in
    let link : old.link ≡ w.link.client = is.link (subst IsUnderWay (sym ready) tt) in
    let fits : FitsIn Ready old [] = subst (λ (c : Course). FitsIn c old []) course (subst (λ (c : Course). FitsIn old.course old (taken_by c w.link.taken)) ready is.fits) in
    let here : BeginsIn Ready old result new = subst (λ (c : Course). BeginsIn c old result new) course begins in
    let joins : happens w.link Connect ≡ connects w.link Closed = ap (λ ph. connects w.link ph) (fresh_closed w old fits link) in
    let talk : new.talk ≡ fresh_talk = ap (λ (p : PollerValue). p.talk) here.1 ∙ fits.1 in
    let phase : new.link.phase ≡ Connecting = ap (λ (p : PollerValue). p.link.phase) here.1 in
    subst (λ (r : Option Parts). TurnsInto w (sent_first r) w.link.down_line new) (sym here.0) (
      record w { link = happens w.link Connect; ours = false; served = []; course = Running },
      BeginsTurn w ready,
      running_poller (record w { link = happens w.link Connect; ours = false; served = []; course = Running }) new (ap (λ (p : PollerValue). p.plan) here.1 ∙ is.plan) (ap (λ (p : PollerValue). p.course) here.1) refl
          (ap (λ (p : PollerValue). p.link) here.1 ∙ ap client_connect link ∙ sym (ap (λ (l : Link). l.client) joins))
          (subst (λ l. FitsIn Running new l) (sym (ap (λ (l : Link). l.taken) joins)) (begun new talk phase)),
      ap (λ (l : Link). l.up_line) joins ∙ ap (λ (c : ClientRecord). w.link.up_line ++ snrm_of c ∷ []) (sym link),
      ap (λ (l : Link). l.down_line) joins,
      aside w (record w { link = happens w.link Connect; ours = false; served = []; course = Running }) refl (ap (λ (l : Link). l.meter) joins) refl refl refl refl,
    )

-- ---- a time-out

-- a poll that is under way has a link that is not closed
open_phase : (stage : Stage) (phase : Phase) → StandsAt stage phase → phase ≢ Closed
open_phase Associating phase (inl s) e = absurd (cc)
open_phase Associating phase (inr s) e = absurd (cc)
open_phase Naming phase s e = absurd (cc)
open_phase (Getting taken) phase s e = absurd (cc)
open_phase Checking phase s e = absurd (cc)
open_phase Releasing phase s e = absurd (cc)
open_phase Leaving phase s e = absurd (cc)

still_fits : (old new : PollerValue) (taken : List (List ℕ)) → new.plan ≡ old.plan → new.talk ≡ old.talk → new.link.phase ≡ old.link.phase → FitsIn Running old taken → FitsIn Running new taken
still_fits old new taken plan talk phase fits = (
  subst (λ (t : TalkValue). FitsAt new.plan.columns t.stage t.blocks t.rows taken) (sym talk)
      (subst (λ (pl : PlanValue). FitsAt pl.columns old.talk.stage old.talk.blocks old.talk.rows taken) (sym plan) fits.0),
  subst (λ (t : TalkValue). StandsAt t.stage new.link.phase) (sym talk) (subst (StandsAt old.talk.stage) (sym phase) fits.1),
)

late : (w : World) (result : Result Parts PollFault) (old new : PollerValue) (b : Bool) (v : Option Parts) → Polls_in w old → w.course ≡ Running → IsSome v → w.link.client.waits ≡ v
    → happens w.link LineTimesOut ≡ timed_out w.link (by_count w.link.client b) → w.link.up_line ≡ [] → w.link.down_line ≡ [] → TimesOutBy (by_count w.link.client b) old result new → TurnsInto w (sent_again result) [] new
late w result old new true None p runs some waits e going coming k = absurd (cc)
late w result old new true (Some f) p runs some waits e going coming k =
    let c = w.link.client in
    let sent : TimesOutBy (record c { repeats = c.repeats + 1 }, Some f) old result new = subst (λ v. TimesOutBy (record c { repeats = c.repeats + 1 }, v) old result new) waits k in
    let link : new.link ≡ (happens w.link LineTimesOut).client = ap (λ (x : PollerValue). x.link) sent.1 ∙ sym (ap (λ (l : Link). l.client) e) in
    subst (λ (r : Result Parts PollFault). TurnsInto w (sent_again r) [] new) (sym sent.0) (
      record w { link = happens w.link LineTimesOut },
      TimedOut w runs (λ shut. open_phase old.talk.stage old.link.phase p.fits.1 (ap (λ (x : ClientRecord). x.phase) p.link ∙ sym (ap (λ (l : Link). l.client.phase) e) ∙ shut)),
      running_poller (record w { link = happens w.link LineTimesOut }) new (ap (λ (x : PollerValue). x.plan) sent.1 ∙ p.plan) (ap (λ (x : PollerValue). x.course) sent.1 ∙ p.course) runs link
          (subst (λ l. FitsIn Running new l) (sym (ap (λ (l : Link). l.taken) e)) (still_fits old new w.link.taken (ap (λ (x : PollerValue). x.plan) sent.1) (ap (λ (x : PollerValue). x.talk) sent.1)
          (ap (λ (x : PollerValue). x.link.phase) sent.1 ∙ sym (ap (λ (x : ClientRecord). x.phase) p.link)) p.fits)),
      ap (λ (l : Link). l.up_line) e ∙ ap resent waits ∙ ap (λ (l : List Parts). l ++ f ∷ []) (sym going),
      ap (λ (l : Link). l.down_line) e ∙ coming,
      aside w (record w { link = happens w.link LineTimesOut }) refl (ap (λ (l : Link). l.meter) e) refl refl refl refl,
    )
late w result old new false v p runs some waits e going coming k = subst (λ (r : Result Parts PollFault). TurnsInto w (sent_again r) [] new) (sym k.answer) (
  record w { link = happens w.link LineTimesOut; course = Failed Line },
  GivesUp w Line runs (ap (λ (l : Link). l.client.phase) e),
  failed_poller (record w { link = happens w.link LineTimesOut; course = Failed Line }) new Line (ap (λ (x : PollerValue). x.plan) k.after ∙ p.plan) (ap (λ (x : PollerValue). x.course) k.after) refl,
  ap (λ (l : Link). l.up_line) e ∙ sym going ∙ sym (append-nil w.link.up_line),
  ap (λ (l : Link). l.down_line) e ∙ coming,
  aside w (record w { link = happens w.link LineTimesOut; course = Failed Line }) refl (ap (λ (l : Link). l.meter) e) refl refl refl refl,
)

times_out_so : (link : Link) (f : Parts) → link.client.waits ≡ Some f → link.up_line ≡ [] → link.down_line ≡ [] → happens link LineTimesOut ≡ timed_out link (client_timeout link.client)
times_out_so link f waits up down =
    ap (λ v. times_out link v link.up_line link.down_line) waits ∙ ap (λ l. times_out link (Some f) l link.down_line) up ∙ ap (λ l. times_out link (Some f) [] l) down

awaited : (v : Option Parts) → IsSome v → (f : Parts) × (v ≡ Some f)
awaited (Some f) some = (f, refl)
awaited None some = absurd (cc)

pub timeout_is_turn : TimeoutIsTurn
timeout_is_turn w result old new is runs can up down k =
    let p : Polls_in w old = under_way w old is runs in
    let some : IsSome old.link.waits = subst (λ (c : Course). CanTimeOutIn c old) p.course can in
    let f = awaited old.link.waits some in
    let waits : w.link.client.waits ≡ Some f.0 = sym (ap (λ (x : ClientRecord). x.waits) p.link) ∙ f.1 in
    let here : TimesOutBy (client_timeout old.link) old result new = subst (λ (c : Course). TimesOutIn c old result new) p.course k in
    let there : TimesOutBy (client_timeout w.link.client) old result new = subst (λ (x : ClientRecord). TimesOutBy (client_timeout x) old result new) p.link here in
    late w result old new (nat_lt w.link.client.repeats 3) (Some f.0) p runs (subst IsSome f.1 some) waits (times_out_so w.link f.0 waits up down) up down there

pub new_is_first : NewIsFirst
new_is_first plan = record { plan = refl; course = refl; link = λ u. refl; rows = λ d. absurd (cc); fits = (refl, refl, refl) }
