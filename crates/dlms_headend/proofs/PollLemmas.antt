-- A poll over the client's link.
use Rattle.std.proofs.Common.{Result, Ok, Err, IfErr, refl, sym, ap, subst, ◌∙◌, ◌≡◌, ℕ, List, [], ◌∷◌, ◌++◌, Bool, true, false, inl, inr, if◌then◌else◌}
use Rattle.dlms_frame.specs.Frame.{Parts}
use Rattle.dlms_blocks.specs.Joining.{Joining}
use Rattle.dlms_link.specs.Client.{ClientRecord, IsIdle, client_step, on_control, on_counted, on_ua, is_answer}
use Rattle.dlms_link.specs.Octet.{control_of}
use Rattle.dlms_link.specs.declared.control.Control.{Control}
use Rattle.dlms_link.specs.declared.control.Control.TheVariants.{Snrm, Disc, Ua, Dm, Information, Ready as ReadyFrame, NotReady, Other}
use Rattle.dlms_link.specs.declared.phase.Phase.{Phase}
use Rattle.dlms_link.specs.declared.phase.Phase.TheVariants.{Closed, Connecting, Open, Closing}
use Rattle.dlms_link.specs.declared.out.ClientOut.{ClientOut}
use Rattle.dlms_link.specs.declared.out.ClientOut.TheVariants as out
use Rattle.dlms_headend.specs.declared.row.Row.{Row}
use Rattle.dlms_headend.specs.declared.stage.Stage.{Stage}
use Rattle.dlms_headend.specs.declared.stage.Stage.TheVariants.{Associating, Naming, Getting, Checking, Releasing, Leaving}
use Rattle.dlms_headend.specs.Asking.{PlanValue}
use Rattle.dlms_headend.specs.Poll.{Asks, associates, names, gets, goes_on, checks, releases, HasReleased, Needs}
use Rattle.dlms_headend.specs.declared.plan.Columns.{Columns}
use Rattle.dlms_headend.specs.TalkValue.{TalkValue}
use Rattle.dlms_headend.specs.Talk.{FitsAt, FitsTalk, CanTake, Ends}
use Rattle.dlms_headend.specs.Polling.{IsGet, IsDue, Goes, asks, leaves, StandsAt, FitsIn, Fits, SendsOn, Answers, IsDone, GoesDown, PollsBy, PollsIn, Polls, with_link}
use Rattle.dlms_headend.specs.PollerValue.{PollerValue}
use Rattle.dlms_headend.specs.declared.step.PollStep.{PollStep}
use Rattle.dlms_headend.specs.declared.step.PollStep.TheVariants as step
use Rattle.dlms_headend.specs.declared.poll_fault.PollFault.{PollFault}
use Rattle.dlms_headend.specs.declared.poll_fault.PollFault.TheVariants.{Memory}
use Rattle.dlms_headend.proofs.Told.{stage_told}
use Rattle.dlms_headend.specs.declared.stage.Course.{Course}
use Rattle.dlms_headend.specs.declared.stage.Course.TheVariants.{Running}

-- what is due is what the list asks for
due_goes-get : (plan : PlanValue) (apdus : List (List ℕ)) (taken : ℕ) (blocks : Joining) (rows : List Row) (apdu : List ℕ) → FitsAt plan.columns (Getting taken) blocks rows apdus → IsGet plan taken apdu → Asks plan apdus apdu
due_goes-get plan apdus taken blocks rows apdu h (inl x) = gets blocks.joined (rw x.0 at h.0) x.1
due_goes-get plan apdus taken blocks rows apdu h (inr x) = goes_on taken blocks.joined x.0 h.0 x.1

due_goes-at : (plan : PlanValue) (apdus : List (List ℕ)) (stage : Stage) (blocks : Joining) (rows : List Row) (link new : ClientRecord) (frame : Parts) → FitsAt plan.columns stage blocks rows apdus → IsDue plan stage link frame new
    → Goes plan apdus link frame new
due_goes-at plan apdus Associating blocks rows link new frame h d = asks _ (associates h.0 refl) d
due_goes-at plan apdus Naming blocks rows link new frame h d = asks _ (names h.0 h.1 refl) d
due_goes-at plan apdus Checking blocks rows link new frame h d = asks _ (checks rows h.0 h.1 refl) d
due_goes-at plan apdus (Getting taken) blocks rows link new frame h d = asks d.0 (due_goes-get plan apdus taken blocks rows d.0 h d.1) d.2
due_goes-at plan apdus Releasing blocks rows link new frame h d = asks _ (releases rows h refl) d
due_goes-at plan apdus Leaving blocks rows link new frame h d = leaves rows h d.0 d.1

pub due_goes : (plan : PlanValue) (apdus : List (List ℕ)) (talk : TalkValue) (link new : ClientRecord) (frame : Parts) → FitsTalk plan.columns talk apdus → IsDue plan talk.stage link frame new → Goes plan apdus link frame new
due_goes plan apdus talk link new frame h d = due_goes-at plan apdus talk.stage talk.blocks talk.rows link new frame h d

-- the link's phase then
pub due_stands : (plan : PlanValue) (stage : Stage) (link new : ClientRecord) (frame : Parts) → IsIdle link → IsDue plan stage link frame new → StandsAt stage new.phase
due_stands plan Associating link new frame idle d = inr (ap (λ (c : ClientRecord). c.phase) d.2 ∙ idle.0)
due_stands plan Naming link new frame idle d = ap (λ (c : ClientRecord). c.phase) d.2 ∙ idle.0
due_stands plan Checking link new frame idle d = ap (λ (c : ClientRecord). c.phase) d.2 ∙ idle.0
due_stands plan (Getting taken) link new frame idle d = ap (λ (c : ClientRecord). c.phase) d.2.2 ∙ idle.0
due_stands plan Releasing link new frame idle d = ap (λ (c : ClientRecord). c.phase) d.2 ∙ idle.0
due_stands plan Leaving link new frame idle d = ap (λ (c : ClientRecord). c.phase) d.1

-- ---- what an open link alone gives

abbrev IsOpenOut : ClientOut → Type 0
IsOpenOut out.Nothing = ⊥
IsOpenOut out.Up = ⊥
IsOpenOut (out.Send frame) = Unit {0}
IsOpenOut out.Apdu = Unit {0}
IsOpenOut out.Down = ⊥

counted_open : (c : ClientRecord) (f : Parts) (phase : Phase) → IsOpenOut (on_counted c f phase).1 → phase ≡ Open
counted_open c f Open h = refl
counted_open c f Closed h = absurd h
counted_open c f Connecting h = absurd h
counted_open c f Closing h = absurd h

ua_open : (c : ClientRecord) (ua : List ℕ) (phase : Phase) → IsOpenOut (on_ua c ua phase).1 → ⊥
ua_open c ua Closed h = h
ua_open c ua Connecting h = h
ua_open c ua Open h = h
ua_open c ua Closing h = h

control_open : (c : ClientRecord) (f : Parts) (control : Control) → IsOpenOut (on_control c f control).1 → c.phase ≡ Open
control_open c f Ua h = absurd (ua_open c f.info c.phase h)
control_open c f Dm h = absurd h
control_open c f (Information send receive) h = counted_open c f c.phase h
control_open c f (ReadyFrame receive) h = counted_open c f c.phase h
control_open c f Snrm h = absurd h
control_open c f Disc h = absurd h
control_open c f NotReady h = absurd h
control_open c f Other h = absurd h

abbrev step_by : ClientRecord → Parts → Bool → ClientRecord × ClientOut
step_by c f answers = if answers then on_control c f (control_of f.control) else (c, out.Nothing)

answer_open : (c : ClientRecord) (f : Parts) (answers : Bool) → IsOpenOut (step_by c f answers).1 → c.phase ≡ Open
answer_open c f true h = control_open c f (control_of f.control) h
answer_open c f false h = absurd h

step_open : (c : ClientRecord) (f : Parts) → IsOpenOut (client_step c f).1 → c.phase ≡ Open
step_open c f h = answer_open c f (is_answer c f) h

pub apdu_open : (c : ClientRecord) (f : Parts) → out.Apdu ≡ (client_step c f).1 → c.phase ≡ Open
apdu_open c f e = step_open c f (subst IsOpenOut e tt)

pub send_open : (c : ClientRecord) (f g : Parts) → out.Send g ≡ (client_step c f).1 → c.phase ≡ Open
send_open c f g e = step_open c f (subst IsOpenOut e tt)

-- an open link awaits an APDU
can_take-at : (stage : Stage) (phase : Phase) → StandsAt stage phase → phase ≡ Open → CanTake stage
can_take-at Associating phase h e = tt
can_take-at Naming phase h e = tt
can_take-at (Getting taken) phase h e = tt
can_take-at Checking phase h e = tt
can_take-at Releasing phase h e = tt
can_take-at Leaving phase h e = absurd (cc)

pub can_take : (talk : TalkValue) (c : ClientRecord) (f : Parts) → StandsAt talk.stage c.phase → out.Apdu ≡ (client_step c f).1 → CanTake talk.stage
can_take talk c f h e = can_take-at talk.stage c.phase h (apdu_open c f e)

pub still_stands : (talk : TalkValue) (c d : ClientRecord) (f g : Parts) → StandsAt talk.stage c.phase → out.Send g ≡ (client_step c f).1 → d.phase ≡ Open → StandsAt talk.stage d.phase
still_stands talk c d f g h e open_ = subst (StandsAt talk.stage) (send_open c f g e ∙ sym open_) h

fits_running : (p : PollerValue) (apdus : List (List ℕ)) → p.course ≡ Running → FitsIn Running p apdus → Fits p apdus
fits_running p apdus e h = subst (λ (course : Course). FitsIn course p apdus) (sym e) h

pub sends_on : (p new : PollerValue) (apdus : List (List ℕ)) (frame : Parts) → p.course ≡ Running → IsIdle p.link → FitsTalk p.plan.columns p.talk apdus → IsDue p.plan p.talk.stage p.link frame new.link → new.plan ≡ p.plan → new.course ≡ p.course
    → new.talk ≡ p.talk → SendsOn p.plan apdus p.link frame new
sends_on p new apdus frame running idle h d plan course talk = record {
  goes = due_goes p.plan apdus p.talk p.link new.link frame h d;
  runs = course ∙ running;
  keeps = plan;
  fits = fits_running new apdus (course ∙ running) (rw (plan, talk) h, rw talk (due_stands p.plan p.talk.stage p.link new.link frame idle d));
}

pub opened_sends_on : (p u new : PollerValue) (apdus : List (List ℕ)) (stage : Stage) (frame : Parts) → u ≡ p → p.course ≡ Running → IsIdle p.link → FitsTalk p.plan.columns p.talk apdus → stage ≡ u.talk.stage
    → IsDue u.plan stage u.link frame new.link → new.plan ≡ u.plan → new.course ≡ u.course → new.talk ≡ u.talk → SendsOn p.plan apdus p.link frame new
opened_sends_on p u new apdus stage frame same running idle h at_stage d plan course talk =
    let there : IsDue u.plan u.talk.stage u.link frame new.link = subst (λ (s : Stage). IsDue u.plan s u.link frame new.link) at_stage d in
    let here : IsDue p.plan p.talk.stage p.link frame new.link = subst (λ (x : PollerValue). IsDue x.plan x.talk.stage x.link frame new.link) same there in
    sends_on p new apdus frame running idle h here (plan ∙ ap (λ (x : PollerValue). x.plan) same) (course ∙ ap (λ (x : PollerValue). x.course) same) (talk ∙ ap (λ (x : PollerValue). x.talk) same)

-- an APDU was taken, and the poll goes on
pub took : (at mid new : PollerValue) (apdus : List (List ℕ)) (frame : Parts) → mid.plan ≡ at.plan → mid.link ≡ at.link → SendsOn mid.plan (apdus ++ at.link.apdu ∷ []) mid.link frame new → Answers at apdus (Ok (step.Send frame)) new
took at mid new apdus frame plan link k =
    subst (λ (c : ClientRecord). SendsOn at.plan (apdus ++ at.link.apdu ∷ []) c frame new) link
    (subst (λ (x : PlanValue). SendsOn x (apdus ++ at.link.apdu ∷ []) mid.link frame new) plan k)

-- the link came up, and the poll goes on
pub up_sends : (o : ClientOut) (link mid : ClientRecord) (apdus : List (List ℕ)) (at new : PollerValue) (frame : Parts) → out.Up ≡ o → mid ≡ link → SendsOn at.plan apdus mid frame new → PollsBy o link apdus at (Ok (step.Send frame)) new
up_sends o link mid apdus at new frame is same k =
    subst (λ (x : ClientOut). PollsBy x link apdus at (Ok (step.Send frame)) new) is (subst (λ (c : ClientRecord). SendsOn at.plan apdus c frame new) same k)

-- ---- where memory was wanting

-- an answer needs it
pub wants_apdu : (result : Result PollStep PollFault) (columns : Columns) (apdus : List (List ℕ)) (apdu : List ℕ) → IfErr result (Ends columns apdus apdu) → result ≡ Err Memory → Needs columns apdus apdu
wants_apdu (Ok taken) columns apdus apdu h e = absurd (cc)
wants_apdu (Err fault) columns apdus apdu h e = let same : fault ≡ Memory = cc in subst (λ (f : PollFault). Ends columns apdus apdu f) same h

-- a link that goes down does not
pub down_wants_none : (stage : Stage) (at new : PollerValue) (result : Result PollStep PollFault) → GoesDown stage at result new → result ≡ Err Memory → ⊥
down_wants_none Associating at new result h e = let told = h.answer in cc
down_wants_none Naming at new result h e = let told = h.answer in cc
down_wants_none (Getting taken) at new result h e = let told = h.answer in cc
down_wants_none Checking at new result h e = let told = h.answer in cc
down_wants_none Releasing at new result h e = let told = h.answer in cc
down_wants_none Leaving at new result h e = let told = h.answer in cc

-- ---- the poll is done where its list says so

pub done_where : (old new : PollerValue) (result : Result PollStep PollFault) (f : Parts) (apdus : List (List ℕ)) (rows : List Row) → Polls apdus f old result new → Fits old apdus → old.course ≡ Running → HasReleased old.plan.columns apdus rows
    → (client_step old.link f).1 ≡ out.Down → IsDone (with_link old (client_step old.link f).0) result new × (new.talk.rows ≡ rows)
done_where old new result f apdus rows polls h running k e =
    let fits : FitsIn Running old apdus = subst (λ (course : Course). FitsIn course old apdus) running h in
    let here : PollsIn Running apdus f old result new = subst (λ (course : Course). PollsIn course apdus f old result new) running polls in
    let down : PollsBy out.Down (client_step old.link f).0 apdus old result new = subst (λ (o : ClientOut). PollsBy o (client_step old.link f).0 apdus old result new) e here in
    let told = stage_told old.plan.columns old.talk.stage old.talk.blocks old.talk.rows rows apdus fits.0 k in
    let is_done : GoesDown Leaving (with_link old (client_step old.link f).0) result new = subst (λ (stage : Stage). GoesDown stage (with_link old (client_step old.link f).0) result new) told.0 down in
    (is_done, ap (λ (p : PollerValue). p.talk.rows) is_done.after ∙ told.1)

-- and it is done nowhere else
down_done : (columns : Columns) (stage : Stage) (blocks : Joining) (apdus : List (List ℕ)) (at new : PollerValue) → FitsAt columns stage blocks at.talk.rows apdus → GoesDown stage at (Ok step.Done) new → HasReleased columns apdus new.talk.rows
down_done columns Associating blocks apdus at new fits h = let clash = h.answer in cc
down_done columns Naming blocks apdus at new fits h = let clash = h.answer in cc
down_done columns (Getting taken) blocks apdus at new fits h = let clash = h.answer in cc
down_done columns Checking blocks apdus at new fits h = let clash = h.answer in cc
down_done columns Releasing blocks apdus at new fits h = let clash = h.answer in cc
down_done columns Leaving blocks apdus at new fits h = subst (HasReleased columns apdus) (sym (ap (λ (p : PollerValue). p.talk.rows) h.after)) fits

done_by : (o : ClientOut) (link : ClientRecord) (apdus : List (List ℕ)) (old new : PollerValue) → FitsIn Running old apdus → PollsBy o link apdus old (Ok step.Done) new → HasReleased old.plan.columns apdus new.talk.rows
done_by out.Nothing link apdus old new fits k = let clash = k.0 in cc
done_by out.Up link apdus old new fits k = absurd k
done_by (out.Send frame) link apdus old new fits k = let clash = k.0 in cc
done_by out.Apdu link apdus old new fits k = absurd k
done_by out.Down link apdus old new fits k = down_done old.plan.columns old.talk.stage old.talk.blocks apdus (with_link old link) new fits.0 k

pub done_told : (old new : PollerValue) (result : Result PollStep PollFault) (f : Parts) (apdus : List (List ℕ)) → (FitsIn Running old apdus → PollsBy (client_step old.link f).1 (client_step old.link f).0 apdus old result new)
    → old.course ≡ Running → Fits old apdus → result ≡ Ok step.Done → HasReleased old.plan.columns apdus new.talk.rows
done_told old new result f apdus polls running h done =
    let fits : FitsIn Running old apdus = subst (λ (course : Course). FitsIn course old apdus) running h in
    done_by (client_step old.link f).1 (client_step old.link f).0 apdus old new fits
    (subst (λ (r : Result PollStep PollFault). PollsBy (client_step old.link f).1 (client_step old.link f).0 apdus old r new) done (polls fits))
