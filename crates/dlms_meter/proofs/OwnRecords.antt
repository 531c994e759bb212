-- No frame makes a client's link another's.
use Rattle.std.proofs.Common.{◌≡◌, ◌∙◌, refl, sym, ap, subst, List, [], ◌∷◌}
use Rattle.std.specs.Prelude.{map}
use Rattle.dlms_frame.specs.Frame.{Parts}
use Rattle.dlms_link.specs.Server.{ServerRecord, by_row, row_of, server_on}
use Rattle.dlms_link.specs.declared.out.LinkOut.{LinkOut}
use Rattle.dlms_link.specs.declared.out.LinkOut.TheVariants.{Nothing, Reply, Apdu, Oversize, BadLlc, Up, Down}
use Rattle.dlms_link.specs.declared.server_row.ServerRow.{ServerRow}
use Rattle.dlms_link.specs.declared.server_row.ServerRow.TheVariants.{Connects, Refuses, Disconnects, Keeps, HandsUp, Repeats, SendsNext, SaysReady, Ignores}
use Rattle.dlms_pages.specs.declared.device.Pages.{Ghosts}
use Rattle.dlms_service.specs.Session.{SessionValue}
use Rattle.dlms_state.specs.declared.event.Event.{Event}
use Rattle.dlms_meter.specs.ClientRecord.{ClientRecord}
use Rattle.dlms_meter.specs.Independence.{OwnTurn, Alone, own_in_run}
use Rattle.dlms_meter.specs.Lives.{Leg, Lives}
use Rattle.dlms_meter.specs.Own.{AreOwn, StayOwn, AreOwnInLives}
use Rattle.dlms_meter.specs.Run.{Choice, Served, DeviceFails, ByLink, Handled, Handles, Answered, MeterWorld, Stands, first_world, recovered}
use Rattle.dlms_meter.specs.Steps.{Call, Calls, Run, step_of}
use Rattle.dlms_meter.specs.declared.meter.Meter.{Meter}
use Rattle.dlms_meter.proofs.Apart.{on_its_own}
use Rattle.dlms_meter.proofs.StepLemmas.{runs}

-- each row of the link's table keeps the client
row_keeps : (r : ServerRecord) (f : Parts) (row : ServerRow) → (by_row r f row).0.client ≡ r.client
row_keeps r f (Connects size) = refl
row_keeps r f Refuses = refl
row_keeps r f Disconnects = refl
row_keeps r f Keeps = refl
row_keeps r f HandsUp = refl
row_keeps r f Repeats = refl
row_keeps r f SendsNext = refl
row_keeps r f SaysReady = refl
row_keeps r f Ignores = refl

by_link : {A : Type 0} {x y : A} (choice : Choice) → ByLink choice (x ≡ y) → x ≡ y
by_link (Served memory) is = is
by_link (DeviceFails kept wanted) is = absurd is

-- the answer to what the link hands up keeps it too
answered_keeps : (choice : Choice) (E : List Event) (r : ServerRecord) (s : SessionValue) (out : LinkOut) (h : Handled) → Answered choice E r s out h → h.own.link.client ≡ r.client
answered_keeps choice E r s Nothing h is = ap (λ (x : Handled). x.own.link.client) (by_link choice is)
answered_keeps choice E r s (Reply frame) h is = ap (λ (x : Handled). x.own.link.client) (by_link choice is)
answered_keeps choice E r s (Up frame) h is = ap (λ (x : Handled). x.own.link.client) (by_link choice is)
answered_keeps choice E r s (Down frame) h is = ap (λ (x : Handled). x.own.link.client) (by_link choice is)
answered_keeps choice E r s Apdu h (o, does, is) = ap (λ (x : Handled). x.own.link.client) is
answered_keeps choice E r s Oversize h is = ap (λ (x : Handled). x.own.link.client) (by_link choice is)
answered_keeps choice E r s BadLlc h is = ap (λ (x : Handled). x.own.link.client) (by_link choice is)

pub handled_keeps : (choice : Choice) (E : List Event) (own : ClientRecord) (frame : Parts) (h : Handled) → Handles choice E own frame h → h.own.link.client ≡ own.link.client
handled_keeps choice E own frame h handles =
    answered_keeps choice E (server_on own.link frame).0 own.session (server_on own.link frame).1 h handles ∙ row_keeps own.link frame (row_of own.link frame)

-- a client's own turns, one after another
turns_keep : (turns : List OwnTurn) (own own' : ClientRecord) → Alone own turns own' → own'.link.client ≡ own.link.client
turns_keep [] own own' is = ap (λ (r : ClientRecord). r.link.client) is
turns_keep (turn ∷ turns) own own' (mid, handles, more) =
    turns_keep turns mid own' more
    ∙ handled_keeps turn.choice turn.question.before own turn.question.frame (record { own = mid; reply = turn.reply; answer = turn.answer; accepted = turn.accepted }) handles

pub stay_own : StayOwn
stay_own w w' steps run own = λ who. turns_keep (own_in_run who w steps w' run) (w.records who) (w'.records who) (on_its_own who w w' steps run) ∙ own who

pub first_own : AreOwn first_world
first_own = λ who. refl

pub recovered_own : (events : List Event) → AreOwn (recovered events)
recovered_own events = λ who. refl

-- after a recovery all is as it was initially
life_own : (w w' : MeterWorld) (legs : List Leg) → Lives w legs w' → AreOwn w → AreOwn w'
life_own w w' [] lives own = subst AreOwn (sym lives) own
life_own w w' (leg ∷ legs) (is, lives) own = life_own (recovered leg.found) w' legs lives (recovered_own leg.found)

pub own_in_lives : AreOwnInLives
own_in_lives w last legs steps lives run = stay_own w last steps run (life_own first_world w legs lives first_own)

pub calls_own : {P A : Type 0} {ghosts : Ghosts P} (calls : List Call) (old new : Meter P A ghosts) (w : MeterWorld) → Calls old calls new → Stands old w → AreOwn w
    → (w' : MeterWorld) × Run w (map step_of calls) w' × Stands new w' × AreOwn w'
calls_own calls old new w made stands own =
    let after = runs calls old new w made stands in
    (after.0, after.1, after.2, stay_own w after.0 (map step_of calls) after.1 own)
