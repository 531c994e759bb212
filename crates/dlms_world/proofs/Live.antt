-- The meter's end is live in a connection from its UA on: an APDU that it hands up comes while it is, and nothing but an SNRM
-- makes it live.
use Rattle.std.proofs.Common.{◌≡◌, ◌≤◌, ◌<◌, ℕ, ◌&&◌, Bool, true, false, List, [], ◌∷◌, ◌++◌, length, Option, None, Some, refl, ◌∙◌, ap, subst, nat_lt}
use Rattle.dlms_frame.specs.declared.client.Client.{Client}
use Rattle.dlms_frame.specs.Frame.{Parts}
use Rattle.dlms_link.specs.declared.last_answer.Answer.{Answer}
use Rattle.dlms_link.specs.declared.last_answer.Answer.TheVariants.{NoAnswer, WasReady, WasInformation}
use Rattle.dlms_link.specs.declared.phase.Phase.{Phase}
use Rattle.dlms_link.specs.declared.phase.Phase.TheVariants.{Closed, Connecting, Open, Closing}
use Rattle.dlms_link.specs.declared.out.LinkOut.{LinkOut}
use Rattle.dlms_link.specs.declared.out.LinkOut.TheVariants.{Nothing, Reply, Apdu, Oversize, BadLlc, Up, Down}
use Rattle.dlms_link.specs.declared.out.ClientOut.{ClientOut}
use Rattle.dlms_link.specs.declared.out.ClientOut.TheVariants.{Nothing as NothingTaken, Up as IsUp, Send, Apdu as ApduTaken, Down as IsDown}
use Rattle.dlms_link.specs.declared.server_row.ServerRow.{ServerRow}
use Rattle.dlms_link.specs.declared.server_row.ServerRow.TheVariants.{Connects, Refuses, Disconnects, Keeps, HandsUp, Repeats, SendsNext, SaysReady, Ignores}
use Rattle.dlms_link.specs.Octet.{information_octet}
use Rattle.dlms_link.specs.Kept.{Kept, Fresh, Good, TooLong, BadStart, kept_after, from_client, is_more}
use Rattle.dlms_link.specs.Server.{ServerRecord, server_on, by_row, row_of, told, again}
use Rattle.dlms_link.specs.Client.{client_step, client_timeout, by_count}
use Rattle.dlms_link.specs.World.{LinkWorld, LinkEvent, Connect, Give, Disconnect, ReachesMeter, ReachesClient, LostUp, LostDown, TimesOut, Restarts, Intrudes, TakesOver, happens, gives, disconnects, meter_does, client_does, reaches_client, times_out, timed_out}
use Rattle.dlms_link.proofs.Numbers.{next_lt, before-next, control_of-ua, control_of-dm}
use Rattle.dlms_link.proofs.Joining.{Joins, IsFirst, kept_goes_on}
use Rattle.dlms_link.proofs.Rows.{row_of-expected, row_of-repeated, row_of-goes_on, row_of-snrm, row_of-disc_up, row_of-disc_down, is_answer-to_client}
use Rattle.dlms_link.proofs.Sound.{Sound, Away, Calling, Called, Leaving, Left, Idle, Asking, Received, Answered, Readying, LostCalled, LostIdle, LostAsking, Denied, LostReceived, LostAnswered, Silent, Going, Coming, at, server_at, client_at, disc, gone}
use Rattle.dlms_world.specs.Turn.{still_ours}

abbrev pub is_linked : Phase → List Parts → Bool
is_linked Open down = true
is_linked Connecting [] = false
is_linked Connecting (f ∷ rest) = true
is_linked Closed down = false
is_linked Closing down = false

-- both ends are up, or the meter's is and its UA comes
abbrev pub live : LinkWorld → Bool
live w = w.meter.up && is_linked w.client.phase w.down_line

-- what the meter's end may give, by whether it is live
abbrev pub Allows : Bool → List (List ℕ) → LinkOut → Type 0
Allows live served Nothing = Unit {0}
Allows live served (Reply f) = live ≡ true
Allows live served Apdu = live ≡ true
Allows live served Oversize = ⊥
Allows live served BadLlc = ⊥
Allows live served (Up f) = served ≡ []
Allows live served (Down f) = Unit {0}

abbrev pub AllowsAt : LinkWorld → List Parts → Type 0
AllowsAt w [] = Unit {0}
AllowsAt w (f ∷ rest) = Allows (live w) w.served (server_on w.meter f).1

module _ (who : Client) where
  leaves_allowed : (b : Bool) (served : List (List ℕ)) (m : ServerRecord) (up : Bool) → m.up ≡ up → Allows b served (server_on (at who m) (disc who)).1
  leaves_allowed b served m true e = rw (row_of-disc_up (at who m) e) tt
  leaves_allowed b served m false e = rw (row_of-disc_down (at who m) e) tt

  asking_allowed : (s n size : ℕ) (last : Answer) (took : Bool) (k : Kept) (had info u apdu : List ℕ) (served : List (List ℕ)) → s < 8 → n < 8 → Joins from_client k (info ++ u) apdu → IsFirst k info → length apdu ≤ 1024 →
      Allows true served (server_on (server_at who n s last took k had [] size) (Rattle.dlms_link.specs.Client.to_meter who (information_octet s n) (is_more u) info)).1
  asking_allowed s n size last took k had info [] apdu served hs hn j i short =
      let on : (bytes : List ℕ) × (kept_after from_client k info ≡ Good bytes) × (bytes ++ [] ≡ apdu) = kept_goes_on from_client k info [] apdu j i short in
      rw (row_of-expected (server_at who n s last took k had [] size) info false s n hs hn refl refl refl, on.1) refl
  asking_allowed s n size last took k had info (y ∷ u) apdu served hs hn j i short =
      rw (row_of-expected (server_at who n s last took k had [] size) info true s n hs hn refl refl refl) refl

  pub allows : {w : LinkWorld} → Sound who w → AllowsAt w w.up_line
  allows (Away m x asked served answers taken ps pt) = tt
  allows (Calling true m t x) = rw (row_of-snrm (at who m)) refl
  allows (Calling false m t x) = tt
  allows (Called t x) = tt
  allows (Leaving true m s n t k x u asked served answers taken ps pt) = leaves_allowed (m.up && false) served m m.up refl
  allows (Leaving false m s n t k x u asked served answers taken ps pt) = tt
  allows (Left was m s n t k x u asked served answers taken ps pt) = tt
  allows (Idle s n size last took had x given got hs hn hz) = tt
  allows (Asking true s n size t last took k had x info u apdu given got hs hn hz j i short) = asking_allowed s n size last took k had info u apdu given hs hn j i short
  allows (Asking false s n size t last took k had x info u apdu given got hs hn hz j i short) = tt
  allows (Received Silent s n size t y bytes had x info u apdu given got hs hn hz j short) = tt
  allows {w} (Received Going s n size t y bytes had x info u apdu given got hs hn hz j short) = rw (row_of-repeated w.meter info true s n hs hn refl refl (before-next s hs) (next_lt s)) refl
  allows (Received Coming s n size t y bytes had x info u apdu given got hs hn hz j short) = tt
  allows (Answered Silent s n size t q took k had x info u answer given got hs hn hz j i short again refuses) = tt
  allows (Answered Going s n size t q took k had x info u answer given got hs hn hz j i short again refuses) = rw again refl
  allows (Answered Coming s n size t q took k had x info u answer given got hs hn hz j i short again refuses) = tt
  allows {w} (Readying true s n size t y last took bytes had x u answer given got hs hn hz j short) = rw (row_of-goes_on w.meter [] false n hn refl refl refl) refl
  allows (Readying false s n size t y last took bytes had x u answer given got hs hn hz j short) = tt
  allows (LostCalled t x) = tt
  allows (LostIdle s n x asked served answers taken hs hn ps pt) = tt
  allows (LostAsking true q s n t k x u asked served answers taken refuses ps pt) = rw refuses.0 tt
  allows (LostAsking false q s n t k x u asked served answers taken refuses ps pt) = tt
  allows (Denied q s n t k x u asked served answers taken refuses ps pt) = tt
  allows (LostReceived s n t y x info u apdu given got hs hn) = tt
  allows (LostAnswered s n t q k x info u answer given got hs hn j i short refuses) = tt

-- ---- a frame at the meter

-- how the meter's end stands after what it gave
abbrev pub StandsUp : Bool → Bool → LinkOut → Type 0
StandsUp before after Nothing = after ≡ before
StandsUp before after (Reply f) = after ≡ before
StandsUp before after Apdu = after ≡ before
StandsUp before after Oversize = after ≡ before
StandsUp before after BadLlc = after ≡ before
StandsUp before after (Up f) = Unit {0}
StandsUp before after (Down f) = after ≡ false

told_stands : (b : Bool) (k : Kept) → StandsUp b b (told k)
told_stands b Fresh = refl
told_stands b (Good apdu) = refl
told_stands b TooLong = refl
told_stands b BadStart = refl

again_stands : (b : Bool) (last : Answer) → StandsUp b b (again last)
again_stands b NoAnswer = refl
again_stands b (WasReady f) = refl
again_stands b (WasInformation f) = refl

row_stands : (r : ServerRecord) (f : Parts) (row : ServerRow) → StandsUp r.up (by_row r f row).0.up (by_row r f row).1
row_stands r f (Connects size) = tt
row_stands r f Refuses = refl
row_stands r f Disconnects = refl
row_stands r f Keeps = refl
row_stands r f HandsUp = told_stands r.up (kept_after from_client r.kept f.info)
row_stands r f Repeats = again_stands r.up r.last
row_stands r f SendsNext = refl
row_stands r f SaysReady = refl
row_stands r f Ignores = refl

pub server_stands : (r : ServerRecord) (f : Parts) → StandsUp r.up (server_on r f).0.up (server_on r f).1
server_stands r f = row_stands r f (row_of r f)

off : (a b : Bool) → a ≡ false → (a && b) ≡ true → ⊥
off true b e h = cc
off false b e h = cc

pub nothing_true : (a : Bool) → (a && false) ≡ true → ⊥
nothing_true true h = cc
nothing_true false h = cc

-- it stays, or comes, as it was said to be
pub still : (w : LinkWorld) (m : ServerRecord) (rest : List Parts) (answer : List ℕ) (result : LinkOut) (ours : Bool) → StandsUp w.meter.up m.up result → Allows (live w) w.served result → (live w ≡ true → ours ≡ true) →
    live (meter_does (record w { meter = m; up_line = rest }) answer result) ≡ true → still_ours ours result ≡ true
still w m rest answer Nothing ours stands allowed was now = was (subst (λ (b : Bool). (b && is_linked w.client.phase w.down_line) ≡ true) stands now)
still w m rest answer (Reply f) ours stands allowed was now = was allowed
still w m rest answer Apdu ours stands allowed was now = was allowed
still w m rest answer Oversize ours stands none was now = absurd none
still w m rest answer BadLlc ours stands none was now = absurd none
still w m rest answer (Up f) ours stands allowed was now = refl
still w m rest answer (Down f) ours stands allowed was now = absurd (off m.up (is_linked w.client.phase (w.down_line ++ f ∷ [])) stands now)

-- ---- what does not reach the meter

-- an event of the poller's side, or a loss
abbrev pub IsAside : LinkEvent → Type 0
IsAside (Give apdu short) = Unit {0}
IsAside Disconnect = Unit {0}
IsAside ReachesClient = Unit {0}
IsAside LostUp = Unit {0}
IsAside LostDown = Unit {0}
IsAside TimesOut = Unit {0}
IsAside Connect = ⊥
IsAside (ReachesMeter answer short) = ⊥
IsAside Restarts = ⊥
IsAside (Intrudes frame answer) = ⊥
IsAside TakesOver = ⊥

-- the meter's end is the same, and so is what it took and answered
pub record IsSame (before after : LinkWorld) : Type 0 where
  pub meter : after.meter ≡ before.meter
  pub served : after.served ≡ before.served
  pub answers : after.answers ≡ before.answers

same : (w : LinkWorld) → IsSame w w
same w = record { meter = refl; served = refl; answers = refl }

gives_same : (w : LinkWorld) (apdu : List ℕ) (phase : Phase) (waits : Option Parts) → IsSame w (gives w apdu phase waits)
gives_same w apdu Open None = record { meter = refl; served = refl; answers = refl }
gives_same w apdu Open (Some f) = same w
gives_same w apdu Closed waits = same w
gives_same w apdu Connecting waits = same w
gives_same w apdu Closing waits = same w

disconnects_same : (w : LinkWorld) (phase : Phase) (waits : Option Parts) → IsSame w (disconnects w phase waits)
disconnects_same w Open None = record { meter = refl; served = refl; answers = refl }
disconnects_same w Open (Some f) = same w
disconnects_same w Closed waits = same w
disconnects_same w Connecting waits = same w
disconnects_same w Closing waits = same w

client_does_same : (w : LinkWorld) (result : ClientOut) → IsSame w (client_does w result)
client_does_same w NothingTaken = same w
client_does_same w IsUp = same w
client_does_same w (Send f) = record { meter = refl; served = refl; answers = refl }
client_does_same w ApduTaken = record { meter = refl; served = refl; answers = refl }
client_does_same w IsDown = same w

reaches_client_same : (w : LinkWorld) (line : List Parts) → IsSame w (reaches_client w line)
reaches_client_same w [] = same w
reaches_client_same w (g ∷ rest) =
    let is = client_does_same (record w { client = (client_step w.client g).0; down_line = rest }) (client_step w.client g).1 in
    record { meter = is.meter; served = is.served; answers = is.answers }

times_out_same : (w : LinkWorld) (waits : Option Parts) (up down : List Parts) → IsSame w (times_out w waits up down)
times_out_same w None up down = same w
times_out_same w (Some f) [] [] = record { meter = refl; served = refl; answers = refl }
times_out_same w (Some f) [] (g ∷ down) = same w
times_out_same w (Some f) (g ∷ up) down = same w

pub aside_same : (w : LinkWorld) (e : LinkEvent) → IsAside e → IsSame w (happens w e)
aside_same w (Give apdu short) a = gives_same w apdu w.client.phase w.client.waits
aside_same w Disconnect a = disconnects_same w w.client.phase w.client.waits
aside_same w ReachesClient a = reaches_client_same w w.down_line
aside_same w LostUp a = record { meter = refl; served = refl; answers = refl }
aside_same w LostDown a = record { meter = refl; served = refl; answers = refl }
aside_same w TimesOut a = times_out_same w w.client.waits w.up_line w.down_line
aside_same w Connect none = absurd none
aside_same w (ReachesMeter answer short) none = absurd none
aside_same w Restarts none = absurd none
aside_same w (Intrudes frame answer) none = absurd none
aside_same w TakesOver none = absurd none

-- a meter's end that is down stays down
lost : (w : LinkWorld) (e : LinkEvent) → IsAside e → w.meter.up ≡ false → live (happens w e) ≡ true → live w ≡ true
lost w e a down now =
    absurd (off (happens w e).meter.up (is_linked (happens w e).client.phase (happens w e).down_line) (ap (λ (m : ServerRecord). m.up) (aside_same w e a).meter ∙ down) now)

module _ (who : Client) where
  calling_late : (m : ServerRecord) (t : ℕ) (x : List ℕ) (b : Bool) → let w : LinkWorld = record { meter = at who m; client = client_at who Connecting 0 0 (Some (Rattle.dlms_link.proofs.Sound.snrm who)) t Fresh x []; up_line = []; down_line = []; asked = []; served = []; answers = []; taken = [] } in
      live (timed_out w (by_count w.client b)) ≡ true → ⊥
  calling_late m t x true h = nothing_true m.up h
  calling_late m t x false h = nothing_true m.up h

  pub live_before : {w : LinkWorld} (e : LinkEvent) → IsAside e → Sound who w → live (happens w e) ≡ true → live w ≡ true
  live_before e a (Called t x) h = refl
  live_before e a (Idle s n size last took had x given got hs hn hz) h = refl
  live_before e a (Asking sent s n size t last took k had x info u apdu given got hs hn hz j i short) h = refl
  live_before e a (Received line s n size t y bytes had x info u apdu given got hs hn hz j short) h = refl
  live_before e a (Answered line s n size t q took k had x info u answer given got hs hn hz j i short again refuses) h = refl
  live_before e a (Readying sent s n size t y last took bytes had x u answer given got hs hn hz j short) h = refl
  live_before {w} e a (LostCalled t x) h = lost w e a refl h
  live_before {w} e a (LostIdle s n x asked served answers taken hs hn ps pt) h = lost w e a refl h
  live_before {w} e a (LostAsking sent q s n t k x u asked served answers taken refuses ps pt) h = lost w e a refl h
  live_before {w} e a (Denied q s n t k x u asked served answers taken refuses ps pt) h = lost w e a refl h
  live_before {w} e a (LostReceived s n t y x info u apdu given got hs hn) h = lost w e a refl h
  live_before {w} e a (LostAnswered s n t q k x info u answer given got hs hn j i short refuses) h = lost w e a refl h
  live_before (Give apdu short) a (Away m x asked served answers taken ps pt) h = h
  live_before Disconnect a (Away m x asked served answers taken ps pt) h = h
  live_before ReachesClient a (Away m x asked served answers taken ps pt) h = h
  live_before LostUp a (Away m x asked served answers taken ps pt) h = h
  live_before LostDown a (Away m x asked served answers taken ps pt) h = h
  live_before TimesOut a (Away m x asked served answers taken ps pt) h = h
  live_before (Give apdu short) a (Calling sent m t x) h = h
  live_before Disconnect a (Calling sent m t x) h = h
  live_before ReachesClient a (Calling sent m t x) h = h
  live_before LostUp a (Calling sent m t x) h = h
  live_before LostDown a (Calling sent m t x) h = h
  live_before TimesOut a (Calling true m t x) h = h
  live_before TimesOut a (Calling false m t x) h = absurd (calling_late m t x (nat_lt t 3) h)
  live_before (Give apdu short) a (Leaving sent m s n t k x u asked served answers taken ps pt) h = h
  live_before Disconnect a (Leaving sent m s n t k x u asked served answers taken ps pt) h = h
  live_before ReachesClient a (Leaving sent m s n t k x u asked served answers taken ps pt) h = h
  live_before LostUp a (Leaving sent m s n t k x u asked served answers taken ps pt) h = h
  live_before LostDown a (Leaving sent m s n t k x u asked served answers taken ps pt) h = h
  live_before TimesOut a (Leaving true m s n t k x u asked served answers taken ps pt) h = h
  live_before TimesOut a (Leaving false m s n t k x u asked served answers taken ps pt) h = leaving_late m s n t k x u asked served answers taken (nat_lt t 3) h
    where
      leaving_late : (m : ServerRecord) (s n t : ℕ) (k : Kept) (x u : List ℕ) (asked served answers taken : List (List ℕ)) (b : Bool) → let w : LinkWorld = record { meter = at who m; client = client_at who Closing s n (Some (disc who)) t k x u; up_line = []; down_line = []; asked = asked; served = served; answers = answers; taken = taken } in
          live (timed_out w (by_count w.client b)) ≡ true → (m.up && false) ≡ true
      leaving_late m s n t k x u asked served answers taken true h = h
      leaving_late m s n t k x u asked served answers taken false h = h
  live_before (Give apdu short) a (Left was m s n t k x u asked served answers taken ps pt) h = h
  live_before Disconnect a (Left was m s n t k x u asked served answers taken ps pt) h = h
  live_before {w} ReachesClient a (Left true m s n t k x u asked served answers taken ps pt) h = rw (is_answer-to_client w.client 115 false [], control_of-ua) at h
  live_before {w} ReachesClient a (Left false m s n t k x u asked served answers taken ps pt) h = rw (is_answer-to_client w.client 31 false [], control_of-dm) at h
  live_before LostUp a (Left was m s n t k x u asked served answers taken ps pt) h = h
  live_before LostDown a (Left was m s n t k x u asked served answers taken ps pt) h = h
  live_before TimesOut a (Left was m s n t k x u asked served answers taken ps pt) h = h
  live_before Connect a (Away m x asked served answers taken ps pt) h = absurd a
  live_before Connect a (Calling sent m t x) h = absurd a
  live_before Connect a (Leaving sent m s n t k x u asked served answers taken ps pt) h = absurd a
  live_before Connect a (Left was m s n t k x u asked served answers taken ps pt) h = absurd a
  live_before (ReachesMeter answer short) a (Away m x asked served answers taken ps pt) h = absurd a
  live_before (ReachesMeter answer short) a (Calling sent m t x) h = absurd a
  live_before (ReachesMeter answer short) a (Leaving sent m s n t k x u asked served answers taken ps pt) h = absurd a
  live_before (ReachesMeter answer short) a (Left was m s n t k x u asked served answers taken ps pt) h = absurd a
  live_before Restarts a (Away m x asked served answers taken ps pt) h = absurd a
  live_before Restarts a (Calling sent m t x) h = absurd a
  live_before Restarts a (Leaving sent m s n t k x u asked served answers taken ps pt) h = absurd a
  live_before Restarts a (Left was m s n t k x u asked served answers taken ps pt) h = absurd a
  live_before (Intrudes frame answer) a (Away m x asked served answers taken ps pt) h = absurd a
  live_before (Intrudes frame answer) a (Calling sent m t x) h = absurd a
  live_before (Intrudes frame answer) a (Leaving sent m s n t k x u asked served answers taken ps pt) h = absurd a
  live_before (Intrudes frame answer) a (Left was m s n t k x u asked served answers taken ps pt) h = absurd a
  live_before TakesOver a (Away m x asked served answers taken ps pt) h = absurd a
  live_before TakesOver a (Calling sent m t x) h = absurd a
  live_before TakesOver a (Leaving sent m s n t k x u asked served answers taken ps pt) h = absurd a
  live_before TakesOver a (Left was m s n t k x u asked served answers taken ps pt) h = absurd a
