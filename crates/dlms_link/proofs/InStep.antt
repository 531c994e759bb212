-- Each APDU that the meter gives up gets one answer: the n-th answer is that to the n-th APDU.
use Rattle.std.proofs.Common.{◌≡◌, ℕ, ◌<◌, ◌≤◌, refl, arith, true, false, Bool, List, [], ◌∷◌, ◌++◌, length, length-append, Option, None, Some}
use Rattle.std.specs.Prelude.{IfSome}
use Rattle.dlms_frame.specs.declared.client.Client.{Client}
use Rattle.dlms_frame.specs.Frame.{Parts}
use Rattle.dlms_link.specs.declared.last_answer.Answer.{Answer}
use Rattle.dlms_link.specs.declared.phase.Phase.{Phase}
use Rattle.dlms_link.specs.declared.phase.Phase.TheVariants.{Closed, Connecting, Open, Closing}
use Rattle.dlms_link.specs.declared.out.LinkOut.{LinkOut}
use Rattle.dlms_link.specs.declared.out.LinkOut.TheVariants.{Nothing, Reply, Apdu, Oversize, BadLlc, Up, Down}
use Rattle.dlms_link.specs.declared.out.ClientOut.{ClientOut}
use Rattle.dlms_link.specs.declared.out.ClientOut.TheVariants.{Nothing as NothingTaken, Up as IsUp, Send, Apdu as ApduTaken, Down as IsDown}
use Rattle.dlms_link.specs.Octet.{information_octet}
use Rattle.dlms_link.specs.Kept.{Kept, Good, kept_after, from_client, is_more}
use Rattle.dlms_link.specs.Parameters.{IsProposable}
use Rattle.dlms_link.specs.Server.{ServerRecord, server_on}
use Rattle.dlms_link.specs.Client.{client_step, client_timeout}
use Rattle.dlms_link.specs.World.{LinkWorld, LinkEvent, Connect, Give, Disconnect, ReachesMeter, ReachesClient, LostUp, LostDown, TimesOut, Restarts, Intrudes, TakesOver, happens, connects, gives, disconnects, meter_does, reaches_meter, client_does, reaches_client, times_out, intrudes, takes_over, run, start_proposing}
use Rattle.dlms_link.proofs.Numbers.{next_lt, before-next}
use Rattle.dlms_link.proofs.Joining.{Joins, IsFirst, kept_goes_on}
use Rattle.dlms_link.proofs.Rows.{row_of-expected, row_of-repeated, row_of-goes_on, row_of-snrm_with, row_of-disc_up, row_of-disc_down}
use Rattle.dlms_link.proofs.Sound.{SoundWith, Away, Calling, Called, Leaving, Left, Idle, Asking, Received, Answered, Readying, LostCalled, LostIdle, LostAsking, Denied, LostReceived, LostAnswered, Silent, Going, Coming, at, server_at, disc}
use Rattle.dlms_link.proofs.Steps.{keep_with, sound_with}

-- neither too long nor badly begun
abbrev pub IsFine : LinkOut → Type 0
IsFine Nothing = Unit {0}
IsFine (Reply f) = Unit {0}
IsFine Apdu = Unit {0}
IsFine Oversize = ⊥
IsFine BadLlc = ⊥
IsFine (Up f) = Unit {0}
IsFine (Down f) = Unit {0}

-- what the oldest frame makes of the meter's link
abbrev pub IsTaken : ServerRecord → List Parts → Type 0
IsTaken m [] = Unit {0}
IsTaken m (f ∷ rest) = IsFine (server_on m f).1

abbrev pub InStep : LinkWorld → Type 0
InStep w = length w.served ≡ length w.answers

module _ (p : Option ℕ) (fair : IfSome p IsProposable) (who : Client) where
  leaves_fine : (m : ServerRecord) (b : Bool) → m.up ≡ b → IsFine (server_on (at who m) (disc who)).1
  leaves_fine m true e = rw (row_of-disc_up (at who m) e) tt
  leaves_fine m false e = rw (row_of-disc_down (at who m) e) tt

  asking_fine : (s n size : ℕ) (last : Answer) (took : Bool) (k : Kept) (had info u apdu : List ℕ) → s < 8 → n < 8 → Joins from_client k (info ++ u) apdu → IsFirst k info → length apdu ≤ 1024 →
      IsFine (server_on (server_at who n s last took k had [] size) (Rattle.dlms_link.specs.Client.to_meter who (information_octet s n) (is_more u) info)).1
  asking_fine s n size last took k had info [] apdu hs hn j i short =
      let on : (bytes : List ℕ) × (kept_after from_client k info ≡ Good bytes) × (bytes ++ [] ≡ apdu) = kept_goes_on from_client k info [] apdu j i short in
      rw (row_of-expected (server_at who n s last took k had [] size) info false s n hs hn refl refl refl, on.1) tt
  asking_fine s n size last took k had info (y ∷ u) apdu hs hn j i short =
      rw (row_of-expected (server_at who n s last took k had [] size) info true s n hs hn refl refl refl) tt

  -- no frame of the client is too long or badly begun
  pub fine : {w : LinkWorld} → SoundWith p who w → IsTaken w.meter w.up_line
  fine (Away m x asked served answers taken ps pt) = tt
  fine (Calling true m t x) = rw (row_of-snrm_with p fair (at who m)) tt
  fine (Calling false m t x) = tt
  fine (Called t x) = tt
  fine (Leaving true m s n t k x u asked served answers taken ps pt) = leaves_fine m m.up refl
  fine (Leaving false m s n t k x u asked served answers taken ps pt) = tt
  fine (Left was m s n t k x u asked served answers taken ps pt) = tt
  fine (Idle s n size last took had x given got hs hn hz) = tt
  fine (Asking true s n size t last took k had x info u apdu given got hs hn hz j i short) = asking_fine s n size last took k had info u apdu hs hn j i short
  fine (Asking false s n size t last took k had x info u apdu given got hs hn hz j i short) = tt
  fine (Received Silent s n size t y bytes had x info u apdu given got hs hn hz j short) = tt
  fine {w} (Received Going s n size t y bytes had x info u apdu given got hs hn hz j short) = rw (row_of-repeated w.meter info true s n hs hn refl refl (before-next s hs) (next_lt s)) tt
  fine (Received Coming s n size t y bytes had x info u apdu given got hs hn hz j short) = tt
  fine (Answered Silent s n size t q took k had x info u answer given got hs hn hz j i short again refuses) = tt
  fine (Answered Going s n size t q took k had x info u answer given got hs hn hz j i short again refuses) = rw again tt
  fine (Answered Coming s n size t q took k had x info u answer given got hs hn hz j i short again refuses) = tt
  fine {w} (Readying true s n size t y last took bytes had x u answer given got hs hn hz j short) = rw (row_of-goes_on w.meter [] false n hn refl refl refl) tt
  fine (Readying false s n size t y last took bytes had x u answer given got hs hn hz j short) = tt
  fine (LostCalled t x) = tt
  fine (LostIdle s n x asked served answers taken hs hn ps pt) = tt
  fine (LostAsking true q s n t k x u asked served answers taken refuses ps pt) = rw refuses.0 tt
  fine (LostAsking false q s n t k x u asked served answers taken refuses ps pt) = tt
  fine (Denied q s n t k x u asked served answers taken refuses ps pt) = tt
  fine (LostReceived s n t y x info u apdu given got hs hn) = tt
  fine (LostAnswered s n t q k x info u answer given got hs hn j i short refuses) = tt

one_more : (xs ys : List (List ℕ)) (x y : List ℕ) → length xs ≡ length ys → length (xs ++ x ∷ []) ≡ length (ys ++ y ∷ [])
one_more xs ys x y h = simp length-append (omega arith)

connects_step : (w : LinkWorld) (phase : Phase) → InStep w → InStep (connects w phase)
connects_step w Closed h = refl
connects_step w Connecting h = h
connects_step w Open h = h
connects_step w Closing h = h

gives_step : (w : LinkWorld) (apdu : List ℕ) (phase : Phase) (waits : Option Parts) → InStep w → InStep (gives w apdu phase waits)
gives_step w apdu Open None h = h
gives_step w apdu Open (Some f) h = h
gives_step w apdu Closed waits h = h
gives_step w apdu Connecting waits h = h
gives_step w apdu Closing waits h = h

disconnects_step : (w : LinkWorld) (phase : Phase) (waits : Option Parts) → InStep w → InStep (disconnects w phase waits)
disconnects_step w Open None h = h
disconnects_step w Open (Some f) h = h
disconnects_step w Closed waits h = h
disconnects_step w Connecting waits h = h
disconnects_step w Closing waits h = h

meter_step : (w : LinkWorld) (answer : List ℕ) (result : LinkOut) → IsFine result → InStep w → InStep (meter_does w answer result)
meter_step w answer Nothing f h = h
meter_step w answer (Reply g) f h = h
meter_step w answer (Up g) f h = h
meter_step w answer (Down g) f h = h
meter_step w answer Apdu f h = one_more w.served w.answers w.meter.apdu answer h
meter_step w answer Oversize f h = absurd f
meter_step w answer BadLlc f h = absurd f

reaches_meter_step : (w : LinkWorld) (answer : List ℕ) (line : List Parts) → IsTaken w.meter line → InStep w → InStep (reaches_meter w answer line)
reaches_meter_step w answer [] f h = h
reaches_meter_step w answer (g ∷ rest) f h = meter_step (record w { meter = (server_on w.meter g).0; up_line = rest }) answer (server_on w.meter g).1 f h

client_does_step : (w : LinkWorld) (result : ClientOut) → InStep w → InStep (client_does w result)
client_does_step w NothingTaken h = h
client_does_step w IsUp h = h
client_does_step w (Send f) h = h
client_does_step w ApduTaken h = h
client_does_step w IsDown h = h

reaches_client_step : (w : LinkWorld) (line : List Parts) → InStep w → InStep (reaches_client w line)
reaches_client_step w [] h = h
reaches_client_step w (g ∷ rest) h = client_does_step (record w { client = (client_step w.client g).0; down_line = rest }) (client_step w.client g).1 h

times_out_step : (w : LinkWorld) (waits : Option Parts) (up down : List Parts) → InStep w → InStep (times_out w waits up down)
times_out_step w None up down h = h
times_out_step w (Some f) [] [] h = h
times_out_step w (Some f) [] (g ∷ down) h = h
times_out_step w (Some f) (g ∷ up) down h = h

intrudes_step : (w : LinkWorld) (frame : Parts) (answer : List ℕ) (phase : Phase) → InStep w → InStep (intrudes w frame answer phase)
intrudes_step w frame answer Closed h = h
intrudes_step w frame answer Connecting h = h
intrudes_step w frame answer Open h = h
intrudes_step w frame answer Closing h = h

takes_over_step : (w : LinkWorld) (up down : List Parts) → InStep w → InStep (takes_over w up down)
takes_over_step w [] [] h = h
takes_over_step w [] (g ∷ down) h = h
takes_over_step w (g ∷ up) down h = h

module _ (p : Option ℕ) (fair : IfSome p IsProposable) (who : Client) where
  step : (w : LinkWorld) (e : LinkEvent) → SoundWith p who w → InStep w → InStep (happens w e)
  step w Connect good h = connects_step w w.client.phase h
  step w (Give apdu short) good h = gives_step w apdu w.client.phase w.client.waits h
  step w Disconnect good h = disconnects_step w w.client.phase w.client.waits h
  step w (ReachesMeter answer short) good h = reaches_meter_step w answer w.up_line (fine p fair who good) h
  step w ReachesClient good h = reaches_client_step w w.down_line h
  step w LostUp good h = h
  step w LostDown good h = h
  step w TimesOut good h = times_out_step w w.client.waits w.up_line w.down_line h
  step w Restarts good h = h
  step w (Intrudes frame answer) good h = intrudes_step w frame answer w.client.phase h
  step w TakesOver good h = takes_over_step w w.up_line w.down_line h

  steps : (es : List LinkEvent) (w : LinkWorld) → SoundWith p who w → InStep w → InStep (run es w)
  steps [] w good h = h
  steps (e ∷ es) w good h = steps es (happens w e) (keep_with p fair who e good) (step w e good h)

  pub in_step : (es : List LinkEvent) → InStep (run es (start_proposing p who))
  in_step es = steps es (start_proposing p who) (sound_with p fair who []) refl
