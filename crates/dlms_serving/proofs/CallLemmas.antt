-- The calls of a meter that serves.
use Rattle.std.proofs.Common.{refl, sym, ◌≡◌, ℕ, zero, suc, arith, Bool, List, [], ◌∷◌, ◌++◌, Option, None, Some, Result, Ok, Err, subst}
use Rattle.std.specs.Prelude.{MatchResult, map}
use Rattle.dlms_ends.specs.Moments.{Moment as LineMoment}
use Rattle.dlms_ends.specs.declared.fault.RunFault.{RunFault}
use Rattle.dlms_frame.specs.declared.client.Client.{Client}
use Rattle.dlms_meter.specs.Histories.{AnyCall, AnyCalls, Linked, Requested}
use Rattle.dlms_meter.specs.Steps.{Call, Calls, IsCall}
use Rattle.dlms_meter.specs.Steps.Call.{Fed, Told}
use Rattle.dlms_meter.specs.declared.meter.Meter.{Meter}
use Rattle.dlms_pages.specs.declared.device.Pages.{Ghosts}
use Rattle.dlms_state.specs.declared.event.Event.{Event}
use Rattle.dlms_state.specs.declared.event.Event.TheVariants.{Pulses, Moment}
use Rattle.dlms_store.specs.declared.fault.AddFault.{AddFault}
use Rattle.dlms_serving.specs.Connection.{At, Arrives, ToRead, Behind, Checks, Connection, Unbegun, Begun, Doing, Reads, Answers, Doings, Nothing, Then, Ends, IsOver, LookEnds, ReadEnds, ReplyEnds, MessageEnds, Tires, Gives, LookFails, NoClock, NoStore, LooksOnce, Looked, Log, Timed, begins, log, timed, timed_of}
use Rattle.dlms_serving.specs.Carrying.{Carries, Delivers, DeliversFrom, Made, sender_of}
use Rattle.dlms_serving.specs.declared.carrier.Carrier.{Carrier}
use Rattle.dlms_serving.specs.declared.carrier.Carrier.TheVariants.{Hdlc, Wrapper}
use Rattle.dlms_wrapper.specs.Message.{Parts}
use Rattle.dlms_wrapper.specs.Stream.{Kept}
use Rattle.dlms_serving.specs.Serving.{Visits, Unprepared, Prepared}
use Rattle.dlms_serving.specs.Telling.{Tells, TellsEach}
use Rattle.dlms_lines.specs.Watching.{Sight}
use Rattle.dlms_serving.specs.declared.talking.Ending.{Ending}
use Rattle.dlms_serving.specs.declared.talking.Rules.{Rules}
use Rattle.dlms_serving.specs.declared.ticks.Second.{Second}
use Rattle.dlms_serving.specs.declared.ticks.Ticks.{Ticks}

module _ {P A : Type 0} {ghosts : Ghosts P} where
  Calls-trans : (xs ys : List Call) (a b c : Meter P A ghosts) → Calls a xs b → Calls b ys c → Calls a (xs ++ ys) c
  Calls-trans [] ys a b c p q = subst (λ (m : Meter P A ghosts). Calls m ys c) p q
  Calls-trans (x ∷ xs) ys a b c p q = (p.0, p.1, Calls-trans xs ys p.0 b c p.2 q)

  AnyCalls-trans : (xs ys : List AnyCall) (a b c : Meter P A ghosts) → AnyCalls a xs b → AnyCalls b ys c → AnyCalls a (xs ++ ys) c
  AnyCalls-trans [] ys a b c p q = subst (λ (m : Meter P A ghosts). AnyCalls m ys c) p q
  AnyCalls-trans (x ∷ xs) ys a b c p q = (p.0, p.1, AnyCalls-trans xs ys p.0 b c p.2 q)

  pub joined : (carrier : Carrier) (a b c : Meter P A ghosts) → Made carrier a b → Made carrier b c → Made carrier a c
  joined Hdlc a b c p q = (p.0 ++ q.0, Calls-trans p.0 q.0 a b c p.1 q.1)
  joined Wrapper a b c p q = (p.0 ++ q.0, AnyCalls-trans p.0 q.0 a b c p.1 q.1)

  pub none_made : (carrier : Carrier) (a : Meter P A ghosts) → Made carrier a a
  none_made Hdlc a = ([], refl)
  none_made Wrapper a = ([], refl)

  same_made : (carrier : Carrier) (a b : Meter P A ghosts) → b ≡ a → Made carrier a b
  same_made carrier a b is = subst (λ (m : Meter P A ghosts). Made carrier a m) (sym is) (none_made carrier a)

  one_made : (carrier : Carrier) (a b : Meter P A ghosts) (call : Call) → IsCall a call b → Made carrier a b
  one_made Hdlc a b call is = (call ∷ [], (b, is, refl))
  one_made Wrapper a b call is = (Linked call ∷ [], (b, is, refl))

  link_calls : (xs : List Call) (a b : Meter P A ghosts) → Calls a xs b → AnyCalls a (map Linked xs) b
  link_calls [] a b is = is
  link_calls (x ∷ xs) a b is = (is.0, is.1, link_calls xs is.0 b is.2)

  -- calls of links are calls over either carrier
  pub linked_made : (carrier : Carrier) (a b : Meter P A ghosts) → (calls : List Call) × Calls a calls b → Made carrier a b
  linked_made Hdlc a b is = is
  linked_made Wrapper a b is = (map Linked is.0, link_calls is.0 a b is.1)

  one_told : (carrier : Carrier) (a b : Meter P A ghosts) (event : Event) (outcome : Result (Unit {0}) AddFault) → IsCall a (Told event outcome) b → Made carrier a b
  one_told carrier a b event outcome is = one_made carrier a b (Told event outcome) is

  behind_pulses : (carrier : Carrier) (a b : Meter P A ghosts) (second : Second) (counted outcome : Result (Unit {0}) AddFault)
      → MatchResult counted (λ _. IsCall a (Told (Moment second.moment) outcome) b) (λ fault. (outcome ≡ Err fault) × (b ≡ a)) → Made carrier a b
  behind_pulses carrier a b second (Ok done) outcome is = one_told carrier a b (Moment second.moment) outcome is
  behind_pulses carrier a b second (Err fault) outcome is = same_made carrier a b is.1

  one_second : (carrier : Carrier) (a b : Meter P A ghosts) (second : Second) (n : ℕ) (outcome : Result (Unit {0}) AddFault) → second.pulses ≡ n → Tells a second outcome b → Made carrier a b
  one_second carrier a b second zero outcome e tells = one_told carrier a b (Moment second.moment) outcome (tells.0 e)
  one_second carrier a b second (suc n) outcome e tells =
      let (counted, between, judged, then) = tells.1 (omega (arith, e)) in
      joined carrier a between b (one_told carrier a between (Pulses 0 second.pulses) counted judged) (behind_pulses carrier between b second counted outcome then)

  each_second : (carrier : Carrier) (a b : Meter P A ghosts) (said outcome : Result (Unit {0}) AddFault) (seconds : List Second) → TellsEach a said seconds outcome b → Made carrier a b
  each_second carrier a b said outcome [] is = same_made carrier a b is.0
  each_second carrier a b said outcome (second ∷ seconds) is = joined carrier a is.2 b (one_second carrier a is.2 second second.pulses is.1 refl is.3) (each_second carrier is.2 b is.1 outcome seconds is.4)

  looked_made : (carrier : Carrier) (step now : ℕ) (s t : Timed P A ghosts) → Looked step s now t → Made carrier s.meter t.meter
  looked_made carrier step now s t look = each_second carrier s.meter t.meter (Ok tt) look.outcome look.looks.1.seconds look.looks.1.each

  failed_made : (carrier : Carrier) (step : ℕ) (s t : Timed P A ghosts) (fault : RunFault) (sights : List Sight) → LookFails step s fault sights t → Made carrier s.meter t.meter
  failed_made carrier step s t fault sights (NoClock of_system) = none_made carrier s.meter
  failed_made carrier step s t fault sights (NoStore now due why new is_due looks tells) = each_second carrier s.meter t.meter (Ok tt) (Err why) looks.1.seconds looks.1.each

  pub look_made : (carrier : Carrier) (step : ℕ) (seen seen' : Option (List Sight)) (a b : Meter P A ghosts) (ticks ticks' : Ticks) (result : Result ℕ RunFault) → LooksOnce step seen seen' (timed a ticks) result (timed b ticks') → Made carrier a b
  look_made carrier step seen seen' a b ticks ticks' (Ok now) looks = looked_made carrier step now (timed a ticks) (timed b ticks') looks.1
  look_made carrier step seen seen' a b ticks ticks' (Err fault) looks = failed_made carrier step (timed a ticks) (timed b ticks') fault looks.0 looks.2

  delivered_made : (who : Option Client) (m : Parts) (a b : Meter P A ghosts) (reply : Option (List ℕ)) → DeliversFrom who m a reply b → Made Wrapper a b
  delivered_made None m a b reply is = same_made Wrapper a b is.0
  delivered_made (Some who) m a b reply (answer, call, same) = (Requested who m.apdu answer ∷ [], (b, call, refl))

  found_made : (m : Option Parts) (a b : Meter P A ghosts) (reply : Option (List ℕ)) → Delivers m a reply b → Made Wrapper a b
  found_made None a b reply is = same_made Wrapper a b is.0
  found_made (Some m) a b reply is = delivered_made (sender_of m) m a b reply is

  carried_made : (carrier : Carrier) (kept : Kept) (a b : Meter P A ghosts) (taken : List ℕ) (reply : Option (List ℕ)) (kept' : Kept) → Carries carrier kept a taken reply kept' b → Made carrier a b
  carried_made Hdlc kept a b taken reply kept' is = one_made Hdlc a b (Fed taken reply) is.0
  carried_made Wrapper kept a b taken reply kept' is = found_made kept'.message a b reply is.2

  gives_made : (carrier : Carrier) (s given : At P A ghosts) (reply : Option (List ℕ)) → Gives carrier s reply given → Made carrier s.meter given.meter
  gives_made carrier s given reply gives = carried_made carrier s.state.reader s.meter given.meter gives.taken reply gives.reader gives.call

  checks_made : (rules : Rules) (s after : At P A ghosts) (is_answered : Bool) (now : ℕ) (sights : List Sight) → Checks rules s is_answered now sights after → Made rules.carrier s.meter after.meter
  checks_made rules s after is_answered now sights checks = looked_made rules.carrier rules.tick now (timed_of s) (timed_of after) checks.look

  doing_made : (rules : Rules) (s after : At P A ghosts) (moments : List LineMoment) (sights : List Sight) → Doing rules s moments sights after → Made rules.carrier s.meter after.meter
  doing_made rules s after moments sights (Reads now more mid moment bytes left checks tells read) = checks_made rules s mid _ now more checks
  doing_made rules s after moments sights (Answers reply given now more a gives checks tells) = joined rules.carrier s.meter given.meter after.meter (gives_made rules.carrier s given reply gives) (checks_made rules given after _ now more checks)

  doings_made : (rules : Rules) (s after : At P A ghosts) (moments : List LineMoment) (sights : List Sight) → Doings rules s moments sights after → Made rules.carrier s.meter after.meter
  doings_made rules s after moments sights Nothing = none_made rules.carrier s.meter
  doings_made rules s after moments sights (Then before more asked others mid a does doing) =
      joined rules.carrier s.meter mid.meter after.meter (doings_made rules s mid before asked does) (doing_made rules mid after more others doing)

  arrives_made : (carrier : Carrier) (s given : At P A ghosts) (moments : List LineMoment) (is_answered : Bool) → Arrives carrier s moments is_answered given → Made carrier s.meter given.meter
  arrives_made carrier s given moments is_answered (ToRead left) = none_made carrier s.meter
  arrives_made carrier s given moments is_answered (Behind reply g gives) = gives_made carrier s given reply gives

  ends_made : (rules : Rules) (s : At P A ghosts) (result : Result Ending RunFault) (moments : List LineMoment) (sights : List Sight) (t : Timed P A ghosts) → Ends rules s result moments sights t → Made rules.carrier s.meter t.meter
  ends_made rules s result moments sights t (IsOver m is_answered given now more after why arrives checks tells) =
      joined rules.carrier s.meter given.meter t.meter (arrives_made rules.carrier s given m is_answered arrives) (checks_made rules given after is_answered now more checks)
  ends_made rules s result moments sights t (LookEnds m is_answered given fault more new arrives fails) =
      joined rules.carrier s.meter given.meter t.meter (arrives_made rules.carrier s given m is_answered arrives) (failed_made rules.carrier rules.tick (timed_of given) t fault more fails)
  ends_made rules s result moments sights t (ReadEnds now more after error ending left checks tells of_read) = checks_made rules s after _ now more checks
  ends_made rules s result moments sights t (ReplyEnds reply part missing given error gives cut) = gives_made rules.carrier s given (Some reply) gives
  ends_made rules s result moments sights t (MessageEnds bad) = none_made rules.carrier s.meter
  ends_made rules s result moments sights t (Tires left all) = none_made rules.carrier s.meter

  connection_calls : (rules : Rules) (old new : Log) (s t : Timed P A ghosts) (result : Result Ending RunFault) → Connection rules old new s result t → Made rules.carrier s.meter t.meter
  connection_calls rules old new s t result (Unbegun fault sights after fails extends) = failed_made rules.carrier rules.tick s t fault sights fails
  connection_calls rules old new s t result (Begun first mid begun after r look extends ends) =
      joined rules.carrier s.meter begun.meter t.meter (looked_made rules.carrier rules.tick first s begun look)
      (joined rules.carrier begun.meter ends.last.meter t.meter (doings_made rules (begins begun first) ends.last ends.goes.moments ends.goes.sights ends.goes.does) (ends_made rules ends.last result ends.moments ends.sights t ends.ends))

  visit_calls : (rules : Rules) (v w : Option (List Sight)) (s t : Timed P A ghosts) (result : Result Ending RunFault) → Visits rules v w s result t → Made rules.carrier s.meter t.meter
  visit_calls rules v w s t result (Unprepared error sees) = none_made rules.carrier s.meter
  visit_calls rules v w s t result (Prepared now p q r after sees connection) = connection_calls rules (log p now) (log q w) s t result connection

  pub connection_made : (rules : Rules) (p q : Option (List LineMoment)) (v w : Option (List Sight)) (a b : Meter P A ghosts) (ticks ticks' : Ticks) (result : Result Ending RunFault)
      → Connection rules (log p v) (log q w) (timed a ticks) result (timed b ticks') → Made rules.carrier a b
  connection_made rules p q v w a b ticks ticks' result is = connection_calls rules (log p v) (log q w) (timed a ticks) (timed b ticks') result is

  pub visit_made : (rules : Rules) (v w : Option (List Sight)) (a b : Meter P A ghosts) (ticks ticks' : Ticks) (result : Result Ending RunFault) → Visits rules v w (timed a ticks) result (timed b ticks') → Made rules.carrier a b
  visit_made rules v w a b ticks ticks' result is = visit_calls rules v w (timed a ticks) (timed b ticks') result is
