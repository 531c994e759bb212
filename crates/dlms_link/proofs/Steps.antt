-- Each event keeps the invariant.
use Rattle.std.proofs.Common.{◌≡◌, ℕ, ◌+◌, ◌<◌, ◌≤◌, refl, sym, ◌∙◌, ap, subst, arith, true, false, Bool, List, [], ◌∷◌, ◌++◌, length, take, drop, append_assoc, Option, None, Some, nat_lt}
use Rattle.std.specs.Prelude.{IfSome}
use Rattle.std.proofs.lemmas.List.{append-nil, take-append-drop}
use Rattle.dlms_frame.specs.declared.client.Client.{Client}
use Rattle.dlms_frame.specs.declared.frame.Address.TheVariants.{One}
use Rattle.dlms_frame.specs.Frame.{Parts}
use Rattle.dlms_link.specs.declared.last_answer.Answer.{Answer}
use Rattle.dlms_link.specs.declared.last_answer.Answer.TheVariants.{NoAnswer, WasReady, WasInformation}
use Rattle.dlms_link.specs.declared.phase.Phase.TheVariants.{Closed, Connecting, Open, Closing}
use Rattle.dlms_link.specs.Octet.{information_octet, ready_octet, next}
use Rattle.dlms_link.specs.Kept.{Kept, Fresh, Good, kept_after, llc, from_client, from_meter, is_more}
use Rattle.dlms_link.specs.Parameters.{IsProposable, information_of, own_parameters}
use Rattle.dlms_link.specs.Server.{server_send, fresh_server, ServerRecord, row_of, to_client, by_row}
use Rattle.dlms_link.specs.declared.out.LinkOut.{LinkOut}
use Rattle.dlms_link.specs.declared.out.LinkOut.TheVariants.{Nothing, Reply, Apdu, Oversize, BadLlc, Up, Down}
use Rattle.dlms_link.specs.declared.server_row.ServerRow.{ServerRow}
use Rattle.dlms_link.specs.declared.server_row.ServerRow.TheVariants.{Ignores, SaysReady, Repeats, Disconnects, Refuses, Connects, Keeps, HandsUp, SendsNext}
use Rattle.dlms_link.specs.Client.{by_count, to_meter}
use Rattle.dlms_link.specs.World.{settled, LinkWorld, replies, LinkEvent, Connect, Give, Disconnect, ReachesMeter, ReachesClient, LostUp, LostDown, TimesOut, Restarts, Intrudes, TakesOver, after_both, happens, timed_out, run, start, start_proposing, IsBeginningOf}
use Rattle.dlms_link.proofs.Numbers.{next_lt, before-next, control_of-information, control_of-ready, control_of-ua, control_of-dm}
use Rattle.dlms_link.proofs.Joining.{Joins, IsFirst, kept_goes_on, first_is_whole}
use Rattle.dlms_link.proofs.Proposals.{agreed-own}
use Rattle.dlms_link.proofs.Rows.{row_of-expected, row_of-repeated, row_of-goes_on, row_of-ready_repeated, row_of-snrm_with, row_of-disc_up, row_of-disc_down, IsRefused, information_refused, ready_refused, is_answer-to_client, way_of-expected, way_of-goes_on}
use Rattle.dlms_link.proofs.Sound.{at, Sound, SoundWith, Away, Calling, Called, Leaving, Left, Idle, Asking, Received, Answered, Readying, LostCalled, LostIdle, LostAsking, Denied, LostReceived, LostAnswered, Line, Silent, Going, Coming, server_at, client_with, snrm_with, disc, ua_up, gone, going, coming, on_line}

whole : (xs : List (List ℕ)) → IsBeginningOf xs xs
whole xs = ([], append-nil xs)

longer : (xs : List (List ℕ)) (x : List ℕ) → IsBeginningOf xs (xs ++ x ∷ [])
longer xs x = (x ∷ [], refl)

none : (xs : List (List ℕ)) → IsBeginningOf [] xs
none xs = (xs, refl)

pub whole_good : (k : Kept) (bytes apdu : List ℕ) → k ≡ Good bytes → bytes ++ [] ≡ apdu → k ≡ Good apdu
whole_good k bytes apdu e all = e ∙ ap Good (sym (append-nil bytes) ∙ all)

module _ (p : Option ℕ) (fair : IfSome p IsProposable) (who : Client) where
  keep_idle : (s n size : ℕ) (last : Answer) (took : Bool) (ap x : List ℕ) (given got : List (List ℕ)) → s < 8 → n < 8 → 3 ≤ size → (e : LinkEvent) →
      SoundWith p who (happens (record { meter = server_at who n s last took Fresh ap [] size; client = client_with p who Open s n None 0 Fresh x []; up_line = []; down_line = []; asked = given; served = given; answers = got; taken = got }) e)
  keep_idle s n size last took ap x given got hs hn hz Connect = Idle s n size last took ap x given got hs hn hz
  keep_idle s n size last took ap x given got hs hn hz Restarts = LostIdle s n x given given got got hs hn (whole given) (whole got)
  keep_idle s n size last took ap x given got hs hn hz (Intrudes frame answer) = Idle s n size last took ap x given got hs hn hz
  keep_idle s n size last took ap x given got hs hn hz TakesOver = Away (server_at who n s last took Fresh ap [] size) [] given given got got (whole given) (whole got)
  keep_idle s n size last took ap x given got hs hn hz (Give apdu short) =
      Asking true s n size 0 last took Fresh ap x (take 128 (llc from_client ++ apdu)) (drop 128 (llc from_client ++ apdu)) apdu given got hs hn hz
      (take-append-drop 128 (llc from_client ++ apdu)) (first_is_whole from_client 128 apdu (omega arith)) short
  keep_idle s n size last took ap x given got hs hn hz Disconnect =
      Leaving true (server_at who n s last took Fresh ap [] size) s n 0 Fresh x [] given given got got (whole given) (whole got)
  keep_idle s n size last took ap x given got hs hn hz (ReachesMeter answer short) = Idle s n size last took ap x given got hs hn hz
  keep_idle s n size last took ap x given got hs hn hz ReachesClient = Idle s n size last took ap x given got hs hn hz
  keep_idle s n size last took ap x given got hs hn hz LostUp = Idle s n size last took ap x given got hs hn hz
  keep_idle s n size last took ap x given got hs hn hz LostDown = Idle s n size last took ap x given got hs hn hz
  keep_idle s n size last took ap x given got hs hn hz TimesOut = Idle s n size last took ap x given got hs hn hz

  -- whatever another hand sends while nothing is on
  module _ (x : List ℕ) (asked served answers taken : List (List ℕ)) (ps : IsBeginningOf served asked) (pt : IsBeginningOf taken answers) (answer : List ℕ) where
    away_settled : (r : ServerRecord) (result : LinkOut) →
        SoundWith p who (record { meter = settled (at who r) answer result; client = client_with p who Closed 0 0 None 0 Fresh x []; up_line = []; down_line = []; asked = asked; served = served; answers = answers; taken = taken })
    away_settled r Nothing = Away r x asked served answers taken ps pt
    away_settled r (Reply g) = Away r x asked served answers taken ps pt
    away_settled r Apdu = Away (server_send (at who r) answer).0 x asked served answers taken ps pt
    away_settled r Oversize = Away (server_send (at who r) answer).0 x asked served answers taken ps pt
    away_settled r BadLlc = Away (server_send (at who r) answer).0 x asked served answers taken ps pt
    away_settled r (Up g) = Away r x asked served answers taken ps pt
    away_settled r (Down g) = Away r x asked served answers taken ps pt

    intruded : (m : ServerRecord) (f : Parts) (row : ServerRow) →
        SoundWith p who (record { meter = after_both (by_row (at who m) f row) answer; client = client_with p who Closed 0 0 None 0 Fresh x []; up_line = []; down_line = []; asked = asked; served = served; answers = answers; taken = taken })
    intruded m f (Connects z) = away_settled (by_row (at who m) f (Connects z)).0 (by_row (at who m) f (Connects z)).1
    intruded m f Refuses = away_settled (by_row (at who m) f Refuses).0 (by_row (at who m) f Refuses).1
    intruded m f Disconnects = away_settled (by_row (at who m) f Disconnects).0 (by_row (at who m) f Disconnects).1
    intruded m f Keeps = away_settled (by_row (at who m) f Keeps).0 (by_row (at who m) f Keeps).1
    intruded m f HandsUp = away_settled (by_row (at who m) f HandsUp).0 (by_row (at who m) f HandsUp).1
    intruded m f Repeats = away_settled (by_row (at who m) f Repeats).0 (by_row (at who m) f Repeats).1
    intruded m f SendsNext = away_settled (by_row (at who m) f SendsNext).0 (by_row (at who m) f SendsNext).1
    intruded m f SaysReady = away_settled (by_row (at who m) f SaysReady).0 (by_row (at who m) f SaysReady).1
    intruded m f Ignores = away_settled (by_row (at who m) f Ignores).0 (by_row (at who m) f Ignores).1

  keep_away : (m : ServerRecord) (x : List ℕ) (asked served answers taken : List (List ℕ)) → IsBeginningOf served asked → IsBeginningOf taken answers → (e : LinkEvent) →
      SoundWith p who (happens (record { meter = at who m; client = client_with p who Closed 0 0 None 0 Fresh x []; up_line = []; down_line = []; asked = asked; served = served; answers = answers; taken = taken }) e)
  keep_away m x asked served answers taken ps pt Connect = Calling true m 0 x
  keep_away m x asked served answers taken ps pt Restarts = Away (fresh_server who) x asked served answers taken ps pt
  keep_away m x asked served answers taken ps pt (Intrudes frame answer) = intruded x asked served answers taken ps pt answer m frame (row_of (at who m) frame)
  keep_away m x asked served answers taken ps pt TakesOver = Away m [] asked served answers taken ps pt
  keep_away m x asked served answers taken ps pt (Give apdu short) = Away m x asked served answers taken ps pt
  keep_away m x asked served answers taken ps pt Disconnect = Away m x asked served answers taken ps pt
  keep_away m x asked served answers taken ps pt (ReachesMeter answer short) = Away m x asked served answers taken ps pt
  keep_away m x asked served answers taken ps pt ReachesClient = Away m x asked served answers taken ps pt
  keep_away m x asked served answers taken ps pt LostUp = Away m x asked served answers taken ps pt
  keep_away m x asked served answers taken ps pt LostDown = Away m x asked served answers taken ps pt
  keep_away m x asked served answers taken ps pt TimesOut = Away m x asked served answers taken ps pt

  abbrev calling : Bool → ServerRecord → ℕ → List ℕ → LinkWorld
  calling sent m t x = record { meter = at who m; client = client_with p who Connecting 0 0 (Some (snrm_with p who)) t Fresh x []; up_line = on_line sent (snrm_with p who); down_line = []; asked = []; served = []; answers = []; taken = [] }

  calling_late : (m : ServerRecord) (t : ℕ) (x : List ℕ) (b : Bool) → SoundWith p who (timed_out (calling false m t x) (by_count (calling false m t x).client b))
  calling_late m t x true = Calling true m (t + 1) x
  calling_late m t x false = Away m x [] [] [] [] (none []) (none [])

  keep_calling : (sent : Bool) (m : ServerRecord) (t : ℕ) (x : List ℕ) (e : LinkEvent) → SoundWith p who (happens (calling sent m t x) e)
  keep_calling sent m t x Connect = Calling sent m t x
  keep_calling sent m t x Restarts = Calling sent (fresh_server who) t x
  keep_calling sent m t x (Intrudes frame answer) = Calling sent m t x
  keep_calling true m t x TakesOver = Calling true m t x
  keep_calling false m t x TakesOver = Away m [] [] [] [] [] (none []) (none [])
  keep_calling sent m t x (Give apdu short) = Calling sent m t x
  keep_calling sent m t x Disconnect = Calling sent m t x
  keep_calling sent m t x ReachesClient = Calling sent m t x
  keep_calling true m t x LostUp = Calling false m t x
  keep_calling false m t x LostUp = Calling false m t x
  keep_calling sent m t x LostDown = Calling sent m t x
  keep_calling true m t x TimesOut = Calling true m t x
  keep_calling false m t x TimesOut = calling_late m t x (nat_lt t 3)
  keep_calling false m t x (ReachesMeter answer short) = Calling false m t x
  keep_calling true m t x (ReachesMeter answer short) = rw (row_of-snrm_with p fair (at who m)) (Called t x)

  abbrev called : ℕ → List ℕ → LinkWorld
  called t x = record { meter = server_at who 0 0 NoAnswer false Fresh [] [] 128; client = client_with p who Connecting 0 0 (Some (snrm_with p who)) t Fresh x []; up_line = []; down_line = ua_up who ∷ []; asked = []; served = []; answers = []; taken = [] }

  keep_called : (t : ℕ) (x : List ℕ) (e : LinkEvent) → SoundWith p who (happens (called t x) e)
  keep_called t x Connect = Called t x
  keep_called t x Restarts = LostCalled t x
  keep_called t x (Intrudes frame answer) = Called t x
  keep_called t x TakesOver = Called t x
  keep_called t x (Give apdu short) = Called t x
  keep_called t x Disconnect = Called t x
  keep_called t x (ReachesMeter answer short) = Called t x
  keep_called t x ReachesClient = rw (is_answer-to_client (called t x).client 115 false (information_of (own_parameters 128)), control_of-ua, agreed-own p) (Idle 0 0 128 NoAnswer false [] x [] [] (omega arith) (omega arith) (omega arith))
  keep_called t x LostUp = Called t x
  keep_called t x LostDown = Calling false (server_at who 0 0 NoAnswer false Fresh [] [] 128) t x
  keep_called t x TimesOut = Called t x

  abbrev leaving : Bool → ServerRecord → ℕ → ℕ → ℕ → Kept → List ℕ → List ℕ → List (List ℕ) → List (List ℕ) → List (List ℕ) → List (List ℕ) → LinkWorld
  leaving sent m s n t k x u asked served answers taken = record { meter = at who m; client = client_with p who Closing s n (Some (disc who)) t k x u; up_line = on_line sent (disc who); down_line = []; asked = asked; served = served; answers = answers; taken = taken }

  leaving_late : (m : ServerRecord) (s n t : ℕ) (k : Kept) (x u : List ℕ) (asked served answers taken : List (List ℕ)) → IsBeginningOf served asked → IsBeginningOf taken answers → (b : Bool) →
      SoundWith p who (timed_out (leaving false m s n t k x u asked served answers taken) (by_count (leaving false m s n t k x u asked served answers taken).client b))
  leaving_late m s n t k x u asked served answers taken ps pt true = Leaving true m s n (t + 1) k x u asked served answers taken ps pt
  leaving_late m s n t k x u asked served answers taken ps pt false = Away m x asked served answers taken ps pt

  -- the meter answers a DISC, by whether its link was up
  leaves : (m : ServerRecord) (s n t : ℕ) (k : Kept) (x u : List ℕ) (asked served answers taken : List (List ℕ)) → IsBeginningOf served asked → IsBeginningOf taken answers → (answer : List ℕ) (short : length answer ≤ 1024) → (b : Bool) → m.up ≡ b →
      SoundWith p who (happens (leaving true m s n t k x u asked served answers taken) (ReachesMeter answer short))
  leaves m s n t k x u asked served answers taken ps pt answer short true e = rw (row_of-disc_up (at who m) e) (Left true (record m { up = false }) s n t k x u asked served answers taken ps pt)
  leaves m s n t k x u asked served answers taken ps pt answer short false e = rw (row_of-disc_down (at who m) e) (Left false (record m { up = false }) s n t k x u asked served answers taken ps pt)

  keep_leaving : (sent : Bool) (m : ServerRecord) (s n t : ℕ) (k : Kept) (x u : List ℕ) (asked served answers taken : List (List ℕ)) → IsBeginningOf served asked → IsBeginningOf taken answers → (e : LinkEvent) →
      SoundWith p who (happens (leaving sent m s n t k x u asked served answers taken) e)
  keep_leaving sent m s n t k x u asked served answers taken ps pt Connect = Leaving sent m s n t k x u asked served answers taken ps pt
  keep_leaving sent m s n t k x u asked served answers taken ps pt Restarts = Leaving sent (fresh_server who) s n t k x u asked served answers taken ps pt
  keep_leaving sent m s n t k x u asked served answers taken ps pt (Intrudes frame answer) = Leaving sent m s n t k x u asked served answers taken ps pt
  keep_leaving true m s n t k x u asked served answers taken ps pt TakesOver = Leaving true m s n t k x u asked served answers taken ps pt
  keep_leaving false m s n t k x u asked served answers taken ps pt TakesOver = Away m [] asked served answers taken ps pt
  keep_leaving sent m s n t k x u asked served answers taken ps pt (Give apdu short) = Leaving sent m s n t k x u asked served answers taken ps pt
  keep_leaving sent m s n t k x u asked served answers taken ps pt Disconnect = Leaving sent m s n t k x u asked served answers taken ps pt
  keep_leaving sent m s n t k x u asked served answers taken ps pt ReachesClient = Leaving sent m s n t k x u asked served answers taken ps pt
  keep_leaving true m s n t k x u asked served answers taken ps pt LostUp = Leaving false m s n t k x u asked served answers taken ps pt
  keep_leaving false m s n t k x u asked served answers taken ps pt LostUp = Leaving false m s n t k x u asked served answers taken ps pt
  keep_leaving sent m s n t k x u asked served answers taken ps pt LostDown = Leaving sent m s n t k x u asked served answers taken ps pt
  keep_leaving true m s n t k x u asked served answers taken ps pt TimesOut = Leaving true m s n t k x u asked served answers taken ps pt
  keep_leaving false m s n t k x u asked served answers taken ps pt TimesOut = leaving_late m s n t k x u asked served answers taken ps pt (nat_lt t 3)
  keep_leaving false m s n t k x u asked served answers taken ps pt (ReachesMeter answer short) = Leaving false m s n t k x u asked served answers taken ps pt
  keep_leaving true m s n t k x u asked served answers taken ps pt (ReachesMeter answer short) = leaves m s n t k x u asked served answers taken ps pt answer short m.up refl

  abbrev left : Bool → ServerRecord → ℕ → ℕ → ℕ → Kept → List ℕ → List ℕ → List (List ℕ) → List (List ℕ) → List (List ℕ) → List (List ℕ) → LinkWorld
  left was m s n t k x u asked served answers taken = record { meter = at who m; client = client_with p who Closing s n (Some (disc who)) t k x u; up_line = []; down_line = gone who was ∷ []; asked = asked; served = served; answers = answers; taken = taken }

  keep_left : (was : Bool) (m : ServerRecord) (s n t : ℕ) (k : Kept) (x u : List ℕ) (asked served answers taken : List (List ℕ)) → IsBeginningOf served asked → IsBeginningOf taken answers → (e : LinkEvent) →
      SoundWith p who (happens (left was m s n t k x u asked served answers taken) e)
  keep_left was m s n t k x u asked served answers taken ps pt Connect = Left was m s n t k x u asked served answers taken ps pt
  keep_left was m s n t k x u asked served answers taken ps pt Restarts = Left was (fresh_server who) s n t k x u asked served answers taken ps pt
  keep_left was m s n t k x u asked served answers taken ps pt (Intrudes frame answer) = Left was m s n t k x u asked served answers taken ps pt
  keep_left was m s n t k x u asked served answers taken ps pt TakesOver = Left was m s n t k x u asked served answers taken ps pt
  keep_left was m s n t k x u asked served answers taken ps pt (Give apdu short) = Left was m s n t k x u asked served answers taken ps pt
  keep_left was m s n t k x u asked served answers taken ps pt Disconnect = Left was m s n t k x u asked served answers taken ps pt
  keep_left was m s n t k x u asked served answers taken ps pt (ReachesMeter answer short) = Left was m s n t k x u asked served answers taken ps pt
  keep_left true m s n t k x u asked served answers taken ps pt ReachesClient = rw (is_answer-to_client (left true m s n t k x u asked served answers taken).client 115 false [], control_of-ua) (Away m x asked served answers taken ps pt)
  keep_left false m s n t k x u asked served answers taken ps pt ReachesClient = rw (is_answer-to_client (left false m s n t k x u asked served answers taken).client 31 false [], control_of-dm) (Away m x asked served answers taken ps pt)
  keep_left was m s n t k x u asked served answers taken ps pt LostUp = Left was m s n t k x u asked served answers taken ps pt
  keep_left was m s n t k x u asked served answers taken ps pt LostDown = Leaving false m s n t k x u asked served answers taken ps pt
  keep_left was m s n t k x u asked served answers taken ps pt TimesOut = Left was m s n t k x u asked served answers taken ps pt

  -- the first segment of an answer is out
  answers_first : (s n size t : ℕ) (last : Answer) (k : Kept) (had x info answer : List ℕ) (given got : List (List ℕ)) → s < 8 → n < 8 → 3 ≤ size → length answer ≤ 1024 →
      SoundWith p who (replies (record { meter = record { client = who; up = true; send_next = n; receive_next = next s; last = last; took_information = true; kept = Fresh; apdu = had; unsent = []; size = size; waits = Some (One 1) }; client = client_with p who Open (next s) n (Some (to_meter who (information_octet s n) false info)) t Fresh x []; up_line = []; down_line = []; asked = given; served = given; answers = got; taken = got }) answer)
  answers_first s n size t last k had x info answer given got hs hn hz short =
      let w : List ℕ = llc from_meter ++ answer in
      Answered Coming (next s) n size t (to_meter who (information_octet s n) false info) true Fresh had x (take size w) (drop size w) answer given got (next_lt s) hn hz
      (take-append-drop size w) (first_is_whole from_meter size answer hz) short
      (row_of-repeated (server_at who (next n) (next s) (WasInformation (to_client who (One 1) (information_octet n (next s)) (is_more (drop size w)) (take size w))) true Fresh had (drop size w) size) info false s n hs hn refl refl (before-next s hs) (next_lt s))
      (information_refused who false info s n hs hn)

  abbrev asking : Bool → ℕ → ℕ → ℕ → ℕ → Answer → Bool → Kept → List ℕ → List ℕ → List ℕ → List ℕ → List ℕ → List (List ℕ) → List (List ℕ) → LinkWorld
  asking sent s n size t last took k ap x info u apdu given got = record { meter = server_at who n s last took k ap [] size; client = client_with p who Open (next s) n (Some (to_meter who (information_octet s n) (is_more u) info)) t Fresh x u; up_line = on_line sent (to_meter who (information_octet s n) (is_more u) info); down_line = []; asked = given ++ apdu ∷ []; served = given; answers = got; taken = got }

  module _ (s n size t : ℕ) (last : Answer) (took : Bool) (k : Kept) (ap x info : List ℕ) (apdu : List ℕ) (given got : List (List ℕ)) (hs : s < 8) (hn : n < 8) (hz : 3 ≤ size) where
    asking_late : (u : List ℕ) → Joins from_client k (info ++ u) apdu → IsFirst k info → length apdu ≤ 1024 → (b : Bool) →
        SoundWith p who (timed_out (asking false s n size t last took k ap x info u apdu given got) (by_count (asking false s n size t last took k ap x info u apdu given got).client b))
    asking_late u j i short true = Asking true s n size (t + 1) last took k ap x info u apdu given got hs hn hz j i short
    asking_late u j i short false = Away (server_at who n s last took k ap [] size) x (given ++ apdu ∷ []) given got got (longer given apdu) (whole got)

    asks : (u : List ℕ) → Joins from_client k (info ++ u) apdu → IsFirst k info → length apdu ≤ 1024 → (answer : List ℕ) (h : length answer ≤ 1024) →
        SoundWith p who (happens (asking true s n size t last took k ap x info u apdu given got) (ReachesMeter answer h))
    asks [] j i short answer h =
        let on : (bytes : List ℕ) × (kept_after from_client k info ≡ Good bytes) × (bytes ++ [] ≡ apdu) = kept_goes_on from_client k info [] apdu j i short in
        let all : kept_after from_client k info ≡ Good apdu = whole_good (kept_after from_client k info) on.0 apdu on.1 on.2 in
        rw (row_of-expected (server_at who n s last took k ap [] size) info false s n hs hn refl refl refl, all)
        (answers_first s n size t last k apdu x info answer (given ++ apdu ∷ []) got hs hn hz h)
    asks (y ∷ u) j i short answer h =
        let on : (bytes : List ℕ) × (kept_after from_client k info ≡ Good bytes) × (bytes ++ (y ∷ u) ≡ apdu) = kept_goes_on from_client k info (y ∷ u) apdu j i short in
        rw (row_of-expected (server_at who n s last took k ap [] size) info true s n hs hn refl refl refl, on.1)
        (Received Coming s n size t y on.0 ap x info u apdu given got hs hn hz on.2 short)

  keep_asking : (sent : Bool) (s n size t : ℕ) (last : Answer) (took : Bool) (k : Kept) (had x info u apdu : List ℕ) (given got : List (List ℕ)) → s < 8 → n < 8 → 3 ≤ size → Joins from_client k (info ++ u) apdu → IsFirst k info → length apdu ≤ 1024 → (e : LinkEvent) →
      SoundWith p who (happens (asking sent s n size t last took k had x info u apdu given got) e)
  keep_asking sent s n size t last took k had x info u apdu given got hs hn hz j i short Connect = Asking sent s n size t last took k had x info u apdu given got hs hn hz j i short
  keep_asking sent s n size t last took k had x info u apdu given got hs hn hz j i short Restarts = LostAsking sent (to_meter who (information_octet s n) (is_more u) info) (next s) n t Fresh x u (given ++ apdu ∷ []) given got got (information_refused who (is_more u) info s n hs hn) (longer given apdu) (whole got)
  keep_asking sent s n size t last took k had x info u apdu given got hs hn hz j i short (Intrudes frame answer) = Asking sent s n size t last took k had x info u apdu given got hs hn hz j i short
  keep_asking true s n size t last took k had x info u apdu given got hs hn hz j i short TakesOver = Asking true s n size t last took k had x info u apdu given got hs hn hz j i short
  keep_asking false s n size t last took k had x info u apdu given got hs hn hz j i short TakesOver = Away (server_at who n s last took k had [] size) [] (given ++ apdu ∷ []) given got got (longer given apdu) (whole got)
  keep_asking sent s n size t last took k had x info u apdu given got hs hn hz j i short (Give more m) = Asking sent s n size t last took k had x info u apdu given got hs hn hz j i short
  keep_asking sent s n size t last took k had x info u apdu given got hs hn hz j i short Disconnect = Asking sent s n size t last took k had x info u apdu given got hs hn hz j i short
  keep_asking sent s n size t last took k had x info u apdu given got hs hn hz j i short ReachesClient = Asking sent s n size t last took k had x info u apdu given got hs hn hz j i short
  keep_asking true s n size t last took k had x info u apdu given got hs hn hz j i short LostUp = Asking false s n size t last took k had x info u apdu given got hs hn hz j i short
  keep_asking false s n size t last took k had x info u apdu given got hs hn hz j i short LostUp = Asking false s n size t last took k had x info u apdu given got hs hn hz j i short
  keep_asking sent s n size t last took k had x info u apdu given got hs hn hz j i short LostDown = Asking sent s n size t last took k had x info u apdu given got hs hn hz j i short
  keep_asking true s n size t last took k had x info u apdu given got hs hn hz j i short TimesOut = Asking true s n size t last took k had x info u apdu given got hs hn hz j i short
  keep_asking false s n size t last took k had x info u apdu given got hs hn hz j i short TimesOut = asking_late s n size t last took k had x info apdu given got hs hn hz u j i short (nat_lt t 3)
  keep_asking false s n size t last took k had x info u apdu given got hs hn hz j i short (ReachesMeter answer h) = Asking false s n size t last took k had x info u apdu given got hs hn hz j i short
  keep_asking true s n size t last took k had x info u apdu given got hs hn hz j i short (ReachesMeter answer h) = asks s n size t last took k had x info apdu given got hs hn hz u j i short answer h

  module _ (s n size y : ℕ) (bytes had x info u apdu : List ℕ) (given got : List (List ℕ)) (hs : s < 8) (hn : n < 8) (hz : 3 ≤ size) (j : bytes ++ (y ∷ u) ≡ apdu) (short : length apdu ≤ 1024) where
    abbrev received : Line → ℕ → LinkWorld
    received line t = record { meter = server_at who n (next s) (WasReady (to_client who (One 1) (ready_octet (next s)) false [])) true (Good bytes) had [] size; client = client_with p who Open (next s) n (Some (to_meter who (information_octet s n) true info)) t Fresh x (y ∷ u); up_line = going line (to_meter who (information_octet s n) true info); down_line = coming line (to_client who (One 1) (ready_octet (next s)) false []); asked = given ++ apdu ∷ []; served = given; answers = got; taken = got }

    is_received : (line : Line) (t : ℕ) → SoundWith p who (received line t)
    is_received line t = Received line s n size t y bytes had x info u apdu given got hs hn hz j short

    received_late : (t : ℕ) (b : Bool) → SoundWith p who (timed_out (received Silent t) (by_count (received Silent t).client b))
    received_late t true = is_received Going (t + 1)
    received_late t false = Away (received Silent t).meter x (given ++ apdu ∷ []) given got got (longer given apdu) (whole got)

    keep_received : (line : Line) (t : ℕ) (e : LinkEvent) → SoundWith p who (happens (received line t) e)
    keep_received line t Connect = is_received line t
    keep_received Silent t Restarts = LostAsking false (to_meter who (information_octet s n) true info) (next s) n t Fresh x (y ∷ u) (given ++ apdu ∷ []) given got got (information_refused who true info s n hs hn) (longer given apdu) (whole got)
    keep_received Going t Restarts = LostAsking true (to_meter who (information_octet s n) true info) (next s) n t Fresh x (y ∷ u) (given ++ apdu ∷ []) given got got (information_refused who true info s n hs hn) (longer given apdu) (whole got)
    keep_received Coming t Restarts = LostReceived s n t y x info u apdu given got hs hn
    keep_received line t (Intrudes frame answer) = is_received line t
    keep_received Silent t TakesOver = Away (received Silent t).meter [] (given ++ apdu ∷ []) given got got (longer given apdu) (whole got)
    keep_received Going t TakesOver = is_received Going t
    keep_received Coming t TakesOver = is_received Coming t
    keep_received line t (Give more m) = is_received line t
    keep_received line t Disconnect = is_received line t
    keep_received Silent t LostUp = is_received Silent t
    keep_received Going t LostUp = is_received Silent t
    keep_received Coming t LostUp = is_received Coming t
    keep_received Silent t LostDown = is_received Silent t
    keep_received Going t LostDown = is_received Going t
    keep_received Coming t LostDown = is_received Silent t
    keep_received Silent t TimesOut = received_late t (nat_lt t 3)
    keep_received Going t TimesOut = is_received Going t
    keep_received Coming t TimesOut = is_received Coming t
    keep_received Silent t (ReachesMeter answer h) = is_received Silent t
    keep_received Coming t (ReachesMeter answer h) = is_received Coming t
    keep_received Going t (ReachesMeter answer h) =
        rw (row_of-repeated (received Going t).meter info true s n hs hn refl refl (before-next s hs) (next_lt s)) (is_received Coming t)
    keep_received Silent t ReachesClient = is_received Silent t
    keep_received Going t ReachesClient = is_received Going t
    keep_received Coming t ReachesClient =
        rw (is_answer-to_client (received Coming t).client (ready_octet (next s)) false [], control_of-ready (next s) (next_lt s), control_of-ready (next s) (next_lt s), way_of-goes_on (received Coming t).client (next s) refl refl)
        (Asking true (next s) n size 0 (WasReady (to_client who (One 1) (ready_octet (next s)) false [])) true (Good bytes) had x (take 128 (y ∷ u)) (drop 128 (y ∷ u)) apdu given got (next_lt s) hn hz
        (ap (λ zs. bytes ++ zs) (take-append-drop 128 (y ∷ u)) ∙ j) tt short)

  module _ (s n size : ℕ) (q : Parts) (took : Bool) (k : Kept) (had x info answer : List ℕ) (given got : List (List ℕ)) (hs : s < 8) (hn : n < 8) (hz : 3 ≤ size) where
    abbrev answered : List ℕ → Line → ℕ → LinkWorld
    answered u line t = record { meter = server_at who (next n) s (WasInformation (to_client who (One 1) (information_octet n s) (is_more u) info)) took Fresh had u size; client = client_with p who Open s n (Some q) t k x []; up_line = going line q; down_line = coming line (to_client who (One 1) (information_octet n s) (is_more u) info); asked = given; served = given; answers = got ++ answer ∷ []; taken = got }

    -- the client takes the segment
    takes_answer : (u : List ℕ) (t : ℕ) → Joins from_meter k (info ++ u) answer → IsFirst k info → length answer ≤ 1024 → SoundWith p who (happens (answered u Coming t) ReachesClient)
    takes_answer [] t j i short =
        let on : (bytes : List ℕ) × (kept_after from_meter k info ≡ Good bytes) × (bytes ++ [] ≡ answer) = kept_goes_on from_meter k info [] answer j i short in
        let all : kept_after from_meter k info ≡ Good answer = whole_good (kept_after from_meter k info) on.0 answer on.1 on.2 in
        rw (is_answer-to_client (answered [] Coming t).client (information_octet n s) false info, control_of-information n s hn hs, control_of-information n s hn hs, way_of-expected (answered [] Coming t).client n s refl refl, all)
        (Idle s (next n) size (WasInformation (to_client who (One 1) (information_octet n s) false info)) took had answer given (got ++ answer ∷ []) hs (next_lt n) hz)
    takes_answer (y ∷ u) t j i short =
        let on : (bytes : List ℕ) × (kept_after from_meter k info ≡ Good bytes) × (bytes ++ (y ∷ u) ≡ answer) = kept_goes_on from_meter k info (y ∷ u) answer j i short in
        rw (is_answer-to_client (answered (y ∷ u) Coming t).client (information_octet n s) true info, control_of-information n s hn hs, control_of-information n s hn hs, way_of-expected (answered (y ∷ u) Coming t).client n s refl refl, on.1)
        (Readying true s (next n) size 0 y (WasInformation (to_client who (One 1) (information_octet n s) true info)) took on.0 had x u answer given got hs (next_lt n) hz on.2 short)

    module _ (u : List ℕ) (j : Joins from_meter k (info ++ u) answer) (i : IsFirst k info) (short : length answer ≤ 1024) (again : row_of (answered u Silent 0).meter q ≡ Repeats) (refuses : IsRefused who q) where
      is_answered : (line : Line) (t : ℕ) → SoundWith p who (answered u line t)
      is_answered line t = Answered line s n size t q took k had x info u answer given got hs hn hz j i short again refuses

      answered_late : (t : ℕ) (b : Bool) → SoundWith p who (timed_out (answered u Silent t) (by_count (answered u Silent t).client b))
      answered_late t true = is_answered Going (t + 1)
      answered_late t false = Away (answered u Silent t).meter x given given (got ++ answer ∷ []) got (whole given) (longer got answer)

      keep_answered : (line : Line) (t : ℕ) (e : LinkEvent) → SoundWith p who (happens (answered u line t) e)
      keep_answered line t Connect = is_answered line t
      keep_answered Silent t Restarts = LostAsking false q s n t k x [] given given (got ++ answer ∷ []) got refuses (whole given) (longer got answer)
      keep_answered Going t Restarts = LostAsking true q s n t k x [] given given (got ++ answer ∷ []) got refuses (whole given) (longer got answer)
      keep_answered Coming t Restarts = LostAnswered s n t q k x info u answer given got hs hn j i short refuses
      keep_answered line t (Intrudes frame answer) = is_answered line t
      keep_answered Silent t TakesOver = Away (answered u Silent t).meter [] given given (got ++ answer ∷ []) got (whole given) (longer got answer)
      keep_answered Going t TakesOver = is_answered Going t
      keep_answered Coming t TakesOver = is_answered Coming t
      keep_answered line t (Give more m) = is_answered line t
      keep_answered line t Disconnect = is_answered line t
      keep_answered Silent t LostUp = is_answered Silent t
      keep_answered Going t LostUp = is_answered Silent t
      keep_answered Coming t LostUp = is_answered Coming t
      keep_answered Silent t LostDown = is_answered Silent t
      keep_answered Going t LostDown = is_answered Going t
      keep_answered Coming t LostDown = is_answered Silent t
      keep_answered Silent t TimesOut = answered_late t (nat_lt t 3)
      keep_answered Going t TimesOut = is_answered Going t
      keep_answered Coming t TimesOut = is_answered Coming t
      keep_answered Silent t (ReachesMeter more h) = is_answered Silent t
      keep_answered Coming t (ReachesMeter more h) = is_answered Coming t
      keep_answered Going t (ReachesMeter more h) = rw again (is_answered Coming t)
      keep_answered Silent t ReachesClient = is_answered Silent t
      keep_answered Going t ReachesClient = is_answered Going t
      keep_answered Coming t ReachesClient = takes_answer u t j i short

  module _ (s n size y : ℕ) (last : Answer) (took : Bool) (bytes had x u answer : List ℕ) (given got : List (List ℕ)) (hs : s < 8) (hn : n < 8) (hz : 3 ≤ size) (j : bytes ++ (y ∷ u) ≡ answer) (short : length answer ≤ 1024) where
    abbrev readying : Bool → ℕ → LinkWorld
    readying sent t = record { meter = server_at who n s last took Fresh had (y ∷ u) size; client = client_with p who Open s n (Some (to_meter who (ready_octet n) false [])) t (Good bytes) x []; up_line = on_line sent (to_meter who (ready_octet n) false []); down_line = []; asked = given; served = given; answers = got ++ answer ∷ []; taken = got }

    is_readying : (sent : Bool) (t : ℕ) → SoundWith p who (readying sent t)
    is_readying sent t = Readying sent s n size t y last took bytes had x u answer given got hs hn hz j short

    readying_late : (t : ℕ) (b : Bool) → SoundWith p who (timed_out (readying false t) (by_count (readying false t).client b))
    readying_late t true = is_readying true (t + 1)
    readying_late t false = Away (readying false t).meter x given given (got ++ answer ∷ []) got (whole given) (longer got answer)

    keep_readying : (sent : Bool) (t : ℕ) (e : LinkEvent) → SoundWith p who (happens (readying sent t) e)
    keep_readying sent t Connect = is_readying sent t
    keep_readying sent t Restarts = LostAsking sent (to_meter who (ready_octet n) false []) s n t (Good bytes) x [] given given (got ++ answer ∷ []) got (ready_refused who n hn) (whole given) (longer got answer)
    keep_readying sent t (Intrudes frame answer) = is_readying sent t
    keep_readying true t TakesOver = is_readying true t
    keep_readying false t TakesOver = Away (readying false t).meter [] given given (got ++ answer ∷ []) got (whole given) (longer got answer)
    keep_readying sent t (Give more m) = is_readying sent t
    keep_readying sent t Disconnect = is_readying sent t
    keep_readying sent t ReachesClient = is_readying sent t
    keep_readying true t LostUp = is_readying false t
    keep_readying false t LostUp = is_readying false t
    keep_readying sent t LostDown = is_readying sent t
    keep_readying true t TimesOut = is_readying true t
    keep_readying false t TimesOut = readying_late t (nat_lt t 3)
    keep_readying false t (ReachesMeter more h) = is_readying false t
    keep_readying true t (ReachesMeter more h) =
        rw (row_of-goes_on (readying true t).meter [] false n hn refl refl refl)
        (Answered Coming s n size t (to_meter who (ready_octet n) false []) false (Good bytes) had x (take size (y ∷ u)) (drop size (y ∷ u)) answer given got hs hn hz
        (ap (λ zs. bytes ++ zs) (take-append-drop size (y ∷ u)) ∙ j) tt short
        (row_of-ready_repeated (server_at who (next n) s (WasInformation (to_client who (One 1) (information_octet n s) (is_more (drop size (y ∷ u))) (take size (y ∷ u)))) false Fresh had (drop size (y ∷ u)) size) [] false n hn refl (before-next n hn) (next_lt n) refl)
        (ready_refused who n hn))

  -- the meter has come back with its link down, and the client doesn't know
  keep_lost_called : (t : ℕ) (x : List ℕ) (e : LinkEvent) →
      SoundWith p who (happens (record { meter = fresh_server who; client = client_with p who Connecting 0 0 (Some (snrm_with p who)) t Fresh x []; up_line = []; down_line = ua_up who ∷ []; asked = []; served = []; answers = []; taken = [] }) e)
  keep_lost_called t x Connect = LostCalled t x
  keep_lost_called t x (Give apdu short) = LostCalled t x
  keep_lost_called t x Disconnect = LostCalled t x
  keep_lost_called t x (ReachesMeter answer short) = LostCalled t x
  keep_lost_called t x ReachesClient = rw (is_answer-to_client (called t x).client 115 false (information_of (own_parameters 128)), control_of-ua, agreed-own p) (LostIdle 0 0 x [] [] [] [] (omega arith) (omega arith) (none []) (none []))
  keep_lost_called t x LostUp = LostCalled t x
  keep_lost_called t x LostDown = Calling false (fresh_server who) t x
  keep_lost_called t x TimesOut = LostCalled t x
  keep_lost_called t x Restarts = LostCalled t x
  keep_lost_called t x (Intrudes frame answer) = LostCalled t x
  keep_lost_called t x TakesOver = LostCalled t x

  more_asked : (served asked : List (List ℕ)) (apdu : List ℕ) → IsBeginningOf served asked → IsBeginningOf served (asked ++ apdu ∷ [])
  more_asked served asked apdu h = (h.0 ++ apdu ∷ [], sym (append_assoc served h.0 (apdu ∷ [])) ∙ ap (λ xs. xs ++ apdu ∷ []) h.1)

  module _ (s n : ℕ) (x : List ℕ) (asked served answers taken : List (List ℕ)) (hs : s < 8) (hn : n < 8) (ps : IsBeginningOf served asked) (pt : IsBeginningOf taken answers) where
    keep_lost_idle : (e : LinkEvent) → SoundWith p who (happens (record { meter = fresh_server who; client = client_with p who Open s n None 0 Fresh x []; up_line = []; down_line = []; asked = asked; served = served; answers = answers; taken = taken }) e)
    keep_lost_idle (Give apdu short) =
        LostAsking true (to_meter who (information_octet s n) (is_more (drop 128 (llc from_client ++ apdu))) (take 128 (llc from_client ++ apdu))) (next s) n 0 Fresh x (drop 128 (llc from_client ++ apdu)) (asked ++ apdu ∷ []) served answers taken
        (information_refused who (is_more (drop 128 (llc from_client ++ apdu))) (take 128 (llc from_client ++ apdu)) s n hs hn) (more_asked served asked apdu ps) pt
    keep_lost_idle Disconnect = Leaving true (fresh_server who) s n 0 Fresh x [] asked served answers taken ps pt
    keep_lost_idle Connect = LostIdle s n x asked served answers taken hs hn ps pt
    keep_lost_idle (ReachesMeter answer short) = LostIdle s n x asked served answers taken hs hn ps pt
    keep_lost_idle ReachesClient = LostIdle s n x asked served answers taken hs hn ps pt
    keep_lost_idle LostUp = LostIdle s n x asked served answers taken hs hn ps pt
    keep_lost_idle LostDown = LostIdle s n x asked served answers taken hs hn ps pt
    keep_lost_idle TimesOut = LostIdle s n x asked served answers taken hs hn ps pt
    keep_lost_idle Restarts = LostIdle s n x asked served answers taken hs hn ps pt
    keep_lost_idle (Intrudes frame answer) = LostIdle s n x asked served answers taken hs hn ps pt
    keep_lost_idle TakesOver = Away (fresh_server who) [] asked served answers taken ps pt

  module _ (q : Parts) (s n : ℕ) (k : Kept) (x u : List ℕ) (asked served answers taken : List (List ℕ)) (refuses : IsRefused who q) (ps : IsBeginningOf served asked) (pt : IsBeginningOf taken answers) where
    abbrev lost_asking : Bool → ℕ → LinkWorld
    lost_asking sent t = record { meter = fresh_server who; client = client_with p who Open s n (Some q) t k x u; up_line = on_line sent q; down_line = []; asked = asked; served = served; answers = answers; taken = taken }

    is_lost : (sent : Bool) (t : ℕ) → SoundWith p who (lost_asking sent t)
    is_lost sent t = LostAsking sent q s n t k x u asked served answers taken refuses ps pt

    is_denied : (t : ℕ) → SoundWith p who (record { meter = fresh_server who; client = client_with p who Open s n (Some q) t k x u; up_line = []; down_line = gone who false ∷ []; asked = asked; served = served; answers = answers; taken = taken })
    is_denied t = Denied q s n t k x u asked served answers taken refuses ps pt

    lost_late : (t : ℕ) (b : Bool) → SoundWith p who (timed_out (lost_asking false t) (by_count (lost_asking false t).client b))
    lost_late t true = is_lost true (t + 1)
    lost_late t false = Away (fresh_server who) x asked served answers taken ps pt

    keep_lost_asking : (sent : Bool) (t : ℕ) (e : LinkEvent) → SoundWith p who (happens (lost_asking sent t) e)
    keep_lost_asking sent t Connect = is_lost sent t
    keep_lost_asking sent t (Give apdu short) = is_lost sent t
    keep_lost_asking sent t Disconnect = is_lost sent t
    keep_lost_asking false t (ReachesMeter answer short) = is_lost false t
    keep_lost_asking true t (ReachesMeter answer short) = rw refuses.0
        (subst (λ d. SoundWith p who (record { meter = fresh_server who; client = client_with p who Open s n (Some q) t k x u; up_line = []; down_line = to_client who d 31 false [] ∷ []; asked = asked; served = served; answers = answers; taken = taken })) (sym refuses.1) (is_denied t))
    keep_lost_asking sent t ReachesClient = is_lost sent t
    keep_lost_asking true t LostUp = is_lost false t
    keep_lost_asking false t LostUp = is_lost false t
    keep_lost_asking sent t LostDown = is_lost sent t
    keep_lost_asking true t TimesOut = is_lost true t
    keep_lost_asking false t TimesOut = lost_late t (nat_lt t 3)
    keep_lost_asking sent t Restarts = is_lost sent t
    keep_lost_asking sent t (Intrudes frame answer) = is_lost sent t
    keep_lost_asking true t TakesOver = is_lost true t
    keep_lost_asking false t TakesOver = Away (fresh_server who) [] asked served answers taken ps pt

    keep_denied : (t : ℕ) (e : LinkEvent) → SoundWith p who (happens (record { meter = fresh_server who; client = client_with p who Open s n (Some q) t k x u; up_line = []; down_line = gone who false ∷ []; asked = asked; served = served; answers = answers; taken = taken }) e)
    keep_denied t ReachesClient = rw (is_answer-to_client (lost_asking false t).client 31 false [], control_of-dm) (Away (fresh_server who) x asked served answers taken ps pt)
    keep_denied t LostDown = is_lost false t
    keep_denied t Connect = is_denied t
    keep_denied t (Give apdu short) = is_denied t
    keep_denied t Disconnect = is_denied t
    keep_denied t (ReachesMeter answer short) = is_denied t
    keep_denied t LostUp = is_denied t
    keep_denied t TimesOut = is_denied t
    keep_denied t Restarts = is_denied t
    keep_denied t (Intrudes frame answer) = is_denied t
    keep_denied t TakesOver = is_denied t

  module _ (s n t y : ℕ) (x info u apdu : List ℕ) (given got : List (List ℕ)) (hs : s < 8) (hn : n < 8) where
    abbrev lost_received : LinkWorld
    lost_received = record { meter = fresh_server who; client = client_with p who Open (next s) n (Some (to_meter who (information_octet s n) true info)) t Fresh x (y ∷ u); up_line = []; down_line = to_client who (One 1) (ready_octet (next s)) false [] ∷ []; asked = given ++ apdu ∷ []; served = given; answers = got; taken = got }

    keep_lost_received : (e : LinkEvent) → SoundWith p who (happens lost_received e)
    keep_lost_received ReachesClient =
        rw (is_answer-to_client lost_received.client (ready_octet (next s)) false [], control_of-ready (next s) (next_lt s), control_of-ready (next s) (next_lt s), way_of-goes_on lost_received.client (next s) refl refl)
        (LostAsking true (to_meter who (information_octet (next s) n) (is_more (drop 128 (y ∷ u))) (take 128 (y ∷ u))) (next (next s)) n 0 Fresh x (drop 128 (y ∷ u)) (given ++ apdu ∷ []) given got got
        (information_refused who (is_more (drop 128 (y ∷ u))) (take 128 (y ∷ u)) (next s) n (next_lt s) hn) (longer given apdu) (whole got))
    keep_lost_received LostDown = LostAsking false (to_meter who (information_octet s n) true info) (next s) n t Fresh x (y ∷ u) (given ++ apdu ∷ []) given got got (information_refused who true info s n hs hn) (longer given apdu) (whole got)
    keep_lost_received Connect = LostReceived s n t y x info u apdu given got hs hn
    keep_lost_received (Give more h) = LostReceived s n t y x info u apdu given got hs hn
    keep_lost_received Disconnect = LostReceived s n t y x info u apdu given got hs hn
    keep_lost_received (ReachesMeter answer short) = LostReceived s n t y x info u apdu given got hs hn
    keep_lost_received LostUp = LostReceived s n t y x info u apdu given got hs hn
    keep_lost_received TimesOut = LostReceived s n t y x info u apdu given got hs hn
    keep_lost_received Restarts = LostReceived s n t y x info u apdu given got hs hn
    keep_lost_received (Intrudes frame answer) = LostReceived s n t y x info u apdu given got hs hn
    keep_lost_received TakesOver = LostReceived s n t y x info u apdu given got hs hn

  module _ (s n t : ℕ) (q : Parts) (k : Kept) (x info answer : List ℕ) (given got : List (List ℕ)) (hs : s < 8) (hn : n < 8) where
    abbrev lost_answered : List ℕ → LinkWorld
    lost_answered u = record { meter = fresh_server who; client = client_with p who Open s n (Some q) t k x []; up_line = []; down_line = to_client who (One 1) (information_octet n s) (is_more u) info ∷ []; asked = given; served = given; answers = got ++ answer ∷ []; taken = got }

    takes_lost : (u : List ℕ) → Joins from_meter k (info ++ u) answer → IsFirst k info → length answer ≤ 1024 → SoundWith p who (happens (lost_answered u) ReachesClient)
    takes_lost [] j i short =
        let on : (bytes : List ℕ) × (kept_after from_meter k info ≡ Good bytes) × (bytes ++ [] ≡ answer) = kept_goes_on from_meter k info [] answer j i short in
        let all : kept_after from_meter k info ≡ Good answer = whole_good (kept_after from_meter k info) on.0 answer on.1 on.2 in
        rw (is_answer-to_client (lost_answered []).client (information_octet n s) false info, control_of-information n s hn hs, control_of-information n s hn hs, way_of-expected (lost_answered []).client n s refl refl, all)
        (LostIdle s (next n) answer given given (got ++ answer ∷ []) (got ++ answer ∷ []) hs (next_lt n) (whole given) (whole (got ++ answer ∷ [])))
    takes_lost (y ∷ u) j i short =
        let on : (bytes : List ℕ) × (kept_after from_meter k info ≡ Good bytes) × (bytes ++ (y ∷ u) ≡ answer) = kept_goes_on from_meter k info (y ∷ u) answer j i short in
        rw (is_answer-to_client (lost_answered (y ∷ u)).client (information_octet n s) true info, control_of-information n s hn hs, control_of-information n s hn hs, way_of-expected (lost_answered (y ∷ u)).client n s refl refl, on.1)
        (LostAsking true (to_meter who (ready_octet (next n)) false []) s (next n) 0 (Good on.0) x [] given given (got ++ answer ∷ []) got (ready_refused who (next n) (next_lt n)) (whole given) (longer got answer))

    module _ (u : List ℕ) (j : Joins from_meter k (info ++ u) answer) (i : IsFirst k info) (short : length answer ≤ 1024) (refuses : IsRefused who q) where
      keep_lost_answered : (e : LinkEvent) → SoundWith p who (happens (lost_answered u) e)
      keep_lost_answered ReachesClient = takes_lost u j i short
      keep_lost_answered LostDown = LostAsking false q s n t k x [] given given (got ++ answer ∷ []) got refuses (whole given) (longer got answer)
      keep_lost_answered Connect = LostAnswered s n t q k x info u answer given got hs hn j i short refuses
      keep_lost_answered (Give more h) = LostAnswered s n t q k x info u answer given got hs hn j i short refuses
      keep_lost_answered Disconnect = LostAnswered s n t q k x info u answer given got hs hn j i short refuses
      keep_lost_answered (ReachesMeter more h) = LostAnswered s n t q k x info u answer given got hs hn j i short refuses
      keep_lost_answered LostUp = LostAnswered s n t q k x info u answer given got hs hn j i short refuses
      keep_lost_answered TimesOut = LostAnswered s n t q k x info u answer given got hs hn j i short refuses
      keep_lost_answered Restarts = LostAnswered s n t q k x info u answer given got hs hn j i short refuses
      keep_lost_answered (Intrudes frame more) = LostAnswered s n t q k x info u answer given got hs hn j i short refuses
      keep_lost_answered TakesOver = LostAnswered s n t q k x info u answer given got hs hn j i short refuses

  -- each event keeps the invariant
  pub keep_with : {w : LinkWorld} (e : LinkEvent) → SoundWith p who w → SoundWith p who (happens w e)
  keep_with e (Away m x asked served answers taken ps pt) = keep_away m x asked served answers taken ps pt e
  keep_with e (Calling sent m t x) = keep_calling sent m t x e
  keep_with e (Called t x) = keep_called t x e
  keep_with e (Leaving sent m s n t k x u asked served answers taken ps pt) = keep_leaving sent m s n t k x u asked served answers taken ps pt e
  keep_with e (Left was m s n t k x u asked served answers taken ps pt) = keep_left was m s n t k x u asked served answers taken ps pt e
  keep_with e (Idle s n size last took had x given got hs hn hz) = keep_idle s n size last took had x given got hs hn hz e
  keep_with e (Asking sent s n size t last took k had x info u apdu given got hs hn hz j i short) = keep_asking sent s n size t last took k had x info u apdu given got hs hn hz j i short e
  keep_with e (Received line s n size t y bytes had x info u apdu given got hs hn hz j short) = keep_received s n size y bytes had x info u apdu given got hs hn hz j short line t e
  keep_with e (Answered line s n size t q took k had x info u answer given got hs hn hz j i short again refuses) = keep_answered s n size q took k had x info answer given got hs hn hz u j i short again refuses line t e
  keep_with e (Readying sent s n size t y last took bytes had x u answer given got hs hn hz j short) = keep_readying s n size y last took bytes had x u answer given got hs hn hz j short sent t e
  keep_with e (LostCalled t x) = keep_lost_called t x e
  keep_with e (LostIdle s n x asked served answers taken hs hn ps pt) = keep_lost_idle s n x asked served answers taken hs hn ps pt e
  keep_with e (LostAsking sent q s n t k x u asked served answers taken refuses ps pt) = keep_lost_asking q s n k x u asked served answers taken refuses ps pt sent t e
  keep_with e (Denied q s n t k x u asked served answers taken refuses ps pt) = keep_denied q s n k x u asked served answers taken refuses ps pt t e
  keep_with e (LostReceived s n t y x info u apdu given got hs hn) = keep_lost_received s n t y x info u apdu given got hs hn e
  keep_with e (LostAnswered s n t q k x info u answer given got hs hn j i short refuses) = keep_lost_answered s n t q k x info answer given got hs hn u j i short refuses e

  keeps : (es : List LinkEvent) {w : LinkWorld} → SoundWith p who w → SoundWith p who (run es w)
  keeps [] sound = sound
  keeps (e ∷ es) sound = keeps es (keep_with e sound)

  pub sound_with : (es : List LinkEvent) → SoundWith p who (run es (start_proposing p who))
  sound_with es = keeps es (Away (fresh_server who) [] [] [] [] [] (none []) (none []))

-- the same of a client that proposes nothing
pub keep : (who : Client) {w : LinkWorld} (e : LinkEvent) → Sound who w → Sound who (happens w e)
keep who e good = keep_with None tt who e good

pub sound : (who : Client) (es : List LinkEvent) → Sound who (run es (start who))
sound who es = sound_with None tt who es

module _ (who : Client) {p : Option ℕ} where
  -- what is handed up is a prefix of what was given
  pub served_is : {w : LinkWorld} → SoundWith p who w → IsBeginningOf w.served w.asked
  served_is (Away m x asked served answers taken ps pt) = ps
  served_is (Calling sent m t x) = none []
  served_is (Called t x) = none []
  served_is (Leaving sent m s n t k x u asked served answers taken ps pt) = ps
  served_is (Left was m s n t k x u asked served answers taken ps pt) = ps
  served_is (Idle s n size last took had x given got hs hn hz) = whole given
  served_is (Asking sent s n size t last took k had x info u apdu given got hs hn hz j i short) = longer given apdu
  served_is (Received line s n size t y bytes had x info u apdu given got hs hn hz j short) = longer given apdu
  served_is (Answered line s n size t q took k had x info u answer given got hs hn hz j i short again refuses) = whole given
  served_is (Readying sent s n size t y last took bytes had x u answer given got hs hn hz j short) = whole given
  served_is (LostCalled t x) = none []
  served_is (LostIdle s n x asked served answers taken hs hn ps pt) = ps
  served_is (LostAsking sent q s n t k x u asked served answers taken refuses ps pt) = ps
  served_is (Denied q s n t k x u asked served answers taken refuses ps pt) = ps
  served_is (LostReceived s n t y x info u apdu given got hs hn) = longer given apdu
  served_is (LostAnswered s n t q k x info u answer given got hs hn j i short refuses) = whole given

  pub taken_is : {w : LinkWorld} → SoundWith p who w → IsBeginningOf w.taken w.answers
  taken_is (Away m x asked served answers taken ps pt) = pt
  taken_is (Calling sent m t x) = none []
  taken_is (Called t x) = none []
  taken_is (Leaving sent m s n t k x u asked served answers taken ps pt) = pt
  taken_is (Left was m s n t k x u asked served answers taken ps pt) = pt
  taken_is (Idle s n size last took had x given got hs hn hz) = whole got
  taken_is (Asking sent s n size t last took k had x info u apdu given got hs hn hz j i short) = whole got
  taken_is (Received line s n size t y bytes had x info u apdu given got hs hn hz j short) = whole got
  taken_is (Answered line s n size t q took k had x info u answer given got hs hn hz j i short again refuses) = longer got answer
  taken_is (Readying sent s n size t y last took bytes had x u answer given got hs hn hz j short) = longer got answer
  taken_is (LostCalled t x) = none []
  taken_is (LostIdle s n x asked served answers taken hs hn ps pt) = pt
  taken_is (LostAsking sent q s n t k x u asked served answers taken refuses ps pt) = pt
  taken_is (Denied q s n t k x u asked served answers taken refuses ps pt) = pt
  taken_is (LostReceived s n t y x info u apdu given got hs hn) = whole got
  taken_is (LostAnswered s n t q k x info u answer given got hs hn j i short refuses) = longer got answer
