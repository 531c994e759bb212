-- Polls that are done.
use Rattle.std.proofs.Common.{arith, ◌≡◌, ◌∙◌, ◌≤◌, ◌<◌, ℕ, Bool, true, false, nat_le, List, [], ◌∷◌, ◌++◌, map, length, zero, suc, take, drop, length-drop, take-append-drop, Option, refl, sym, ap, subst, All, append-nil, ◌+◌, ◌*◌, Ok, Some, None}
use Rattle.std.proofs.Math.Seq.{take-length}
use Rattle.std.specs.Prelude.{◌^◌, ◌&&◌}
use Rattle.std.proofs.lemmas.Bool.{leb-false}
use Rattle.dlms_acse.specs.Writing.{aare_bytes, release_request, release_response}
use Rattle.dlms_apdu.specs.Forms.{get_block}
use Rattle.dlms_apdu.specs.Reading.{response_at}
use Rattle.dlms_blocks.proofs.BlockLemmas.{whole_of}
use Rattle.dlms_blocks.specs.Block.{block_bytes, blocks_up_to, is_last}
use Rattle.dlms_blocks.specs.Going.{Going}
use Rattle.dlms_classes.specs.Shown.{IsTable, cells}
use Rattle.dlms_data.specs.Building.{IsTime}
use Rattle.dlms_data.specs.DateTime.{NamesSecond, IsPlainlyWritten}
use Rattle.dlms_data.specs.Value.{Value, array}
use Rattle.dlms_data.specs.Writing.{canonical, Fits}
use Rattle.dlms_frame.specs.Frame.{Parts}
use Rattle.dlms_frame.specs.declared.client.Client.{Client}
use Rattle.dlms_headend.proofs.TalkLemmas.{blocks_append}
use Rattle.dlms_headend.specs.Asking.{PlanValue, IsRange, association_bytes, buffer_bytes, columns_bytes, first_second, invoke, next_bytes, range, last_second}
use Rattle.dlms_headend.specs.Merged.{merged}
use Rattle.dlms_headend.specs.Poll.{Asks, associates as asks_association, names as asks_names, gets as asks_rows, goes_on as asks_further, checks as asks_again, releases as asks_release, HasAccepted, HasBlocks, HasRows, HasNamed, HasReleased, IsMoreBy, SpellsBy}
use Rattle.dlms_headend.specs.Rows.{IsProfile, IsEncoded}
use Rattle.dlms_headend.specs.declared.plan.Columns.TheVariants.{Trusted, Asked}
use Rattle.dlms_headend.specs.declared.plan.Columns.{Columns}
use Rattle.dlms_headend.specs.declared.row.Row.{Row}
use Rattle.dlms_headend.specs.declared.stage.Course.TheVariants.{Ready, Running, Done}
use Rattle.dlms_link.proofs.Joining.{Joins, IsFirst, kept_goes_on, first_is_whole}
use Rattle.dlms_link.proofs.Numbers.{next_lt}
use Rattle.dlms_link.proofs.Sound.{at, disc, ua_up, gone, snrm}
use Rattle.dlms_link.proofs.Steps.{whole_good}
use Rattle.dlms_link.specs.Client.{client_step}
use Rattle.dlms_link.specs.Kept.{Kept, Fresh, Good, kept_after, llc, from_meter}
use Rattle.dlms_link.specs.Octet.{next}
use Rattle.dlms_link.specs.Server.{ServerRecord, server_on, fresh_server}
use Rattle.dlms_link.specs.World.{LinkWorld as Link, happens, start, Connect, Give, Disconnect, ReachesMeter, ReachesClient}
use Rattle.dlms_link.specs.declared.last_answer.Answer.TheVariants.{NoAnswer, WasInformation}
use Rattle.dlms_link.specs.declared.last_answer.Answer.{Answer}
use Rattle.dlms_link.specs.declared.out.ClientOut.TheVariants as out
use Rattle.dlms_link.specs.declared.out.ClientOut.{ClientOut}
use Rattle.dlms_link.specs.declared.out.LinkOut.TheVariants.{Apdu, Reply, Up, Down}
use Rattle.dlms_link.specs.declared.out.LinkOut.{LinkOut}
use Rattle.dlms_meter.specs.ClientRecord.{fresh_record}
use Rattle.dlms_meter.specs.Run.{Records, Served, events_in}
use Rattle.dlms_meter.specs.Transfers.{Exchange}
use Rattle.dlms_profile.specs.Rows.{in_range}
use Rattle.dlms_service.specs.Serves.{FindsMemory, Serves, released}
use Rattle.dlms_service.specs.Session.{SessionValue, Outcome, fresh}
use Rattle.dlms_service.specs.Shown.{goes_on}
use Rattle.dlms_state.specs.Columns.{first_columns}
use Rattle.dlms_state.specs.Events.{buffer_after, columns_after}
use Rattle.dlms_state.specs.Refusal.{IsLegal}
use Rattle.dlms_state.specs.declared.event.Event.TheVariants.{Moment}
use Rattle.dlms_state.specs.declared.event.Event.{Event}
use Rattle.dlms_store.specs.World.StoreStep.{Adds, Settles, Stops, Opens}
use Rattle.dlms_store.specs.World.StoreWorld.{Runs, InDoubt, Rests}
use Rattle.dlms_store.specs.World.{StoreWorld as Memory, Next}
use Rattle.dlms_world.proofs.Captured as captured
use Rattle.dlms_world.proofs.Captured.{columns_first, may_follow, quarter_legal, secret_first}
use Rattle.dlms_world.proofs.Following.{IsSent, block_answer, block_read, few_blocks, given_blocks, next_block, one_more}
use Rattle.dlms_world.proofs.HeadEndStops.{silences}
use Rattle.dlms_world.proofs.Keeping.{all_own}
use Rattle.dlms_world.proofs.Rounds as rounds
use Rattle.dlms_world.proofs.Served as served
use Rattle.dlms_world.proofs.RowsAsValues.{shows_due}
use Rattle.dlms_world.proofs.Telling.{tells}
use Rattle.dlms_world.proofs.Whole.{good}
use Rattle.dlms_world.specs.Possible.{CanBeDone, CanBeDoneAgain, KnowsSecret, quarter, first_rows}
use Rattle.dlms_world.proofs.Readings.{whole_sublist}
use Rattle.dlms_world.specs.Turn.{Turn, Run, Stays, Goes, Begins, GoesOn, AsksNext, Leaves, Ends, Merges, Arrives, Happens, TurnsTo, Restarted, Takes, Answers, IsFree, IsOnItsOwn, served_by, silent, still_ours, restarted, records_in, turned}
use Rattle.dlms_world.specs.World.{World, Remembers, first_world, rows_due}

module _ (before : World) (plan : PlanValue) (E : List Event) (legal : IsLegal E) (others : Records) (file : List Row) where
  -- ---- a poll behind that world, where the meter holds these events

  -- that has not begun
  abbrev ready : ServerRecord → SessionValue → World
  ready meter session = record {
    link = record (start plan.client) { meter = at plan.client meter };
    ours = false;
    session = session;
    others = others;
    served = [];
    memory = Runs E [];
    plan = plan;
    course = Ready;
    rows = [];
    file = file;
  }

  -- and that is under way
  abbrev under_way : Link → Bool → SessionValue → List Exchange → World
  under_way link ours session exchanges = record { link = link; ours = ours; session = session; others = others; served = exchanges; memory = Runs E []; plan = plan; course = Running; rows = []; file = file }

  -- what its store holds
  abbrev held : List Event
  held = E ++ []

  same_events : (accepted : List Event) → accepted ≡ [] → held ≡ held ++ accepted
  same_events accepted none = sym (append-nil held) ∙ ap (λ (more : List Event). held ++ more) (sym none)

  -- the meter takes the frame that is on the line
  arrives : (link now : Link) (ours : Bool) (session : SessionValue) (exchanges : List Exchange) (frame : Parts) (result : LinkOut) (o : Outcome) → link.up_line ≡ frame ∷ [] → (server_on link.meter frame).1 ≡ result
      → Answers (Served FindsMemory) held (server_on link.meter frame).0 session result o → length o.answer ≤ 1024 → o.accepted ≡ [] → ((short : length o.answer ≤ 1024) → happens link (ReachesMeter o.answer short) ≡ now)
      → Turn (under_way link ours session exchanges) (under_way now (still_ours ours result) o.own (exchanges ++ served_by (Served FindsMemory) held (server_on link.meter frame).0 result o))
  arrives link now ours session exchanges frame result o line is answers small none there =
      let w : World = under_way link ours session exchanges in
      let takes : Takes w frame (Served FindsMemory) o (Runs E []) = record {
        on = tt;
        answers = subst (λ r. Answers (Served FindsMemory) held (server_on link.meter frame).0 session r o) (sym is) answers;
        short = omega (arith, small);
        remembers = record { steps = []; usual = tt; run = refl; all = same_events o.accepted none; legal = subst IsLegal (sym (append-nil E)) legal };
        promise = λ success. refl;
      } in
      let turn = Arrives w frame [] (Served FindsMemory) o (Runs E []) line takes in
      subst (λ r. Turn w (under_way now (still_ours ours r) o.own (exchanges ++ served_by (Served FindsMemory) held (server_on link.meter frame).0 r o))) is
      (subst (λ l. Turn w (under_way l (still_ours ours (server_on link.meter frame).1) o.own (exchanges ++ served_by (Served FindsMemory) held (server_on link.meter frame).0 (server_on link.meter frame).1 o))) (there takes.short) turn)

  -- ---- rounds

  -- A run at whose end the last segment of an answer is on the way to the poller, or the UA: its link will be up and await nothing,
  -- with these APDUs asked and these answers taken.
  record Awaits (given got : List (List ℕ)) (session : SessionValue) : Type 0 where
    link : Link
    ours : Bool
    exchanges : List Exchange
    run : Run before (under_way link ours session exchanges)
    frame : Parts
    line : link.down_line ≡ frame ∷ []
    result : ClientOut
    gives : (client_step link.client frame).1 ≡ result
    free : IsFree result
    sends : ℕ
    receives : ℕ
    few_sent : sends < 8
    few_received : receives < 8
    last : Answer
    took : Bool
    had : List ℕ
    heard : List ℕ
    reaches : happens link ReachesClient ≡ rounds.idle plan.client sends receives last took had heard given got

  -- The segments of an answer arrive; this one is on the line, and this rest follows it.
  gathers : (fuel : ℕ) (given got : List (List ℕ)) (answer : List ℕ) (session : SessionValue) (ours : Bool) (exchanges : List Exchange) (s n : ℕ) → s < 8 → n < 8 → (q : Parts) (took : Bool) (kept : Kept) (had heard info left : List ℕ)
      → length left ≤ fuel → length answer ≤ 1024 → Joins from_meter kept (info ++ left) answer → IsFirst kept info → Run before (under_way (rounds.coming plan.client s n q took kept had heard info left answer given got) ours session exchanges)
      → Awaits given (got ++ answer ∷ []) session
  gathers fuel given got answer session ours exchanges s n hs hn q took kept had heard info [] enough short joins whole run =
      let who : Client = plan.client in
      let on : (bytes : List ℕ) × (kept_after from_meter kept info ≡ Good bytes) × (bytes ++ [] ≡ answer) = kept_goes_on from_meter kept info [] answer joins whole short in
      let all : kept_after from_meter kept info ≡ Good answer = whole_good (kept_after from_meter kept info) on.0 answer on.1 on.2 in
      record {
        link = rounds.coming who s n q took kept had heard info [] answer given got;
        ours = ours;
        exchanges = exchanges;
        run = run;
        frame = rounds.part who n s info [];
        line = refl;
        result = out.Apdu;
        gives = rounds.taken_up who s n hs hn took had heard answer given got q kept info all;
        free = tt;
        sends = s;
        receives = next n;
        few_sent = hs;
        few_received = next_lt n;
        last = WasInformation (rounds.part who n s info []);
        took = took;
        had = had;
        heard = answer;
        reaches = rounds.takes who s n hs hn took had heard answer given got q kept info all;
      }
  gathers zero given got answer session ours exchanges s n hs hn q took kept had heard info (y ∷ left) enough short joins whole run = absurd (omega (arith, enough))
  gathers (suc fuel) given got answer session ours exchanges s n hs hn q took kept had heard info (y ∷ left) enough short joins whole run =
      let who : Client = plan.client in
      let on : (bytes : List ℕ) × (kept_after from_meter kept info ≡ Good bytes) × (bytes ++ (y ∷ left) ≡ answer) = kept_goes_on from_meter kept info (y ∷ left) answer joins whole short in
      let last : Answer = WasInformation (rounds.part who n s info (y ∷ left)) in
      let here : Link = rounds.coming who s n q took kept had heard info (y ∷ left) answer given got in
      let waiting : Link = rounds.readying who s (next n) last took on.0 had heard (y ∷ left) answer given got in
      let more : Link = rounds.coming who s (next n) (rounds.ready who (next n)) false (Good on.0) had heard (take 128 (y ∷ left)) (drop 128 (y ∷ left)) answer given got in
      let frame : Parts = rounds.part who n s info (y ∷ left) in
      let awaiting : World = under_way here ours session exchanges in
      let sent : World = under_way waiting ours session exchanges in
      let after : World = under_way more ours session (exchanges ++ []) in
      let first : Turn awaiting sent =
      subst (λ l. Turn awaiting (under_way l ours session exchanges)) (rounds.segment_taken who s n hs hn took had heard answer given got q kept info y left on.0 on.1)
      (GoesOn awaiting frame [] refl refl (subst IsOnItsOwn (sym (rounds.lets_next who s n hs hn took had heard answer given got q kept info y left on.0 on.1)) tt)) in
      let second : Turn sent after = arrives waiting more ours session exchanges (rounds.ready who (next n)) (Reply (rounds.part who (next n) s (take 128 (y ∷ left)) (drop 128 (y ∷ left)))) (silent session) refl
      (rounds.sends_next who s (next n) hs (next_lt n) took had heard answer given got last y left on.0) refl (omega arith) refl (rounds.segment_sent who s (next n) hs (next_lt n) took had heard answer given got last y left on.0 []) in
      gathers fuel given got answer session ours (exchanges ++ []) s (next n) hs (next_lt n) (rounds.ready who (next n)) false (Good on.0) had heard (take 128 (y ∷ left)) (drop 128 (y ∷ left))
      (omega (arith, enough, length-drop 128 (y ∷ left))) short (ap (λ zs. on.0 ++ zs) (take-append-drop 128 (y ∷ left)) ∙ on.2) tt (Goes sent after (Goes awaiting sent run first) second)

  -- the next APDU is asked, and answered
  round : (given got : List (List ℕ)) (s : SessionValue) → Awaits given got s → (apdu : List ℕ) → length apdu ≤ 125 → Asks plan got apdu → (o : Outcome) → Serves FindsMemory E s apdu o → length o.answer ≤ 1024 → o.accepted ≡ []
      → Awaits (given ++ apdu ∷ []) (got ++ o.answer ∷ []) o.own
  round given got s a apdu small asks o serves little none =
      let who : Client = plan.client in
      let short : length apdu ≤ 1024 = omega (arith, small) in
      let asking : Link = rounds.asking who a.sends a.receives a.few_sent a.few_received a.last a.took a.had a.heard given got apdu small in
      let request : Parts = rounds.request who a.sends a.receives apdu in
      let text : List ℕ = llc from_meter ++ o.answer in
      let answered : Link = rounds.coming who (next a.sends) a.receives request true Fresh apdu a.heard (take 128 text) (drop 128 text) o.answer (given ++ apdu ∷ []) got in
      let awaiting : World = under_way a.link a.ours s a.exchanges in
      let sent : World = under_way asking a.ours s a.exchanges in
      let exchanges : List Exchange = a.exchanges ++ served_by (Served FindsMemory) held (server_on asking.meter request).0 Apdu o in
      let after : World = under_way answered a.ours o.own exchanges in
      let went : happens (happens a.link ReachesClient) (Give apdu short) ≡ asking =
      ap (λ l. happens l (Give apdu short)) a.reaches ∙ rounds.gives who a.sends a.receives a.few_sent a.few_received a.last a.took a.had a.heard given got apdu small short in
      let first : Turn awaiting sent =
      subst (λ l. Turn awaiting (under_way l a.ours s a.exchanges)) went
      (AsksNext awaiting a.frame [] apdu short refl a.line (subst IsFree (sym a.gives) a.free) (subst (λ l. Asks plan l.taken apdu) (sym a.reaches) asks)) in
      let up = rounds.hands_up who a.sends a.receives a.few_sent a.few_received a.last a.took a.had a.heard given got apdu small in
      let second = arrives asking answered a.ours s a.exchanges request Apdu o refl up.0 (subst (λ bytes. Serves FindsMemory held s bytes o) (sym up.1) (subst (λ events. Serves FindsMemory events s apdu o) (sym (append-nil E)) serves)) little none
      (rounds.answers who a.sends a.receives a.few_sent a.few_received a.last a.took a.had a.heard given got apdu small o.answer) in
      gathers (length (drop 128 text)) (given ++ apdu ∷ []) got o.answer o.own a.ours exchanges (next a.sends) a.receives (next_lt a.sends) a.few_received request true Fresh apdu a.heard (take 128 text) (drop 128 text)
      (omega arith) little (take-append-drop 128 text) (first_is_whole from_meter 128 o.answer (omega arith)) (Goes sent after (Goes awaiting sent a.run first) second)

  -- ---- the beginning

  -- the poll's SNRM goes out, and the UA comes
  begins : (meter : ServerRecord) (session : SessionValue) → session.client ≡ plan.client → Run before (ready meter session) → Awaits [] [] (fresh plan.client)
  begins meter session own run =
      let who : Client = plan.client in
      let called : Link = happens (record (start who) { meter = at who meter }) Connect in
      let connected : World = under_way called false session [] in
      let met : World = under_way (rounds.called who) true (fresh who) [] in
      let first : Run before connected = Goes (ready meter session) connected run (Begins (ready meter session) refl) in
      let second = arrives called (rounds.called who) false session [] (snrm who) (Up (ua_up who)) (silent (fresh who)) refl (rounds.is_called who meter) (ap (λ (c : Client). silent (fresh c)) (sym own)) (omega arith) refl (rounds.calls who meter []) in
      record {
        link = rounds.called who;
        ours = true;
        exchanges = [];
        run = Goes connected met first second;
        frame = ua_up who;
        line = refl;
        result = out.Up;
        gives = rounds.gives_up who;
        free = tt;
        sends = 0;
        receives = 0;
        few_sent = omega arith;
        few_received = omega arith;
        last = NoAnswer;
        took = false;
        had = [];
        heard = [];
        reaches = rounds.comes_up who;
      }

  -- ---- the end

  record Ended (rows : List Row) : Type 0 where
    now : World
    run : Run before now
    course : now.course ≡ Done
    memory : now.memory ≡ Runs E []
    by : now.plan ≡ plan
    are : now.rows ≡ rows
    merges : now.file ≡ merged file rows

  -- the poller leaves, and its rows are merged
  ends : (given got : List (List ℕ)) (s : SessionValue) (rows : List Row) → Awaits given got s → HasReleased plan.columns got rows → Ended rows
  ends given got s rows a released =
      let who : Client = plan.client in
      let awaiting : World = under_way a.link a.ours s a.exchanges in
      let leaving : Link = rounds.leaving who a.sends a.receives a.last a.took a.had a.heard given got in
      let left : Link = rounds.left who a.sends a.receives a.last a.took a.had a.heard given got in
      let sent : World = under_way leaving a.ours s a.exchanges in
      let first : Turn awaiting sent =
      subst (λ l. Turn awaiting (under_way l a.ours s a.exchanges)) (ap (λ l. happens l Disconnect) a.reaches)
      (Leaves awaiting a.frame [] rows refl a.line (subst IsFree (sym a.gives) a.free) (subst (λ l. HasReleased plan.columns l.taken rows) (sym a.reaches) released)) in
      let second = arrives leaving left a.ours s a.exchanges (disc who) (Down (gone who true)) (silent (fresh s.client)) refl (rounds.is_left who a.sends a.receives a.last a.took a.had a.heard given got) refl (omega arith) refl
      (rounds.goes_down who a.sends a.receives a.last a.took a.had a.heard given got []) in
      let gone_world : World = under_way left false (fresh s.client) (a.exchanges ++ []) in
      let done : World = record gone_world { link = happens left ReachesClient; course = Done; rows = rows } in
      let third : Turn gone_world done = Ends gone_world (gone who true) [] rows refl refl (rounds.is_down who a.sends a.receives a.last a.took a.had a.heard given got) released in
      let filed : World = record done { file = merged file rows } in
      record {
        now = filed;
        run = Goes done filed (Goes gone_world done (Goes sent gone_world (Goes awaiting sent a.run first) second) third) (Merges done rows refl (whole_sublist rows));
        course = refl;
        memory = refl;
        by = refl;
        are = refl;
        merges = refl;
      }

  -- ---- the whole poll

  module _ (columns : columns_after E ≡ first_columns) (h : KnowsSecret plan E) (value : Value) (wanted : IsRange (first_second plan.after) (last_second plan.until) value) (v : Value) (rows : List Row) (fits : Fits v) (few : length (canonical v) ≤ 29764)
      (profile : IsProfile v rows) (table : IsTable (map (cells (columns_after E)) (in_range 0 (first_second plan.after) (last_second plan.until) (buffer_after E))) v) (meter : ServerRecord) (session : SessionValue) (own : session.client ≡ plan.client)
      (run : Run before (ready meter session)) where
    abbrev who : Client
    who = plan.client

    abbrev response : List ℕ
    response = aare_bytes served.accepted

    abbrev names : List ℕ
    names = (served.names who).answer

    associated : Awaits (association_bytes plan ∷ []) (response ∷ []) (served.session who)
    associated =
        round [] [] (fresh who) (begins meter session own run) (association_bytes plan) (served.association_short E legal plan h) (asks_association refl refl) (served.associates who) (served.serves_association E legal plan h) (omega arith) refl

    -- the rows have come
    record Got : Type 0 where
      given : List (List ℕ)
      got : List (List ℕ)
      going : Option Going
      awaits : Awaits given got (served.with_blocks who going)
      come : HasRows plan.columns got rows

    abbrev encoding : List ℕ
    encoding = canonical v

    abbrev gave : ℕ → Bool → SessionValue
    gave k over = served.with_blocks who (Some (given_blocks encoding served.room k over))

    all_sent : IsSent encoding served.room
    all_sent = record { short = omega (arith, few); some = omega arith }

    -- The block after the first k is on the way: it is the last one, or the next one is requested.
    behind : (fuel k : ℕ) → length encoding ≤ k + 1 + fuel → k < 65536 → (b : Bool) → is_last encoding served.room (k + 1) ≡ b → (given got : List (List ℕ)) (joined : List ℕ) → HasBlocks plan.columns got k joined → joined ≡ blocks_up_to encoding served.room k
        → (answer : List ℕ) → answer ≡ block_answer encoding served.room (k + 1) → (s : SessionValue) → s ≡ gave (k + 1) (is_last encoding served.room (k + 1)) → Awaits given (got ++ answer ∷ []) s → Got
    behind fuel k enough small true last given got joined blocks is answer said s own a =
        let read : response_at answer ≡ Ok (get_block invoke (is_last encoding served.room (k + 1)) (k + 1) (block_bytes encoding served.room (k + 1))) = ap response_at said ∙ block_read encoding served.room (k + 1) all_sent.short (omega (arith, small)) in
        let all : joined ++ block_bytes encoding served.room (k + 1) ≡ encoding = ap (λ (l : List ℕ). l ++ block_bytes encoding served.room (k + 1)) is ∙ one_more encoding served.room k ∙ whole_of encoding served.room (k + 1) last in
        record {
          given = given;
          got = got ++ answer ∷ [];
          going = Some (given_blocks encoding served.room (k + 1) (is_last encoding served.room (k + 1)));
          awaits = subst (Awaits given (got ++ answer ∷ [])) own a;
          come = record {
            before = got;
            answer = answer;
            taken = k;
            joined = joined;
            are = refl;
            blocks = blocks;
            spelled = subst (λ r. SpellsBy k joined r rows) (sym read) (last, refl, subst (λ (bytes : List ℕ). IsEncoded bytes rows) (sym all) (served.encoded v rows fits few profile));
          };
        }
    behind zero k enough small false last given got joined blocks is answer said s own a = absurd (omega (arith, enough, leb-false (length encoding) ((k + 1) * served.room) last))
    behind (suc fuel) k enough small false last given got joined blocks is answer said s own a =
        let raw : List ℕ = block_bytes encoding served.room (k + 1) in
        let read : response_at answer ≡ Ok (get_block invoke (is_last encoding served.room (k + 1)) (k + 1) raw) = ap response_at said ∙ block_read encoding served.room (k + 1) all_sent.short (omega (arith, small)) in
        let more : HasBlocks plan.columns (got ++ answer ∷ []) (k + 1) (joined ++ raw) = blocks_append plan.columns got k joined raw answer blocks (subst (λ r. IsMoreBy k r raw) (sym read) (last, refl, refl)) in
        let joins : joined ++ raw ≡ blocks_up_to encoding served.room (k + 1) = ap (λ (l : List ℕ). l ++ raw) is ∙ one_more encoding served.room k in
        let still : k + 1 < 65536 = few_blocks encoding served.room (k + 1) all_sent last in
        let here : Awaits given (got ++ answer ∷ []) (gave (k + 1) false) = subst (Awaits given (got ++ answer ∷ [])) (own ∙ ap (gave (k + 1)) last) a in
        let o : Outcome = goes_on (gave (k + 1) false) invoke (k + 1) in
        let next_one = next_block (gave (k + 1) false) encoding served.room (k + 1) refl in
        let there = round given (got ++ answer ∷ []) (gave (k + 1) false) here (next_bytes (k + 1)) (omega arith) (asks_further (k + 1) (joined ++ raw) (omega arith) more refl) o
        (served.serves_next E who (Some (given_blocks encoding served.room (k + 1) false)) (k + 1) (omega (arith, still))) (subst (λ (bytes : List ℕ). length bytes ≤ 1024) (sym next_one.0) (served.block_small encoding (k + 1 + 1))) refl in
        behind fuel (k + 1) (omega (arith, enough)) still (is_last encoding served.room (k + 1 + 1)) refl (given ++ next_bytes (k + 1) ∷ []) (got ++ answer ∷ []) (joined ++ raw) more joins o.answer next_one.0 o.own
        (ap (λ (going : Option Going). served.with_blocks who going) next_one.1) there

    -- the GET of the rows: they come whole, or in blocks
    gets_rows : (b : Bool) → nat_le (4 + length encoding) 1024 ≡ b → (given got : List (List ℕ)) → Awaits given got (served.session who) → HasBlocks plan.columns got 0 [] → Got
    gets_rows true e given got a blocks =
        let o : Outcome = served.whole v rows fits few profile who in
        record {
          given = given ++ buffer_bytes value ∷ [];
          got = got ++ o.answer ∷ [];
          going = None;
          awaits = round given got (served.session who) a (buffer_bytes value) (served.buffer_short (first_second plan.after) (last_second plan.until) value wanted) (asks_rows [] blocks (record { value = value; is = refl; wanted = wanted })) o
              (subst (λ (x : Outcome). Serves FindsMemory E (served.session who) (buffer_bytes value) x) (served.is_whole v rows fits few profile who e) (served.serves_rows v rows fits few profile E columns plan h (first_second plan.after) (last_second plan.until) value wanted table))
              (served.whole_short v rows fits few profile who e) refl;
          come = record { before = got; answer = o.answer; taken = 0; joined = []; are = refl; blocks = blocks; spelled = served.spells v rows fits few profile who };
        }
    gets_rows false e given got a blocks =
        let o : Outcome = served.first_block v rows fits few profile who in
        let first = round given got (served.session who) a (buffer_bytes value) (served.buffer_short (first_second plan.after) (last_second plan.until) value wanted) (asks_rows [] blocks (record { value = value; is = refl; wanted = wanted })) o
        (subst (λ (x : Outcome). Serves FindsMemory E (served.session who) (buffer_bytes value) x) (served.is_block v rows fits few profile who e) (served.serves_rows v rows fits few profile E columns plan h (first_second plan.after) (last_second plan.until) value wanted table))
        (served.block_small encoding 1) refl in
        behind (length encoding) 0 (omega arith) (omega arith) (is_last encoding served.room 1) refl (given ++ buffer_bytes value ∷ []) got [] blocks refl o.answer refl o.own refl first

    -- the GET of the columns
    gets_names : (going : Option Going) (given got : List (List ℕ)) → Awaits given got (served.with_blocks who going) → Asks plan got columns_bytes → Awaits (given ++ columns_bytes ∷ []) (got ++ names ∷ []) (served.session who)
    gets_names going given got a asks =
        round given got (served.with_blocks who going) a columns_bytes (omega arith) asks (served.names who) (served.serves_columns E columns plan h going) (served.columns_short who) refl

    -- the release, and the end
    releases : (going : Option Going) (given got : List (List ℕ)) → Awaits given got (served.with_blocks who going) → HasNamed plan.columns got rows → Ended rows
    releases going given got a all =
        let o : Outcome = released (served.session who) in
        let last = round given got (served.with_blocks who going) a release_request (omega arith) (asks_release rows all refl) o (served.serves_release E who going) (omega arith) refl in
        ends (given ++ release_request ∷ []) (got ++ release_response ∷ []) o.own rows last (record { before = got; answer = release_response; are = refl; polled = all; released = served.is_released })

    by_columns : (asking : Columns) → plan.columns ≡ asking → Ended rows
    by_columns Trusted e =
        let got : List (List ℕ) = response ∷ [] in
        let blocks : HasBlocks plan.columns got 0 [] =
        subst (λ c. HasBlocks c got 0 []) (sym e) (record { response = response; names = []; blocks = []; are = refl; accepts = served.accepts; named = refl; come = (refl, refl) }) in
        let two = gets_rows (nat_le (4 + length encoding) 1024) refl (association_bytes plan ∷ []) got associated blocks in
        releases two.going two.given two.got two.awaits
        (subst (λ c. HasNamed c two.got rows) (sym e) (record { before = two.got; names = []; are = sym (append-nil two.got); polled = subst (λ c. HasRows c two.got rows) e two.come; named = refl }))
    by_columns Asked e =
        let first : HasAccepted (response ∷ []) = record { response = response; are = refl; accepts = served.accepts } in
        let got : List (List ℕ) = response ∷ names ∷ [] in
        let blocks : HasBlocks plan.columns got 0 [] =
        subst (λ c. HasBlocks c got 0 []) (sym e)
        (record { response = response; names = names ∷ []; blocks = []; are = refl; accepts = served.accepts; named = (names, refl, served.tells_columns who); come = (refl, refl) }) in
        let one = gets_names None (association_bytes plan ∷ []) (response ∷ []) associated (asks_names e first refl) in
        let two = gets_rows (nat_le (4 + length encoding) 1024) refl (association_bytes plan ∷ columns_bytes ∷ []) got one blocks in
        let three = gets_names two.going two.given two.got two.awaits (asks_again rows e two.come refl) in
        releases None (two.given ++ columns_bytes ∷ []) (two.got ++ names ∷ []) three
        (subst (λ c. HasNamed c (two.got ++ names ∷ []) rows) (sym e)
        (record { before = two.got; names = names ∷ []; are = refl; polled = subst (λ c. HasRows c two.got rows) e two.come; named = (names, refl, served.tells_columns who) }))

-- ---- the first world

remembers_row : Remembers (Runs [] []) quarter (Runs quarter [])
remembers_row = record {
  steps = Adds (Moment 900) ∷ Settles ∷ [];
  usual = (tt, (tt, tt));
  run = (Runs [] quarter, (refl, omega arith), (Runs quarter [], refl, refl));
  all = refl;
  legal = quarter_legal;
}

-- the meter captures the row
captures_row : (plan : PlanValue) → Run (first_world plan) (record (first_world plan) { memory = Runs quarter [] })
captures_row plan = Goes (first_world plan) _ Stays (Happens (first_world plan) (Moment 900) (Runs quarter []) tt may_follow remembers_row)

pub range_of : (after until : Option ℕ) (plan : PlanValue) (first last : Value) → plan.after ≡ after → plan.until ≡ until → IsTime (first_second after) first → IsTime (last_second until) last → IsRange (first_second plan.after) (last_second plan.until) (range first last)
range_of after until plan first last same ends from to = record { first = first; last = last; is = refl; from_first = subst (λ a. IsTime (first_second a) first) (sym same) from; to_last = subst (λ a. IsTime (last_second a) last) (sym ends) to }

pub still_knows : (plan : PlanValue) → KnowsSecret plan [] → KnowsSecret plan quarter
still_knows plan h = record { whose = h.whose; client = h.client; secret = h.secret ∙ secret_first h.whose }

module _ (octets : List ℕ) (bytes : All (λ octet. octet < 2 ^ 8) octets) (named : NamesSecond octets 900) (plainly : IsPlainlyWritten octets) where
  merges_all : (b : Bool) → merged [] (captured.rows octets bytes named plainly b) ≡ captured.rows octets bytes named plainly b
  merges_all true = refl
  merges_all false = refl

  pub rows_are : (after until : Option ℕ) (b : Bool) → (nat_le (first_second after) 900 && nat_le 900 (last_second until)) ≡ b → captured.rows octets bytes named plainly b ≡ first_rows after until
  rows_are after until true e = rw e refl
  rows_are after until false e = rw e refl

  pub rows_between_are : (plan : PlanValue) (after until : Option ℕ) (b : Bool) → (nat_le (first_second plan.after) 900 && nat_le 900 (last_second plan.until)) ≡ b → plan.after ≡ after → plan.until ≡ until → captured.rows octets bytes named plainly b ≡ first_rows after until
  rows_between_are plan after until b e same ends = rows_are plan.after plan.until b e ∙ ap (λ a. first_rows a plan.until) same ∙ ap (λ u. first_rows after u) ends

  pub done_first : (after until : Option ℕ) (first last : Value) → IsTime (first_second after) first → IsTime (last_second until) last → CanBeDone after until
  done_first after until first last from to plan h same ends =
      let b : Bool = nat_le (first_second plan.after) 900 && nat_le 900 (last_second plan.until) in
      let all = by_columns (first_world plan) plan quarter quarter_legal fresh_record [] columns_first (still_knows plan h) (range first last) (range_of after until plan first last same ends from to) (captured.table octets bytes named plainly b) (captured.rows octets bytes named plainly b)
      (captured.table_fits octets bytes named plainly b) (omega (arith, captured.table_size octets bytes named plainly b)) (captured.is_profile octets bytes named plainly b) (captured.is_buffer octets bytes named plainly (first_second plan.after) (last_second plan.until) b refl)
      (fresh_server plan.client) (fresh plan.client) refl (captures_row plan) plan.columns refl in (
        all.now,
        all.run,
        record { course = all.course; plan = all.by; events = ap events_in all.memory; rows = all.are ∙ rows_between_are plan after until b refl same ends },
        all.merges ∙ merges_all b ∙ rows_between_are plan after until b refl same ends,
      )

-- ---- any world

-- the meter is recovered with all that it holds
recovers : (w : World) (memory : Memory) → w.memory ≡ memory → (now : World) × Run w now × (now.memory ≡ Runs (events_in memory) []) × (now.file ≡ w.file)
recovers w (Runs s p) is =
    let rests : World = restarted w (Rests (s ++ p)) in
    let back : World = restarted rests (Runs (s ++ p) []) in
    let stops = subst (λ (m : Memory). Next m Stops (Rests (s ++ p))) (sym is) (s ++ p, (length p, ap (λ (l : List Event). s ++ l) (sym (take-length p))), refl) in
    (back, Goes rests back (Goes w rests Stays (Restarted w Stops (Rests (s ++ p)) (λ none. none) stops)) (Restarted rests (Opens (s ++ p)) (Runs (s ++ p) []) (λ none. none) (refl, refl)), refl, refl)
recovers w (InDoubt s p) is =
    let back : World = restarted w (Runs (s ++ p) []) in
    let opens = subst (λ (m : Memory). Next m (Opens (s ++ p)) (Runs (s ++ p) [])) (sym is) ((length p, ap (λ (l : List Event). s ++ l) (sym (take-length p))), refl) in
    (back, Goes w back Stays (Restarted w (Opens (s ++ p)) (Runs (s ++ p) []) (λ none. none) opens), refl, refl)
recovers w (Rests events) is =
    let back : World = restarted w (Runs events []) in
    let opens = subst (λ (m : Memory). Next m (Opens events) (Runs events [])) (sym is) (refl, refl) in
    (back, Goes w back Stays (Restarted w (Opens events) (Runs events []) (λ none. none) opens), refl, refl)

pub joined : (w mid now : World) → Run w mid → Run mid now → Run w now
joined w mid now first Stays = first
joined w mid now first (Goes last other run turn) = Goes last other (joined w mid last first run) turn

-- a new poll, as one of which the meter's end is its client's
is_ready : (before w : World) (plan : PlanValue) (E : List Event) (legal : IsLegal E) → w.link.up_line ≡ [] → w.link.down_line ≡ [] → w.memory ≡ Runs E [] → (records_in w plan.client).link.client ≡ plan.client
    → turned w plan ≡ ready before plan E legal (records_in w) w.file (records_in w plan.client).link (records_in w plan.client).session
is_ready before w plan E legal up down memory own = λ i. record {
  link = record (start plan.client) { meter = record (records_in w plan.client).link { client = own i }; up_line = up i; down_line = down i };
  ours = false;
  session = (records_in w plan.client).session;
  others = records_in w;
  served = [];
  memory = memory i;
  plan = plan;
  course = Ready;
  rows = [];
  file = w.file;
}

pub done_again : (after until : Option ℕ) (first last : Value) → IsTime (first_second after) first → IsTime (last_second until) last → CanBeDoneAgain after until
done_again after until first last from to one plan w run same ends short =
    let E : List Event = events_in w.memory in
    let legal : IsLegal E = (good tells one w run).legal in
    let back = recovers w w.memory refl in
    let quiet = silences back.0 in
    let m : World = quiet.0 in
    let here : Run w m = joined w back.0 m back.1 quiet.1 in
    let held : m.memory ≡ Runs E [] = quiet.4.memory ∙ back.2 in
    let all = good tells one m (joined (first_world one) w m run here) in
    let own = all_own m.plan.client m all.link plan.client in
    let before : Run w (ready w plan E legal (records_in m) m.file (records_in m plan.client).link (records_in m plan.client).session) =
    subst (λ (x : World). Run w x) (is_ready w m plan E legal quiet.2 quiet.3 held own.0) (Goes m (turned m plan) here (TurnsTo m plan quiet.2 quiet.3)) in
    let due = shows_due plan E legal short.columns short.times in
    let end = by_columns w plan E legal (records_in m) m.file short.columns short.knows (range first last) (range_of after until plan first last same ends from to) (array due.values) (rows_due plan E) due.fits due.few due.are due.table
    (records_in m plan.client).link (records_in m plan.client).session own.1 before plan.columns refl in (
      end.now,
      end.run,
      record { course = end.course; plan = end.by; events = ap events_in end.memory ∙ append-nil E; rows = end.are },
      end.merges ∙ ap (λ f. merged f (rows_due plan E)) (quiet.4.file ∙ back.3) ∙ ap (merged w.file) (sym end.are),
    )
