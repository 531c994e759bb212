-- A connection, one thing after another, to its end.
use Rattle.std.proofs.Common.{refl, sym, ap, ◌∙◌, ◌≡◌, ◌≤◌, ◌<◌, ◌+◌, ◌-◌, ◌^◌, ◌==◌, ℕ, Bool, false, arith, List, [], ◌∷◌, ◌++◌, append_assoc, length, take, drop, Option, Some, None, Result, Ok, Err, subst, inl, inr}
use Rattle.std.specs.declared.io.Error.{Error}
use Rattle.std.proofs.lemmas.Bool.{false≢true}
use Rattle.std.proofs.lemmas.List.{append-nil, length-take-le, take-append-drop}
use Rattle.dlms_ends.specs.Moments.{Moment, Adds}
use Rattle.dlms_ends.specs.Moments.Moment.{Came, Quiet, Unheard, Broke}
use Rattle.dlms_ends.specs.declared.fault.RunFault.{RunFault}
use Rattle.dlms_ends.specs.declared.fault.RunFault.TheVariants.{Io}
use Rattle.dlms_ends.specs.declared.meter_end.Taken.{Taken}
use Rattle.dlms_ends.proofs.MomentLemmas.{adds_none, adds_more}
use Rattle.dlms_meter.specs.declared.meter.Meter.{Meter}
use Rattle.dlms_pages.specs.declared.device.Pages.{Ghosts}
use Rattle.dlms_wrapper.specs.Stream.{Kept}
use Rattle.dlms_wrapper.specs.declared.message.TheConstants.{MOST_APDU}
use Rattle.dlms_serving.specs.Carrying.{Carries}
use Rattle.dlms_serving.specs.declared.carrier.Carrier.{Carrier}
use Rattle.dlms_serving.specs.Connection.{At, AnswersEach, Behind, ToRead, Checks, ChecksOnce, Connection, Unbegun, Begun, Counts, Doing, Reads, Answers, Doings, Nothing, Then, Ends, IsOver, LookEnds, ReadEnds, ReplyEnds, Tires, Gives, GivesFrame, GivesOrEnds, MessageEnds, turned, Goes, GoesToEnd, IsOfRead, LooksOnce, ReadsPiece, Replied, Log, Timed, begins, log, timed, ending_at_reply, goes_out}
use Rattle.dlms_serving.specs.Turns.{Tells}
use Rattle.dlms_lines.specs.Watching.{Sight, Sees, has_any}
use Rattle.dlms_lines.specs.Watching.Sight.{Second}
use Rattle.dlms_serving.specs.declared.talking.Ending.{Ending}
use Rattle.dlms_serving.specs.declared.talking.Ending.TheVariants.{BadMessage, Over}
use Rattle.dlms_serving.specs.declared.talking.Rules.{Rules}
use Rattle.dlms_serving.specs.declared.talking.TurnState.{TurnState}
use Rattle.dlms_serving.specs.declared.ticks.Ticks.{Ticks}
use Rattle.dlms_serving.specs.declared.turns.Over.{Over as Why}
use Rattle.dlms_serving.specs.declared.turns.Tries.{Tries}
use Rattle.dlms_lines.proofs.SharedLemmas.{sees_nothing, sees_more}

pub some_left : (rest : List ℕ) (r : Bool) → r ≡ (length rest == 0) → r ≡ false → 0 < length rest
some_left [] r is none = absurd (false≢true (sym none ∙ is))
some_left (x ∷ rest) r is none = omega arith

module _ {P A : Type 0} {ghosts : Ghosts P} where
  -- a connection as it stands
  abbrev pub at : Meter P A ghosts → Ticks → List ℕ → TurnState → ℕ → At P A ghosts
  at meter ticks left state reads = record { meter = meter; ticks = ticks; left = left; state = state; reads = reads }

  -- ---- it goes on

  pub goes_nothing : (rules : Rules) (past : Option (List Moment)) (seen : Option (List Sight)) (s : At P A ghosts) → Goes rules (log past seen) (log past seen) s s
  goes_nothing rules past seen s = record { moments = []; sights = []; does = Nothing; extends = (adds_none past, sees_nothing seen) }

  goes_and : (rules : Rules) (p q r : Option (List Moment)) (v w x : Option (List Sight)) (s mid after : At P A ghosts) (moments : List Moment) (sights : List Sight)
      → Goes rules (log p v) (log q w) s mid → Doing rules mid moments sights after → Adds q r moments → Sees w x sights → Goes rules (log p v) (log r x) s after
  goes_and rules p q r v w x s mid after moments sights goes doing adds sees = record {
    moments = goes.moments ++ moments;
    sights = goes.sights ++ sights;
    does = Then goes.moments moments goes.sights sights mid after goes.does doing;
    extends = (adds_more p q r goes.moments moments goes.extends.0 adds, sees_more v w x goes.sights sights goes.extends.1 sees);
  }

  join_does : (rules : Rules) (s mid after : At P A ghosts) (xs ys : List Moment) (vs ws : List Sight) → Doings rules s xs vs mid → Doings rules mid ys ws after → Doings rules s (xs ++ ys) (vs ++ ws) after
  join_does rules s mid after xs ys vs ws first Nothing =
      subst (λ (l : List Moment). Doings rules s l (vs ++ []) mid) (sym (append-nil xs)) (subst (λ (l : List Sight). Doings rules s xs l mid) (sym (append-nil vs)) first)
  join_does rules s mid after xs ys vs ws first (Then before moments asked sights m a does doing) =
      subst (λ (l : List Moment). Doings rules s l (vs ++ (asked ++ sights)) after) (append_assoc xs before moments)
      (subst (λ (l : List Sight). Doings rules s ((xs ++ before) ++ moments) l after) (append_assoc vs asked sights)
      (Then (xs ++ before) moments (vs ++ asked) sights m after (join_does rules s mid m xs before vs asked first does) doing))

  pub goes_on : (rules : Rules) (p q r : Option (List Moment)) (v w x : Option (List Sight)) (s mid after : At P A ghosts) → Goes rules (log p v) (log q w) s mid → Goes rules (log q w) (log r x) mid after → Goes rules (log p v) (log r x) s after
  goes_on rules p q r v w x s mid after first second = record {
    moments = first.moments ++ second.moments;
    sights = first.sights ++ second.sights;
    does = join_does rules s mid after first.moments second.moments first.sights second.sights first.does second.does;
    extends = (adds_more p q r first.moments second.moments first.extends.0 second.extends.0, sees_more v w x first.sights second.sights first.extends.1 second.extends.1);
  }

  -- ---- bytes are given

  -- what a call that went well did
  record Given (carrier : Carrier) (q r : Option (List Moment)) (s given : At P A ghosts) (is_answered : Bool) : Type 0 where
    reply : Option (List ℕ)
    gives : Gives carrier s reply given
    adds : Adds q r (goes_out reply)
    same : is_answered ≡ has_any reply

  gives_of : (carrier : Carrier) (meter meter' : Meter P A ghosts) (ticks : Ticks) (bytes rest : List ℕ) (state passed : TurnState) (reads count : ℕ) (tries : Tries) (reader : Kept) (reply : Option (List ℕ))
      → 0 < length bytes → (0 < length bytes → 0 < count) → count ≤ length bytes → rest ≡ drop count bytes → Carries carrier state.reader meter (take count bytes) reply reader meter'
      → Counts carrier reply state.turn.tries tries → passed ≡ turned state tries reader → Gives carrier (at meter ticks bytes state reads) reply (at meter' ticks rest passed reads)
  gives_of carrier meter meter' ticks bytes rest state passed reads count tries reader reply some gave within left call counts is = record {
    taken = take count bytes;
    behind = rest;
    tries = tries;
    reader = reader;
    cut = subst (λ (l : List ℕ). bytes ≡ take count bytes ++ l) (sym left) (sym (take-append-drop count bytes));
    some = omega (arith, gave some, length-take-le count bytes within);
    call = call;
    counts = counts;
    same = ap (λ (t : TurnState). at meter' ticks rest t reads) is;
  }

  given_by : {E : Type 0} (carrier : Carrier) (q r : Option (List Moment)) (meter meter' : Meter P A ghosts) (ticks : Ticks) (bytes rest : List ℕ) (state : TurnState) (reads : ℕ) (passed : TurnState) (taken : Taken) → 0 < length bytes → rest ≡ drop taken.count bytes
      → GivesFrame {E = E} carrier q r meter bytes state passed (Ok taken) meter'
      → Given carrier q r (at meter ticks bytes state reads) (at meter' ticks rest passed reads) taken.is_answered
  given_by {E} carrier q r meter meter' ticks bytes rest state reads passed taken some left is =
      by_reply is.reply is.call is.counts is.replies where
        by_reply : (reply : Option (List ℕ)) → Carries carrier state.reader meter (take is.count bytes) reply is.reader meter' → Counts carrier reply state.turn.tries is.tries → Replied {E = E} q r is.count reply (Ok taken)
            → Given carrier q r (at meter ticks bytes state reads) (at meter' ticks rest passed reads) taken.is_answered
        by_reply None call counts (same, adds) = record {
          reply = None;
          gives = gives_of carrier meter meter' ticks bytes rest state passed reads is.count is.tries is.reader None some is.some is.within (left ∙ ap (λ (t : Taken). drop t.count bytes) same) call counts is.turned;
          adds = adds;
          same = ap (λ (t : Taken). t.is_answered) same;
        }
        by_reply (Some reply) call counts (same, adds) = record {
          reply = Some reply;
          gives = gives_of carrier meter meter' ticks bytes rest state passed reads is.count is.tries is.reader (Some reply) some is.some is.within (left ∙ ap (λ (t : Taken). drop t.count bytes) same) call counts is.turned;
          adds = adds;
          same = ap (λ (t : Taken). t.is_answered) same;
        }

  -- the bytes are answered, and the turn is not over
  pub goes_answering : {E : Type 0} (rules : Rules) (p q r : Option (List Moment)) (v w x : Option (List Sight)) (s : At P A ghosts) (meter given meter' : Meter P A ghosts) (ticks ticks' : Ticks) (bytes rest : List ℕ) (state state' : TurnState)
      (reads : ℕ) (passed : TurnState) (taken : Taken) (found : Option Why) → 0 < length bytes → rest ≡ drop taken.count bytes → Goes rules (log p v) (log q w) s (at meter ticks bytes state reads)
      → GivesFrame {E = E} rules.carrier q r meter bytes state passed (Ok taken) given → found ≡ None
      → ChecksOnce rules w x (at given ticks rest passed reads) taken.is_answered (Ok found) (at meter' ticks' rest state' reads)
      → Goes rules (log p v) (log r x) s (at meter' ticks' rest state' reads)
  goes_answering {E} rules p q r v w x s meter given meter' ticks ticks' bytes rest state state' reads passed taken found some left goes is none (now, sights, sees, checks, tells) =
      let g = given_by {E = E} rules.carrier q r meter given ticks bytes rest state reads passed taken some left is in
      let mid = at given ticks rest passed reads in
      let after = at meter' ticks' rest state' reads in
      goes_and rules p q r v w x s (at meter ticks bytes state reads) after (goes_out g.reply) (Second (Some now) ∷ sights) goes
      (Answers g.reply mid now sights after g.gives (subst (λ (b : Bool). Checks rules mid b now sights after) g.same checks) (subst (λ (o : Option Why). Tells rules state'.turn now o) none tells))
      g.adds sees

  -- ---- a read

  reads_as : (rules : Rules) (p q r : Option (List Moment)) (v w x : Option (List Sight)) (s mid after : At P A ghosts) (now : ℕ) (sights : List Sight) (piece bytes : List ℕ) (count : ℕ) → mid.left ≡ []
      → Goes rules (log p v) (log q w) s mid → Sees w x (Second (Some now) ∷ sights) → Checks rules mid false now sights after → Tells rules after.state.turn now None → bytes ≡ take count piece → ReadsPiece q r (Ok count) piece
      → Goes rules (log p v) (log r x) s (record after { left = bytes; reads = after.reads + 1 })
  reads_as rules p q r v w x s mid after now sights piece bytes count given goes sees checks tells is (inl adds) =
      goes_and rules p q r v w x s mid (record after { left = bytes; reads = after.reads + 1 }) (Came (take count piece) ∷ []) (Second (Some now) ∷ sights) goes
      (Reads now sights after (Came (take count piece)) bytes given checks tells is) adds sees
  reads_as rules p q r v w x s mid after now sights piece bytes count given goes sees checks tells is (inr (none, adds)) =
      goes_and rules p q r v w x s mid (record after { left = bytes; reads = after.reads + 1 }) (Quiet ∷ []) (Second (Some now) ∷ sights) goes
      (Reads now sights after Quiet bytes given checks tells (is ∙ ap (λ (n : ℕ). take n piece) none)) adds sees

  pub goes_reading : (rules : Rules) (p q r : Option (List Moment)) (v w x : Option (List Sight)) (s : At P A ghosts) (meter meter' : Meter P A ghosts) (ticks ticks' : Ticks) (state state' : TurnState) (reads : ℕ) (found : Option Why)
      (piece bytes : List ℕ) (count : ℕ) → Goes rules (log p v) (log q w) s (at meter ticks [] state reads) → found ≡ None → ChecksOnce rules w x (at meter ticks [] state reads) false (Ok found) (at meter' ticks' [] state' reads)
      → bytes ≡ take count piece → ReadsPiece q r (Ok count) piece → Goes rules (log p v) (log r x) s (at meter' ticks' bytes state' (reads + 1))
  goes_reading rules p q r v w x s meter meter' ticks ticks' state state' reads found piece bytes count goes none (now, sights, sees, checks, tells) is read =
      reads_as rules p q r v w x s (at meter ticks [] state reads) (at meter' ticks' [] state' reads) now sights piece bytes count refl goes sees checks (subst (λ (o : Option Why). Tells rules state'.turn now o) none tells) is read

  -- ---- it ends

  pub ends_behind : (rules : Rules) (p q r : Option (List Moment)) (v w x : Option (List Sight)) (s mid : At P A ghosts) (result : Result Ending RunFault) (meter : Meter P A ghosts) (ticks : Ticks)
      → Goes rules (log p v) (log q w) s mid → GoesToEnd rules (log q w) (log r x) mid result (timed meter ticks) → GoesToEnd rules (log p v) (log r x) s result (timed meter ticks)
  ends_behind rules p q r v w x s mid result meter ticks goes ends = record {
    mid = ends.mid;
    last = ends.last;
    goes = goes_on rules p q ends.mid.moments v w ends.mid.sights s mid ends.last goes ends.goes;
    moments = ends.moments;
    sights = ends.sights;
    ends = ends.ends;
    extends = ends.extends;
  }

  ends_so : (rules : Rules) (p q r : Option (List Moment)) (v w x : Option (List Sight)) (s last : At P A ghosts) (result : Result Ending RunFault) (moments : List Moment) (sights : List Sight) (meter : Meter P A ghosts) (ticks : Ticks)
      → Goes rules (log p v) (log q w) s last → Ends rules last result moments sights (timed meter ticks) → Adds q r moments → Sees w x sights → GoesToEnd rules (log p v) (log r x) s result (timed meter ticks)
  ends_so rules p q r v w x s last result moments sights meter ticks goes ends adds sees =
      record { mid = log q w; last = last; goes = goes; moments = moments; sights = sights; ends = ends; extends = (adds, sees) }

  -- before a read
  pub over_at_read : (rules : Rules) (p q : Option (List Moment)) (v w x : Option (List Sight)) (s : At P A ghosts) (meter meter' : Meter P A ghosts) (ticks ticks' : Ticks) (state state' : TurnState) (reads : ℕ) (found : Option Why) (why : Why)
      → Goes rules (log p v) (log q w) s (at meter ticks [] state reads) → found ≡ Some why → ChecksOnce rules w x (at meter ticks [] state reads) false (Ok found) (at meter' ticks' [] state' reads)
      → GoesToEnd rules (log p v) (log q x) s (Ok (Over why)) (timed meter' ticks')
  over_at_read rules p q v w x s meter meter' ticks ticks' state state' reads found why goes is (now, sights, sees, checks, tells) =
      ends_so rules p q q v w x s (at meter ticks [] state reads) (Ok (Over why)) [] (Second (Some now) ∷ sights) meter' ticks' goes
      (IsOver [] false (at meter ticks [] state reads) now sights (at meter' ticks' [] state' reads) why (ToRead refl) checks (subst (λ (o : Option Why). Tells rules state'.turn now o) is tells)) (adds_none q) sees

  pub look_fails_at_read : (rules : Rules) (p q : Option (List Moment)) (v w x : Option (List Sight)) (s : At P A ghosts) (meter meter' : Meter P A ghosts) (ticks ticks' : Ticks) (state state' : TurnState) (reads : ℕ) (fault : RunFault)
      → Goes rules (log p v) (log q w) s (at meter ticks [] state reads) → ChecksOnce rules w x (at meter ticks [] state reads) false (Err fault) (at meter' ticks' [] state' reads) → GoesToEnd rules (log p v) (log q x) s (Err fault) (timed meter' ticks')
  look_fails_at_read rules p q v w x s meter meter' ticks ticks' state state' reads fault goes (sights, sees, fails, left, staying, counted) =
      ends_so rules p q q v w x s (at meter ticks [] state reads) (Err fault) [] sights meter' ticks' goes (LookEnds [] false (at meter ticks [] state reads) fault sights (timed meter' ticks') (ToRead refl) fails) (adds_none q) sees

  pub read_breaks : (rules : Rules) (p q r : Option (List Moment)) (v w x : Option (List Sight)) (s : At P A ghosts) (meter meter' : Meter P A ghosts) (ticks ticks' : Ticks) (state state' : TurnState) (reads : ℕ) (found : Option Why) (error : Error) (ending : Ending)
      → Goes rules (log p v) (log q w) s (at meter ticks [] state reads) → found ≡ None → ChecksOnce rules w x (at meter ticks [] state reads) false (Ok found) (at meter' ticks' [] state' reads) → Adds q r (Unheard error ∷ []) → IsOfRead error ending
      → GoesToEnd rules (log p v) (log r x) s (Ok ending) (timed meter' ticks')
  read_breaks rules p q r v w x s meter meter' ticks ticks' state state' reads found error ending goes none (now, sights, sees, checks, tells) adds of_read =
      ends_so rules p q r v w x s (at meter ticks [] state reads) (Ok ending) (Unheard error ∷ []) (Second (Some now) ∷ sights) meter' ticks' goes
      (ReadEnds now sights (at meter' ticks' [] state' reads) error ending refl checks (subst (λ (o : Option Why). Tells rules state'.turn now o) none tells) of_read) adds sees

  pub tires : (rules : Rules) (p q : Option (List Moment)) (v w : Option (List Sight)) (s : At P A ghosts) (meter : Meter P A ghosts) (ticks : Ticks) (state : TurnState) (reads : ℕ) → reads ≡ 2 ^ 64 - 1
      → Goes rules (log p v) (log q w) s (at meter ticks [] state reads) → GoesToEnd rules (log p v) (log q w) s (Err Io) (timed meter ticks)
  tires rules p q v w s meter ticks state reads all goes = ends_so rules p q q v w w s (at meter ticks [] state reads) (Err Io) [] [] meter ticks goes (Tires refl all) (adds_none q) (sees_nothing w)

  -- after bytes
  reply_breaks : {E : Type 0} (rules : Rules) (p q r : Option (List Moment)) (v w : Option (List Sight)) (s : At P A ghosts) (meter given : Meter P A ghosts) (ticks : Ticks) (bytes : List ℕ) (state passed : TurnState) (reads : ℕ) (e : E) (error : Error)
      → 0 < length bytes → Goes rules (log p v) (log q w) s (at meter ticks bytes state reads) → GivesFrame {E = E} rules.carrier q r meter bytes state passed (Err e) given
      → GoesToEnd rules (log p v) (log r w) s (Ok (ending_at_reply passed.turn.tries error)) (timed given ticks)
  reply_breaks {E} rules p q r v w s meter given ticks bytes state passed reads e error some goes is = by_reply is.reply is.call is.counts is.replies where
    by_reply : (reply : Option (List ℕ)) → Carries rules.carrier state.reader meter (take is.count bytes) reply is.reader given → Counts rules.carrier reply state.turn.tries is.tries → Replied {E = E} q r is.count reply (Err e)
        → GoesToEnd rules (log p v) (log r w) s (Ok (ending_at_reply passed.turn.tries error)) (timed given ticks)
    by_reply None call counts none = absurd none
    by_reply (Some reply) call counts (part, missing, joined, adds) =
        ends_so rules p q r v w w s (at meter ticks bytes state reads) (Ok (ending_at_reply passed.turn.tries error)) (Broke part ∷ []) [] given ticks goes
        (ReplyEnds reply part missing (at given ticks (drop is.count bytes) passed reads) error
        (gives_of rules.carrier meter given ticks bytes (drop is.count bytes) state passed reads is.count is.tries is.reader (Some reply) some is.some is.within refl call counts is.turned) joined) adds (sees_nothing w)

  -- a reply did not go out whole, or no message can be answered any more
  pub giving_ends : (rules : Rules) (p q r : Option (List Moment)) (v w : Option (List Sight)) (s : At P A ghosts) (meter given : Meter P A ghosts) (ticks : Ticks) (bytes : List ℕ) (state passed : TurnState) (reads : ℕ) (ending : Ending)
      → 0 < length bytes → Goes rules (log p v) (log q w) s (at meter ticks bytes state reads) → GivesOrEnds rules.carrier q r meter bytes state passed (Err ending) given
      → GoesToEnd rules (log p v) (log r w) s (Ok ending) (timed given ticks)
  giving_ends rules p q r v w s meter given ticks bytes state passed reads ending some goes (inl (error, is, told)) =
      subst (λ (e : Ending). GoesToEnd rules (log p v) (log r w) s (Ok e) (timed given ticks)) (sym told)
      (reply_breaks {E = Error} rules p q r v w s meter given ticks bytes state passed reads error error some goes is)
  giving_ends rules p q r v w s meter given ticks bytes state passed reads ending some goes (inr (bad, told, adds, same)) =
      subst (λ (e : Ending). GoesToEnd rules (log p v) (log r w) s (Ok e) (timed given ticks)) (sym told)
      (subst (λ (m : Meter P A ghosts). GoesToEnd rules (log p v) (log r w) s (Ok BadMessage) (timed m ticks)) (sym same)
      (ends_so rules p q r v w w s (at meter ticks bytes state reads) (Ok BadMessage) [] [] meter ticks goes (MessageEnds bad) adds (sees_nothing w)))

  pub over_behind : {E : Type 0} (rules : Rules) (p q r : Option (List Moment)) (v w x : Option (List Sight)) (s : At P A ghosts) (meter given meter' : Meter P A ghosts) (ticks ticks' : Ticks) (bytes rest : List ℕ) (state state' : TurnState)
      (reads : ℕ) (passed : TurnState) (taken : Taken) (found : Option Why) (why : Why) → 0 < length bytes → rest ≡ drop taken.count bytes → Goes rules (log p v) (log q w) s (at meter ticks bytes state reads)
      → GivesFrame {E = E} rules.carrier q r meter bytes state passed (Ok taken) given → found ≡ Some why
      → ChecksOnce rules w x (at given ticks rest passed reads) taken.is_answered (Ok found) (at meter' ticks' rest state' reads)
      → GoesToEnd rules (log p v) (log r x) s (Ok (Over why)) (timed meter' ticks')
  over_behind {E} rules p q r v w x s meter given meter' ticks ticks' bytes rest state state' reads passed taken found why some left goes is told (now, sights, sees, checks, tells) =
      let g = given_by {E = E} rules.carrier q r meter given ticks bytes rest state reads passed taken some left is in
      let mid = at given ticks rest passed reads in
      let after = at meter' ticks' rest state' reads in
      ends_so rules p q r v w x s (at meter ticks bytes state reads) (Ok (Over why)) (goes_out g.reply) (Second (Some now) ∷ sights) meter' ticks' goes
      (IsOver (goes_out g.reply) (has_any g.reply) mid now sights after why (Behind g.reply mid g.gives) (subst (λ (b : Bool). Checks rules mid b now sights after) g.same checks)
      (subst (λ (o : Option Why). Tells rules state'.turn now o) told tells)) g.adds sees

  pub look_fails_behind : {E : Type 0} (rules : Rules) (p q r : Option (List Moment)) (v w x : Option (List Sight)) (s : At P A ghosts) (meter given meter' : Meter P A ghosts) (ticks ticks' : Ticks) (bytes rest : List ℕ) (state state' : TurnState)
      (reads : ℕ) (passed : TurnState) (taken : Taken) (fault : RunFault) → 0 < length bytes → rest ≡ drop taken.count bytes → Goes rules (log p v) (log q w) s (at meter ticks bytes state reads)
      → GivesFrame {E = E} rules.carrier q r meter bytes state passed (Ok taken) given
      → ChecksOnce rules w x (at given ticks rest passed reads) taken.is_answered (Err fault) (at meter' ticks' rest state' reads)
      → GoesToEnd rules (log p v) (log r x) s (Err fault) (timed meter' ticks')
  look_fails_behind {E} rules p q r v w x s meter given meter' ticks ticks' bytes rest state state' reads passed taken fault some left goes is (sights, sees, fails, same, staying, counted) =
      let g = given_by {E = E} rules.carrier q r meter given ticks bytes rest state reads passed taken some left is in
      let mid = at given ticks rest passed reads in
      ends_so rules p q r v w x s (at meter ticks bytes state reads) (Err fault) (goes_out g.reply) sights meter' ticks' goes
      (LookEnds (goes_out g.reply) (has_any g.reply) mid fault sights (timed meter' ticks') (Behind g.reply mid g.gives) fails) g.adds sees

  -- ---- from the beginning

  pub unbegun : (rules : Rules) (past : Option (List Moment)) (v w : Option (List Sight)) (meter meter' : Meter P A ghosts) (ticks ticks' : Ticks) (fault : RunFault) → LooksOnce rules.tick v w (timed meter ticks) (Err fault) (timed meter' ticks')
      → Connection rules (log past v) (log past w) (timed meter ticks) (Err fault) (timed meter' ticks')
  unbegun rules past v w meter meter' ticks ticks' fault (sights, sees, fails) = Unbegun fault sights (timed meter' ticks') fails (adds_none past, sees)

  pub from_start : (rules : Rules) (p q : Option (List Moment)) (v w x : Option (List Sight)) (meter mid meter' : Meter P A ghosts) (ticks told ticks' : Ticks) (first : ℕ) (result : Result Ending RunFault)
      → LooksOnce rules.tick v w (timed meter ticks) (Ok first) (timed mid told) → GoesToEnd rules (log p w) (log q x) (begins (timed mid told) first) result (timed meter' ticks') → Connection rules (log p v) (log q x) (timed meter ticks) result (timed meter' ticks')
  from_start rules p q v w x meter mid meter' ticks told ticks' first result (sees, look) ends = Begun first (log p w) (timed mid told) (timed meter' ticks') result look (adds_none p, sees) ends

  pub each_ends : (rules : Rules) (p q : Option (List Moment)) (v w : Option (List Sight)) (s : At P A ghosts) (meter : Meter P A ghosts) (ticks : Ticks) (state : TurnState) (found : Option Ending) (ending : Ending) → found ≡ Some ending
      → AnswersEach rules (log p v) (log q w) s (Ok found) (timed meter ticks) state → GoesToEnd rules (log p v) (log q w) s (Ok ending) (timed meter ticks)
  each_ends rules p q v w s meter ticks state found ending is each = subst (λ (o : Option Ending). AnswersEach rules (log p v) (log q w) s (Ok o) (timed meter ticks) state) is each

  pub each_goes : (rules : Rules) (p q : Option (List Moment)) (v w : Option (List Sight)) (s : At P A ghosts) (meter : Meter P A ghosts) (ticks : Ticks) (state : TurnState) (found : Option Ending) → found ≡ None
      → AnswersEach rules (log p v) (log q w) s (Ok found) (timed meter ticks) state → Goes rules (log p v) (log q w) s (at meter ticks [] state s.reads)
  each_goes rules p q v w s meter ticks state found is each = subst (λ (o : Option Ending). AnswersEach rules (log p v) (log q w) s (Ok o) (timed meter ticks) state) is each

  -- a connection of which so often was read
  pub record Under (rules : Rules) (old new : Log) (s t : Timed P A ghosts) (state : TurnState) (reads : ℕ) : Type 0 where
    pub first : ℕ
    pub seen : Option (List Sight)
    pub begun : Timed P A ghosts
    pub look : LooksOnce rules.tick old.sights seen s (Ok first) begun
    pub goes : Goes rules (log old.moments seen) new (begins begun first) (at t.meter t.ticks [] state reads)

  pub under_ends : (rules : Rules) (p q r : Option (List Moment)) (v w x : Option (List Sight)) (meter mid meter' : Meter P A ghosts) (ticks told ticks' : Ticks) (state : TurnState) (reads : ℕ) (result : Result Ending RunFault)
      → (u : Under rules (log p v) (log q w) (timed meter ticks) (timed mid told) state reads) → GoesToEnd rules (log p u.seen) (log r x) (begins u.begun u.first) result (timed meter' ticks') → Connection rules (log p v) (log r x) (timed meter ticks) result (timed meter' ticks')
  under_ends rules p q r v w x meter mid meter' ticks told ticks' state reads result u ends = from_start rules p r v u.seen x meter u.begun.meter meter' ticks u.begun.ticks ticks' u.first result u.look ends

  pub under_begins : (rules : Rules) (p : Option (List Moment)) (v w : Option (List Sight)) (meter mid : Meter P A ghosts) (ticks told : Ticks) (first : ℕ) (state : TurnState) → LooksOnce rules.tick v w (timed meter ticks) (Ok first) (timed mid told)
      → state ≡ record { turn = record { answered = first; held = first; waited = None; tries = record { refusals = 0; is_proved = false } }; asked = None; reader = record { limit = MOST_APDU; bytes = []; message = None } } → Under rules (log p v) (log p w) (timed meter ticks) (timed mid told) state 0
  under_begins rules p v w meter mid ticks told first state look is = record {
    first = first;
    seen = w;
    begun = timed mid told;
    look = look;
    goes = subst (λ (t : TurnState). Goes rules (log p w) (log p w) (begins (timed mid told) first) (at mid told [] t 0)) (sym is) (goes_nothing rules p w (begins (timed mid told) first));
  }

  pub under_goes : (rules : Rules) (p q r : Option (List Moment)) (v w x : Option (List Sight)) (meter mid meter' : Meter P A ghosts) (ticks told ticks' : Ticks) (state state' : TurnState) (reads reads' : ℕ)
      → (u : Under rules (log p v) (log q w) (timed meter ticks) (timed mid told) state reads) → Goes rules (log q w) (log r x) (at mid told [] state reads) (at meter' ticks' [] state' reads') → Under rules (log p v) (log r x) (timed meter ticks) (timed meter' ticks') state' reads'
  under_goes rules p q r v w x meter mid meter' ticks told ticks' state state' reads reads' u goes = record {
    first = u.first;
    seen = u.seen;
    begun = u.begun;
    look = u.look;
    goes = goes_on rules p q r u.seen w x (begins u.begun u.first) (at mid told [] state reads) (at meter' ticks' [] state' reads') u.goes goes;
  }
