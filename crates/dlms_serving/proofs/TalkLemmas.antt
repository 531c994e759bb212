-- A meter that serves talks with a client, one thing after another.
use Rattle.std.proofs.Common.{refl, sym, ap, ◌∙◌, ◌≡◌, ◌↔◌, ◌≤◌, ◌<◌, ℕ, Bool, true, false, List, [], ◌∷◌, ◌++◌, length, max, take, Option, Some, None, Result, Ok, Err, subst}
use Rattle.std.specs.Prelude.{IsErr, IsErrAnd, IsTrue, if◌then◌else◌}
use Rattle.std.specs.declared.io.Error.{Error}
use Rattle.dlms_ends.specs.Faults.{TellsError}
use Rattle.dlms_ends.specs.Moments.{Moment, Adds, Breaks}
use Rattle.dlms_ends.specs.Moments.Moment.{Went}
use Rattle.dlms_ends.specs.declared.fault.RunFault.{RunFault}
use Rattle.dlms_ends.specs.declared.meter_end.Taken.{Taken}
use Rattle.dlms_ends.proofs.MomentLemmas.{adds_none}
use Rattle.dlms_ends.proofs.PollLemmas.{system_told}
use Rattle.dlms_meter.specs.declared.meter.Meter.{Meter}
use Rattle.dlms_pages.specs.declared.device.Pages.{Ghosts}
use Rattle.dlms_store.specs.declared.fault.AddFault.{AddFault}
use Rattle.dlms_wrapper.specs.Stream.{Kept}
use Rattle.dlms_serving.specs.Carrying.{Carries}
use Rattle.dlms_serving.specs.declared.carrier.Carrier.{Carrier}
use Rattle.dlms_serving.specs.Connection.{Counts, GivesFrame, turned, ChecksOnce, HasAssociation, turn_after_bytes, TellsStop, NoClock, NoStore, LooksOnce, Looked, IsDue, AsksFor, NotDue, Asks, AsksOnce, TellsOnce, behind_answer, behind_telling, timed, told_of}
use Rattle.dlms_serving.specs.Pace.{AreDue}
use Rattle.dlms_serving.specs.Turns.{Tells}
use Rattle.dlms_serving.specs.declared.talking.Rules.{Rules}
use Rattle.dlms_serving.specs.declared.turns.Over.{Over as Why}
use Rattle.dlms_serving.specs.Telling.{Looks}
use Rattle.dlms_lines.specs.Watching.{Sight, Sees}
use Rattle.dlms_lines.specs.Watching.Sight.{Second, Another, Trusts}
use Rattle.dlms_serving.specs.declared.talking.TurnState.{TurnState}
use Rattle.dlms_serving.specs.declared.ticks.Ticks.{Ticks}
use Rattle.dlms_serving.specs.declared.turns.Tries.{Tries}
use Rattle.dlms_serving.specs.declared.turns.Turn.{Turn}
use Rattle.dlms_lines.proofs.SharedLemmas.{sees_more, sees_nothing}

pub not_due : (seen : Option (List Sight)) (state : TurnState) (now : ℕ) → (IsDue state now → ⊥) → AsksOnce seen seen state now (record state { asked = Some now })
not_due seen state now not = ([], sees_nothing seen, NotDue not, refl)

pub is_asked : (seen seen' : Option (List Sight)) (state : TurnState) (now : ℕ) (waits : Bool) (turn : Turn) → IsDue state now → Sees seen seen' (Another now waits ∷ []) → turn ≡ behind_answer state.turn now waits
    → AsksOnce seen seen' state now (record state { turn = turn; asked = Some now })
is_asked seen seen' state now waits turn due sees is = (Another now waits ∷ [], sees, subst (λ (t : Turn). AsksFor state now (Another now waits ∷ []) t) (sym is) (Asks due waits), refl)

pub tells_none : (seen : Option (List Sight)) (state : TurnState) (now : ℕ) → state.turn.tries.is_proved ≡ false → TellsOnce seen seen state now state
tells_none seen state now is =
    (subst (λ (b : Bool). Sees seen seen (if b then (Trusts now ∷ []) else [])) (sym is) (sees_nothing seen), ap (λ (b : Bool). record state { turn = record state.turn { tries = record state.turn.tries { is_proved = b } } }) is)

pub tells_one : (seen seen' : Option (List Sight)) (state : TurnState) (now : ℕ) → state.turn.tries.is_proved ≡ true → Sees seen seen' (Trusts now ∷ []) → TellsOnce seen seen' state now (behind_telling state)
tells_one seen seen' state now is sees = (subst (λ (b : Bool). Sees seen seen' (if b then (Trusts now ∷ []) else [])) (sym is) sees, refl)

-- ---- a look at the clock

module _ {P A : Type 0} {ghosts : Ghosts P} where
  pub no_clock : (step : ℕ) (seen seen' : Option (List Sight)) (meter : Meter P A ghosts) (ticks : Ticks) (error : Error) (r : Result ℕ RunFault) → IsErrAnd r (TellsError error) → Sees seen seen' (Second None ∷ [])
      → LooksOnce step seen seen' (timed meter ticks) r (timed meter ticks)
  no_clock step seen seen' meter ticks error (Ok now) told sees = absurd told
  no_clock step seen seen' meter ticks error (Err fault) told sees = (Second None ∷ [], sees, NoClock (system_told fault error told))

  pub no_store : (step now due : ℕ) (seen seen' : Option (List Sight)) (meter meter' : Meter P A ghosts) (ticks ticks' : Ticks) (why named : AddFault) (fault : RunFault) → why ≡ named → TellsStop named fault → Sees seen seen' (Second (Some now) ∷ [])
      → AreDue (max step 1) now due → Looks due ticks meter (Err why) ticks' meter' → LooksOnce step seen seen' (timed meter ticks) (Err fault) (timed meter' ticks')
  no_store step now due seen seen' meter meter' ticks ticks' why named fault is tells sees is_due looks =
      (Second (Some now) ∷ [], sees, NoStore now due named (timed meter' ticks') is_due (subst (λ (w : AddFault). Looks due ticks meter (Err w) ticks' meter') is looks) tells)

  -- a look, and the report on the turn then
  pub checks : (rules : Rules) (seen mid late seen' : Option (List Sight)) (meter meter' : Meter P A ghosts) (ticks ticks' : Ticks) (state told state' : TurnState) (is_answered : Bool) (now : ℕ) (associated : Bool) (turn : Turn) (why : Option Why)
      → Sees seen mid (Second (Some now) ∷ []) → Looked rules.tick (timed meter ticks) now (timed meter' ticks') → IsTrue associated ↔ HasAssociation meter' → turn ≡ turn_after_bytes state.turn is_answered now associated
      → TellsOnce mid late (record state { turn = turn }) now told → AsksOnce late seen' told now state' → state'.reader ≡ told.reader → Tells rules state'.turn now why
      → (left : List ℕ) (reads : ℕ) → ChecksOnce rules seen seen' (record { meter = meter; ticks = ticks; left = left; state = state; reads = reads }) is_answered (Ok why)
      (record { meter = meter'; ticks = ticks'; left = left; state = state'; reads = reads })
  checks rules seen mid late seen' meter meter' ticks ticks' state told state' is_answered now associated turn why sees look has is (tells_so, behind) (sights, more, asks, asked) kept tells left reads =
      let here = record state { turn = turn } in (
        now,
        told_of here now ++ sights,
        sees_more seen mid seen' (Second (Some now) ∷ []) (told_of here now ++ sights) sees (sees_more mid late seen' (told_of here now) sights tells_so more),
        record {
          look = look;
          associated = associated;
          has = has;
          state = here;
          turn_after_bytes = ap (λ (t : Turn). record state { turn = t }) is;
          asked_for = sights;
          asks = subst (λ (s : TurnState). AsksFor s now sights state'.turn) behind asks;
          all = refl;
          asked = asked;
          reader = kept ∙ ap (λ (s : TurnState). s.reader) behind;
          left = refl;
          reads = refl;
        },
        tells,
      )

-- ---- bytes are given

module _ {P A : Type 0} {ghosts : Ghosts P} (carrier : Carrier) (state passed : TurnState) (tries : Tries) (reader : Kept) (is : passed ≡ turned state tries reader) where
  pub given_breaks : {E : Type 0} (old new : Option (List Moment)) (before after : Meter P A ghosts) (bytes : List ℕ) (count : ℕ) (reply two : List ℕ) (r : Result Taken E)
      → (0 < length bytes → 0 < count) → count ≤ length bytes → Carries carrier state.reader before (take count bytes) (Some reply) reader after → IsErr r → Counts carrier (Some reply) state.turn.tries tries → two ≡ reply → Breaks old new two
      → GivesFrame carrier old new before bytes state passed r after
  given_breaks old new before after bytes count reply two (Ok taken) some within call failed counts alike broke = absurd (cc failed)
  given_breaks old new before after bytes count reply two (Err e) some within call failed counts alike broke = record {
    count = count;
    reply = Some reply;
    tries = tries;
    reader = reader;
    some = some;
    within = within;
    call = call;
    counts = counts;
    turned = is;
    replies = subst (λ (t : List ℕ). Breaks old new t) alike broke;
  }

  pub given_goes : (E : Type 0) (old new : Option (List Moment)) (before after : Meter P A ghosts) (bytes : List ℕ) (count : ℕ) (reply two : List ℕ)
      → (0 < length bytes → 0 < count) → count ≤ length bytes → Carries carrier state.reader before (take count bytes) (Some reply) reader after → Counts carrier (Some reply) state.turn.tries tries → two ≡ reply → Adds old new (Went two ∷ [])
      → GivesFrame {E = E} carrier old new before bytes state passed (Ok (record { count = count; is_answered = true })) after
  given_goes E old new before after bytes count reply two some within call counts alike went = record {
    count = count;
    reply = Some reply;
    tries = tries;
    reader = reader;
    some = some;
    within = within;
    call = call;
    counts = counts;
    turned = is;
    replies = (refl, subst (λ (t : List ℕ). Adds old new (Went t ∷ [])) alike went);
  }

  pub given_none : (E : Type 0) (past : Option (List Moment)) (before after : Meter P A ghosts) (bytes : List ℕ) (count : ℕ)
      → (0 < length bytes → 0 < count) → count ≤ length bytes → Carries carrier state.reader before (take count bytes) None reader after → Counts carrier None state.turn.tries tries
      → GivesFrame {E = E} carrier past past before bytes state passed (Ok (record { count = count; is_answered = false })) after
  given_none E past before after bytes count some within call counts =
      record { count = count; reply = None; tries = tries; reader = reader; some = some; within = within; call = call; counts = counts; turned = is; replies = (refl, adds_none past) }
