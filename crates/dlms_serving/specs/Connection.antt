-- The steps of a meter that serves a connection, one after another.
use Rattle.std.specs.Prelude.{◌≡◌, ◌≢◌, ◌⊎◌, ◌↔◌, ◌+◌, ◌-◌, ◌^◌, ◌<◌, ◌≤◌, ℕ, Bool, true, false, IsTrue, IsSome, List, [], ◌∷◌, ◌++◌, length, max, min, nat_lt, take, Option, Some, None, Result, Ok, Err, if◌then◌else◌}
use Rattle.std.specs.IoError.{error_kind}
use Rattle.std.specs.declared.io.Error.{Error}
use Rattle.std.specs.declared.io.ErrorKind.TheVariants.{UnexpectedEof}
use Rattle.dlms_frame.specs.declared.client.Client.{Client}
use Rattle.dlms_ends.specs.Faults.{IsOfSystem}
use Rattle.dlms_ends.specs.Moments.{Moment, Adds, Breaks}
use Rattle.dlms_ends.specs.Moments.Moment.{Came, Quiet, Unheard, Went, Broke}
use Rattle.dlms_ends.specs.declared.fault.RunFault.{RunFault}
use Rattle.dlms_ends.specs.declared.fault.RunFault.TheVariants.{Add, Io}
use Rattle.dlms_ends.specs.declared.meter_end.Taken.{Taken}
use Rattle.dlms_meter.specs.Run.{record_for}
use Rattle.dlms_meter.specs.declared.meter.Meter.{Meter}
use Rattle.dlms_pages.specs.declared.device.Pages.{Ghosts}
use Rattle.dlms_store.specs.declared.fault.AddFault.{AddFault}
use Rattle.dlms_store.specs.declared.fault.AddFault.TheVariants as add
use Rattle.dlms_serving.specs.Pace.{AreDue}
use Rattle.dlms_wrapper.specs.Stream.{IsRefused, Kept}
use Rattle.dlms_wrapper.specs.declared.message.TheConstants.{MOST_APDU}
use Rattle.dlms_serving.specs.Carrying.{Carries, IsBad, ReadsInto, Says}
use Rattle.dlms_serving.specs.declared.carrier.Carrier.{Carrier}
use Rattle.dlms_serving.specs.declared.carrier.Carrier.TheVariants.{Wrapper}
use Rattle.dlms_serving.specs.Telling.{GoesOn, Looks}
use Rattle.dlms_serving.specs.Turns.{Tells}
use Rattle.dlms_lines.specs.Watching.{Sight, Sees, has_any}
use Rattle.dlms_lines.specs.Watching.Sight.{Second, Another, Trusts}
use Rattle.dlms_serving.specs.declared.talking.Ending.{Ending}
use Rattle.dlms_serving.specs.declared.talking.Ending.TheVariants.{BadMessage, Closed, Failed, Over}
use Rattle.dlms_serving.specs.declared.talking.Rules.{Rules}
use Rattle.dlms_serving.specs.declared.talking.TurnState.{TurnState}
use Rattle.dlms_serving.specs.declared.refusals.Outcome.{Outcome}
use Rattle.dlms_serving.specs.declared.refusals.Outcome.TheVariants.{Refused, Proved, Opened}
use Rattle.dlms_serving.specs.declared.ticks.Ticks.{Ticks}
use Rattle.dlms_serving.specs.declared.turns.Over.{Over as Why}
use Rattle.dlms_serving.specs.declared.turns.Over.TheVariants as why
use Rattle.dlms_serving.specs.declared.turns.Tries.{Tries}
use Rattle.dlms_serving.specs.declared.turns.Turn.{Turn}

-- ---- what is known of a meter that serves

-- a meter, and how much of the clock it got
pub record Timed (P A : Type 0) (ghosts : Ghosts P) : Type 0 where
  pub meter : Meter P A ghosts
  pub ticks : Ticks

abbrev pub timed : {P A : Type 0} → {ghosts : Ghosts P} → Meter P A ghosts → Ticks
    → Timed P A ghosts
timed meter ticks = record { meter = meter; ticks = ticks }

-- the events on the line, and the questions of the watch, as far as they are known
pub record Log : Type 0 where
  pub moments : Option (List Moment)
  pub sights : Option (List Sight)

abbrev pub log : Option (List Moment) → Option (List Sight) → Log
log moments sights = record { moments = moments; sights = sights }

-- these events and these questions came after the old ones
abbrev pub Extends : Log → Log → List Moment → List Sight → Type 0
Extends old new moments sights =
    Adds old.moments new.moments moments × Sees old.sights new.sights sights

-- ---- a look at the clock

-- Some seconds have passed; the meter gets those that are due, and its store goes on.
pub record Looked {P A : Type 0} {ghosts : Ghosts P} (step : ℕ) (old : Timed P A ghosts) (now : ℕ)
    (new : Timed P A ghosts) : Type 0 where
  pub due : ℕ
  pub is_due : AreDue (max step 1) now due
  pub outcome : Result (Unit {0}) AddFault
  pub looks : Looks due old.ticks old.meter outcome new.ticks new.meter
  pub goes_on : GoesOn outcome

-- the outcome that reports that a store does not go on
abbrev pub TellsStop : AddFault → RunFault → Type 0
TellsStop (add.Refused cause) fault = ⊥
TellsStop add.Exhausted fault = fault ≡ Add add.Exhausted
TellsStop add.Device fault = fault ≡ Add add.Device
TellsStop add.Stopped fault = fault ≡ Add add.Device

-- The clock failed; or the store did, when the meter got the seconds that are due.
pub data LookFails {P A : Type 0} {ghosts : Ghosts P} (step : ℕ) (old : Timed P A ghosts)
    (fault : RunFault) : List Sight → Timed P A ghosts → Type 0 where
  NoClock : IsOfSystem fault → LookFails step old fault (Second None ∷ []) old
  NoStore : (now due : ℕ) (why : AddFault) (new : Timed P A ghosts)
      → AreDue (max step 1) now due → Looks due old.ticks old.meter (Err why) new.ticks new.meter
      → TellsStop why fault
      → LookFails step old fault (Second (Some now) ∷ []) new

abbrev pub LooksOnce : {P A : Type 0} → {ghosts : Ghosts P} → ℕ → Option (List Sight)
    → Option (List Sight) → Timed P A ghosts → Result ℕ RunFault → Timed P A ghosts → Type 0
LooksOnce step seen seen' old (Ok now) new =
    Sees seen seen' (Second (Some now) ∷ []) × Looked step old now new
LooksOnce step seen seen' old (Err fault) new = (sights : List Sight)
    × Sees seen seen' sights × LookFails step old fault sights new

-- ---- a connection as it stands

-- the meter, and how much of the clock it got; the bytes that came and that it was not given yet; the turn, and when it last asked
-- whether another connection waits; and the number of reads
pub record At (P A : Type 0) (ghosts : Ghosts P) : Type 0 where
  pub meter : Meter P A ghosts
  pub ticks : Ticks
  pub left : List ℕ
  pub state : TurnState
  pub reads : ℕ

abbrev pub timed_of : {P A : Type 0} → {ghosts : Ghosts P} → At P A ghosts → Timed P A ghosts
timed_of s = timed s.meter s.ticks

-- a connection that begins at this second
abbrev pub begins : {P A : Type 0} → {ghosts : Ghosts P} → Timed P A ghosts → ℕ → At P A ghosts
begins old first =
    record {
      meter = old.meter;
      ticks = old.ticks;
      left = [];
      state = record {
        turn = record {
          answered = first;
          held = first;
          waited = None;
          tries = record { refusals = 0; is_proved = false };
        };
        asked = None;
        reader = record { limit = MOST_APDU; bytes = []; message = None };
      };
      reads = 0;
    }

-- ---- bytes are given to the meter

-- a refused association is one refusal more, as far as they are counted, and one that is open by a secret a proof
abbrev pub behind_outcome : Option Outcome → Tries → Tries
behind_outcome (Some Refused) tries = record tries { refusals = min (tries.refusals + 1) 255 }
behind_outcome (Some Proved) tries = record tries { is_proved = true }
behind_outcome (Some Opened) tries = tries
behind_outcome None tries = tries

abbrev pub Counts : Carrier → Option (List ℕ) → Tries → Tries → Type 0
Counts carrier None before after = after ≡ before
Counts carrier (Some reply) before after = (outcome : Option Outcome) × Says carrier reply outcome
    × (after ≡ behind_outcome outcome before)

-- the turn with these tries, and with this of a message that has begun
abbrev pub turned : TurnState → Tries → Kept → TurnState
turned state tries reader =
    record state { turn = record state.turn { tries = tries }; reader = reader }

-- The meter gets some of the bytes by the carrier, and its reply is counted.
pub record Gives {P A : Type 0} {ghosts : Ghosts P} (carrier : Carrier) (s : At P A ghosts)
    (reply : Option (List ℕ)) (given : At P A ghosts) : Type 0 where
  pub taken : List ℕ
  pub behind : List ℕ
  pub tries : Tries
  pub reader : Kept
  pub cut : s.left ≡ taken ++ behind
  pub some : 0 < length taken
  pub call : Carries carrier s.state.reader s.meter taken reply reader given.meter
  pub counts : Counts carrier reply s.state.turn.tries tries
  pub same : given ≡ record s {
    meter = given.meter;
    left = behind;
    state = turned s.state tries reader;
  }

-- the whole reply goes out, and it learns the number of bytes taken and whether there was a reply; or the line breaks at it
abbrev pub Replied : {E : Type 0} → Option (List Moment) → Option (List Moment) → ℕ
    → Option (List ℕ) → Result Taken E → Type 0
Replied old new count None (Ok taken) = (taken ≡ record { count = count; is_answered = false })
    × Adds old new []
Replied old new count None (Err e) = ⊥
Replied old new count (Some reply) (Ok taken) = (taken ≡ record {
  count = count;
  is_answered = true;
}) × Adds old new (Went reply ∷ [])
Replied old new count (Some reply) (Err e) = Breaks old new reply

-- the same of one call, as its caller sees it
pub record GivesFrame {P A E : Type 0} {ghosts : Ghosts P} (carrier : Carrier)
    (old new : Option (List Moment)) (before : Meter P A ghosts) (bytes : List ℕ)
    (state state' : TurnState) (result : Result Taken E) (after : Meter P A ghosts) : Type 0 where
  pub count : ℕ
  pub reply : Option (List ℕ)
  pub tries : Tries
  pub reader : Kept
  pub some : 0 < length bytes → 0 < count
  pub within : count ≤ length bytes
  pub call : Carries carrier state.reader before (take count bytes) reply reader after
  pub counts : Counts carrier reply state.turn.tries tries
  pub turned : state' ≡ turned state tries reader
  pub replies : Replied old new count reply result

-- the end that an error at a reply is: whose association request is refused need not take the reply for that to count
abbrev pub ending_at_reply : Tries → Error → Ending
ending_at_reply tries error = if nat_lt 0 tries.refusals then Over why.Refused else Failed error

-- Over the wrapper some of the bytes were read, and no message can be answered any more: a header is refused, now or before, or a
-- message has no octets.
pub record ReadsBad (carrier : Carrier) (bytes : List ℕ) (state : TurnState) : Type 0 where
  pub taken : List ℕ
  pub behind : List ℕ
  pub reader : Kept
  pub by_wrapper : carrier ≡ Wrapper
  pub cut : bytes ≡ taken ++ behind
  pub reads : ReadsInto state.reader taken reader
  pub bad : IsBad reader ⊎ IsRefused state.reader.limit state.reader.bytes

-- the same of one call, with the end that an error at the reply is; or no message can be answered any more
abbrev pub GivesOrEnds : {P A : Type 0} → {ghosts : Ghosts P} → Carrier → Option (List Moment)
    → Option (List Moment) → Meter P A ghosts → List ℕ → TurnState → TurnState → Result Taken Ending
    → Meter P A ghosts → Type 0
GivesOrEnds carrier old new before bytes state state' (Ok taken) after =
    GivesFrame {E = Error} carrier old new before bytes state state' (Ok taken) after
GivesOrEnds carrier old new before bytes state state' (Err ending) after =
    ((error : Error)
    × GivesFrame {E = Error} carrier old new before bytes state state' (Err error) after
    × (ending ≡ ending_at_reply state'.turn.tries error))
    ⊎ (ReadsBad carrier bytes state × (ending ≡ BadMessage) × Adds old new []
    × (after ≡ before))

-- ---- the turn

-- a client has an association
abbrev pub HasAssociation : {P A : Type 0} → {ghosts : Ghosts P} → Meter P A ghosts → Type 0
HasAssociation meter = (who : Client) × IsSome (record_for meter who).session.opened

-- the turn after bytes that were answered, or were not
abbrev pub turn_after_bytes : Turn → Bool → ℕ → Bool → Turn
turn_after_bytes turn false now associated = turn
turn_after_bytes turn true now associated = record turn {
  answered = now;
  held = if associated then now else turn.held;
}

-- it is asked at this second whether another connection waits: none is known to, and it was not asked in this second yet
abbrev pub IsDue : TurnState → ℕ → Type 0
IsDue state now = (state.turn.waited ≡ None) × (state.asked ≢ Some now)

-- the turn after the answer
abbrev pub behind_answer : Turn → ℕ → Bool → Turn
behind_answer turn now waits = if waits then (record turn { waited = Some now }) else turn

-- Where that is due it is asked.
pub data AsksFor (state : TurnState) (now : ℕ) : List Sight → Turn → Type 0 where
  NotDue : (IsDue state now → ⊥) → AsksFor state now [] state.turn
  Asks : IsDue state now → (waits : Bool)
      → AsksFor state now (Another now waits ∷ []) (behind_answer state.turn now waits)

-- the same, if the questions are known
abbrev pub AsksOnce : Option (List Sight) → Option (List Sight) → TurnState → ℕ → TurnState → Type 0
AsksOnce seen seen' state now state' = (sights : List Sight) × Sees seen seen' sights
    × AsksFor state now sights state'.turn × (state'.asked ≡ Some now)

-- If a secret was proved, the watch hears of that once.
abbrev pub told_of : TurnState → ℕ → List Sight
told_of state now = if state.turn.tries.is_proved then (Trusts now ∷ []) else []

abbrev pub behind_telling : TurnState → TurnState
behind_telling state =
    record state { turn = record state.turn { tries = record state.turn.tries { is_proved = false } } }

abbrev pub TellsOnce : Option (List Sight) → Option (List Sight) → TurnState → ℕ → TurnState
    → Type 0
TellsOnce seen seen' state now state' = Sees seen seen' (told_of state now)
    × (state' ≡ behind_telling state)

-- A look at the clock, after bytes that were answered or were not, and at the turn at that second.
pub record Checks {P A : Type 0} {ghosts : Ghosts P} (rules : Rules) (s : At P A ghosts)
    (is_answered : Bool) (now : ℕ) (sights : List Sight) (after : At P A ghosts) : Type 0 where
  pub look : Looked rules.tick (timed_of s) now (timed_of after)
  pub associated : Bool
  pub has : IsTrue associated ↔ HasAssociation after.meter
  pub state : TurnState
  pub turn_after_bytes : state
      ≡ record s.state { turn = turn_after_bytes s.state.turn is_answered now associated }
  pub asked_for : List Sight
  pub asks : AsksFor (behind_telling state) now asked_for after.state.turn
  pub all : sights ≡ told_of state now ++ asked_for
  pub asked : after.state.asked ≡ Some now
  pub reader : after.state.reader ≡ s.state.reader
  pub left : after.left ≡ s.left
  pub reads : after.reads ≡ s.reads

-- the same, with this report on the turn; or the look failed
abbrev pub ChecksOnce : {P A : Type 0} → {ghosts : Ghosts P} → Rules → Option (List Sight)
    → Option (List Sight) → At P A ghosts → Bool → Result (Option Why) RunFault → At P A ghosts
    → Type 0
ChecksOnce rules seen seen' s is_answered (Ok why) after =
    (now : ℕ) × (sights : List Sight) × Sees seen seen' (Second (Some now) ∷ sights)
    × Checks rules s is_answered now sights after × Tells rules after.state.turn now why
ChecksOnce rules seen seen' s is_answered (Err fault) after =
    (sights : List Sight) × Sees seen seen' sights
    × LookFails rules.tick (timed_of s) fault sights (timed_of after)
    × (after.left ≡ s.left) × (after.state ≡ s.state) × (after.reads ≡ s.reads)

-- ---- one thing after another

-- bytes came, or none if the call was interrupted; or nothing came for as long as a read waits
abbrev pub IsRead : Moment → List ℕ → Type 0
IsRead (Came came) bytes = bytes ≡ came
IsRead Quiet bytes = bytes ≡ []
IsRead _ bytes = ⊥

-- one read: bytes came, or nothing did, which counts for none; or it failed
abbrev pub ReadsPiece : Option (List Moment) → Option (List Moment) → Result ℕ Error → List ℕ
    → Type 0
ReadsPiece old new (Ok count) piece = Adds old new (Came (take count piece) ∷ [])
    ⊎ ((count ≡ 0) × Adds old new (Quiet ∷ []))
ReadsPiece old new (Err e) piece = Adds old new (Unheard e ∷ [])

abbrev pub goes_out : Option (List ℕ) → List Moment
goes_out None = []
goes_out (Some reply) = Went reply ∷ []

-- One step of it, with its events on the line and its questions. If all bytes that came were given, it looks at the clock, and
-- reads, since its turn is not over. If some were not, it gives the meter some of them, whose reply goes out whole; and then it
-- looks at the clock, and its turn is not over.
pub data Doing {P A : Type 0} {ghosts : Ghosts P} (rules : Rules) (s : At P A ghosts) : List Moment
    → List Sight → At P A ghosts → Type 0 where
  Reads : (now : ℕ) (sights : List Sight) (mid : At P A ghosts) (moment : Moment) (bytes : List ℕ)
      → s.left ≡ [] → Checks rules s false now sights mid → Tells rules mid.state.turn now None
      → IsRead moment bytes
      → Doing rules s (moment ∷ []) (Second (Some now) ∷ sights) (record mid {
        left = bytes;
        reads = mid.reads + 1;
      })
  Answers : (reply : Option (List ℕ)) (given : At P A ghosts) (now : ℕ) (sights : List Sight)
      (after : At P A ghosts) → Gives rules.carrier s reply given
      → Checks rules given (has_any reply) now sights after
      → Tells rules after.state.turn now None
      → Doing rules s (goes_out reply) (Second (Some now) ∷ sights) after

-- one after another
pub data Doings {P A : Type 0} {ghosts : Ghosts P} (rules : Rules) (s : At P A ghosts) : List Moment
    → List Sight → At P A ghosts → Type 0 where
  Nothing : Doings rules s [] [] s
  Then : (before moments : List Moment) (asked sights : List Sight) (mid after : At P A ghosts)
      → Doings rules s before asked mid → Doing rules mid moments sights after
      → Doings rules s (before ++ moments) (asked ++ sights) after

-- So it went on, and this was added to what is known.
pub record Goes {P A : Type 0} {ghosts : Ghosts P} (rules : Rules) (old new : Log)
    (s after : At P A ghosts) : Type 0 where
  pub moments : List Moment
  pub sights : List Sight
  pub does : Doings rules s moments sights after
  pub extends : Extends old new moments sights

-- ---- the end

-- It comes to a look at the clock: before a read, or after bytes that the meter was given, whose reply went out.
pub data Arrives {P A : Type 0} {ghosts : Ghosts P} (carrier : Carrier) (s : At P A ghosts)
    : List Moment → Bool → At P A ghosts → Type 0 where
  ToRead : s.left ≡ [] → Arrives carrier s [] false s
  Behind : (reply : Option (List ℕ)) (given : At P A ghosts) → Gives carrier s reply given
      → Arrives carrier s (goes_out reply) (has_any reply) given

-- the report on a read that failed: that the other end closed the connection if the stream has ended, otherwise the error
abbrev pub IsOfRead : Error → Ending → Type 0
IsOfRead error Closed = error_kind error ≡ UnexpectedEof
IsOfRead error (Failed told) = (error_kind error ≢ UnexpectedEof) × (told ≡ error)
IsOfRead error (Over why) = ⊥
IsOfRead error BadMessage = ⊥

-- How it ends, and why: at a look at the clock its turn is over, or the look failed; a read failed; a reply did not go out whole; no message
-- can be answered any more; or it has read as often as it may.
pub data Ends {P A : Type 0} {ghosts : Ghosts P} (rules : Rules)
    (s : At P A ghosts) : Result Ending RunFault → List Moment → List Sight → Timed P A ghosts
    → Type 0 where
  IsOver : (moments : List Moment) (is_answered : Bool) (given : At P A ghosts) (now : ℕ)
      (sights : List Sight) (after : At P A ghosts) (why : Why)
      → Arrives rules.carrier s moments is_answered given
      → Checks rules given is_answered now sights after
      → Tells rules after.state.turn now (Some why)
      → Ends rules s (Ok (Over why)) moments (Second (Some now) ∷ sights) (timed_of after)
  LookEnds : (moments : List Moment) (is_answered : Bool) (given : At P A ghosts)
      (fault : RunFault) (sights : List Sight) (new : Timed P A ghosts)
      → Arrives rules.carrier s moments is_answered given
      → LookFails rules.tick (timed_of given) fault sights new
      → Ends rules s (Err fault) moments sights new
  ReadEnds : (now : ℕ) (sights : List Sight) (after : At P A ghosts) (error : Error)
      (ending : Ending) → s.left ≡ [] → Checks rules s false now sights after
      → Tells rules after.state.turn now None → IsOfRead error ending
      → Ends rules s (Ok ending) (Unheard error ∷ []) (Second (Some now) ∷ sights) (timed_of after)
  ReplyEnds : (reply part missing : List ℕ) (given : At P A ghosts) (error : Error)
      → Gives rules.carrier s (Some reply) given → part ++ missing ≡ reply
      → Ends rules s (Ok (ending_at_reply given.state.turn.tries error))
      (Broke part ∷ []) [] (timed_of given)
  MessageEnds : ReadsBad rules.carrier s.left s.state
      → Ends rules s (Ok BadMessage) [] [] (timed_of s)
  Tires : s.left ≡ [] → s.reads ≡ 2 ^ 64 - 1 → Ends rules s (Err Io) [] [] (timed_of s)

-- From there it went on, and ended so.
pub record GoesToEnd {P A : Type 0} {ghosts : Ghosts P} (rules : Rules) (old new : Log)
    (s : At P A ghosts) (result : Result Ending RunFault) (after : Timed P A ghosts) : Type 0 where
  pub mid : Log
  pub last : At P A ghosts
  pub goes : Goes rules old mid s last
  pub moments : List Moment
  pub sights : List Sight
  pub ends : Ends rules last result moments sights after
  pub extends : Extends mid new moments sights

-- the frames among some bytes: all of them are answered, or the connection ends there
abbrev pub AnswersEach : {P A : Type 0} → {ghosts : Ghosts P} → Rules → Log → Log → At P A ghosts
    → Result (Option Ending) RunFault → Timed P A ghosts → TurnState → Type 0
AnswersEach rules old new s (Ok None) after state =
    Goes rules old new s (record {
      meter = after.meter;
      ticks = after.ticks;
      left = [];
      state = state;
      reads = s.reads;
    })
AnswersEach rules old new s (Ok (Some ending)) after state =
    GoesToEnd rules old new s (Ok ending) after
AnswersEach rules old new s (Err fault) after state = GoesToEnd rules old new s (Err fault) after

-- A connection, from its first look at the clock to its end.
pub data Connection {P A : Type 0} {ghosts : Ghosts P} (rules : Rules) (old new : Log)
    (s : Timed P A ghosts) : Result Ending RunFault → Timed P A ghosts → Type 0 where
  Unbegun : (fault : RunFault) (sights : List Sight) (after : Timed P A ghosts)
      → LookFails rules.tick s fault sights after → Extends old new [] sights
      → Connection rules old new s (Err fault) after
  Begun : (first : ℕ) (mid : Log) (begun after : Timed P A ghosts) (result : Result Ending RunFault)
      → Looked rules.tick s first begun → Extends old mid [] (Second (Some first) ∷ [])
      → GoesToEnd rules mid new (begins begun first) result after
      → Connection rules old new s result after
