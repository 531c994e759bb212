-- The rounds of the loopback.
use Rattle.std.proofs.Common.{arith, refl, sym, ap, append-nil, append_assoc, ◌++◌, ◌∙◌, ◌≡◌, ◌<◌, ◌≤◌, ◌+◌, ℕ, List, [], ◌∷◌, length, subst, inl, inr}
use Rattle.std.specs.Prelude.{Option, Some, None, Result, Ok, Err, IfErr, IfOk, IsErrAnd, MatchResult}
use Rattle.std.specs.Io.KnownBytes.{Keeps}
use Rattle.std.specs.declared.io.Error.{Error}
use Rattle.dlms_headend.specs.Lines.{IsFile, text_of}
use Rattle.dlms_headend.specs.Merged.{last_clock, merged}
use Rattle.dlms_headend.specs.PollerValue.{PollerValue}
use Rattle.dlms_headend.specs.declared.row.Row.{Row}
use Rattle.dlms_headend.specs.Asking.{PlanValue}
use Rattle.dlms_headend.specs.Polling.{fresh_poll}
use Rattle.dlms_meter.specs.Run.{MeterWorld, first_world, recovered, with_store}
use Rattle.dlms_meter.specs.declared.meter.Meter.{Meter}
use Rattle.dlms_pages.specs.Memory.{Memory}
use Rattle.dlms_pages.specs.declared.device.Pages.{Ghosts}
use Rattle.dlms_ends.specs.BothEnds.{IsDonePoll, Polls}
use Rattle.dlms_store.specs.Fitting.{StoreFits}
use Rattle.dlms_store.specs.World.{StoreWorld}
use Rattle.dlms_ends.specs.Faults.{TellsError}
use Rattle.dlms_filing.specs.Filing.{PlaceCall, Asks, KeepsRows}
use Rattle.dlms_filing.specs.Filing.PlaceCall.{Lays, Puts}
use Rattle.dlms_filing.specs.Printing.{Printed, PrintsNothing, PrintsPart}
use Rattle.dlms_loopback.specs.Rounds.{ArePolled, Continues, HasOpened, HasPolled, HoldsFile, IsInWorld, IsNext, IsUntouched, JoinsEnds, LoopFails, Loops, OpensReadings, PutsLast, Unlooped, Seen, Reads, Rounds, ReadsRows, KeepsPolled, KeepsNothing, TellsKept, Polled, PrintsText, plan_from}
use Rattle.dlms_loopback.specs.Stops.{GoesAgain, IsBegun, StaysAway}
use Rattle.dlms_loopback.specs.Rounds.LoopFails.{NotOpened, RoundsFail}
use Rattle.dlms_loopback.specs.Rounds.Reads.{Begun, Then}
use Rattle.dlms_ends.specs.declared.fault.RunFault.{RunFault}
use Rattle.dlms_filing.specs.declared.filing.FilingFault.{FilingFault}
use Rattle.dlms_ends.proofs.MomentLemmas.{adds_none}
use Rattle.dlms_ends.proofs.PollLemmas.{system_told}

pub prints_part : {T : Type 0} (printed printed' : Printed) (rows : List Row) (bytes : List ℕ) (r : Result T RunFault) (error : Error)
    → IsErrAnd r (TellsError error) → bytes ≡ text_of rows → PrintsPart printed printed' bytes → PrintsText printed printed' rows r
prints_part printed printed' rows bytes (Ok done) error told is part = absurd told
prints_part printed printed' rows bytes (Err fault) error told is part = inr (system_told fault error told, subst (λ (t : List ℕ). PrintsPart printed printed' t) is part)

kept_rows : (seen seen' : Seen) (told told' : Option Error) (done : PollerValue) (before after : List Row) (kept : Result (Unit {0}) FilingFault)
    → KeepsRows seen.asked seen'.asked before done.talk.rows kept after → TellsKept {U = Unit {0}} told told' kept (Ok tt) → after ≡ merged before done.talk.rows
kept_rows seen seen' told told' done before after (Ok x) keeps tells = keeps.0
kept_rows seen seen' told told' done before after (Err why) keeps tells = absurd tells

-- a round that went well
one_round : (secret : List ℕ) (seen seen' : Seen) (told told' : Option Error) (before after : List Row) (polled : Result PollerValue RunFault)
    → IfOk polled (IsDonePoll (plan_from secret (last_clock before)))
    → MatchResult polled (λ done. KeepsPolled {T = Unit {0}} seen seen' told told' done before (Ok tt) after) (λ fault. KeepsNothing {T = Unit {0}} seen seen' told told' fault before (Ok tt) after)
    → (done : PollerValue) × IsDonePoll (plan_from secret (last_clock before)) done × (after ≡ merged before done.talk.rows)
one_round secret seen seen' told told' before after (Ok done) is (kept, keeps, tells) = (done, is, kept_rows seen seen' told told' done before after kept keeps tells)
one_round secret seen seen' told told' before after (Err fault) is kept = absurd (cc kept.0)

polled_in : {A : Type 0} {ghosts : Ghosts Memory} (first : Meter Memory A ghosts) (secret : List ℕ) (seen : Seen) (before : List Row) (now : Seen) (rows : List Row) (count : ℕ) (last : Meter Memory A ghosts)
    → Reads first secret seen before count now rows last → (polls : List PollerValue) × (length polls ≡ count) × Polled secret polls before rows
polled_in first secret seen before now rows count last Begun = ([], refl, refl)
polled_in first secret seen before now rows count last (Then n mid new was after before_it meter meter' told w reads known is_next round) =
    let (polls, counted, polled) = polled_in first secret seen before mid was n before_it reads in
    let (done, is, same) = one_round secret mid new told told was after round.polled round.done round.kept in
    (done ∷ polls, omega (arith, counted), (was, polled, is, same))

pub rounds_poll : {A : Type 0} {ghosts : Ghosts Memory} (first : Meter Memory A ghosts) (secret : List ℕ) (stops : ℕ) (seen now : Seen) (told told' : Option Error) (before after : List Row)
    → Rounds {T = Unit {0}} first secret stops seen now told told' before (Ok tt) after → ArePolled secret (stops + 1) before after
rounds_poll first secret stops seen now told told' before after (last, reads, untold) =
    let (polls, counted, polled) = polled_in first secret seen before now after (stops + 1) last reads in record { polls = polls; counted = counted; polled = polled }

-- ---- what the file holds

asks_none : (a : Option (List PlaceCall)) → Asks a a []
asks_none None = tt
asks_none (Some before) = sym (append-nil before)

asks_more : (a b c : Option (List PlaceCall)) (xs ys : List PlaceCall) → Asks a b xs → Asks b c ys → Asks a c (xs ++ ys)
asks_more None b c xs ys first next = tt
asks_more (Some before) None c xs ys first next = absurd first
asks_more (Some before) (Some mid) None xs ys first next = absurd next
asks_more (Some before) (Some mid) (Some after) xs ys first next = next ∙ ap (λ (calls : List PlaceCall). calls ++ ys) first ∙ append_assoc before xs ys

-- a round that went well put the text of its rows
round_puts : (seen seen' : Seen) (told told' : Option Error) (before after : List Row) (polled : Result PollerValue RunFault)
    → MatchResult polled (λ done. KeepsPolled {T = Unit {0}} seen seen' told told' done before (Ok tt) after) (λ fault. KeepsNothing {T = Unit {0}} seen seen' told told' fault before (Ok tt) after)
    → (text : List ℕ) × IsFile text after × Asks seen.asked seen'.asked (Lays text None ∷ Puts None ∷ [])
round_puts seen seen' told told' before after (Ok done) (kept, keeps, tells) = put kept keeps tells where
  put : (kept : Result (Unit {0}) FilingFault) → KeepsRows seen.asked seen'.asked before done.talk.rows kept after → TellsKept {U = Unit {0}} told told' kept (Ok tt)
      → (text : List ℕ) × IsFile text after × Asks seen.asked seen'.asked (Lays text None ∷ Puts None ∷ [])
  put (Ok x) keeps tells = (keeps.1, keeps.2, keeps.3)
  put (Err why) keeps tells = absurd tells
round_puts seen seen' told told' before after (Err fault) kept = absurd (cc kept.0)

asked_in : {A : Type 0} {ghosts : Ghosts Memory} (first : Meter Memory A ghosts) (secret : List ℕ) (seen : Seen) (before : List Row) (now : Seen) (rows : List Row) (count : ℕ) (last : Meter Memory A ghosts)
    → Reads first secret seen before count now rows last → (calls : List PlaceCall) × Asks seen.asked now.asked calls
asked_in first secret seen before now rows count last Begun = ([], asks_none seen.asked)
asked_in first secret seen before now rows count last (Then n mid new was after before_it meter meter' told w reads known is_next round) =
    let (front, asks) = asked_in first secret seen before mid was n before_it reads in
    let (text, is, puts) = round_puts mid new told told was after round.polled round.kept in
    (front ++ Lays text None ∷ Puts None ∷ [], asks_more seen.asked mid.asked new.asked front (Lays text None ∷ Puts None ∷ []) asks puts)

puts_last : {A : Type 0} {ghosts : Ghosts Memory} (first : Meter Memory A ghosts) (secret : List ℕ) (seen : Seen) (before : List Row) (now : Seen) (rows : List Row) (count : ℕ) (last : Meter Memory A ghosts)
    → Reads first secret seen before count now rows last → 0 < count → PutsLast seen.asked now.asked rows
puts_last first secret seen before now rows count last Begun some = absurd (omega (arith, some))
puts_last first secret seen before now rows count last (Then n mid new was after before_it meter meter' told w reads known is_next round) some =
    let (front, asks) = asked_in first secret seen before mid was n before_it reads in
    let (text, is, puts) = round_puts mid new told told was after round.polled round.kept in
    record { text = text; is_file = is; front = front; asks = asks_more seen.asked mid.asked new.asked front (Lays text None ∷ Puts None ∷ []) asks puts }

rounds_put : {A : Type 0} {ghosts : Ghosts Memory} (first : Meter Memory A ghosts) (secret : List ℕ) (stops : ℕ) (seen now : Seen) (told told' : Option Error) (before after : List Row)
    → Rounds {T = Unit {0}} first secret stops seen now told told' before (Ok tt) after → PutsLast seen.asked now.asked after
rounds_put first secret stops seen now told told' before after (last, reads, untold) = puts_last first secret seen before now after (stops + 1) last reads (omega arith)

keeps_all : (bytes : Option (List ℕ)) → Keeps bytes bytes
keeps_all None = tt
keeps_all (Some bytes) = refl

-- an output on which nothing was printed
pub prints_none : (printed : Printed) → PrintsNothing printed printed
prints_none printed = (adds_none printed.moments, keeps_all printed.bytes)

pub loops : {A T : Type 0} (ghosts : Ghosts Memory) (alloc : A) (file : Option (List ℕ)) (secret : List ℕ) (stops : ℕ) (seen seen' : Seen) (told told' : Option Error) (printed printed' : Printed) (after : List Row) (r : Result T RunFault)
    → HasPolled ghosts alloc file secret stops seen seen' told told' after → PrintsText printed printed' after r → IfOk r (λ _. Loops ghosts alloc file secret stops seen seen' told told' printed printed')
loops ghosts alloc file secret stops seen seen' told told' printed printed' after (Ok done) has prints = (after, has, prints)
loops ghosts alloc file secret stops seen seen' told told' printed printed' after (Err fault) has prints = tt

pub unlooped : {A T : Type 0} (ghosts : Ghosts Memory) (alloc : A) (file : Option (List ℕ)) (secret : List ℕ) (stops : ℕ) (seen seen' : Seen) (told told' : Option Error) (printed printed' : Printed) (after : List Row) (r : Result T RunFault)
    → HasPolled ghosts alloc file secret stops seen seen' told told' after → PrintsText printed printed' after r → IfErr r (Unlooped ghosts alloc file secret stops seen seen' told told' printed printed')
unlooped ghosts alloc file secret stops seen seen' told told' printed printed' after (Ok done) has prints = tt
unlooped ghosts alloc file secret stops seen seen' told told' printed printed' after (Err fault) has prints = inr (after, has, prints)

-- ---- round by round

untold : (seen seen' : Seen) (told told' : Option Error) (before after : List Row) (polled : Result PollerValue RunFault)
    → MatchResult polled (λ done. KeepsPolled {T = Unit {0}} seen seen' told told' done before (Ok tt) after) (λ fault. KeepsNothing {T = Unit {0}} seen seen' told told' fault before (Ok tt) after) → told' ≡ told
untold seen seen' told told' before after (Ok done) (kept, keeps, tells) = still kept tells where
  still : (kept : Result (Unit {0}) FilingFault) → TellsKept {U = Unit {0}} told told' kept (Ok tt) → told' ≡ told
  still (Ok x) tells = tells.0
  still (Err why) tells = absurd tells
untold seen seen' told told' before after (Err fault) kept = absurd (cc kept.0)

-- the meter after a poll that went well
polled_world : {P A : Type 0} {ghosts : Ghosts P} (seen seen' : Seen) (told told' : Option Error) (before after : List Row) (poller : PollerValue) (w : MeterWorld) (meter meter' : Meter P A ghosts) (polled : Result PollerValue RunFault)
    → Polls seen.head seen'.head seen.tail seen'.tail poller w meter meter' polled
    → MatchResult polled (λ done. KeepsPolled {T = Unit {0}} seen seen' told told' done before (Ok tt) after) (λ fault. KeepsNothing {T = Unit {0}} seen seen' told told' fault before (Ok tt) after)
    → StoreFits meter.store w.store → (now : MeterWorld) × IsInWorld meter' now
polled_world seen seen' told told' before after poller w meter meter' (Ok done) (is, (steps, served)) kept fits = (served.world, record { stands = served.stands; fits = served.fits fits })
polled_world seen seen' told told' before after poller w meter meter' (Err fault) polls kept fits = absurd (cc kept.0)

module _ {A : Type 0} {ghosts : Ghosts Memory} where
  first_is_next : (before : StoreWorld) (meter : Meter Memory A ghosts) → IsNext 0 before meter meter
  first_is_next before meter = record { first = λ zero. refl; again = λ none. absurd (omega (arith, none)) }

  later_is_next : (before : StoreWorld) (count : ℕ) (last meter : Meter Memory A ghosts) → Continues before last (count + 1) meter → IsNext (count + 1) before last meter
  later_is_next before count last meter again = record { first = λ none. absurd (omega (arith, none)); again = λ some. again }

  continues : (w : MeterWorld) (last : Meter Memory A ghosts) (round : ℕ) (meter : Meter Memory A ghosts) → IsInWorld last w → GoesAgain last round meter → Continues w.store last round meter
  continues w last round meter known goes = record { goes = goes; finds = goes.comes.finds w.store known.fits }

  -- the meter after it continued
  continued_world : (before : StoreWorld) (last : Meter Memory A ghosts) (round : ℕ) (meter : Meter Memory A ghosts) → Continues before last round meter → (now : MeterWorld) × IsInWorld meter now
  continued_world before last round meter c =
      let took = c.goes.took (recovered c.finds.found) c.finds.stands in
      (with_store (recovered c.finds.found) took.store, record { stands = took.stands; fits = took.fits c.finds.fits })

  round_world : (plan : PlanValue) (seen seen' : Seen) (w : MeterWorld) (meter meter' : Meter Memory A ghosts) (told told' : Option Error) (before after : List Row)
      → ReadsRows {T = Unit {0}} plan seen seen' meter meter' told told' before (Ok tt) after → IsInWorld meter w → (now : MeterWorld) × IsInWorld meter' now
  round_world plan seen seen' w meter meter' told told' before after round known =
      polled_world seen seen' told told' before after (fresh_poll plan) w meter meter' round.polled (round.ends w known.stands) round.kept known.fits

  -- so many rounds went well, the system said nothing, and the meter is in a world
  pub record SoFar (first : Meter Memory A ghosts) (secret : List ℕ) (seen : Seen) (before : List Row) (told : Option Error) (count : ℕ) (now : Seen) (rows : List Row) (told' : Option Error) (last : Meter Memory A ghosts) : Type 0 where
    pub reads : Reads first secret seen before count now rows last
    pub untold : told' ≡ told
    pub world : MeterWorld
    pub known : IsInWorld last world

  abbrev pub Going : Meter Memory A ghosts → List ℕ → Seen → List Row → Option Error → ℕ → Seen → List Row → Option Error → Meter Memory A ghosts → Type 0
  Going first secret seen before told count now rows told' last = (w : MeterWorld) → IsInWorld first w → SoFar first secret seen before told count now rows told' last

  pub first_round : (secret : List ℕ) (seen new : Seen) (meter meter' : Meter Memory A ghosts) (told told' : Option Error) (before after : List Row)
      → ReadsRows {T = Unit {0}} (plan_from secret (last_clock before)) seen new meter meter' told told' before (Ok tt) after → Going meter secret seen before told 1 new after told' meter'
  first_round secret seen new meter meter' told told' before after round w known =
      let same : told' ≡ told = untold seen new told told' before after round.polled round.kept in
      let is = subst (λ (t : Option Error). ReadsRows {T = Unit {0}} (plan_from secret (last_clock before)) seen new meter meter' told t before (Ok tt) after) same round in
      let now = round_world (plan_from secret (last_clock before)) seen new w meter meter' told told' before after round known in
      record { reads = Then 0 seen new before after meter meter meter' told w Begun known (first_is_next w.store meter) is; untold = same; world = now.0; known = now.1 }

  pub next_round : (first : Meter Memory A ghosts) (secret : List ℕ) (seen mid new : Seen) (last meter meter' : Meter Memory A ghosts) (told told' told'' : Option Error) (before rows after : List Row) (count : ℕ)
      → Going first secret seen before told (count + 1) mid rows told' last → GoesAgain last (count + 1) meter
      → ReadsRows {T = Unit {0}} (plan_from secret (last_clock rows)) mid new meter meter' told' told'' rows (Ok tt) after
      → Going first secret seen before told (count + 1 + 1) new after told'' meter'
  next_round first secret seen mid new last meter meter' told told' told'' before rows after count going again round w known =
      let so_far = going w known in
      let same : told'' ≡ told' = untold mid new told' told'' rows after round.polled round.kept in
      let is = subst (λ (t : Option Error). ReadsRows {T = Unit {0}} (plan_from secret (last_clock rows)) mid new meter meter' told' t rows (Ok tt) after) same round in
      let on = continues so_far.world last (count + 1) meter so_far.known again in
      let back = continued_world so_far.world.store last (count + 1) meter on in
      let now = round_world (plan_from secret (last_clock rows)) mid new back.0 meter meter' told' told'' rows after round back.1 in
      record {
        reads = Then (count + 1) mid new rows after last meter meter' told' so_far.world so_far.reads so_far.known (later_is_next so_far.world.store count last meter on) is;
        untold = same ∙ so_far.untold;
        world = now.0;
        known = now.1;
      }

  pub all_rounds : (first : Meter Memory A ghosts) (secret : List ℕ) (stops : ℕ) (seen now : Seen) (last : Meter Memory A ghosts) (told told' : Option Error) (before after : List Row) (count : ℕ) → count ≤ stops → stops ≤ count
      → Going first secret seen before told (count + 1) now after told' last → (w : MeterWorld) → IsInWorld first w → Rounds {T = Unit {0}} first secret stops seen now told told' before (Ok tt) after
  all_rounds first secret stops seen now last told told' before after count up down going w known =
      let so_far = going w known in
      let same : count ≡ stops = omega (arith, up, down) in (last, subst (λ (n : ℕ). Reads first secret seen before (n + 1) now after last) same so_far.reads, so_far.untold)

  pub first_fails : (secret : List ℕ) (stops : ℕ) (seen new : Seen) (meter meter' : Meter Memory A ghosts) (told told' : Option Error) (before after : List Row) (fault : RunFault) (r : Result (Unit {0}) RunFault)
      → IsErrAnd r (λ given. given ≡ fault) → ReadsRows {T = Unit {0}} (plan_from secret (last_clock before)) seen new meter meter' told told' before (Err fault) after
      → (w : MeterWorld) → IsInWorld meter w → Rounds meter secret stops seen new told told' before r after
  first_fails secret stops seen new meter meter' told told' before after fault (Ok done) is round w known = absurd is
  first_fails secret stops seen new meter meter' told told' before after fault (Err given) is round w known = (
    0,
    seen,
    before,
    meter,
    Begun,
    omega arith,
    inl
        (record {
          meter = meter;
          meter' = meter';
          world = w;
          known = known;
          is_next = first_is_next w.store meter;
          reads = subst (λ (f : RunFault). ReadsRows {T = Unit {0}} (plan_from secret (last_clock before)) seen new meter meter' told told' before (Err f) after) (sym is) round;
        }),
  )

  pub round_fails : (first : Meter Memory A ghosts) (secret : List ℕ) (stops : ℕ) (seen mid new : Seen) (last meter meter' : Meter Memory A ghosts) (told told' told'' : Option Error) (before rows after : List Row) (count : ℕ) (fault : RunFault) (r : Result (Unit {0}) RunFault)
      → IsErrAnd r (λ given. given ≡ fault) → count < stops → Going first secret seen before told (count + 1) mid rows told' last → GoesAgain last (count + 1) meter
      → ReadsRows {T = Unit {0}} (plan_from secret (last_clock rows)) mid new meter meter' told' told'' rows (Err fault) after
      → (w : MeterWorld) → IsInWorld first w → Rounds first secret stops seen new told told'' before r after
  round_fails first secret stops seen mid new last meter meter' told told' told'' before rows after count fault (Ok done) is below going again round w known = absurd is
  round_fails first secret stops seen mid new last meter meter' told told' told'' before rows after count fault (Err given) is below going again round w known =
      let so_far = going w known in (
        count + 1,
        mid,
        rows,
        last,
        so_far.reads,
        omega (arith, below),
        inl
            (record {
              meter = meter;
              meter' = meter';
              world = so_far.world;
              known = so_far.known;
              is_next = later_is_next so_far.world.store count last meter (continues so_far.world last (count + 1) meter so_far.known again);
              reads = subst (λ (t : Option Error). ReadsRows {T = Unit {0}} (plan_from secret (last_clock rows)) mid new meter meter' t told'' rows (Err given) after) so_far.untold
                  (subst (λ (f : RunFault). ReadsRows {T = Unit {0}} (plan_from secret (last_clock rows)) mid new meter meter' told' told'' rows (Err f) after) (sym is) round);
            }),
      )

  pub stop_fails : (first : Meter Memory A ghosts) (secret : List ℕ) (stops : ℕ) (seen mid : Seen) (last : Meter Memory A ghosts) (told told' : Option Error) (before rows : List Row) (count : ℕ) (fault : RunFault) (r : Result (Unit {0}) RunFault)
      → IsErrAnd r (λ given. given ≡ fault) → count < stops → Going first secret seen before told (count + 1) mid rows told' last → StaysAway last (count + 1) fault
      → (w : MeterWorld) → IsInWorld first w → Rounds first secret stops seen mid told told' before r rows
  stop_fails first secret stops seen mid last told told' before rows count fault (Ok done) is below going away w known = absurd is
  stop_fails first secret stops seen mid last told told' before rows count fault (Err given) is below going away w known =
      let so_far = going w known in (
        count + 1,
        mid,
        rows,
        last,
        so_far.reads,
        omega (arith, below),
        inr
            (record {
              stopped = omega arith;
              stays_away = subst (λ (f : RunFault). StaysAway last (count + 1) f) (sym is) away;
              unseen = refl;
              untold = so_far.untold;
              unread = refl;
            }),
      )

  pub begun_world : (meter : Meter Memory A ghosts) → (begun : IsBegun meter) → IsInWorld meter (with_store first_world begun.store)
  begun_world meter begun = record { stands = begun.stands; fits = begun.fits }

-- ---- before the rounds

held_still : (file : Option (List ℕ)) (asked mid : Option (List PlaceCall)) (told told' : Option Error) → HoldsFile {T = Unit {0}} file asked mid told told' (Ok tt) → (told' ≡ told) × HoldsFile {T = Unit {0}} file asked mid told told (Ok tt)
held_still None asked mid told told' (asks, same, is) = (same, (asks, refl, is))
held_still (Some name) asked mid told told' (asks, same) = (same, (asks, refl))

pub not_opened : {A : Type 0} (ghosts : Ghosts Memory) (alloc : A) (file : Option (List ℕ)) (secret : List ℕ) (stops : ℕ) (seen seen' : Seen) (mid : Option (List PlaceCall)) (told told' told'' : Option Error) (fault : RunFault)
    → HoldsFile {T = Unit {0}} file seen.asked mid told told' (Ok tt) → OpensReadings mid seen'.asked told' told'' (Err fault) → IsUntouched seen seen' → LoopFails ghosts alloc file secret stops seen seen' told told'' fault
not_opened ghosts alloc file secret stops seen seen' mid told told' told'' fault holds opens still =
    let (same, held) = held_still file seen.asked mid told told' holds in
    NotOpened mid held (subst (λ (t : Option Error). OpensReadings mid seen'.asked t told'' (Err fault)) same opens) still

pub has_opened : (file : Option (List ℕ)) (asked mid asked' : Option (List PlaceCall)) (told told' told'' : Option Error) (rows : List Row) → HoldsFile {T = Unit {0}} file asked mid told told' (Ok tt)
    → OpensReadings mid asked' told' told'' (Ok rows) → HasOpened file asked asked' told rows × (told'' ≡ told)
has_opened file asked mid asked' told told' told'' rows holds (opens, same) =
    let (before, held) = held_still file asked mid told told' holds in (record { mid = mid; holds = held; opens = opens }, same ∙ before)

pub rounds_fail : {A : Type 0} (ghosts : Ghosts Memory) (alloc : A) (file : Option (List ℕ)) (secret : List ℕ) (stops : ℕ) (seen mid seen' : Seen) (told told' told'' : Option Error) (rows after : List Row) (meter : Meter Memory A ghosts) (fault : RunFault)
    → HasOpened file seen.asked mid.asked told rows × (told' ≡ told) → IsBegun meter → JoinsEnds {T = Unit {0}} seen.head mid.head seen.tail mid.tail (Ok tt)
    → Rounds {T = Unit {0}} meter secret stops mid seen' told' told'' rows (Err fault) after → LoopFails ghosts alloc file secret stops seen seen' told told'' fault
rounds_fail ghosts alloc file secret stops seen mid seen' told told' told'' rows after meter fault (opened, same) begun joins fails =
    RoundsFail rows after mid meter opened begun joins (subst (λ (t : Option Error). Rounds {T = Unit {0}} meter secret stops mid seen' t told'' rows (Err fault) after) same fails)

pub has_polled : {A : Type 0} (ghosts : Ghosts Memory) (alloc : A) (file : Option (List ℕ)) (secret : List ℕ) (stops : ℕ) (seen mid seen' : Seen) (told told' told'' : Option Error) (rows after : List Row) (meter : Meter Memory A ghosts)
    → HasOpened file seen.asked mid.asked told rows × (told' ≡ told) → IsBegun meter → JoinsEnds {T = Unit {0}} seen.head mid.head seen.tail mid.tail (Ok tt)
    → Rounds {T = Unit {0}} meter secret stops mid seen' told' told'' rows (Ok tt) after → HasPolled ghosts alloc file secret stops seen seen' told told'' after
has_polled ghosts alloc file secret stops seen mid seen' told told' told'' rows after meter (opened, same) begun joins went =
    let rounds = subst (λ (t : Option Error). Rounds {T = Unit {0}} meter secret stops mid seen' t told'' rows (Ok tt) after) same went in
    record {
      rows = rows;
      mid = mid;
      first = meter;
      opened = opened;
      begun = begun;
      joined = joins;
      rounds = rounds;
      polled = rounds_poll meter secret stops mid seen' told told'' rows after rounds;
      filed = rounds_put meter secret stops mid seen' told told'' rows after rounds;
    }
