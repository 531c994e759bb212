-- The readings file by name: between the two answers of a poll the columns stand still, so that its rows are captures by name.
use Rattle.std.proofs.Common.{◌≡◌, ⊎_elim, ℕ, true, List, [], ◌∷◌, ◌++◌, map, refl, sym, ◌∙◌, ap, subst, append_assoc, arith}
use Rattle.std.specs.Prelude.{Contains, filter_map}
use Rattle.std.proofs.lemmas.List.{append-nil, map-append}
use Rattle.std.proofs.lemmas.List.Elements.{filter_map-append}
use Rattle.dlms_classes.specs.Listing.{map_values}
use Rattle.dlms_classes.specs.Shown.{column_value}
use Rattle.dlms_classes.specs.Table.{object_of_column}
use Rattle.dlms_data.specs.Value.{array}
use Rattle.dlms_frame.specs.Frame.{Parts}
use Rattle.dlms_frame.specs.declared.client.Client.{Client}
use Rattle.dlms_headend.specs.Asking.{PlanValue, columns_bytes}
use Rattle.dlms_headend.specs.Columns.{columns}
use Rattle.dlms_headend.specs.declared.plan.Columns.{Columns}
use Rattle.dlms_headend.specs.declared.plan.Columns.TheVariants.{Asked}
use Rattle.dlms_headend.specs.declared.row.Row.{Row}
use Rattle.dlms_headend.specs.declared.stage.Course.{Course}
use Rattle.dlms_headend.specs.declared.stage.Course.TheVariants.{Ready, Running, Done, Failed}
use Rattle.dlms_link.specs.Server.{ServerRecord, server_on}
use Rattle.dlms_link.specs.declared.out.LinkOut.{LinkOut}
use Rattle.dlms_link.specs.declared.out.LinkOut.TheVariants.{Nothing, Reply, Apdu, Oversize, BadLlc, Up, Down}
use Rattle.dlms_meter.specs.Run.{Choice, events_in}
use Rattle.dlms_meter.specs.Transfers.{Exchange}
use Rattle.dlms_service.specs.Session.{Outcome}
use Rattle.dlms_service.specs.Stake.{is_success}
use Rattle.dlms_state.specs.Events.{captures, columns_after, columns_set, last_or}
use Rattle.dlms_state.specs.Columns.{first_columns}
use Rattle.dlms_state.specs.declared.event.Event.{Event}
use Rattle.dlms_state.proofs.Captures.{captures_go_on}
use Rattle.dlms_store.specs.World.{StoreWorld as Store, IsBeginning}
use Rattle.dlms_store.specs.World.StoreStep.{Stops}
use Rattle.dlms_world.specs.Agree.{AreAmong}
use Rattle.dlms_world.specs.Between.{accepted_in, columns_set_by, IsBetween, StandStill, EachAsks, ReadingsAreNamed, StillUnset, StillApart}
use Rattle.dlms_world.specs.Named.{IsNamed, names_after, named_reading, named_readings}
use Rattle.dlms_world.specs.Turn.{Turn, IsOver, Begins, GoesOn, AsksNext, Leaves, Ends, FailsAt, TimedOut, GivesUp, TurnsTo, Merges, LosesUp, LosesDown, Arrives, Intruded, OtherSends, Happens, Works, StopsInside, Restarted, Run, Stays, Goes, served_by}
use Rattle.dlms_world.specs.World.{World, settled_in, first_world}
use Rattle.dlms_world.proofs.Growing.{through, settled_begins}
use Rattle.dlms_world.proofs.Readings.{among_more, merged_among, sublist_among}
use Rattle.dlms_world.proofs.Keeping.{settles_on, over_silent, DataSettled}
use Rattle.dlms_world.proofs.Ending.{is_settled}
use Rattle.dlms_world.proofs.Telling.{tells}
use Rattle.dlms_world.proofs.Lawful.{finds}
use Rattle.dlms_world.proofs.Whole.{Good, good, is_brought, file_after}

-- ---- events, and later ones that set no columns

record Since (E F : List Event) : Type 0 where
  more : List Event
  are : E ++ more ≡ F
  none : columns_set_by more ≡ []

unset : (E more : List Event) → columns_set_by more ≡ [] → columns_after (E ++ more) ≡ columns_after E
unfolding columns_after
unset E more none = ap (last_or first_columns) (filter_map-append columns_set E more ∙ ap (λ l. filter_map columns_set E ++ l) none ∙ append-nil (filter_map columns_set E))

since_same : (E F : List Event) → Since E F → columns_after F ≡ columns_after E
since_same E F s = subst (λ l. columns_after l ≡ columns_after E) s.are (unset E s.more s.none)

since_none : (E : List Event) → Since E E
since_none E = record { more = []; are = append-nil E; none = refl }

since_more : (E F more G : List Event) → Since E F → columns_set_by more ≡ [] → G ≡ F ++ more → Since E G
since_more E F more G s none is = record {
  more = s.more ++ more;
  are = sym (append_assoc E s.more more) ∙ ap (λ l. l ++ more) s.are ∙ sym is;
  none = filter_map-append columns_set s.more more ∙ ap (λ l. l ++ filter_map columns_set more) s.none ∙ none;
}

abbrev rest_of : List Event → List Event
rest_of [] = []
rest_of (e ∷ es) = es

behind : (E xs ys : List Event) → E ++ xs ≡ E ++ ys → xs ≡ ys
behind [] xs ys e = e
behind (a ∷ E) xs ys e = behind E xs ys (ap rest_of e)

no_front : (xs ys : List (List ℕ)) → xs ++ ys ≡ [] → xs ≡ []
no_front [] ys e = refl
no_front (x ∷ xs) ys e = cc

since_less : (E G F : List Event) → Since E F → IsBeginning E G → IsBeginning G F → Since E G
since_less E G F s front back =
    let same : s.more ≡ front.0 ++ back.0 = behind E s.more (front.0 ++ back.0) (s.are ∙ sym back.1 ∙ ap (λ l. l ++ back.0) (sym front.1) ∙ append_assoc E front.0 back.0) in
    record {
      more = front.0;
      are = front.1;
      none = no_front (columns_set_by front.0) (columns_set_by back.0) (sym (filter_map-append columns_set front.0 back.0) ∙ ap columns_set_by (sym same) ∙ s.none);
    }

-- ---- from the first answer to the GET of the rows

-- what is so of the events at the first question: P until the GET of the rows came, and then that those at this GET are later ones
abbrev KeptBy : (List Event → Type 0) → Columns → List Exchange → Type 0
KeptBy P asking [] = Unit {0}
KeptBy P asking (a ∷ []) = Unit {0}
KeptBy P asking (a ∷ first ∷ []) = asking ≡ Asked → first.apdu ≡ columns_bytes → is_success first.outcome.answer ≡ true → P first.before
KeptBy P asking (a ∷ first ∷ get ∷ rest) = asking ≡ Asked → first.apdu ≡ columns_bytes → is_success first.outcome.answer ≡ true → Since first.before get.before

abbrev Kept : Course → Columns → Store → List Exchange → Type 0
Kept Ready asking memory served = Unit {0}
Kept Running asking memory served = KeptBy (λ E. Since E (events_in memory)) asking served
Kept Done asking memory served = KeptBy (λ E. Unit {0}) asking served
Kept (Failed fault) asking memory served = Unit {0}

-- the first request was answered with data, and nothing was served after it
record IsOpen (asking : Columns) (served : List Exchange) (first : Exchange) : Type 0 where
  association : Exchange
  are : served ≡ association ∷ first ∷ []
  asks : asking ≡ Asked
  asked : first.apdu ≡ columns_bytes
  success : is_success first.outcome.answer ≡ true

open_on : (P Q : List Event → Type 0) (asking : Columns) (served : List Exchange) → ((first : Exchange) → IsOpen asking served first → P first.before → Q first.before) → KeptBy P asking served → KeptBy Q asking served
open_on P Q asking [] f k = tt
open_on P Q asking (a ∷ []) f k = tt
open_on P Q asking (a ∷ first ∷ []) f k = λ asks asked success. f first (record { association = a; are = refl; asks = asks; asked = asked; success = success }) (k asks asked success)
open_on P Q asking (a ∷ first ∷ get ∷ rest) f k = k

-- the meter takes events
taken_on : (course : Course) (asking : Columns) (before after : Store) (served : List Exchange) (taken : List Event) → events_in after ≡ events_in before ++ taken →
    (course ≡ Running → (first : Exchange) → IsOpen asking served first → columns_set_by taken ≡ []) → Kept course asking before served → Kept course asking after served
taken_on Ready asking before after served taken all still k = tt
taken_on Running asking before after served taken all still k =
    open_on (λ E. Since E (events_in before)) (λ E. Since E (events_in after)) asking served (λ first opened s. since_more first.before (events_in before) taken (events_in after) s (still refl first opened) all) k
taken_on Done asking before after served taken all still k = k
taken_on (Failed fault) asking before after served taken all still k = tt

second_is_in : (served : List Exchange) (a x : Exchange) → served ≡ a ∷ x ∷ [] → Contains served x
second_is_in served a x is = subst (λ (l : List Exchange). Contains l x) (sym is) (1, omega arith, refl)

-- the meter comes back with a prefix of its events
lost_on : (course : Course) (asking : Columns) (before after : Store) (served : List Exchange) → ((x : Exchange) → Contains served x → is_success x.outcome.answer ≡ true → IsBeginning x.before (events_in after)) → IsBeginning (events_in after) (events_in before)
    → Kept course asking before served → Kept course asking after served
lost_on Ready asking before after served settled less k = tt
lost_on Running asking before after served settled less k =
    open_on (λ E. Since E (events_in before)) (λ E. Since E (events_in after)) asking served
    (λ first opened s. since_less first.before (events_in after) (events_in before) s (settled first (second_is_in served opened.association first opened.are) opened.success) less) k
lost_on Done asking before after served settled less k = k
lost_on (Failed fault) asking before after served settled less k = tt

-- the meter serves one more, and takes events
one_served : (asking : Columns) (served : List Exchange) (x : Exchange) (taken after : List Event) → after ≡ x.before ++ taken → ((first : Exchange) → IsOpen asking (served ++ x ∷ []) first → columns_set_by taken ≡ []) → KeptBy (λ E. Since E x.before) asking served
    → KeptBy (λ E. Since E after) asking (served ++ x ∷ [])
one_served asking [] x taken after all still k = tt
one_served asking (a ∷ []) x taken after all still k =
    λ asks asked success. since_more x.before x.before taken after (since_none x.before) (still x (record { association = a; are = refl; asks = asks; asked = asked; success = success })) all
one_served asking (a ∷ first ∷ []) x taken after all still k = k
one_served asking (a ∷ first ∷ get ∷ rest) x taken after all still k = k

none_served : (asking : Columns) (before after : Store) (served : List Exchange) (taken : List Event) → events_in after ≡ events_in before ++ taken → ((first : Exchange) → IsOpen asking (served ++ []) first → columns_set_by taken ≡ []) → Kept Running asking before served
    → Kept Running asking after (served ++ [])
none_served asking before after served taken all still k =
    subst (λ (l : List Exchange). Kept Running asking after l) (sym (append-nil served))
    (taken_on Running asking before after served taken all (λ runs first opened. still first (subst (λ (l : List Exchange). IsOpen asking l first) (sym (append-nil served)) opened)) k)

more_served : (asking : Columns) (before after : Store) (served : List Exchange) (choice : Choice) (r : ServerRecord) (result : LinkOut) (o : Outcome) → events_in after ≡ events_in before ++ o.accepted →
    ((first : Exchange) → IsOpen asking (served ++ served_by choice (events_in before) r result o) first → columns_set_by o.accepted ≡ []) → Kept Running asking before served → Kept Running asking after (served ++ served_by choice (events_in before) r result o)
more_served asking before after served choice r Apdu o all still k = one_served asking served (record { apdu = r.apdu; before = events_in before; choice = choice; outcome = o }) o.accepted (events_in after) all still k
more_served asking before after served choice r Nothing o all still k = none_served asking before after served o.accepted all still k
more_served asking before after served choice r (Reply f) o all still k = none_served asking before after served o.accepted all still k
more_served asking before after served choice r Oversize o all still k = none_served asking before after served o.accepted all still k
more_served asking before after served choice r BadLlc o all still k = none_served asking before after served o.accepted all still k
more_served asking before after served choice r (Up f) o all still k = none_served asking before after served o.accepted all still k
more_served asking before after served choice r (Down f) o all still k = none_served asking before after served o.accepted all still k

served_on : (course : Course) (asking : Columns) (before after : Store) (served : List Exchange) (choice : Choice) (r : ServerRecord) (result : LinkOut) (o : Outcome) → (course ≡ Done → ⊥) → events_in after ≡ events_in before ++ o.accepted →
    (course ≡ Running → (first : Exchange) → IsOpen asking (served ++ served_by choice (events_in before) r result o) first → columns_set_by o.accepted ≡ []) → Kept course asking before served → Kept course asking after (served ++ served_by choice (events_in before) r result o)
served_on Ready asking before after served choice r result o under_way all still k = tt
served_on Running asking before after served choice r result o under_way all still k = more_served asking before after served choice r result o all (still refl) k
served_on Done asking before after served choice r result o under_way all still k = absurd (under_way refl)
served_on (Failed fault) asking before after served choice r result o under_way all still k = tt

between : (w : World) (first : Exchange) → w.course ≡ Running → IsOpen w.plan.columns w.served first → IsBetween w
between w first runs opened = record {
  runs = runs;
  asks = opened.asks;
  association = opened.association;
  first = first;
  since = [];
  served = opened.are;
  asked = opened.asked;
  not_again = tt;
}

not_over : (who : Client) (w : World) (frame : Parts) (rest : List Parts) → Good who w → w.link.up_line ≡ frame ∷ rest → w.course ≡ Done → ⊥
not_over who w frame rest g line done =
    let silent = over_silent who w.course w.plan w.link g.link.sound (subst IsOver (sym done) tt) g.poll in
    apart (sym line ∙ silent.0)
  where
    apart : frame ∷ rest ≡ [] → ⊥
    apart e = cc

-- what was answered with data is found again
found : {who : Client} (w : World) (memory : Store) → Good who w → IsBeginning (settled_in w.memory) (settled_in memory) → (x : Exchange) → Contains w.served x → is_success x.outcome.answer ≡ true → IsBeginning x.before (events_in memory)
found w memory g grown x in_it success =
    through x.before (settled_in memory) (events_in memory) (through x.before (settled_in w.memory) (settled_in memory) (is_settled w.memory w.served x g.settled in_it success) grown) (settled_begins memory)

kept_after : (who : Client) {w now : World} → (turn : Turn w now) → Good who w → (IsBetween now → columns_set_by (accepted_in turn) ≡ []) → Kept w.course w.plan.columns w.memory w.served → Kept now.course now.plan.columns now.memory now.served
kept_after who (Begins w ready) g still k = tt
kept_after who (GoesOn w frame rest runs line own) g still k = k
kept_after who (AsksNext w frame rest apdu short runs line free asks) g still k = k
kept_after who (Leaves w frame rest rows runs line free released) g still k = k
kept_after who (Ends w frame rest rows runs line down released) g still k =
    open_on (λ E. Since E (events_in w.memory)) (λ E. Unit {0}) w.plan.columns w.served (λ first opened s. tt) (subst (λ c. Kept c w.plan.columns w.memory w.served) runs k)
kept_after who (FailsAt w frame rest fault runs line fails) g still k = tt
kept_after who (TimedOut w runs up) g still k = k
kept_after who (GivesUp w fault runs closed) g still k = tt
kept_after who (TurnsTo w plan up down) g still k = tt
kept_after who (Merges w kept done some) g still k = k
kept_after who (LosesUp w) g still k = k
kept_after who (LosesDown w) g still k = k
kept_after who (Arrives w frame rest choice o memory line takes) g still k =
    let done = server_on w.link.meter frame in
    served_on w.course w.plan.columns w.memory memory w.served choice done.0 done.1 o (not_over who w frame rest g line) takes.remembers.all (λ runs first opened. still (between _ first runs opened)) k
kept_after who (Intruded w frame choice o memory apart closed takes) g still k =
    taken_on w.course w.plan.columns w.memory memory w.served o.accepted takes.remembers.all (λ runs first opened. absurd (apart runs)) k
kept_after who (OtherSends w other frame choice own reply answer accepted memory on differs of handles remembers) g still k =
    taken_on w.course w.plan.columns w.memory memory w.served accepted remembers.all (λ runs first opened. still (between _ first runs opened)) k
kept_after who (Happens w event memory on follows remembers) g still k =
    taken_on w.course w.plan.columns w.memory memory w.served (event ∷ []) remembers.all (λ runs first opened. still (between _ first runs opened)) k
kept_after who (Works w memory on remembers) g still k =
    taken_on w.course w.plan.columns w.memory memory w.served [] remembers.all (λ runs first opened. refl) k
kept_after who (StopsInside w accepted mid memory on remembers stops) g still k =
    let grown = settles_on (StopsInside w accepted mid memory on remembers stops) in
    let took = taken_on w.course w.plan.columns w.memory mid w.served accepted remembers.all (λ runs first opened. still (between _ first runs opened)) k in
    lost_on w.course w.plan.columns mid memory w.served (found w memory g grown) (finds mid Stops memory (λ none. none) stops) took
kept_after who (Restarted w step memory unusual next) g still k =
    lost_on w.course w.plan.columns w.memory memory w.served (found w memory g (settles_on (Restarted w step memory unusual next))) (finds w.memory step memory unusual next) k

-- ---- rows by name

names_same : (E F : List Event) → columns_after F ≡ columns_after E → names_after E ≡ columns → names_after F ≡ columns
names_same E F same names = ap (λ (ids : List ℕ). array (map_values (λ id. column_value (object_of_column id)) ids)) same ∙ names

-- a longer list has the named readings of a shorter one, and later ones
named_go_on : (E F : List Event) → (later : List Row) × (named_readings (E ++ F) ≡ named_readings E ++ later)
named_go_on E F =
    let more = captures_go_on E F in
    (map named_reading more.0, ap (map named_reading) more.1 ∙ map-append named_reading (captures E) more.0)

still_named : (E F : List Event) (rows : List Row) → IsBeginning E F → AreAmong (named_readings E) rows → AreAmong (named_readings F) rows
still_named E F rows begins are =
    let more = named_go_on E begins.0 in
    subst (λ all. AreAmong (named_readings all) rows) begins.1 (subst (λ those. AreAmong those rows) (sym more.1) (among_more (named_readings E) more.0 rows are))

third_is_in : (served : List Exchange) (a b x : Exchange) (rest : List Exchange) → served ≡ a ∷ b ∷ x ∷ rest → Contains served x
third_is_in served a b x rest is = subst (λ (l : List Exchange). Contains l x) (sym is) (2, omega arith, refl)

-- the rows of a poll that is done are captures by name
rows_are_named : (w : World) → IsNamed w.plan w.served w.rows → w.plan.columns ≡ Asked → Kept Done w.plan.columns w.memory w.served → DataSettled w.memory w.served → AreAmong (named_readings (settled_in w.memory)) w.rows
rows_are_named w n asks k settled =
    let rest : List Exchange = n.between ++ n.last ∷ n.more in
    let kept : KeptBy (λ E. Unit {0}) w.plan.columns (n.association ∷ n.first ∷ n.get ∷ rest) = subst (λ (l : List Exchange). KeptBy (λ E. Unit {0}) w.plan.columns l) n.are k in
    let since : Since n.first.before n.get.before = kept asks n.asked_first n.success_first in
    let names : names_after n.get.before ≡ columns = names_same n.first.before n.get.before (since_same n.first.before n.get.before since) n.names_first in
    still_named n.get.before (settled_in w.memory) w.rows (is_settled w.memory w.served n.get settled (third_is_in w.served n.association n.first n.get rest n.are) n.success) (n.named names)

named_after : (who : Client) {w now : World} → Turn w now → Good who w → (w.course ≡ Done → w.plan.columns ≡ Asked) → Kept w.course w.plan.columns w.memory w.served → AreAmong (named_readings (settled_in w.memory)) w.file →
    AreAmong (named_readings (settled_in now.memory)) now.file
named_after who {w} {now} turn g asks k file =
    let grown = settles_on turn in
    let old : AreAmong (named_readings (settled_in now.memory)) w.file = still_named (settled_in w.memory) (settled_in now.memory) w.file grown file in
    ⊎_elim (λ is. subst (AreAmong (named_readings (settled_in now.memory))) (sym is) old)
    (λ is.
    let told = (is_brought who w g is.0).told in
    let rows = rows_are_named w (told.names (asks is.0)) (asks is.0) (subst (λ c. Kept c w.plan.columns w.memory w.served) is.0 k) g.settled in
    let new = still_named (settled_in w.memory) (settled_in now.memory) w.rows grown rows in
    subst (AreAmong (named_readings (settled_in now.memory))) (sym is.3) (merged_among (named_readings (settled_in now.memory)) w.file is.1 old (sublist_among (named_readings (settled_in now.memory)) is.1 w.rows new is.2)))
    (file_after turn)

-- ---- over every run

record Steady (w : World) : Type 0 where
  kept : Kept w.course w.plan.columns w.memory w.served
  file : AreAmong (named_readings (settled_in w.memory)) w.file

steady : (plan : PlanValue) (w : World) (run : Run (first_world plan) w) → StandStill run → EachAsks run → Steady w
steady plan w Stays still asks = record { kept = tt; file = tt }
steady plan w (Goes mid now run turn) still asks =
    let before = steady plan mid run still.0 asks.0 in
    let g = good tells plan mid run in
    record { kept = kept_after mid.plan.client turn g still.1 before.kept; file = named_after mid.plan.client turn g asks.1 before.kept before.file }

pub readings_are_named : ReadingsAreNamed
readings_are_named plan w run still asks = still_named (settled_in w.memory) (events_in w.memory) w.file (settled_begins w.memory) (steady plan w run still asks).file

-- ---- where the columns stand still

pub still_unset : StillUnset
still_unset first w Stays none = tt
still_unset first w (Goes mid now run turn) none = (still_unset first mid run none.0, λ between. none.1)

pub still_apart : StillApart
still_apart first mid now run turn still over = (still, λ between. absurd (over between.runs))
