-- Rows by name.
use Rattle.std.proofs.Common.{arith, ◌≡◌, ◌-◌, ◌==◌, ℕ, zero, suc, Bool, true, false, cond, None, Some, Ok, List, [], ◌∷◌, ◌++◌, map, length, drop, refl, sym, ◌∙◌, ap, subst, append_assoc, if◌then◌else◌, nat_le, ◌+◌}
use Rattle.std.specs.Prelude.{Contains}
use Rattle.std.proofs.lemmas.Bool.Decides.{nat_tests}
use Rattle.std.proofs.lemmas.List.{append-nil, map-append}
use Rattle.std.proofs.lemmas.List.Elements.{filter-append, Contains-append_right}
use Rattle.dlms_apdu.specs.Forms.{get_data, get_result}
use Rattle.dlms_apdu.specs.Reading.{response_at}
use Rattle.dlms_apdu.proofs.WholeLaws.{reads_written_responses}
use Rattle.dlms_classes.specs.Access.{object_named, number_of}
use Rattle.dlms_classes.specs.Answer.{IsShown, wanted}
use Rattle.dlms_classes.specs.Listing.{map_values}
use Rattle.dlms_classes.specs.Shown.{clock_place, column_value}
use Rattle.dlms_classes.specs.Table.{object_of_column}
use Rattle.dlms_classes.specs.declared.access.AccessResult.TheVariants.{OtherReason}
use Rattle.dlms_data.specs.Value.{Value, array}
use Rattle.dlms_data.specs.Writing.{canonical}
use Rattle.dlms_frame.specs.declared.client.Client.{Client}
use Rattle.dlms_frame.specs.declared.client.Client.TheVariants.{Public, Management, Reader}
use Rattle.dlms_headend.specs.Asking.{PlanValue, capture_objects, first_second, invoke, last_second}
use Rattle.dlms_headend.specs.Columns.{TellsBy, columns, register_column}
use Rattle.dlms_headend.specs.Poll.{Asks}
use Rattle.dlms_headend.specs.declared.row.Row.{Row}
use Rattle.dlms_meter.specs.Transfers.{Exchange, Asked, InTurn}
use Rattle.dlms_meter.specs.Run.{Does}
use Rattle.dlms_profile.specs.declared.rows.Row.{Row as Captured}
use Rattle.dlms_profile.specs.declared.rows.TheConstants.{CAPACITY}
use Rattle.dlms_service.specs.Session.{SessionValue, Outcome, says, without_get, has, blocks_with_get, selective_access}
use Rattle.dlms_service.specs.Shown.{in_blocks}
use Rattle.dlms_state.specs.Columns.{first_columns, row_of_columns}
use Rattle.dlms_state.specs.Events.{buffer_after, captures, captures_by, clears, clock_after, columns_after, ends_in_capture, ends_in_clearing, kept_after, registers_after, row_after, beginnings}
use Rattle.dlms_state.specs.StateValue.{state_of}
use Rattle.dlms_state.specs.declared.event.Event.{Event}
use Rattle.dlms_state.specs.declared.event.Event.TheVariants.{Pulses, Moment, SetTime, Shift, AdjustMinute, SetPeriod, SetText, SetSecret, ResetRegister, ResetProfile, Capture, SetColumns}
use Rattle.dlms_state.proofs.Limits.{by_more}
use Rattle.dlms_state.proofs.Lists.{latest-more, beginnings-more}
use Rattle.dlms_state.proofs.Steps.{columns_after-more, kept_after-more}
use Rattle.dlms_world.specs.Agree.{AreAmong}
use Rattle.dlms_world.specs.Named.{names_after, named_reading, named_readings}
use Rattle.dlms_world.specs.Told.{Talks}
use Rattle.dlms_world.specs.World.{reading_of, rows_asked, rows_between}
use Rattle.dlms_world.proofs.Following.{block_read}
use Rattle.dlms_world.proofs.Gets.{Gave, read_result}
use Rattle.dlms_world.proofs.Readings.{among_append, among_more, among_between}

-- ---- the buffer's rows, where the columns are the first ones

captures-more : (E : List Event) (e : Event) → captures (E ++ e ∷ []) ≡ captures E ++ cond (captures_by (E ++ e ∷ []) (Some e)) ((E ++ e ∷ []) ∷ []) []
unfolding captures ends_in_capture
captures-more E e = rw (beginnings-more E e, filter-append ends_in_capture (beginnings E) ((E ++ e ∷ []) ∷ []), latest-more E e) refl

reading_named : (B : List Event) → columns_after B ≡ first_columns → reading_of (row_after B) ≡ named_reading B
reading_named B e = ap (λ cs. reading_of (row_of_columns cs (clock_after B) (registers_after B))) e

first_is_in : (x : Row) (xs : List Row) → Contains (x ∷ xs) x
first_is_in x xs = (0, omega arith, refl)

among_drop : (those : List Row) (n : ℕ) (rows : List Captured) → AreAmong those (map reading_of rows) → AreAmong those (map reading_of (drop n rows))
among_drop those zero rows a = a
among_drop those (suc n) [] a = tt
among_drop those (suc n) (row ∷ rows) a = among_drop those n rows a.1

kept : (those : List Row) (B : List Event) (rows : List Captured) (n : ℕ) (clear keep : Bool) → reading_of (row_after B) ≡ named_reading B → AreAmong those (map reading_of rows) →
    AreAmong (those ++ map named_reading (cond keep (B ∷ []) [])) (map reading_of (cond clear [] (cond keep (drop n (rows ++ row_after B ∷ [])) rows)))
kept those B rows n true keep one before = tt
kept those B rows n false false one before = among_more those [] (map reading_of rows) before
kept those B rows n false true one before =
    let all : List Row = those ++ named_reading B ∷ [] in
    let in_it : AreAmong all (reading_of (row_after B) ∷ []) = (subst (λ r. Contains all r) (sym one) (Contains-append_right those (named_reading B ∷ []) (named_reading B) (first_is_in (named_reading B) [])), tt) in
    among_drop all n (rows ++ row_after B ∷ [])
    (subst (AreAmong all) (sym (map-append reading_of rows (row_after B ∷ []))) (among_append all (map reading_of rows) (reading_of (row_after B) ∷ []) (among_more those (named_reading B ∷ []) (map reading_of rows) before) in_it))

abbrev HasNamed : List Event → Type 0
HasNamed E = columns_after E ≡ first_columns → AreAmong (named_readings E) (map reading_of (buffer_after E))

named_more : (E : List Event) (e : Event) → columns_after (E ++ e ∷ []) ≡ columns_after E → HasNamed E → HasNamed (E ++ e ∷ [])
named_more E e same before is =
    let B : List Event = E ++ e ∷ [] in
    let keep : Bool = captures_by B (Some e) in
    let rows : List Captured = buffer_after E in
    let those : named_readings B ≡ named_readings E ++ map named_reading (cond keep (B ∷ []) []) = ap (map named_reading) (captures-more E e) ∙ map-append named_reading (captures E) (cond keep (B ∷ []) []) in
    rw (kept_after-more CAPACITY E e)
    (subst (λ l. AreAmong l (map reading_of (cond (clears (Some e)) [] (cond keep (drop (length (rows ++ row_after B ∷ []) - CAPACITY) (rows ++ row_after B ∷ [])) rows)))) (sym those)
    (kept (named_readings E) B rows (length (rows ++ row_after B ∷ []) - CAPACITY) (clears (Some e)) keep (reading_named B is) (before (sym same ∙ is))))

named_one : (E : List Event) (e : Event) → HasNamed E → HasNamed (E ++ e ∷ [])
named_one E (Pulses c n) before = named_more E (Pulses c n) (columns_after-more E (Pulses c n)) before
named_one E (Moment t) before = named_more E (Moment t) (columns_after-more E (Moment t)) before
named_one E (SetTime t) before = named_more E (SetTime t) (columns_after-more E (SetTime t)) before
named_one E (Shift by) before = named_more E (Shift by) (columns_after-more E (Shift by)) before
named_one E AdjustMinute before = named_more E AdjustMinute (columns_after-more E AdjustMinute) before
named_one E (SetPeriod p) before = named_more E (SetPeriod p) (columns_after-more E (SetPeriod p)) before
named_one E (SetText b) before = named_more E (SetText b) (columns_after-more E (SetText b)) before
named_one E (SetSecret of b) before = named_more E (SetSecret of b) (columns_after-more E (SetSecret of b)) before
named_one E (ResetRegister c) before = named_more E (ResetRegister c) (columns_after-more E (ResetRegister c)) before
named_one E ResetProfile before = named_more E ResetProfile (columns_after-more E ResetProfile) before
named_one E Capture before = named_more E Capture (columns_after-more E Capture) before
named_one E (SetColumns ids) before = λ is. rw (kept_after-more CAPACITY E (SetColumns ids)) tt

named_none : HasNamed []
unfolding kept_after ends_in_clearing ends_in_capture
named_none is = tt

buffer_named : (E : List Event) → HasNamed E
buffer_named = by_more HasNamed named_none named_one

-- ---- columns by name

-- ids of the columns, where their names are these
record AreIds (ids : List ℕ) : Type 0 where
  clock : ℕ
  are : ids ≡ clock ∷ 1 ∷ 2 ∷ 3 ∷ []

abbrev name_of : ℕ → Value
name_of id = column_value (object_of_column id)

is_first : (id : ℕ) → name_of id ≡ register_column 1 → id ≡ 1
is_first zero e = cc
is_first (suc zero) e = refl
is_first (suc (suc zero)) e = cc
is_first (suc (suc (suc zero))) e = cc
is_first (suc (suc (suc (suc n)))) e = cc

is_second : (id : ℕ) → name_of id ≡ register_column 2 → id ≡ 2
is_second zero e = cc
is_second (suc zero) e = cc
is_second (suc (suc zero)) e = refl
is_second (suc (suc (suc zero))) e = cc
is_second (suc (suc (suc (suc n)))) e = cc

is_third : (id : ℕ) → name_of id ≡ register_column 3 → id ≡ 3
is_third zero e = cc
is_third (suc zero) e = cc
is_third (suc (suc zero)) e = cc
is_third (suc (suc (suc zero))) e = refl
is_third (suc (suc (suc (suc n)))) e = cc

are_ids : (ids : List ℕ) → array (map_values name_of ids) ≡ columns → AreIds ids
are_ids [] e = cc
are_ids (a ∷ []) e = cc
are_ids (a ∷ b ∷ []) e = cc
are_ids (a ∷ b ∷ c ∷ []) e = cc
are_ids (a ∷ b ∷ c ∷ d ∷ f ∷ more) e = cc
are_ids (a ∷ b ∷ c ∷ d ∷ []) e =
    let first : name_of b ≡ register_column 1 = cc in
    let second : name_of c ≡ register_column 2 = cc in
    let third : name_of d ≡ register_column 3 = cc in
    record {
      clock = a;
      are = ap (λ (x : ℕ). a ∷ x ∷ c ∷ d ∷ []) (is_first b first) ∙ ap (λ (x : ℕ). a ∷ 1 ∷ x ∷ d ∷ []) (is_second c second) ∙ ap (λ (x : ℕ). a ∷ 1 ∷ 2 ∷ x ∷ []) (is_third d third);
    }

no_clock : (a : ℕ) → clock_place (suc a ∷ 1 ∷ 2 ∷ 3 ∷ []) ≡ None
no_clock a =
    let some : (suc a == 0) ≡ false = grind (arith, nat_tests) in
    ap (λ (b : Bool). cond b (Some 0) None) some

-- the rows of a range are captures by name
by_ids : (plan : PlanValue) (E : List Event) (a : ℕ) → columns_after E ≡ a ∷ 1 ∷ 2 ∷ 3 ∷ [] → AreAmong (named_readings E) (rows_asked plan E)
by_ids plan E zero is = among_between (named_readings E) (clock_place (columns_after E)) (first_second plan.after) (last_second plan.until) (buffer_after E) (buffer_named E is)
by_ids plan E (suc a) is =
    subst (λ place. AreAmong (named_readings E) (map reading_of (rows_between place (first_second plan.after) (last_second plan.until) (buffer_after E)))) (sym (ap clock_place is ∙ no_clock a)) tt

pub rows_named : (plan : PlanValue) (E : List Event) → names_after E ≡ columns → AreAmong (named_readings E) (rows_asked plan E)
rows_named plan E e = let ids = are_ids (columns_after E) e in by_ids plan E ids.clock ids.are

-- ---- what the GET of the columns shows

names_by : (E : List Event) (client : Client) (b : Bool) (v : Value) → IsShown (state_of E) client capture_objects (wanted client capture_objects (if b then None else None)) (Ok v) → v ≡ names_after E
unfolding object_named
names_by E Public true v shown = shown.1
names_by E Public false v shown = shown.1
names_by E Management true v shown = shown.1
names_by E Management false v shown = shown.1
names_by E Reader true v shown = shown.1
names_by E Reader false v shown = shown.1

-- the answer is data, in one piece
is_whole : (s : SessionValue) (E : List Event) (o : Outcome) (g : Gave capture_objects None E s o) → TellsBy (response_at o.answer) → g.v ≡ columns
is_whole s E o g tells = by_size (nat_le (4 + length (canonical g.v)) g.a.size) (has g.a blocks_with_get) g.outcome
  where
    by_size : (whole blocks : Bool) → o ≡ (if whole then says (without_get s) (get_data invoke g.v) else if blocks then in_blocks (without_get s) g.a invoke (canonical g.v) else says (without_get s) (get_result invoke (number_of OtherReason))) → g.v ≡ columns
    by_size true blocks is = subst TellsBy (ap (λ (x : Outcome). response_at x.answer) is ∙ reads_written_responses (get_data invoke g.v) g.sendable.fits tt) tells
    by_size false true is =
        absurd (subst TellsBy (ap (λ (x : Outcome). response_at x.answer) is ∙ block_read (canonical g.v) (g.a.size - 12) 1 (omega (arith, g.sendable.size)) (omega arith)) tells)
    by_size false false is = absurd (subst TellsBy (ap (λ (x : Outcome). response_at x.answer) is ∙ read_result (number_of OtherReason)) tells)

pub names_told : (s : SessionValue) (E : List Event) (o : Outcome) (g : Gave capture_objects None E s o) → TellsBy (response_at o.answer) → names_after E ≡ columns
names_told s E o g tells = sym (names_by E s.client (has g.a selective_access) g.v g.shown) ∙ is_whole s E o g tells

-- ---- an exchange among those of a poll

pub record IsServed (plan : PlanValue) (before pre : List (List ℕ)) (answer : List ℕ) (served : List Exchange) : Type 0 where
  pub front : List Exchange
  pub exchange : Exchange
  pub back : List Exchange
  pub session : SessionValue
  pub are : served ≡ front ++ exchange ∷ back
  pub as_many : length front ≡ length pre
  pub asks : Asks plan (before ++ pre) exchange.apdu
  pub answers : exchange.outcome.answer ≡ answer
  pub does : Does exchange.choice exchange.before session exchange.apdu exchange.outcome

pub served_at : (plan : PlanValue) (before pre post : List (List ℕ)) (answer : List ℕ) (served : List Exchange) (s last : SessionValue) → InTurn s (map Asked served) last → Talks plan before served (pre ++ answer ∷ post) → IsServed plan before pre answer served
served_at plan before [] post answer [] s last chain talk = absurd talk
served_at plan before [] post answer (x ∷ served) s last chain talk =
    record { front = []; exchange = x; back = served; session = s; are = refl; as_many = refl; asks = subst (λ l. Asks plan l x.apdu) (sym (append-nil before)) talk.0; answers = talk.1; does = chain.0 }
served_at plan before (t ∷ pre) post answer [] s last chain talk = absurd talk
served_at plan before (t ∷ pre) post answer (x ∷ served) s last chain talk =
    let rest = served_at plan (before ++ t ∷ []) pre post answer served x.outcome.own last chain.1 talk.2 in
    record {
      front = x ∷ rest.front;
      exchange = rest.exchange;
      back = rest.back;
      session = rest.session;
      are = ap (λ l. x ∷ l) rest.are;
      as_many = ap suc rest.as_many;
      asks = subst (λ l. Asks plan l rest.exchange.apdu) (append_assoc before (t ∷ []) pre) rest.asks;
      answers = rest.answers;
      does = rest.does;
    }

abbrev rest_of : List Exchange → List Exchange
rest_of [] = []
rest_of (x ∷ xs) = xs

-- one after the first of some
pub behind_first : (x : Exchange) (xs front back : List Exchange) (last : Exchange) (n : ℕ) → x ∷ xs ≡ front ++ last ∷ back → length front ≡ suc n → (between : List Exchange) × (xs ≡ between ++ last ∷ back)
behind_first x xs [] back last n e count = absurd (omega (arith, count))
behind_first x xs (f ∷ front) back last n e count = (front, ap rest_of e)
