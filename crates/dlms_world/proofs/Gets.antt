-- A poll's GET that is answered with data shows the buffer's rows of its range.
use Rattle.std.proofs.Common.{◌≡◌, ◌<◌, ℕ, Bool, true, false, Option, Some, None, Result, Ok, Err, List, map, length, refl, sym, ◌∙◌, ap, subst, arith, if◌then◌else◌}
use Rattle.std.specs.Prelude.{◌^◌}
use Rattle.dlms_apdu.specs.Forms.{Selection, RequestForm, ResponseForm, get_normal, get_data, get_result, get_block, get_block_result, set_result, set_block_taken, set_last, action_result, action_block_taken, exception}
use Rattle.dlms_apdu.specs.Reading.{request_at, response_at}
use Rattle.dlms_apdu.specs.declared.fault.Refusal.{Refusal}
use Rattle.dlms_apdu.specs.Writing.{response_bytes, IsShort}
use Rattle.dlms_apdu.proofs.WholeLaws.{reads_written_requests, reads_written_responses}
use Rattle.dlms_classes.specs.Access.{object_named, number_of}
use Rattle.dlms_classes.specs.Shown.{IsTable, cells, clock_place, IsRange as ShownRange}
use Rattle.dlms_classes.specs.declared.access.AccessResult.{AccessResult}
use Rattle.dlms_classes.specs.declared.access.AccessResult.TheVariants.{TemporaryFailure}
use Rattle.dlms_data.specs.Value.{Value, octet_string}
use Rattle.dlms_data.specs.Writing.{Fits}
use Rattle.dlms_frame.specs.declared.client.Client.{Client}
use Rattle.dlms_frame.specs.declared.client.Client.TheVariants.{Public, Management, Reader}
use Rattle.dlms_headend.specs.Asking.{buffer, buffer_bytes, capture_objects, columns_bytes, invoke, range, IsRange}
use Rattle.dlms_data.specs.declared.descriptor.Descriptor.{Descriptor}
use Rattle.dlms_profile.specs.Rows.{in_range}
use Rattle.dlms_service.specs.Serves.{Choice as Memory, FindsMemory, LacksMemoryToRead, LacksMemoryToAnswer, Requested, Permitted, Read, Within, Serves, permits}
use Rattle.dlms_service.specs.Session.{SessionValue, Outcome, says, without_get, has, selective_access}
use Rattle.dlms_classes.specs.Answer.{IsShown, IsSendable, wanted}
use Rattle.dlms_service.specs.Shown.{Gives, sent, no_selection, asked}
use Rattle.dlms_service.specs.declared.association.Association.{Association}
use Rattle.dlms_state.specs.Events.{buffer_after, columns_after}
use Rattle.dlms_state.specs.StateValue.{state_of}
use Rattle.dlms_state.specs.declared.event.Event.{Event}
use Rattle.dlms_service.specs.Stake.{stake_of, fails, failing}
use Rattle.dlms_meter.specs.Run.{Choice, Served, DeviceFails, Does}
use Rattle.dlms_world.specs.World.{GivesData, GivesDataBy, rows_between}
use Rattle.dlms_world.proofs.ValuesAsRows.{one_second}

abbrev pub read_as : RequestForm → Result RequestForm Refusal
read_as form = Ok form

only_form : (a b : RequestForm) → read_as a ≡ read_as b → a ≡ b
only_form a b e = cc

-- ---- answers without data

dataless : (form : ResponseForm) → IsShort form → GivesDataBy (Ok form) → ⊥
dataless (get_data i v) short given = absurd short
dataless (get_block i last n raw) short given = absurd short
dataless (get_result i r) short given = absurd given
dataless (get_block_result i n r) short given = absurd given
dataless (set_result i r) short given = absurd given
dataless (set_block_taken i n) short given = absurd given
dataless (set_last i r n) short given = absurd given
dataless (action_result i r) short given = absurd given
dataless (action_block_taken i n) short given = absurd given
dataless (exception state service) short given = absurd given

pub no_data_in : (answer : List ℕ) (form : ResponseForm) → response_at (response_bytes form) ≡ Ok form → IsShort form → answer ≡ response_bytes form → GivesData answer → ⊥
no_data_in answer form reads short is given = dataless form short (subst GivesDataBy (ap response_at is ∙ reads) given)

-- the device failed: the answer is the result in the form of the request
pub failed_get : (kept : Bool) (s : SessionValue) (asked form : RequestForm) (events : List Event) → read_as form ≡ read_as asked → (o : Outcome) → o ≡ failing kept s (stake_of form) events → o.answer ≡ (fails s (stake_of asked)).answer
failed_get kept s asked form events same o is = ap (λ (x : Outcome). x.answer) is ∙ ap (λ (x : RequestForm). (fails s (stake_of x)).answer) (only_form form asked same)

pub no_data : (o : Outcome) (s : SessionValue) (form : ResponseForm) → response_at (response_bytes form) ≡ Ok form → IsShort form → o ≡ says s form → GivesData o.answer → ⊥
no_data o s form reads short is given = dataless form short (subst GivesDataBy (ap (λ (x : Outcome). response_at x.answer) is ∙ reads) given)

-- ---- what is wanted

pub whole_range : (second last : ℕ) (value : Value) (r : IsRange second last value) → value ≡ range (octet_string r.from_first.octets) (octet_string r.to_last.octets)
whole_range second last value r = r.is ∙ ap (λ v. range v r.last) r.from_first.value ∙ ap (λ v. range (octet_string r.from_first.octets) v) r.to_last.value

-- a client is shown the rows between two date-times
abbrev SeesRange : List Event → Client → Value → Type 0
SeesRange E client v =
    (first last : List ℕ) → length first ≡ 12 → length last ≡ 12
    → IsShown (state_of E) client buffer (wanted client buffer (Some (record { number = 1; value = range (octet_string first) (octet_string last) }))) (Ok v) → ShownRange (columns_after E) first last (buffer_after E) v

management_sees : (E : List Event) (v : Value) → SeesRange E Management v
unfolding object_named
management_sees E v first last size_first size_last shown = (rw (size_first, size_last) at shown).1

reader_sees : (E : List Event) (v : Value) → SeesRange E Reader v
unfolding object_named
reader_sees E v first last size_first size_last shown = (rw (size_first, size_last) at shown).1

-- those between the two seconds that its range names
sees_rows : (E : List Event) (client : Client) (second last : ℕ) (value v : Value) → SeesRange E client v → IsRange second last value → IsShown (state_of E) client buffer (wanted client buffer (Some (record { number = 1; value = value }))) (Ok v) →
    IsTable (map (cells (columns_after E)) (rows_between (clock_place (columns_after E)) second last (buffer_after E))) v
sees_rows E client second last value v sees r shown =
    let one : List ℕ = r.from_first.octets in
    let two : List ℕ = r.to_last.octets in
    let columns : List ℕ = columns_after E in
    let is : ShownRange columns one two (buffer_after E) v =
    sees one two r.from_first.names.size r.to_last.names.size
    (subst (λ x. IsShown (state_of E) client buffer (wanted client buffer (Some (record { number = 1; value = x }))) (Ok v)) (whole_range second last value r) shown) in
    let from : is.from ≡ second = one_second one is.from second is.names_from r.from_first.names in
    let to : is.to ≡ last = one_second two is.to last is.names_to r.to_last.names in
    subst (λ p. IsTable (map (cells columns) (rows_between p second last (buffer_after E))) v) (sym is.is_column)
    (subst (λ a. IsTable (map (cells columns) (in_range is.place a last (buffer_after E))) v) from (subst (λ b. IsTable (map (cells columns) (in_range is.place is.from b (buffer_after E))) v) to is.value))

-- the meter shows the buffer's rows between the two seconds
wants : (E : List Event) (client : Client) (b : Bool) (second last : ℕ) (value v : Value) → IsRange second last value → IsShown (state_of E) client buffer (wanted client buffer (if b then Some (record { number = 1; value = value }) else Some no_selection)) (Ok v) →
    IsTable (map (cells (columns_after E)) (rows_between (clock_place (columns_after E)) second last (buffer_after E))) v
unfolding object_named
wants E Public true second last value v r shown = cc
wants E Public false second last value v r shown = cc
wants E Management false second last value v r shown = cc
wants E Management true second last value v r shown = sees_rows E Management second last value v (management_sees E v) r shown
wants E Reader false second last value v r shown = cc
wants E Reader true second last value v r shown = sees_rows E Reader second last value v (reader_sees E v) r shown

-- ---- the whole GET

-- what a GET that was answered with data was served
pub record Gave (d : Descriptor) (part : Option Selection) (E : List Event) (s : SessionValue) (o : Outcome) : Type 0 where
  pub a : Association
  pub opened : s.opened ≡ Some a
  pub v : Value
  pub sendable : IsSendable v
  pub outcome : o ≡ sent (without_get s) a invoke v
  pub shown : IsShown (state_of E) s.client d (asked s.client a d part) (Ok v)

pub read_result : (r : ℕ) → response_at (response_bytes (get_result invoke r)) ≡ Ok (get_result invoke r)
read_result r = reads_written_responses (get_result invoke r) tt tt

pub read_exception : (x y : ℕ) → response_at (response_bytes (exception x y)) ≡ Ok (exception x y)
read_exception x y = reads_written_responses (exception x y) tt tt

module _ (d : Descriptor) (part : Option Selection) (bytes : List ℕ) (reads : request_at bytes ≡ Ok (get_normal invoke d part)) (E : List Event) (s : SessionValue) (o : Outcome) (given : GivesData o.answer)
    (is_request : (choice : Memory) → Serves choice E s bytes o → Within choice E s bytes s.opened o) where
  by_value : (a : Association) (open_as : s.opened ≡ Some a) (result : Result Value AccessResult) → IsShown (state_of E) s.client d (asked s.client a d part) result → Gives (without_get s) a invoke result o → Gave d part E s o
  by_value a open_as (Err cause) shown is = absurd (no_data o (without_get s) (get_result invoke (number_of cause)) (read_result (number_of cause)) tt is given)
  by_value a open_as (Ok v) shown is = record { a = a; opened = open_as; v = v; sendable = is.0; outcome = is.1; shown = shown }

  by_permit : (a : Association) (open_as : s.opened ≡ Some a) (b : Bool) → Permitted E s a (get_normal invoke d part) b o → Gave d part E s o
  by_permit a open_as true is = by_value a open_as is.0 is.1 is.2
  by_permit a open_as false is = absurd (no_data o s (exception 1 2) (read_exception 1 2) tt is given)

  by_choice : (choice : Memory) (a : Association) (open_as : s.opened ≡ Some a) → Requested choice E s a (get_normal invoke d part) o → Gave d part E s o
  by_choice FindsMemory a open_as is = by_permit a open_as (permits a (get_normal invoke d part)) is
  by_choice LacksMemoryToRead a open_as is = absurd (no_data o s (exception 1 3) (read_exception 1 3) tt is.1.1 given)
  by_choice LacksMemoryToAnswer a open_as is =
      absurd (no_data o (without_get s) (get_result invoke (number_of TemporaryFailure)) (read_result (number_of TemporaryFailure)) tt is.1.1 given)

  by_association : (choice : Memory) (opened : Option Association) → s.opened ≡ opened → Within choice E s bytes opened o → Gave d part E s o
  by_association choice None e is = absurd (no_data o s (exception 1 1) (read_exception 1 1) tt is given)
  by_association choice (Some a) e is = by_choice choice a e (subst (λ form. Read choice E s a form o) reads is)

  by_service : (choice : Memory) → Serves choice E s bytes o → Gave d part E s o
  by_service choice serves = by_association choice s.opened refl (is_request choice serves)

  gave_by : (choice : Choice) → Does choice E s bytes o → Gave d part E s o
  gave_by (Served memory) does = by_service memory does
  gave_by (DeviceFails kept wanted) ((form, read, would, leads, success, is), wants) =
      absurd (no_data_in o.answer (get_result invoke 1) (read_result 1) tt (failed_get kept s (get_normal invoke d part) form would.accepted (sym read ∙ reads) o is) given)

-- ---- the GET of the rows

abbrev pub range_part : Value → Option Selection
range_part value = Some (record { number = 1; value = value })

range_fits : (first last : List ℕ) → length first ≡ 12 → length last ≡ 12 → Fits (range (octet_string first) (octet_string last))
range_fits first last size_first size_last = record {
  levels = omega arith;
  in_range = (omega arith, ((omega arith, (omega arith, (omega arith, (record { sfits = omega arith }, (omega arith, tt))))), (short first size_first, (short last size_last, ((omega arith, tt), tt)))));
}
  where
    short : (l : List ℕ) → length l ≡ 12 → length l < 2 ^ 32
    short l e = omega (arith, e)

pub get_read : (second last : ℕ) (value : Value) → IsRange second last value → request_at (buffer_bytes value) ≡ Ok (get_normal invoke buffer (range_part value))
get_read second last value r =
    let fits : Fits value = subst Fits (sym (whole_range second last value r)) (range_fits r.from_first.octets r.to_last.octets r.from_first.names.size r.to_last.names.size) in
    reads_written_requests (get_normal invoke buffer (range_part value)) fits (omega arith, refl)

pub gets_tell : (E : List Event) (s : SessionValue) (value : Value) (second last : ℕ) → IsRange second last value → (o : Outcome) → GivesData o.answer → (choice : Choice) → Does choice E s (buffer_bytes value) o → Gave buffer (range_part value) E s o
gets_tell E s value second last r o given choice does = gave_by buffer (range_part value) (buffer_bytes value) (get_read second last value r) E s o given (λ choice serves. serves) choice does

pub table_shown : (E : List Event) (s : SessionValue) (second last : ℕ) (value : Value) (o : Outcome) → IsRange second last value → (g : Gave buffer (range_part value) E s o) →
    IsTable (map (cells (columns_after E)) (rows_between (clock_place (columns_after E)) second last (buffer_after E))) g.v
table_shown E s second last value o r g = wants E s.client (has g.a selective_access) second last value g.v r g.shown

-- ---- the GET of the columns

pub columns_read : request_at columns_bytes ≡ Ok (get_normal invoke capture_objects None)
columns_read = reads_written_requests (get_normal invoke capture_objects None) tt (omega arith, refl)

pub columns_tell : (E : List Event) (s : SessionValue) (o : Outcome) → GivesData o.answer → (choice : Choice) → Does choice E s columns_bytes o → Gave capture_objects None E s o
columns_tell E s o given choice does = gave_by capture_objects None columns_bytes columns_read E s o given (λ choice serves. serves) choice does
