-- A meter's answers to the requests of a poll whose client knows its secret, if the columns are the initial ones.
use Rattle.std.proofs.Common.{arith, ◌≡◌, ◌∙◌, ◌+◌, ◌≤◌, ◌<◌, ℕ, true, nat_le, List, [], ◌∷◌, ◌++◌, map, length, length-append, Option, None, Some, Ok, refl, sym, ap, subst, ◌-◌, ◌*◌, false, drop, nat_lt, if◌then◌else◌}
use Rattle.std.specs.Prelude.{◌^◌, pos}
use Rattle.std.specs.Int.{w8, bytes_high_first}
use Rattle.std.specs.Int.RustNames.{FitsSigned}
use Rattle.std.proofs.lemmas.Bool.Decides.{nat_tests}
use Rattle.std.specs.Str.{bytes_eq}
use Rattle.std.proofs.lemmas.Slice.Eq.{bytes_eq-Decides}
use Rattle.std.proofs.lemmas.Bool.{leb-true}
use Rattle.std.proofs.lemmas.List.{length-take}
use Rattle.dlms_acse.proofs.Again.{written_requests_read, written_responses_read}
use Rattle.dlms_acse.specs.Reading.{aarq_at}
use Rattle.dlms_acse.specs.Spelling.{asked as said}
use Rattle.dlms_acse.specs.Writing.{aarq_bytes, aare_bytes, field, initiate_request, release_request, release_response}
use Rattle.dlms_acse.specs.declared.outcome.Verdict.TheVariants.{Accepted}
use Rattle.dlms_acse.specs.declared.outcome.Verdict.{Verdict}
use Rattle.dlms_apdu.proofs.WholeLaws.{reads_written_responses, reads_written_requests}
use Rattle.dlms_apdu.specs.Forms.{Selection, get_normal, get_data, get_next}
use Rattle.dlms_apdu.specs.Reading.{request_at}
use Rattle.dlms_apdu.specs.Writing.{request_bytes}
use Rattle.dlms_blocks.specs.Block.{block_bytes}
use Rattle.dlms_blocks.specs.Going.{Going}
use Rattle.dlms_classes.specs.Access.{object_named}
use Rattle.dlms_classes.specs.Answer.{IsShown, IsSendable}
use Rattle.dlms_classes.specs.Listing.{map_values}
use Rattle.dlms_classes.specs.Secrets.{secret_of}
use Rattle.dlms_classes.specs.Shown.{IsTable, cells, clock_place, column_value}
use Rattle.dlms_classes.specs.Table.{object_of_column}
use Rattle.dlms_data.proofs.Written.{is_spelled}
use Rattle.dlms_data.specs.DateTime.{NamesSecond}
use Rattle.dlms_data.specs.Value.{Value, array, octet_string}
use Rattle.dlms_data.specs.Writing.{canonical, short_length, Fits}
use Rattle.dlms_data.specs.declared.descriptor.Descriptor.{Descriptor}
use Rattle.dlms_frame.specs.declared.client.Client.TheVariants.{Public, Management, Reader}
use Rattle.dlms_frame.specs.declared.client.Client.{Client}
use Rattle.dlms_headend.specs.Asking.{PlanValue, association_bytes, buffer, buffer_bytes, capture_objects, columns_bytes, invoke, range, IsRange, next_bytes}
use Rattle.dlms_headend.specs.Columns.{columns, TellsBy, TellsColumns}
use Rattle.dlms_headend.specs.Poll.{Accepts, AcceptsBy, Spells, SpellsBy, is_release}
use Rattle.dlms_headend.specs.Rows.{IsProfile, IsEncoded}
use Rattle.dlms_headend.specs.declared.row.Row.{Row}
use Rattle.dlms_profile.specs.Rows.{in_range}
use Rattle.dlms_service.specs.Serves.{FindsMemory, Serves, Read, associated, released, secret_for}
use Rattle.dlms_service.specs.Session.{SessionValue, Outcome, fresh, says}
use Rattle.dlms_service.specs.Shown.{asked, sent, goes_on, in_blocks}
use Rattle.dlms_service.specs.declared.association.Association.{Association}
use Rattle.dlms_state.proofs.Types.{FitsTypes-legal}
use Rattle.dlms_state.specs.Columns.{first_columns}
use Rattle.dlms_state.specs.Events.{buffer_after, columns_after, secret_after}
use Rattle.dlms_state.specs.Refusal.{IsLegal}
use Rattle.dlms_state.specs.StateValue.{state_of}
use Rattle.dlms_state.specs.declared.event.Event.{Event}
use Rattle.dlms_state.specs.declared.event.SecretOf.TheVariants as owner
use Rattle.dlms_state.specs.declared.event.SecretOf.{SecretOf}
use Rattle.dlms_world.proofs.Following.{block_answer}
use Rattle.dlms_world.proofs.Gets.{columns_read, get_read, range_part, whole_range}
use Rattle.dlms_world.specs.Possible.{KnowsSecret}

-- ---- the association

-- the services that both ends have, and APDUs of 1,024 bytes
abbrev pub opened : Association
opened = record { conformance = record { 0 = 0x1C1D }; size = 1024 }

abbrev pub accepted : Verdict
accepted = Accepted (record { 0 = 0x1C1D }) 1024

abbrev pub session : Client → SessionValue
session who = record (fresh who) { opened = Some opened }

-- with a value that goes out in blocks, if there is one
abbrev pub with_blocks : Client → Option Going → SessionValue
with_blocks who going = record (session who) { getting = going }

abbrev pub associates : Client → Outcome
associates who = record { own = session who; answer = aare_bytes accepted; accepted = [] }

same_bytes : (xs : List ℕ) → bytes_eq xs xs ≡ true
same_bytes xs = (bytes_eq-Decides xs xs).1 refl

-- by its own secret a client is accepted
by_secret : (who : Client) (whose : SecretOf) → secret_of who ≡ Some whose → (E : List Event) → associated (fresh who) (secret_for who E) (Ok (said who (secret_after whose E) 0x007E1F 1200)) ≡ associates who
by_secret Public whose e E = cc
by_secret Management owner.Management e E = rw (same_bytes (secret_after owner.Management E)) refl
by_secret Management owner.Reader e E = cc
by_secret Reader owner.Management e E = cc
by_secret Reader owner.Reader e E = rw (same_bytes (secret_after owner.Reader E)) refl

-- a secret has at most 16 bytes
secret_short : (whose : SecretOf) (E : List Event) → IsLegal E → length (secret_after whose E) ≤ 16
secret_short owner.Management E legal = (FitsTypes-legal E legal).secret.count
secret_short owner.Reader E legal = (FitsTypes-legal E legal).reader_secret.count

pub serves_association : (E : List Event) → IsLegal E → (plan : PlanValue) → KnowsSecret plan E → Serves FindsMemory E (fresh plan.client) (association_bytes plan) (associates plan.client)
serves_association E legal plan h =
    let read : aarq_at (association_bytes plan) ≡ Ok (said plan.client (secret_after h.whose E) 0x007E1F 1200) =
    ap (λ secret. aarq_at (aarq_bytes plan.client secret 0x007E1F 1200)) h.secret ∙ written_requests_read plan.client (secret_after h.whose E) 0x007E1F 1200 (secret_short h.whose E legal) in
    sym (ap (associated (fresh plan.client) (secret_for plan.client E)) read ∙ by_secret plan.client h.whose h.client E)

request_short : (who : Client) (secret : List ℕ) → length secret ≤ 16 → length (aarq_bytes who secret 0x007E1F 1200) ≤ 125
request_short Public secret short = omega arith
request_short Management secret short = omega (arith, short, length-append secret (field 0xBE (field 0x04 (initiate_request 0x007E1F 1200))))
request_short Reader secret short = omega (arith, short, length-append secret (field 0xBE (field 0x04 (initiate_request 0x007E1F 1200))))

pub association_short : (E : List Event) → IsLegal E → (plan : PlanValue) → KnowsSecret plan E → length (association_bytes plan) ≤ 125
association_short E legal plan h = subst (λ secret. length (aarq_bytes plan.client secret 0x007E1F 1200) ≤ 125) (sym h.secret) (request_short plan.client (secret_after h.whose E) (secret_short h.whose E legal))

pub accepts : Accepts (aare_bytes accepted)
accepts = subst AcceptsBy (sym (written_responses_read accepted)) tt

-- ---- GET

sent_whole : (s : SessionValue) (v : Value) → 4 + length (canonical v) ≤ 1024 → sent s opened invoke v ≡ says s (get_data invoke v)
sent_whole s v small = let e : nat_le (4 + length (canonical v)) 1024 ≡ true = grind (arith, nat_tests) in rw e refl

-- what is shown is answered, whatever went out before
pub serves_get : (who : Client) (going : Option Going) (E : List Event) (d : Descriptor) (part : Option Selection) → request_at (request_bytes (get_normal invoke d part)) ≡ Ok (get_normal invoke d part) → (v : Value)
    → IsShown (state_of E) who d (asked who opened d part) (Ok v) → IsSendable v → Serves FindsMemory E (with_blocks who going) (request_bytes (get_normal invoke d part)) (sent (session who) opened invoke v)
serves_get who going E d part reads v shown sendable =
    subst (λ form. Read FindsMemory E (with_blocks who going) opened form (sent (session who) opened invoke v)) (sym reads) (Ok v, shown, (sendable, refl))

-- ---- the columns

columns_fit : Fits columns
columns_fit = record { levels = omega arith; in_range = (omega arith, (column_fits 8 (omega arith), (column_fits 3 (omega arith), (column_fits 3 (omega arith), (column_fits 3 (omega arith), tt))))) }
  where
    column_fits : (class : ℕ) → class < 2 ^ 16 → (4 < 2 ^ 32) × ((class < 2 ^ 16) × ((6 < 2 ^ 32) × (FitsSigned w8 (pos 2) × ((0 < 2 ^ 16) × Unit {0}))))
    column_fits class small = (omega arith, (small, (omega arith, (record { sfits = omega arith }, (omega arith, tt)))))

columns_size : length (canonical columns) ≡ 74
unfolding short_length
columns_size = refl

columns_sendable : IsSendable columns
columns_sendable = record { fits = columns_fit; size = omega (arith, columns_size) }

columns_shown : (who : Client) (whose : SecretOf) → secret_of who ≡ Some whose → (E : List Event) → columns_after E ≡ first_columns → IsShown (state_of E) who capture_objects (asked who opened capture_objects None) (Ok columns)
unfolding object_named
columns_shown Public whose e E first = cc
columns_shown Management whose e E first = (tt, ap (λ ids. array (map_values (λ id. column_value (object_of_column id)) ids)) (sym first))
columns_shown Reader whose e E first = (tt, ap (λ ids. array (map_values (λ id. column_value (object_of_column id)) ids)) (sym first))

abbrev pub names : Client → Outcome
names who = says (session who) (get_data invoke columns)

pub serves_columns : (E : List Event) → columns_after E ≡ first_columns → (plan : PlanValue) → KnowsSecret plan E → (going : Option Going) → Serves FindsMemory E (with_blocks plan.client going) columns_bytes (names plan.client)
serves_columns E first plan h going =
    subst (λ o. Serves FindsMemory E (with_blocks plan.client going) columns_bytes o) (sent_whole (session plan.client) columns (omega (arith, columns_size)))
    (serves_get plan.client going E capture_objects None columns_read columns (columns_shown plan.client h.whose h.client E first) columns_sendable)

pub columns_short : (who : Client) → length (names who).answer ≤ 1024
columns_short who = omega (arith, columns_size)

pub tells_columns : (who : Client) → TellsColumns (names who).answer
tells_columns who = subst TellsBy (sym (reads_written_responses (get_data invoke columns) columns_fit tt)) refl

-- ---- the rows

-- between two date-times a client with a secret is shown the rows
shown_between : (who : Client) (whose : SecretOf) → secret_of who ≡ Some whose → (E : List Event) → columns_after E ≡ first_columns → (first last : List ℕ) (second until : ℕ) → NamesSecond first second → NamesSecond last until
    → (v : Value) → IsTable (map (cells (columns_after E)) (in_range 0 second until (buffer_after E))) v → IsShown (state_of E) who buffer (asked who opened buffer (range_part (range (octet_string first) (octet_string last)))) (Ok v)
unfolding object_named
shown_between Public whose e E columns first last second until one two v value = cc
shown_between Management whose e E columns first last second until one two v value =
    rw (one.size, two.size)
    (record { place = 0; is_column = ap clock_place columns; from = second; to = until; names_from = one; names_to = two }, record { place = 0; is_column = ap clock_place columns; from = second; to = until; names_from = one; names_to = two; value = value })
shown_between Reader whose e E columns first last second until one two v value =
    rw (one.size, two.size)
    (record { place = 0; is_column = ap clock_place columns; from = second; to = until; names_from = one; names_to = two }, record { place = 0; is_column = ap clock_place columns; from = second; to = until; names_from = one; names_to = two; value = value })

rows_shown : (who : Client) (whose : SecretOf) → secret_of who ≡ Some whose → (E : List Event) → columns_after E ≡ first_columns → (second until : ℕ) (value : Value) → IsRange second until value
    → (v : Value) → IsTable (map (cells (columns_after E)) (in_range 0 second until (buffer_after E))) v → IsShown (state_of E) who buffer (asked who opened buffer (range_part value)) (Ok v)
rows_shown who whose e E columns second until value r v is =
    subst (λ part. IsShown (state_of E) who buffer (asked who opened buffer (range_part part)) (Ok v)) (sym (whole_range second until value r))
    (shown_between who whose e E columns r.from_first.octets r.to_last.octets second until r.from_first.names r.to_last.names v is)

-- a length below 65,536 takes at most three bytes
pub short_three : (n : ℕ) → n < 65536 → length (short_length n) ≤ 3
unfolding short_length
short_three n few =
    let e : nat_lt n 65536 ≡ true = grind (arith, nat_tests) in
    rw e (elim (nat_lt n 128) as (λ a. length (if a then n ∷ [] else (if nat_lt n 256 then 0x81 ∷ bytes_high_first 1 n else 0x82 ∷ bytes_high_first 2 n)) ≤ 3) [
      | true ↦ omega arith
      | false ↦ elim (nat_lt n 256) as (λ b. length (if b then 0x81 ∷ bytes_high_first 1 n else 0x82 ∷ bytes_high_first 2 n) ≤ 3) [ true ↦ omega arith | false ↦ omega arith ]
    ])

-- a block's bytes
abbrev pub room : ℕ
room = 1012

pub block_small : (encoding : List ℕ) (n : ℕ) → length (block_answer encoding room n) ≤ 1024
block_small encoding n =
    let raw : List ℕ = block_bytes encoding room n in
    let most : length raw ≤ 1012 = omega (arith, length-take room (drop ((n - 1) * room) encoding)) in
    omega (arith, most, short_three (length raw) (omega (arith, most)), length-append (short_length (length raw)) raw)

-- the next block is served
pub serves_next : (E : List Event) (who : Client) (going : Option Going) (k : ℕ) → k < 2 ^ 32 → Serves FindsMemory E (with_blocks who going) (next_bytes k) (goes_on (with_blocks who going) invoke k)
serves_next E who going k few = subst (λ form. Read FindsMemory E (with_blocks who going) opened form (goes_on (with_blocks who going) invoke k)) (sym (reads_written_requests (get_next invoke k) tt few)) refl

-- a value that holds these rows, of no more bytes than the full buffer's
module _ (v : Value) (rows : List Row) (fits : Fits v) (few : length (canonical v) ≤ 29764) (profile : IsProfile v rows) where
  sendable : IsSendable v
  sendable = record { fits = fits; size = omega (arith, few) }

  -- whole, or the first block
  abbrev pub whole : Client → Outcome
  whole who = says (session who) (get_data invoke v)

  abbrev pub first_block : Client → Outcome
  first_block who = in_blocks (session who) opened invoke (canonical v)

  pub is_whole : (who : Client) → nat_le (4 + length (canonical v)) 1024 ≡ true → sent (session who) opened invoke v ≡ whole who
  is_whole who e = rw e refl

  pub is_block : (who : Client) → nat_le (4 + length (canonical v)) 1024 ≡ false → sent (session who) opened invoke v ≡ first_block who
  is_block who e = rw e refl

  pub whole_short : (who : Client) → nat_le (4 + length (canonical v)) 1024 ≡ true → length (whole who).answer ≤ 1024
  whole_short who e = omega (arith, leb-true (4 + length (canonical v)) 1024 e)

  pub spells : (who : Client) → Spells 0 [] (whole who).answer rows
  spells who = subst (λ read. SpellsBy 0 [] read rows) (sym (reads_written_responses (get_data invoke v) fits tt)) (refl, profile)

  pub encoded : IsEncoded (canonical v) rows
  encoded = (v, is_spelled v fits, profile)

  pub serves_rows : (E : List Event) → columns_after E ≡ first_columns → (plan : PlanValue) → KnowsSecret plan E → (second until : ℕ) (value : Value) → IsRange second until value
      → IsTable (map (cells (columns_after E)) (in_range 0 second until (buffer_after E))) v → Serves FindsMemory E (session plan.client) (buffer_bytes value) (sent (session plan.client) opened invoke v)
  serves_rows E columns plan h second until value r is =
      serves_get plan.client None E buffer (range_part value) (get_read second until value r) v (rows_shown plan.client h.whose h.client E columns second until value r v is) sendable

range_short : (first last : List ℕ) → length first ≡ 12 → length last ≡ 12 → length (buffer_bytes (range (octet_string first) (octet_string last))) ≤ 125
unfolding short_length
range_short first last one two =
    rw (one, two) (omega (arith, one, two, length-append first (9 ∷ 12 ∷ (last ++ 1 ∷ 0 ∷ [])), length-append last (1 ∷ 0 ∷ [])))

pub buffer_short : (second until : ℕ) (value : Value) → IsRange second until value → length (buffer_bytes value) ≤ 125
buffer_short second until value r = subst (λ v. length (buffer_bytes v) ≤ 125) (sym (whole_range second until value r)) (range_short r.from_first.octets r.to_last.octets r.from_first.names.size r.to_last.names.size)

-- ---- the release

pub serves_release : (E : List Event) (who : Client) (going : Option Going) → Serves FindsMemory E (with_blocks who going) release_request (released (session who))
serves_release E who going = refl

pub is_released : is_release release_response ≡ true
is_released = refl
