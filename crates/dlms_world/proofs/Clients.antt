-- A record of a client stays that client's.
use Rattle.std.proofs.Common.{◌≡◌, ℕ, ◌+◌, Bool, true, false, if◌then◌else◌, List, Option, Some, None, Result, Ok, Err, refl, ◌∙◌, ap, length}
use Rattle.std.specs.Prelude.{nat_le}
use Rattle.dlms_apdu.specs.Forms.{RequestForm, BlockForm, get_normal, get_next, set_normal, set_first, set_block, action_normal, action_first, action_block, get_data, get_result}
use Rattle.dlms_apdu.specs.Reading.{request_at}
use Rattle.dlms_apdu.specs.declared.fault.Refusal.{Refusal}
use Rattle.dlms_acse.specs.Reading.{aarq_at}
use Rattle.dlms_acse.specs.Verdict.{Request}
use Rattle.dlms_acse.specs.declared.fault.AcseFault.{AcseFault}
use Rattle.dlms_blocks.specs.Coming.{Coming, first_answer, first_after, more_answer, more_after}
use Rattle.dlms_blocks.specs.declared.block.PutStep.{PutStep}
use Rattle.dlms_blocks.specs.declared.block.PutStep.TheVariants.{More, Whole}
use Rattle.dlms_classes.specs.declared.access.AccessResult.{AccessResult}
use Rattle.dlms_classes.specs.declared.access.AccessResult.TheVariants.{OtherReason}
use Rattle.dlms_classes.specs.Access.{number_of}
use Rattle.dlms_data.specs.Value.{Value}
use Rattle.dlms_data.specs.Writing.{canonical}
use Rattle.dlms_link.specs.Server.{ServerRecord, by_row, row_of, server_on}
use Rattle.dlms_link.specs.declared.out.LinkOut.{LinkOut}
use Rattle.dlms_link.specs.declared.out.LinkOut.TheVariants.{Nothing, Reply, Apdu, Oversize, BadLlc, Up, Down}
use Rattle.dlms_service.specs.Blocks.{Steps, ContinuesFor, open_for}
use Rattle.dlms_service.specs.Serves.{Choice as Memory, FindsMemory, LacksMemoryToRead, LacksMemoryToAnswer, Asks, LacksToAnswer, Permitted, Requested, Read, Within, Released, Associated, Serves, secret_for, associated, permits, begins_with}
use Rattle.dlms_service.specs.Session.{SessionValue, Outcome, says, has, blocks_with_get}
use Rattle.dlms_service.specs.Shown.{Gives, sent, in_blocks}
use Rattle.dlms_service.specs.declared.association.Association.{Association}
use Rattle.dlms_service.specs.declared.target.Service.{Service}
use Rattle.dlms_service.specs.declared.target.Service.TheVariants.{Set, Action}
use Rattle.dlms_service.specs.declared.target.Target.{Target}
use Rattle.dlms_state.specs.declared.event.Event.{Event}
use Rattle.dlms_service.specs.Stake.{Fails, fails, failing, stake_of}
use Rattle.dlms_service.specs.declared.stake.Stake.{Stake}
use Rattle.dlms_service.specs.declared.stake.Stake.TheVariants as stake
use Rattle.dlms_meter.specs.Run.{Choice, Served, DeviceFails, Does, ByLink, Answered, Handled, Handles, replies, sends}
use Rattle.dlms_meter.specs.ClientRecord.{ClientRecord}
use Rattle.dlms_frame.specs.Frame.{Parts, spelling}
use Rattle.dlms_link.specs.declared.server_row.ServerRow.{ServerRow}
use Rattle.dlms_link.specs.declared.server_row.ServerRow.TheVariants.{Connects, Refuses, Disconnects, Keeps, HandsUp, Repeats, SendsNext, SaysReady, Ignores}
use Rattle.dlms_service.specs.Session.{fresh, not_possible, unknown_service}
use Rattle.dlms_world.specs.Turn.{Answers, silent}

abbrev pub Stays : SessionValue → Outcome → Type 0
Stays s o = o.own.client ≡ s.client

by : (o p : Outcome) → o ≡ p → o.own.client ≡ p.own.client
by o p is = ap (λ (x : Outcome). x.own.client) is

blocks_stay : (s : SessionValue) (a : Association) (invoke : ℕ) (encoding : List ℕ) (refusal : Outcome) (b : Bool) → refusal.own.client ≡ s.client → Stays s (if b then in_blocks s a invoke encoding else refusal)
blocks_stay s a invoke encoding refusal true is = refl
blocks_stay s a invoke encoding refusal false is = is

sent_by : (s : SessionValue) (b : Bool) (x y : Outcome) → Stays s x → Stays s y → Stays s (if b then x else y)
sent_by s true x y a b = a
sent_by s false x y a b = b

sent_stays : (s : SessionValue) (a : Association) (invoke : ℕ) (v : Value) → Stays s (sent s a invoke v)
sent_stays s a invoke v =
    let refused : Outcome = says s (get_result invoke (number_of OtherReason)) in
    let more : Outcome = if has a blocks_with_get then in_blocks s a invoke (canonical v) else refused in
    sent_by s (nat_le (4 + length (canonical v)) a.size) (says s (get_data invoke v)) more refl (blocks_stay s a invoke (canonical v) refused (has a blocks_with_get) refl)

gives_stays : (s : SessionValue) (a : Association) (invoke : ℕ) (result : Result Value AccessResult) (o : Outcome) → Gives s a invoke result o → Stays s o
gives_stays s a invoke (Err r) o is = by o (says s (get_result invoke (number_of r))) is
gives_stays s a invoke (Ok v) o is = by o (sent s a invoke v) is.1 ∙ sent_stays s a invoke v

steps_stay : (E : List Event) (s : SessionValue) (invoke number : ℕ) (t : Target) (coming : Coming) (result : Result PutStep ℕ) (o : Outcome) → Steps E s invoke number t coming result o → Stays s o
steps_stay E s invoke number t coming (Err code) o is = ap (λ (x : Outcome). x.own.client) is
steps_stay E s invoke number t coming (Ok More) o is = ap (λ (x : Outcome). x.own.client) is
steps_stay E s invoke number t coming (Ok Whole) o is = ap (λ (x : Outcome). x.own.client) is.5

continues_stays : (E : List Event) (s : SessionValue) (service : Service) (invoke : ℕ) (b : BlockForm) (t : Option Target) (o : Outcome) → ContinuesFor E s service invoke b t o → Stays s o
continues_stays E s service invoke b None o is = ap (λ (x : Outcome). x.own.client) is
continues_stays E s service invoke b (Some t) o is =
    steps_stay E s invoke b.number t (more_after s.coming.taken s.coming b.last b.number b.raw) (more_answer s.coming.taken s.coming.joined b.last b.number b.raw) o is

asks_stays : (E : List Event) (s : SessionValue) (a : Association) (form : RequestForm) (o : Outcome) → Asks E s a form o → Stays s o
asks_stays E s a (get_normal invoke d selector) o is = gives_stays (Rattle.dlms_service.specs.Session.without_get s) a invoke is.0 o is.2
asks_stays E s a (get_next invoke number) o is = ap (λ (x : Outcome). x.own.client) is
asks_stays E s a (set_normal invoke d selector v) o is = ap (λ (x : Outcome). x.own.client) is.3
asks_stays E s a (set_first invoke d selector last number raw) o is = steps_stay E s invoke number _ (first_after last number raw) (first_answer last number raw) o is
asks_stays E s a (set_block invoke last number raw) o is = continues_stays E s Set invoke _ (open_for Set s.target) o is
asks_stays E s a (action_normal invoke d parameter) o is = ap (λ (x : Outcome). x.own.client) is.3
asks_stays E s a (action_first invoke d last number raw) o is = steps_stay E s invoke number _ (first_after last number raw) (first_answer last number raw) o is
asks_stays E s a (action_block invoke last number raw) o is = continues_stays E s Action invoke _ (open_for Action s.target) o is

lacks_stays : (E : List Event) (s : SessionValue) (a : Association) (form : RequestForm) (o : Outcome) → LacksToAnswer E s a form o → Stays s o
lacks_stays E s a (get_normal invoke d selector) o is = ap (λ (x : Outcome). x.own.client) is.1
lacks_stays E s a (get_next invoke number) o is = ap (λ (x : Outcome). x.own.client) is.1
lacks_stays E s a _ o is = absurd is

permitted_stays : (E : List Event) (s : SessionValue) (a : Association) (form : RequestForm) (b : Bool) (o : Outcome) → Permitted E s a form b o → Stays s o
permitted_stays E s a form true o is = asks_stays E s a form o is
permitted_stays E s a form false o is = ap (λ (x : Outcome). x.own.client) is

requested_stays : (choice : Memory) (E : List Event) (s : SessionValue) (a : Association) (form : RequestForm) (o : Outcome) → Requested choice E s a form o → Stays s o
requested_stays FindsMemory E s a form o is = permitted_stays E s a form (permits a form) o is
requested_stays LacksMemoryToRead E s a form o is = ap (λ (x : Outcome). x.own.client) is.1.1
requested_stays LacksMemoryToAnswer E s a form o is = lacks_stays E s a form o is.1

read_stays : (choice : Memory) (E : List Event) (s : SessionValue) (a : Association) (form : Result RequestForm Refusal) (o : Outcome) → Read choice E s a form o → Stays s o
read_stays choice E s a (Ok form) o is = requested_stays choice E s a form o is
read_stays choice E s a (Err refusal) o is = ap (λ (x : Outcome). x.own.client) is

within_stays : (choice : Memory) (E : List Event) (s : SessionValue) (apdu : List ℕ) (a : Option Association) (o : Outcome) → Within choice E s apdu a o → Stays s o
within_stays choice E s apdu None o is = ap (λ (x : Outcome). x.own.client) is
within_stays choice E s apdu (Some a) o is = read_stays choice E s a (request_at apdu) o is

released_stays : (choice : Memory) (E : List Event) (s : SessionValue) (apdu : List ℕ) (b : Bool) (o : Outcome) → Released choice E s apdu b o → Stays s o
released_stays choice E s apdu true o is = ap (λ (x : Outcome). x.own.client) is
released_stays choice E s apdu false o is = within_stays choice E s apdu s.opened o is

judged_stays : (s : SessionValue) (secret : List ℕ) (r : Result Request AcseFault) → Stays s (associated s secret r)
judged_stays s secret (Ok r) = refl
judged_stays s secret (Err e) = refl

associated_stays : (choice : Memory) (E : List Event) (s : SessionValue) (apdu : List ℕ) (b : Bool) (o : Outcome) → Associated choice E s apdu b o → Stays s o
associated_stays choice E s apdu true o is = by o (associated s (secret_for s.client E) (aarq_at apdu)) is ∙ judged_stays s (secret_for s.client E) (aarq_at apdu)
associated_stays choice E s apdu false o is = released_stays choice E s apdu (begins_with 0x62 apdu) o is

pub serves_stays : (choice : Memory) (E : List Event) (s : SessionValue) (apdu : List ℕ) (o : Outcome) → Serves choice E s apdu o → o.own.client ≡ s.client
serves_stays choice E s apdu o is = associated_stays choice E s apdu (begins_with 0x60 apdu) o is

ends_stay : (s : SessionValue) (x : Stake) → (fails s x).own.client ≡ s.client
ends_stay s (stake.Get invoke) = refl
ends_stay s (stake.Next invoke number) = refl
ends_stay s (stake.Set invoke) = refl
ends_stay s (stake.SetLast invoke number) = refl
ends_stay s (stake.Action invoke) = refl

fails_stay : (kept : Bool) (E : List Event) (s : SessionValue) (apdu : List ℕ) (o : Outcome) → Fails kept E s apdu o → Stays s o
fails_stay kept E s apdu o (form, read, would, leads, success, is) = by o (failing kept s (stake_of form) would.accepted) is ∙ ends_stay s (stake_of form)

pub does_stay : (choice : Choice) (E : List Event) (s : SessionValue) (apdu : List ℕ) (o : Outcome) → Does choice E s apdu o → o.own.client ≡ s.client
does_stay (Served memory) E s apdu o is = serves_stays memory E s apdu o is
does_stay (DeviceFails kept wanted) E s apdu o is = fails_stay kept E s apdu o is.0

-- what the link alone does
pub by_link : (choice : Choice) (made : Type 0) → ByLink choice made → made
by_link (Served memory) made is = is
by_link (DeviceFails kept wanted) made none = absurd none

pub answers_stay : (choice : Choice) (E : List Event) (r : ServerRecord) (s : SessionValue) (result : LinkOut) (o : Outcome) → Answers choice E r s result o → o.own.client ≡ s.client
answers_stay choice E r s Apdu o is = does_stay choice E s r.apdu o is
answers_stay choice E r s Oversize o is = ap (λ (x : Outcome). x.own.client) (by_link choice (o ≡ not_possible s) is)
answers_stay choice E r s BadLlc o is = ap (λ (x : Outcome). x.own.client) (by_link choice (o ≡ unknown_service s) is)
answers_stay choice E r s (Up frame) o is = ap (λ (x : Outcome). x.own.client) (by_link choice (o ≡ silent (fresh s.client)) is)
answers_stay choice E r s (Down frame) o is = ap (λ (x : Outcome). x.own.client) (by_link choice (o ≡ silent (fresh s.client)) is)
answers_stay choice E r s Nothing o is = ap (λ (x : Outcome). x.own.client) (by_link choice (o ≡ silent s) is)
answers_stay choice E r s (Reply frame) o is = ap (λ (x : Outcome). x.own.client) (by_link choice (o ≡ silent s) is)

-- ---- and so does its whole record

row_stays : (r : ServerRecord) (f : Parts) (row : ServerRow) → (by_row r f row).0.client ≡ r.client
row_stays r f (Connects size) = refl
row_stays r f Refuses = refl
row_stays r f Disconnects = refl
row_stays r f Keeps = refl
row_stays r f HandsUp = refl
row_stays r f Repeats = refl
row_stays r f SendsNext = refl
row_stays r f SaysReady = refl
row_stays r f Ignores = refl

abbrev IsOf : ServerRecord → SessionValue → Handled → Type 0
IsOf r s h = (h.own.link.client ≡ r.client) × (h.own.session.client ≡ s.client)

is_of : (r : ServerRecord) (s : SessionValue) (h other : Handled) → h ≡ other → IsOf r s other → IsOf r s h
is_of r s h other is (link, session) = (ap (λ (x : Handled). x.own.link.client) is ∙ link, ap (λ (x : Handled). x.own.session.client) is ∙ session)

answered_own : (choice : Choice) (E : List Event) (r : ServerRecord) (s : SessionValue) (result : LinkOut) (h : Handled) → Answered choice E r s result h → IsOf r s h
answered_own choice E r s Nothing h is = is_of r s h (replies r s None) (by_link choice (h ≡ replies r s None) is) (refl, refl)
answered_own choice E r s (Reply f) h is = is_of r s h (replies r s (Some (spelling f))) (by_link choice (h ≡ replies r s (Some (spelling f))) is) (refl, refl)
answered_own choice E r s (Up f) h is = is_of r s h (replies r (fresh s.client) (Some (spelling f))) (by_link choice (h ≡ replies r (fresh s.client) (Some (spelling f))) is) (refl, refl)
answered_own choice E r s (Down f) h is = is_of r s h (replies r (fresh s.client) (Some (spelling f))) (by_link choice (h ≡ replies r (fresh s.client) (Some (spelling f))) is) (refl, refl)
answered_own choice E r s Apdu h (o, does, is) = is_of r s h (sends r o) is (refl, does_stay choice E s r.apdu o does)
answered_own choice E r s Oversize h is = is_of r s h (sends r (not_possible s)) (by_link choice (h ≡ sends r (not_possible s)) is) (refl, refl)
answered_own choice E r s BadLlc h is = is_of r s h (sends r (unknown_service s)) (by_link choice (h ≡ sends r (unknown_service s)) is) (refl, refl)

pub handles_own : (choice : Choice) (E : List Event) (own : ClientRecord) (f : Parts) (h : Handled) → Handles choice E own f h → (h.own.link.client ≡ own.link.client) × (h.own.session.client ≡ own.session.client)
handles_own choice E own f h handles =
    let kept = answered_own choice E (server_on own.link f).0 own.session (server_on own.link f).1 h handles in
    (kept.0 ∙ row_stays own.link f (row_of own.link f), kept.1)
