-- A DISC that is fed after a silence is the one frame of its stretch, and ends its client's link.
use Rattle.std.proofs.Common.{◌≡◌, ◌≢◌, ℕ, ◌+◌, ◌-◌, ◌<◌, ◌≤◌, Bool, true, false, List, [], ◌∷◌, ◌++◌, length, refl, sym, ap, subst, ◌∙◌, inl, inr, arith, ◌⊎◌, if◌then◌else◌, Option, Some, None, take, drop}
use Rattle.std.proofs.lemmas.Bool.{cases_lt}
use Rattle.std.proofs.lemmas.List.{append-nil, length-drop, length-append, nil_from_length, length-take-le, take_all}
use Rattle.dlms_frame.specs.Frame.{Parts, FrameSpelling, address_bytes, spelling, tail_len}
use Rattle.dlms_frame.specs.Stream.{FrameAt}
use Rattle.dlms_frame.specs.declared.client.Client.{Client}
use Rattle.dlms_frame.specs.declared.client.Client.TheVariants.{Public, Management, Reader}
use Rattle.dlms_frame.specs.declared.frame.Address.{Address}
use Rattle.dlms_frame.specs.declared.frame.Address.TheVariants.{One, Two, Four}
use Rattle.dlms_frame.proofs.LawLemmas.{one_frame}
use Rattle.dlms_frame.proofs.StreamLemmas.{length-spelling}
use Rattle.dlms_link.proofs.Rows.{row_of-disc_up, row_of-disc_down}
use Rattle.dlms_link.specs.Server.{ServerRecord, row_of}
use Rattle.dlms_link.specs.declared.server_row.ServerRow.TheVariants.{Refuses, Disconnects}
use Rattle.dlms_meter.specs.ClientRecord.{ClientRecord}
use Rattle.dlms_meter.specs.declared.meter.Meter.{Meter}
use Rattle.dlms_meter.specs.Steps.{Call, Calls}
use Rattle.dlms_pages.specs.declared.device.Pages.{Ghosts}
use Rattle.dlms_meter.specs.Run.{Choice, Served, DeviceFails, ByLink, EndsFrame, Fed, Handled, Handles, IsTurn, MeterWorld, Records, Stored, Takes, Turn, client_at, events_of, grown, is_same, silent, with_record}
use Rattle.dlms_store.specs.World.{StoreStep, StoreRun}
use Rattle.dlms_service.specs.Session.{fresh}
use Rattle.dlms_state.specs.declared.event.Event.{Event}
use Rattle.dlms_meter.specs.Own.{AreOwn}
use Rattle.dlms_serving.specs.HangingUp.{disc_of, AllEnded, IsDown, HasEnded}

-- ---- the frame in its stretch

address_room : (a : Address) → 1 ≤ length (address_bytes a)
address_room (One part) = omega arith
address_room (Two high low) = omega arith
address_room (Four high low) = omega arith

tail_room : (info : List ℕ) → 2 ≤ tail_len info
tail_room [] = omega arith
tail_room (x ∷ xs) = omega arith

-- no frame has fewer than nine octets, and a DISC has as many
least_frame : (f : Parts) → 9 ≤ length (spelling f)
least_frame f = omega (arith, length-spelling f, address_room f.dest, address_room f.src, tail_room f.info)

disc_room : (who : Client) → length (spelling (disc_of who)) ≡ 9
disc_room who = length-spelling (disc_of who)

-- the octets that a call took were all of them: no frame ends in fewer
all_taken : (who : Client) (w : MeterWorld) (bytes : List ℕ) (count : ℕ) → FrameSpelling bytes (disc_of who) → w.stretch ≡ [] → count ≤ length bytes
    → (count < length bytes → EndsFrame w (take count bytes)) → take count bytes ≡ bytes
all_taken who w bytes count spelled none few ends =
    let size : length bytes ≡ 9 = ap length spelled.text ∙ disc_room who in
    elim (cases_lt count (length bytes)) [
      | inl less ↦
          let (i, j, frame, last, next) = ends less in
          let here : length (w.stretch ++ take count bytes) ≡ count = ap (λ s. length (s ++ take count bytes)) none ∙ length-take-le count bytes few in
          absurd (omega (arith, next.stands.ends, least_frame frame))
      | inr more ↦ take_all count bytes more
    ]

-- the DISC is in a stretch that is its octets
disc_stands : (who : Client) (bytes : List ℕ) → FrameSpelling bytes (disc_of who) → FrameAt bytes 0 8 (disc_of who)
disc_stands who bytes spelled = record { fits = spelled.fits; after = []; text = spelled.text ∙ sym (append-nil (spelling (disc_of who))); ends = omega (arith, disc_room who) }

-- and it is the frame that ends with the last of them
one_disc : (who : Client) (bytes : List ℕ) (i j : ℕ) (frame : Parts) → FrameSpelling bytes (disc_of who) → FrameAt bytes i j frame → frame ≡ disc_of who
one_disc who bytes i j frame spelled at =
    let size : length bytes ≡ 9 = ap length spelled.text ∙ disc_room who in
    let room : length bytes - i ≡ length (spelling frame) + length at.after = sym (length-drop i bytes) ∙ ap length at.text ∙ length-append (spelling frame) at.after in
    let start : i ≡ 0 = omega (arith, room, size, least_frame frame) in
    let none : at.after ≡ [] = nil_from_length at.after (omega (arith, room, size, least_frame frame)) in
    let text : bytes ≡ spelling frame = ap (λ n. drop n bytes) (sym start) ∙ at.text ∙ ap (λ t. spelling frame ++ t) none ∙ append-nil (spelling frame) in
    one_frame bytes frame (disc_of who) (record { fits = at.fits; text = text }) spelled

-- ---- what the meter makes of it

-- the record of a link that a DISC has ended
abbrev ended : ClientRecord → ClientRecord
ended own = record { link = record own.link { up = false }; session = fresh own.session.client }

by_link : (choice : Choice) (made : Type 0) → ByLink choice made → made
by_link (Served memory) made is = is
by_link (DeviceFails kept wanted) made none = absurd none

row_up : (r : ServerRecord) (who : Client) → r.client ≡ who → r.up ≡ true → row_of r (disc_of who) ≡ Disconnects
row_up r who is up = subst (λ (c : Client). row_of r (disc_of c) ≡ Disconnects) is (row_of-disc_up r up)

row_down : (r : ServerRecord) (who : Client) → r.client ≡ who → r.up ≡ false → row_of r (disc_of who) ≡ Refuses
row_down r who is down = subst (λ (c : Client). row_of r (disc_of c) ≡ Refuses) is (row_of-disc_down r down)

handled_up : (choice : Choice) (E : List Event) (own : ClientRecord) (who : Client) (h : Handled) → own.link.client ≡ who → own.link.up ≡ true → Handles choice E own (disc_of who) h → (h.own ≡ ended own) × (h.answer ≡ None)
handled_up choice E own who h is up handles =
    let made = by_link choice _ (rw (row_up own.link who is up) at handles) in
    (ap (λ (x : Handled). x.own) made, ap (λ (x : Handled). x.answer) made)

handled_down : (choice : Choice) (E : List Event) (own : ClientRecord) (who : Client) (h : Handled) → own.link.client ≡ who → own.link.up ≡ false → Handles choice E own (disc_of who) h → (h.own ≡ ended own) × (h.answer ≡ None)
handled_down choice E own who h is down handles =
    let made = by_link choice _ (rw (row_down own.link who is down) at handles) in
    (ap (λ (x : Handled). x.own) made, ap (λ (x : Handled). x.answer) made)

handled : (b : Bool) (choice : Choice) (E : List Event) (own : ClientRecord) (who : Client) (h : Handled) → own.link.client ≡ who → own.link.up ≡ b → Handles choice E own (disc_of who) h → (h.own ≡ ended own) × (h.answer ≡ None)
handled true choice E own who h is up handles = handled_up choice E own who h is up handles
handled false choice E own who h is down handles = handled_down choice E own who h is down handles

its_client : (who : Client) → client_at (disc_of who).src ≡ Some who
its_client Public = refl
its_client Management = refl
its_client Reader = refl

same_self : (who : Client) → is_same who who ≡ true
same_self Public = refl
same_self Management = refl
same_self Reader = refl

same_other : (who other : Client) → other ≢ who → is_same who other ≡ false
same_other Public Public is = absurd (is refl)
same_other Public Management is = refl
same_other Public Reader is = refl
same_other Management Public is = refl
same_other Management Management is = absurd (is refl)
same_other Management Reader is = refl
same_other Reader Public is = refl
same_other Reader Management is = refl
same_other Reader Reader is = absurd (is refl)

same_or_not : (who other : Client) → (other ≡ who) ⊎ (other ≢ who)
same_or_not Public Public = inl refl
same_or_not Public Management = inr (λ e. cc)
same_or_not Public Reader = inr (λ e. cc)
same_or_not Management Public = inr (λ e. cc)
same_or_not Management Management = inl refl
same_or_not Management Reader = inr (λ e. cc)
same_or_not Reader Public = inr (λ e. cc)
same_or_not Reader Management = inr (λ e. cc)
same_or_not Reader Reader = inl refl

chosen : (b : Bool) (x y : ClientRecord) → b ≡ true → (if b then x else y) ≡ x
chosen b x y is = rw is refl

left : (b : Bool) (x y : ClientRecord) → b ≡ false → (if b then x else y) ≡ y
left b x y is = rw is refl

uncalled : (choice : Choice) (answer : Option (List ℕ)) (accepted : List Event) (steps : List StoreStep) → answer ≡ None → Stored choice answer accepted steps → (accepted ≡ []) × (steps ≡ [])
uncalled choice answer accepted steps none stored = subst (λ (a : Option (List ℕ)). Stored choice a accepted steps) none stored

-- a turn whose frame is the DISC
turned : (who : Client) (w : MeterWorld) (turn : Turn) → turn.frame ≡ disc_of who → (w.records who).link.client ≡ who → IsTurn w turn
    → (turn.records ≡ with_record w.records who (ended (w.records who))) × (turn.store ≡ w.store)
turned who w turn is own taken =
    let takes : Takes (events_of w) w.records turn (Some who) = subst (λ (at : Option Client). Takes (events_of w) w.records turn at) (ap (λ (f : Parts). client_at f.src) is ∙ its_client who) taken.takes in
    let (after, handles, records) = takes in
    let h : Handled = record { own = after; reply = turn.reply; answer = turn.answer; accepted = turn.accepted } in
    let done = handled (w.records who).link.up turn.choice (events_of w) (w.records who) who h own refl (subst (λ (f : Parts). Handles turn.choice (events_of w) (w.records who) f h) is handles) in
    let stored : (turn.accepted ≡ []) × (turn.steps ≡ []) = uncalled turn.choice turn.answer turn.accepted turn.steps done.1 taken.stored in
    (records ∙ ap (λ (x : ClientRecord). with_record w.records who x) done.0, subst (λ (s : List StoreStep). StoreRun w.store s turn.store) stored.1 taken.run)

-- the records with that client's ended
ends_all : (who : Client) (w w' : MeterWorld) → AreOwn w → w'.records ≡ with_record w.records who (ended (w.records who)) → w'.store ≡ w.store → HasEnded who w w'
ends_all who w w' own records store =
    let mine : w'.records who ≡ ended (w.records who) = ap (λ (r : Records). r who) records ∙ chosen (is_same who who) (ended (w.records who)) (w.records who) (same_self who) in
    let others : (other : Client) → other ≢ who → w'.records other ≡ w.records other = λ other is. ap (λ (r : Records). r other) records ∙ left (is_same who other) (ended (w.records who)) (w.records other) (same_other who other is) in
    record {
      down = subst IsDown (sym mine) (record { link = refl; session = refl });
      others = others;
      own = λ other. elim (same_or_not who other) [
        | inl same ↦ subst (λ (c : Client). (w'.records c).link.client ≡ c) (sym same) (ap (λ (r : ClientRecord). r.link.client) mine ∙ own who)
        | inr apart ↦ ap (λ (r : ClientRecord). r.link.client) (others other apart) ∙ own other
      ];
      store = store;
    }

-- a call of feed that took the octets of a DISC after a silence
pub disc_fed : (who : Client) (w w' : MeterWorld) (May : Choice → Type 0) (bytes : List ℕ) (count : ℕ) (reply : Option (List ℕ)) (steps : List StoreStep) → FrameSpelling bytes (disc_of who) → w.stretch ≡ [] → w.place ≡ 0 → AreOwn w
    → count ≤ length bytes → (count < length bytes → EndsFrame w (take count bytes)) → Fed May w (take count bytes) reply steps w' → HasEnded who w w'
disc_fed who w w' May bytes count reply steps spelled none start own few ends fed =
    let all : w.stretch ++ take count bytes ≡ bytes = ap (λ (s : List ℕ). s ++ take count bytes) none ∙ all_taken who w bytes count spelled none few ends in
    elim fed [
      | inl (free, _, _, _) ↦ absurd (free 0 8 (disc_of who) (omega (arith, start)) (subst (λ (s : List ℕ). FrameAt s 0 8 (disc_of who)) (sym all) (disc_stands who bytes spelled)))
      | inr (turn, taken, _, _, _, _, _, after) ↦
          let frame : turn.frame ≡ disc_of who = one_disc who bytes turn.from turn.to turn.frame spelled (subst (λ (s : List ℕ). FrameAt s turn.from turn.to turn.frame) all taken.next.stands) in
          let done = turned who (grown w (take count bytes)) turn frame (own who) taken in
          ends_all who w w' own (ap (λ (x : MeterWorld). x.records) after ∙ done.0) (ap (λ (x : MeterWorld). x.store) after ∙ done.1)
    ]

-- ---- all clients

down_all : (w a b d : MeterWorld) → HasEnded Public w a → HasEnded Management a b → HasEnded Reader b d → (who : Client) → IsDown (d.records who)
down_all w a b d one two three Public = subst IsDown (sym (three.others Public (λ e. cc) ∙ two.others Public (λ e. cc))) one.down
down_all w a b d one two three Management = subst IsDown (sym (three.others Management (λ e. cc))) two.down
down_all w a b d one two three Reader = three.down

pub all_ended : (w a b d : MeterWorld) → HasEnded Public w a → HasEnded Management a b → HasEnded Reader b d → AllEnded w (silent d)
all_ended w a b d one two three = record { down = down_all w a b d one two three; own = three.own; store = three.store ∙ two.store ∙ one.store; silent = refl }

pub calls_append : {P A : Type 0} {ghosts : Ghosts P} (xs ys : List Call) (a b d : Meter P A ghosts) → Calls a xs b → Calls b ys d → Calls a (xs ++ ys) d
calls_append {P} {A} {ghosts} [] ys a b d is rest = subst (λ (m : Meter P A ghosts). Calls m ys d) is rest
calls_append (x ∷ xs) ys a b d (mid, call, more) rest = (mid, call, calls_append xs ys mid b d more rest)
