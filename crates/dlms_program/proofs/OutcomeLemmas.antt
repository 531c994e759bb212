-- A text has one outcome if memory is found.
use Rattle.std.proofs.Common.{◌≡◌, ℕ, ◌+◌, ◌≤◌, Bool, true, List, [], ◌∷◌, ◌++◌, length, Option, Some, None, Result, Ok, Err, refl, sym, ap, subst, ◌∙◌, arith, inl, inr}
use Rattle.dlms_state.specs.declared.event.Event.{Event}
use Rattle.dlms_state.specs.declared.event.Event.TheVariants.{Pulses as PulseEvent, Moment as MomentEvent}
use Rattle.dlms_state.specs.declared.event.Refused.{Refused}
use Rattle.dlms_store.specs.World.{StoreStep}
use Rattle.dlms_store.specs.declared.fault.AddFault.{AddFault}
use Rattle.dlms_store.specs.declared.fault.AddFault.TheVariants as add
use Rattle.dlms_state.specs.Refusal.{refusal_after}
use Rattle.dlms_state.specs.StateValue.{state_of}
use Rattle.hex.specs.Hex.{decode_of}
use Rattle.std.specs.Str.Parse.{digits_value}
use Rattle.dlms_program.specs.declared.orders.Order.{Order}
use Rattle.dlms_program.specs.declared.orders.Order.TheVariants.{Skip, Feed, Pulses, Moment, Silence, Open, Show}
use Rattle.dlms_words.specs.Numbers.{IsNumberOf}
use Rattle.dlms_program.specs.Orders.{SpellsBytes, SpellsMoment, SpellsPulses, Spells}
use Rattle.dlms_program.specs.Printed.{reply_lines, state_line}
use Rattle.dlms_meter.specs.Alike.{IsAlike}
use Rattle.dlms_meter.specs.Healthy.{AreServed, IsDecided}
use Rattle.dlms_meter.specs.Run.{MeterWorld, Answers, Comes, FoundMemory, Judged, Turn, events_of, grown, recovered, silent}
use Rattle.dlms_meter.proofs.OneOutcome.{alike_comes}
use Rattle.dlms_meter.proofs.Events.{added_one}
use Rattle.dlms_program.specs.Replay.{Does, End, GoesWell, IsBad, LineGoesWell, Replays, TellsOutcome, outcome_line}
use Rattle.dlms_program.specs.Outcome.{AlikeEnds, LineFound, LineHadMemory, AllFound, AllHadMemory, FramesHadMemory}
use Rattle.dlms_program.proofs.NumberLemmas.{pulses_parts, digits_no_space}

-- ---- one piece of bytes

same_piece : (w w' : MeterWorld) (bytes bytes' : List ℕ) (xs ys : List (List ℕ)) (a b : MeterWorld) → IsAlike w w' → bytes ≡ bytes'
    → (c : Comes w bytes xs a) (d : Comes w' bytes' ys b) → FoundMemory c.turns → FoundMemory d.turns → (xs ≡ ys) × IsAlike a b
same_piece w w' bytes bytes' xs ys a b alike piece c d found found' =
    let moved : Answers (grown w' bytes) d.turns ys b = subst (λ (z : List ℕ). Answers (grown w' z) d.turns ys b) (sym piece) d.answers in
    alike_comes w w' a b bytes xs ys alike c (record { turns = d.turns; answers = moved }) found found'

-- ---- an event

none_is : {A : Type 0} {x : A} → None ≡ Some x → ⊥
none_is e = cc

some_is : {A : Type 0} {x y : A} → Some x ≡ Some y → x ≡ y
some_is e = cc

alike_to : (w w' a b : MeterWorld) → IsAlike w w' → a ≡ w → b ≡ w' → IsAlike a b
alike_to w w' a b alike e e' = subst (λ (x : MeterWorld). IsAlike x b) (sym e) (subst (λ (x : MeterWorld). IsAlike w x) (sym e') alike)

same_judged : (w w' : MeterWorld) (event : Event) (x y : Result (Unit {0}) AddFault) (i j : StoreStep) (a b : MeterWorld) → IsAlike w w' → IsDecided x → IsDecided y
    → Judged w event x i a → Judged w' event y j b → (outcome_line x ≡ outcome_line y) × IsAlike a b
same_judged w w' event (Ok d) (Ok d') i j a b alike t t' (free, is, now, next, same) (free', is', now', next', same') = (
  refl,
  record {
    stretch = ap (λ (v : MeterWorld). v.stretch) same ∙ alike.stretch ∙ sym (ap (λ (v : MeterWorld). v.stretch) same');
    place = ap (λ (v : MeterWorld). v.place) same ∙ alike.place ∙ sym (ap (λ (v : MeterWorld). v.place) same');
    records = ap (λ (v : MeterWorld). v.records) same ∙ alike.records ∙ sym (ap (λ (v : MeterWorld). v.records) same');
    events = ap events_of same ∙ added_one i event w.store now is next ∙ ap (λ (es : List Event). es ++ event ∷ []) alike.events
        ∙ sym (ap events_of same' ∙ added_one j event w'.store now' is' next');
  },
)
same_judged w w' event (Ok d) (Err (add.Refused c)) i j a b alike t t' g h =
    absurd (none_is (sym g.0 ∙ ap (λ (es : List Event). refusal_after es event) alike.events ∙ h.1))
same_judged w w' event (Err (add.Refused c)) (Ok d) i j a b alike t t' g h =
    absurd (none_is (sym h.0 ∙ sym (ap (λ (es : List Event). refusal_after es event) alike.events) ∙ g.1))
same_judged w w' event (Err (add.Refused c)) (Err (add.Refused c')) i j a b alike t t' g h = (
  ap (λ (x : Refused). outcome_line (Err (add.Refused x))) (some_is (sym g.1 ∙ ap (λ (es : List Event). refusal_after es event) alike.events ∙ h.1)),
  alike_to w w' a b alike g.3 h.3,
)
same_judged w w' event (Err add.Device) y i j a b alike t t' g h = absurd t
same_judged w w' event (Err add.Stopped) y i j a b alike t t' g h = absurd t
same_judged w w' event (Err add.Exhausted) y i j a b alike t t' g h = absurd t
same_judged w w' event x (Err add.Device) i j a b alike t t' g h = absurd t'
same_judged w w' event x (Err add.Stopped) i j a b alike t t' g h = absurd t'
same_judged w w' event x (Err add.Exhausted) i j a b alike t t' g h = absurd t'

same_told : (w w' : MeterWorld) (event event' : Event) (a b : MeterWorld) (s t : List ℕ) → IsAlike w w' → event ≡ event' → (c : TellsOutcome w event a s) (d : TellsOutcome w' event' b t)
    → IsDecided c.0 → IsDecided d.0 → IsAlike a b × (s ≡ t)
same_told w w' event event' a b s t alike is (x, i, judged, written) (y, j, judged', written') found found' =
    let moved : Judged w' event y j b = subst (λ (v : Event). Judged w' v y j b) (sym is) judged' in
    let one = same_judged w w' event x y i j a b alike found found' judged moved in
    (one.1, written ∙ one.0 ∙ sym written')

-- ---- what a line says

-- the first byte of a line, and that of a comment for an empty one
abbrev mark_of : List ℕ → ℕ
mark_of [] = 35
mark_of (byte ∷ bytes) = byte

abbrev mark : Order → ℕ
mark Skip = 35
mark Feed = 62
mark (Pulses channel count) = 80
mark (Moment second) = 77
mark Silence = 73
mark Open = 79
mark Show = 83

begins : (line bytes : List ℕ) (order : Order) → Spells line bytes order → mark_of line ≡ mark order
begins line bytes Skip (inl e) = ap mark_of e
begins line bytes Skip (inr h) = ap mark_of h.1
begins line bytes Feed h = ap mark_of h.text
begins line bytes (Pulses channel count) h = ap mark_of h.text
begins line bytes (Moment second) h = ap mark_of h.text
begins line bytes Silence h = ap mark_of h
begins line bytes Open h = ap mark_of h
begins line bytes Show h = ap mark_of h

behind_two : {a b c d : ℕ} {xs ys : List ℕ} → a ∷ b ∷ xs ≡ c ∷ d ∷ ys → xs ≡ ys
behind_two e = cc

abbrev value_of : {E : Type 0} → Result (List ℕ) E → List ℕ
value_of (Ok x) = x
value_of (Err e) = []

one_piece : (line bytes bytes' : List ℕ) → SpellsBytes line bytes → SpellsBytes line bytes' → bytes ≡ bytes'
one_piece line bytes bytes' h g =
    let digits : h.digits ≡ g.digits = behind_two (sym h.text ∙ g.text) in
    ap value_of (sym h.pairs.spelled ∙ ap decode_of digits ∙ g.pairs.spelled)

one_number : (digits digits' : List ℕ) (n m : ℕ) → digits ≡ digits' → IsNumberOf digits n → IsNumberOf digits' m → n ≡ m
one_number digits digits' n m e h g = sym h.value ∙ ap (digits_value 10) e ∙ g.value

one_moment : (line : List ℕ) (n m : ℕ) → SpellsMoment line n → SpellsMoment line m → n ≡ m
one_moment line n m h g = one_number h.digits g.digits n m (behind_two (sym h.text ∙ g.text)) h.number g.number

one_pulses : (line : List ℕ) (c n d m : ℕ) → SpellsPulses line c n → SpellsPulses line d m → (c ≡ d) × (n ≡ m)
one_pulses line c n d m h g =
    let fields : List ℕ = h.channel_digits ++ 32 ∷ h.count_digits in
    let other : SpellsPulses (80 ∷ 32 ∷ fields) d m = subst (λ (l : List ℕ). SpellsPulses l d m) h.text g in
    let parts = pulses_parts fields h.channel_digits h.count_digits d m (digits_no_space h.channel_digits h.channel_number.numeral.1) refl other in
    (one_number h.channel_digits h.channel_digits c d refl h.channel_number parts.2, one_number h.count_digits h.count_digits n m refl h.count_number parts.3)

-- ---- one line

same_line : (honest : Bool) (line bytes bytes' : List ℕ) (order order' : Order) (w w' a b : MeterWorld) (s t : List ℕ) → IsAlike w w' → Spells line bytes order → Spells line bytes' order'
    → (c : Does honest w bytes order a s) (d : Does honest w' bytes' order' b t) → LineFound honest w bytes order a s c → LineFound honest w' bytes' order' b t d → IsAlike a b × (s ≡ t)
same_line honest line bytes bytes' Skip Skip w w' a b s t same h g c d e e' = (alike_to w w' a b same c.0 d.0, c.1 ∙ sym d.1)
same_line honest line bytes bytes' Feed Feed w w' a b s t same h g (xs, comes, is) (ys, comes', is') e e' =
    let one = same_piece w w' bytes bytes' xs ys a b same (one_piece line bytes bytes' h g) comes comes' e e' in
    (one.1, is ∙ ap reply_lines one.0 ∙ sym is')
same_line honest line bytes bytes' (Pulses p q) (Pulses p' q') w w' a b s t same h g c d e e' =
    let one = one_pulses line p q p' q' h g in
    same_told w w' (PulseEvent p q) (PulseEvent p' q') a b s t same (ap (λ (x : ℕ). PulseEvent x q) one.0 ∙ ap (PulseEvent p') one.1) c d e e'
same_line honest line bytes bytes' (Moment m) (Moment m') w w' a b s t same h g c d e e' =
    same_told w w' (MomentEvent m) (MomentEvent m') a b s t same (ap MomentEvent (one_moment line m m' h g)) c d e e'
same_line honest line bytes bytes' Silence Silence w w' a b s t same h g c d e e' =
    let quiet : IsAlike (silent w) (silent w') = record { stretch = refl; place = refl; records = same.records; events = same.events } in
    (alike_to (silent w) (silent w') a b quiet c.0 d.0, c.1 ∙ sym d.1)
same_line honest line bytes bytes' Open Open w w' a b s t same h g (found, finds, leads, is) (found', finds', leads', is') e e' =
    let one : found ≡ found' = e ∙ same.events ∙ sym e' in
    let new : IsAlike (recovered found) (recovered found') = record { stretch = refl; place = refl; records = refl; events = ap (λ (es : List Event). es ++ []) one } in
    (alike_to (recovered found) (recovered found') a b new leads leads', is ∙ sym is')
same_line honest line bytes bytes' Show Show w w' a b s t same h g c d e e' =
    (alike_to w w' a b same c.0 d.0, c.1 ∙ ap (λ (es : List Event). state_line (state_of es)) same.events ∙ sym d.1)
same_line honest line bytes bytes' Skip Feed w w' a b s t same h g c d e e' = absurd (omega (arith, begins line bytes Skip h, begins line bytes' Feed g))
same_line honest line bytes bytes' Skip (Pulses p' q') w w' a b s t same h g c d e e' = absurd (omega (arith, begins line bytes Skip h, begins line bytes' (Pulses p' q') g))
same_line honest line bytes bytes' Skip (Moment m') w w' a b s t same h g c d e e' = absurd (omega (arith, begins line bytes Skip h, begins line bytes' (Moment m') g))
same_line honest line bytes bytes' Skip Silence w w' a b s t same h g c d e e' = absurd (omega (arith, begins line bytes Skip h, begins line bytes' Silence g))
same_line honest line bytes bytes' Skip Open w w' a b s t same h g c d e e' = absurd (omega (arith, begins line bytes Skip h, begins line bytes' Open g))
same_line honest line bytes bytes' Skip Show w w' a b s t same h g c d e e' = absurd (omega (arith, begins line bytes Skip h, begins line bytes' Show g))
same_line honest line bytes bytes' Feed Skip w w' a b s t same h g c d e e' = absurd (omega (arith, begins line bytes Feed h, begins line bytes' Skip g))
same_line honest line bytes bytes' Feed (Pulses p' q') w w' a b s t same h g c d e e' = absurd (omega (arith, begins line bytes Feed h, begins line bytes' (Pulses p' q') g))
same_line honest line bytes bytes' Feed (Moment m') w w' a b s t same h g c d e e' = absurd (omega (arith, begins line bytes Feed h, begins line bytes' (Moment m') g))
same_line honest line bytes bytes' Feed Silence w w' a b s t same h g c d e e' = absurd (omega (arith, begins line bytes Feed h, begins line bytes' Silence g))
same_line honest line bytes bytes' Feed Open w w' a b s t same h g c d e e' = absurd (omega (arith, begins line bytes Feed h, begins line bytes' Open g))
same_line honest line bytes bytes' Feed Show w w' a b s t same h g c d e e' = absurd (omega (arith, begins line bytes Feed h, begins line bytes' Show g))
same_line honest line bytes bytes' (Pulses p q) Skip w w' a b s t same h g c d e e' = absurd (omega (arith, begins line bytes (Pulses p q) h, begins line bytes' Skip g))
same_line honest line bytes bytes' (Pulses p q) Feed w w' a b s t same h g c d e e' = absurd (omega (arith, begins line bytes (Pulses p q) h, begins line bytes' Feed g))
same_line honest line bytes bytes' (Pulses p q) (Moment m') w w' a b s t same h g c d e e' = absurd (omega (arith, begins line bytes (Pulses p q) h, begins line bytes' (Moment m') g))
same_line honest line bytes bytes' (Pulses p q) Silence w w' a b s t same h g c d e e' = absurd (omega (arith, begins line bytes (Pulses p q) h, begins line bytes' Silence g))
same_line honest line bytes bytes' (Pulses p q) Open w w' a b s t same h g c d e e' = absurd (omega (arith, begins line bytes (Pulses p q) h, begins line bytes' Open g))
same_line honest line bytes bytes' (Pulses p q) Show w w' a b s t same h g c d e e' = absurd (omega (arith, begins line bytes (Pulses p q) h, begins line bytes' Show g))
same_line honest line bytes bytes' (Moment m) Skip w w' a b s t same h g c d e e' = absurd (omega (arith, begins line bytes (Moment m) h, begins line bytes' Skip g))
same_line honest line bytes bytes' (Moment m) Feed w w' a b s t same h g c d e e' = absurd (omega (arith, begins line bytes (Moment m) h, begins line bytes' Feed g))
same_line honest line bytes bytes' (Moment m) (Pulses p' q') w w' a b s t same h g c d e e' = absurd (omega (arith, begins line bytes (Moment m) h, begins line bytes' (Pulses p' q') g))
same_line honest line bytes bytes' (Moment m) Silence w w' a b s t same h g c d e e' = absurd (omega (arith, begins line bytes (Moment m) h, begins line bytes' Silence g))
same_line honest line bytes bytes' (Moment m) Open w w' a b s t same h g c d e e' = absurd (omega (arith, begins line bytes (Moment m) h, begins line bytes' Open g))
same_line honest line bytes bytes' (Moment m) Show w w' a b s t same h g c d e e' = absurd (omega (arith, begins line bytes (Moment m) h, begins line bytes' Show g))
same_line honest line bytes bytes' Silence Skip w w' a b s t same h g c d e e' = absurd (omega (arith, begins line bytes Silence h, begins line bytes' Skip g))
same_line honest line bytes bytes' Silence Feed w w' a b s t same h g c d e e' = absurd (omega (arith, begins line bytes Silence h, begins line bytes' Feed g))
same_line honest line bytes bytes' Silence (Pulses p' q') w w' a b s t same h g c d e e' = absurd (omega (arith, begins line bytes Silence h, begins line bytes' (Pulses p' q') g))
same_line honest line bytes bytes' Silence (Moment m') w w' a b s t same h g c d e e' = absurd (omega (arith, begins line bytes Silence h, begins line bytes' (Moment m') g))
same_line honest line bytes bytes' Silence Open w w' a b s t same h g c d e e' = absurd (omega (arith, begins line bytes Silence h, begins line bytes' Open g))
same_line honest line bytes bytes' Silence Show w w' a b s t same h g c d e e' = absurd (omega (arith, begins line bytes Silence h, begins line bytes' Show g))
same_line honest line bytes bytes' Open Skip w w' a b s t same h g c d e e' = absurd (omega (arith, begins line bytes Open h, begins line bytes' Skip g))
same_line honest line bytes bytes' Open Feed w w' a b s t same h g c d e e' = absurd (omega (arith, begins line bytes Open h, begins line bytes' Feed g))
same_line honest line bytes bytes' Open (Pulses p' q') w w' a b s t same h g c d e e' = absurd (omega (arith, begins line bytes Open h, begins line bytes' (Pulses p' q') g))
same_line honest line bytes bytes' Open (Moment m') w w' a b s t same h g c d e e' = absurd (omega (arith, begins line bytes Open h, begins line bytes' (Moment m') g))
same_line honest line bytes bytes' Open Silence w w' a b s t same h g c d e e' = absurd (omega (arith, begins line bytes Open h, begins line bytes' Silence g))
same_line honest line bytes bytes' Open Show w w' a b s t same h g c d e e' = absurd (omega (arith, begins line bytes Open h, begins line bytes' Show g))
same_line honest line bytes bytes' Show Skip w w' a b s t same h g c d e e' = absurd (omega (arith, begins line bytes Show h, begins line bytes' Skip g))
same_line honest line bytes bytes' Show Feed w w' a b s t same h g c d e e' = absurd (omega (arith, begins line bytes Show h, begins line bytes' Feed g))
same_line honest line bytes bytes' Show (Pulses p' q') w w' a b s t same h g c d e e' = absurd (omega (arith, begins line bytes Show h, begins line bytes' (Pulses p' q') g))
same_line honest line bytes bytes' Show (Moment m') w w' a b s t same h g c d e e' = absurd (omega (arith, begins line bytes Show h, begins line bytes' (Moment m') g))
same_line honest line bytes bytes' Show Silence w w' a b s t same h g c d e e' = absurd (omega (arith, begins line bytes Show h, begins line bytes' Silence g))
same_line honest line bytes bytes' Show Open w w' a b s t same h g c d e e' = absurd (omega (arith, begins line bytes Show h, begins line bytes' Open g))

-- ---- the whole

not_bad : (line bytes : List ℕ) (order : Order) → length line ≤ 8192 → Spells line bytes order → IsBad line → ⊥
not_bad line bytes order short spells (inl long) = omega (arith, short, long)
not_bad line bytes order short spells (inr none) = none bytes order spells

alike_ends : (w w' : MeterWorld) (a b : Option MeterWorld) → IsAlike w w' → a ≡ Some w → b ≡ Some w' → AlikeEnds a b
alike_ends w w' a b alike e e' = subst (λ (x : Option MeterWorld). AlikeEnds x b) (sym e) (subst (λ (x : Option MeterWorld). AlikeEnds (Some w) x) (sym e') alike)

same_run : (honest : Bool) (lines : List (List ℕ)) (number : ℕ) (w w' : MeterWorld) (s t : List ℕ) (end end' : End) (last last' : Option MeterWorld) → IsAlike w w'
    → (a : Replays honest w number lines s end last) (b : Replays honest w' number lines t end' last')
    → AllFound honest w number lines s end last a → AllFound honest w' number lines t end' last' b → (s ≡ t) × (end ≡ end') × AlikeEnds last last'
same_run honest [] number w w' s t end end' last last' same a b e e' = (a.0 ∙ sym b.0, a.1 ∙ sym b.1, alike_ends w w' last last' same a.2 b.2)
same_run honest (line ∷ lines) number w w' s t end end' last last' same (inl a) (inl b) e e' = (a.1 ∙ sym b.1, a.2 ∙ sym b.2, alike_ends w w' last last' same a.3 b.3)
same_run honest (line ∷ lines) number w w' s t end end' last last' same (inl a) (inr (inr b)) e e' = absurd (not_bad line b.1 b.2 b.0 b.6 a.0)
same_run honest (line ∷ lines) number w w' s t end end' last last' same (inr (inr a)) (inl b) e e' = absurd (not_bad line a.1 a.2 a.0 a.6 b.0)
same_run honest (line ∷ lines) number w w' s t end end' last last' same (inr (inl a)) b e e' = absurd e
same_run honest (line ∷ lines) number w w' s t end end' last last' same a (inr (inl b)) e e' = absurd e'
same_run honest (line ∷ lines) number w w' s t end end' last last' same (inr (inr (short, bytes, order, v, first, rest, spells, does, replays, joins))) (inr (inr (short', bytes', order', v', first', rest', spells', does', replays', joins'))) e e' =
    let one = same_line honest line bytes bytes' order order' w w' v v' first first' same spells spells' does does' e.0 e'.0 in
    let more = same_run honest lines (number + 1) v v' rest rest' end end' last last' one.0 replays replays' e.1 e'.1 in
    (joins ∙ ap (λ (x : List ℕ). x ++ rest) one.1 ∙ ap (λ (x : List ℕ). first' ++ x) more.0 ∙ sym joins', more.1, more.2)

pub one_outcome_of : (honest : Bool) (lines : List (List ℕ)) (number : ℕ) (w : MeterWorld) (s t : List ℕ) (end end' : End) (last last' : Option MeterWorld)
    → (a : Replays honest w number lines s end last) (b : Replays honest w number lines t end' last')
    → AllFound honest w number lines s end last a → AllFound honest w number lines t end' last' b → (s ≡ t) × (end ≡ end') × AlikeEnds last last'
one_outcome_of honest lines number w s t end end' last last' a b e e' =
    same_run honest lines number w w s t end end' last last' (record { stretch = refl; place = refl; records = refl; events = refl }) a b e e'

-- ---- where the device does not fail

each_frame : (turns : List Turn) → AreServed turns → FramesHadMemory turns → FoundMemory turns
each_frame [] are had = tt
each_frame (turn ∷ turns) are had = ((had.0 are.0).0, each_frame turns are.1 had.1)

line_found : (w : MeterWorld) (bytes : List ℕ) (order : Order) (w' : MeterWorld) (written : List ℕ) (does : Does true w bytes order w' written)
    → LineGoesWell true w bytes order w' written does → LineHadMemory true w bytes order w' written does → LineFound true w bytes order w' written does
line_found w bytes Skip w' written does well had = tt
line_found w bytes Feed w' written (replies, comes, is) well had = each_frame comes.turns well had
line_found w bytes (Pulses channel count) w' written (outcome, step, judged, is) well had = well
line_found w bytes (Moment second) w' written (outcome, step, judged, is) well had = well
line_found w bytes Silence w' written does well had = tt
line_found w bytes Open w' written (found, finds, leads, is) well had = well
line_found w bytes Show w' written does well had = tt

all_found : (lines : List (List ℕ)) (number : ℕ) (w : MeterWorld) (s : List ℕ) (end : End) (last : Option MeterWorld) (a : Replays true w number lines s end last)
    → GoesWell true w number lines s end last a → AllHadMemory true w number lines s end last a → AllFound true w number lines s end last a
all_found [] number w s end last a well had = tt
all_found (line ∷ lines) number w s end last (inl bad) well had = tt
all_found (line ∷ lines) number w s end last (inr (inl (bytes, spells, fault, may, is, closed, none))) well had = had well
all_found (line ∷ lines) number w s end last (inr (inr (short, bytes, order, w', first, rest, spells, does, replays, joins))) well had =
    (line_found w bytes order w' first does well.0 had.0, all_found lines (number + 1) w' rest end last replays well.1 had.1)

pub healthy_outcome_of : (lines : List (List ℕ)) (number : ℕ) (w : MeterWorld) (s t : List ℕ) (end end' : End) (last last' : Option MeterWorld)
    → (a : Replays true w number lines s end last) (b : Replays true w number lines t end' last')
    → GoesWell true w number lines s end last a → GoesWell true w number lines t end' last' b
    → AllHadMemory true w number lines s end last a → AllHadMemory true w number lines t end' last' b → (s ≡ t) × (end ≡ end') × AlikeEnds last last'
healthy_outcome_of lines number w s t end end' last last' a b well well' had had' =
    one_outcome_of true lines number w s t end end' last last' a b (all_found lines number w s end last a well had) (all_found lines number w t end' last' b well' had')
