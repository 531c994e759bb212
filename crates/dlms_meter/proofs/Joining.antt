-- How the calls of a meter make a piece of bytes.
use Rattle.std.proofs.Common.{refl, sym, ap, subst, inl, inr, append-nil, append_assoc, ◌≡◌, ◌+◌, ℕ, List, [], ◌∷◌, ◌++◌, length}
use Rattle.std.specs.Prelude.{Option, None}
use Rattle.dlms_frame.specs.Stream.{Fits}
use Rattle.dlms_frame.proofs.LawLemmas.{next_stays}
use Rattle.dlms_store.specs.World.{StoreStep}
use Rattle.dlms_meter.specs.Run.{MeterWorld, Turn, Choice, IsTurn, Fed, Answers, Comes, after_turn, grown, listed}
use Rattle.dlms_meter.proofs.RunLemmas.{none_ended}

-- ---- a piece of bytes, call by call

-- From a world the calls have come to another, with a rest of the bytes still to come and these replies so far: however
-- the rest is answered, the whole is answered so.
pub record GoesOn (w : MeterWorld) (bytes : List ℕ) (m : MeterWorld) (rest : List ℕ) (replies : List (List ℕ)) : Type 0 where
  pub goes : (turns : List Turn) (more : List (List ℕ)) (w' : MeterWorld) → Answers (grown m rest) turns more w'
      → (all : List Turn) × Answers (grown w bytes) all (replies ++ more) w'

pub goes_start : (w : MeterWorld) (bytes : List ℕ) → GoesOn w bytes w bytes []
goes_start w bytes = record { goes = λ turns more w' h. (turns, h) }

parted : (w : MeterWorld) (taken rest : List ℕ) → grown (grown w taken) rest ≡ grown w (taken ++ rest)
parted w taken rest = ap (λ (s : List ℕ). record w { stretch = s }) (append_assoc w.stretch taken rest)

-- the turn of a call is that of the whole
turn_stays : (w : MeterWorld) (rest : List ℕ) (turn : Turn) → turn.to + 1 ≡ length w.stretch → IsTurn w turn → IsTurn (grown w rest) turn
turn_stays w rest turn ends is = record { next = next_stays w.stretch rest w.place turn.from turn.to turn.frame ends is.next; takes = is.takes; stored = is.stored; run = is.run; short = is.short }

-- one call more
pub goes_call : (May : Choice → Type 0) (steps : List StoreStep) (w : MeterWorld) (bytes : List ℕ) (m : MeterWorld) (taken rest : List ℕ) (replies : List (List ℕ)) (reply : Option (List ℕ)) (m' : MeterWorld)
    → GoesOn w bytes m (taken ++ rest) replies → Fed May m taken reply steps m' → GoesOn w bytes m' rest (replies ++ listed reply)
goes_call May steps w bytes m taken rest replies reply m' on (inl (free, none, no_steps, is)) =
    let same : replies ++ listed None ≡ replies = append-nil replies in
    let on' : GoesOn w bytes (grown m taken) rest replies = record {
      goes = λ turns more w' h. on.goes turns more w' (subst (λ (v : MeterWorld). Answers v turns more w') (parted m taken rest) h);
    } in
    subst (λ (o : Option (List ℕ)). GoesOn w bytes m' rest (replies ++ listed o)) (sym none)
    (subst (λ (u : MeterWorld). GoesOn w bytes u rest (replies ++ listed None)) (sym is)
    (subst (λ (rs : List (List ℕ)). GoesOn w bytes (grown m taken) rest rs) (sym same) on'))
goes_call May steps w bytes m taken rest replies reply m' on (inr (turn, is_turn, may, promise, ends, told, took, is)) =
    let there : MeterWorld = after_turn (grown m taken) turn in
    let on' : GoesOn w bytes there rest (replies ++ listed turn.reply) = record {
      goes = λ turns more w' h.
          let first : IsTurn (grown m (taken ++ rest)) turn = subst (λ (v : MeterWorld). IsTurn v turn) (parted m taken rest) (turn_stays (grown m taken) rest turn ends is_turn) in
          let others : Answers (after_turn (grown m (taken ++ rest)) turn) turns more w' =
          subst (λ (v : MeterWorld). Answers (after_turn v turn) turns more w') (parted m taken rest) h in
          let all = on.goes (turn ∷ turns) (listed turn.reply ++ more) w' (first, more, refl, others) in
          (all.0, subst (λ (rs : List (List ℕ)). Answers (grown w bytes) all.0 rs w') (sym (append_assoc replies (listed turn.reply) more)) all.1);
    } in
    subst (λ (o : Option (List ℕ)). GoesOn w bytes m' rest (replies ++ listed o)) (sym told)
    (subst (λ (u : MeterWorld). GoesOn w bytes u rest (replies ++ listed turn.reply)) (sym is) on')

-- no byte is left
pub goes_end : (w : MeterWorld) (bytes : List ℕ) (m : MeterWorld) (replies : List (List ℕ)) (kept : List ℕ) → GoesOn w bytes m [] replies → Fits kept m.stretch m.place → Comes w bytes replies m
goes_end w bytes m replies kept on fits =
    let whole : m ≡ grown m [] = ap (λ (s : List ℕ). record m { stretch = s }) (sym (append-nil m.stretch)) in
    let free : Answers m [] [] m = (none_ended kept m.stretch m.place fits, refl, refl) in
    let all = on.goes [] [] m (subst (λ (v : MeterWorld). Answers v [] [] m) whole free) in
    record {
      turns = all.0;
      answers = subst (λ (rs : List (List ℕ)). Answers (grown w bytes) all.0 rs m) (append-nil replies) all.1;
    }
