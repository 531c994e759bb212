-- The head end's end, call by call.
use Rattle.std.proofs.Common.{arith, refl, sym, ap, subst, inl, inr, append-nil, append_assoc, ◌∙◌, ◌≡◌, ◌+◌, ◌-◌, ◌≤◌, ◌<◌, ℕ, List, [], ◌∷◌, ◌++◌, length, take, length-take}
use Rattle.std.specs.Prelude.{Option, Some, None, Result, Ok, Err, IsErrAnd}
use Rattle.std.specs.declared.io.Error.{Error}
use Rattle.dlms_frame.specs.Frame.{Parts, spelling}
use Rattle.dlms_frame.specs.Stream.{Fits, Takes as TakesBytes}
use Rattle.dlms_headend.specs.PollRun.{IsCall}
use Rattle.dlms_headend.specs.PollRun.Call.{On, Timeout}
use Rattle.dlms_headend.specs.Polling.{CanTimeOut}
use Rattle.dlms_headend.specs.PollerValue.{PollerValue}
use Rattle.dlms_headend.specs.declared.poll_fault.PollFault.{PollFault}
use Rattle.dlms_headend.specs.declared.poll_fault.PollFault.TheVariants as poll
use Rattle.dlms_headend.specs.declared.step.PollStep.{PollStep}
use Rattle.dlms_headend.specs.declared.step.PollStep.TheVariants as step
use Rattle.dlms_ends.specs.Calling.{HeadWorld, Act, Acts, AreListening, Did, Does, Ends, Fails, Gives, GivesAgain, IsAt, IsCut, IsHearing, IsIn, IsWaiting, LineBreaks, Listened, Refuses, Repeats, TakesFrame, TakesPiece, TakesTurn, Turned, behind_frame, frames_by, frames_of, moments_by, moments_of, piece_by, pieces_in, told_by}
use Rattle.dlms_ends.specs.Calling.Act.{Gets, Skips, Hears, Waits}
use Rattle.dlms_ends.specs.Calling.LineBreaks.{Reading, Sending}
use Rattle.dlms_ends.specs.Calling.PollFails.{AtFrame, AtSilence, Floods, NoneIsOut, Tires}
use Rattle.dlms_ends.specs.Faults.{IsOfSystem, TellsError}
use Rattle.dlms_ends.specs.Inflow.{Inflow, Brings, Holds, cleared}
use Rattle.dlms_ends.specs.Moments.{Moment, Adds, HasRoom}
use Rattle.dlms_ends.specs.Moments.Moment.{Came, Quiet, Unheard, Went, Broke}
use Rattle.dlms_ends.specs.declared.end.Heard.{Heard as HeardAs}
use Rattle.dlms_ends.specs.declared.end.Heard.TheVariants.{Bytes}
use Rattle.dlms_ends.specs.declared.end.TheConstants.{PIECE, READS}
use Rattle.dlms_ends.specs.declared.fault.RunFault.{RunFault}
use Rattle.dlms_ends.specs.declared.fault.RunFault.TheVariants.{Poll}
use Rattle.dlms_ends.specs.declared.head_end.HeadEnd.{HeadEnd}
use Rattle.dlms_ends.specs.declared.head_end.PollTurn.{PollTurn}
use Rattle.dlms_ends.specs.declared.head_end.PollTurn.TheVariants.{Sent, Done}
use Rattle.dlms_ends.proofs.EndLemmas.{nothing_left}
use Rattle.dlms_ends.proofs.InflowLemmas.{brought, frame_taken, holds_as, idled, none_taken}
use Rattle.dlms_ends.proofs.MomentLemmas.{adds_none, adds_more, adds_as, adds_still}

-- ---- lists of acts

pub acts_more : (h m h' : HeadWorld) (xs ys : List Act) → Acts h xs m → Acts m ys h' → Acts h (xs ++ ys) h'
acts_more h m h' [] ys a b = subst (λ (x : HeadWorld). Acts x ys h') a b
acts_more h m h' (x ∷ xs) ys (mid, d, a) b = (mid, d, acts_more mid m h' xs ys a b)

pub moments_append : (xs ys : List Act) → moments_of (xs ++ ys) ≡ moments_of xs ++ moments_of ys
moments_append [] ys = refl
moments_append (x ∷ xs) ys = ap (λ (t : List Moment). moments_by x ++ t) (moments_append xs ys) ∙ sym (append_assoc (moments_by x) (moments_of xs) (moments_of ys))

pub frames_append : (xs ys : List Act) → frames_of (xs ++ ys) ≡ frames_of xs ++ frames_of ys
frames_append [] ys = refl
frames_append (x ∷ xs) ys = ap (λ (t : List Parts). frames_by x ++ t) (frames_append xs ys) ∙ sym (append_assoc (frames_by x) (frames_of xs) (frames_of ys))

pieces_append : (xs ys : List Act) → pieces_in (xs ++ ys) ≡ pieces_in xs + pieces_in ys
pieces_append [] ys = omega arith
pieces_append (x ∷ xs) ys = let more = pieces_append xs ys in omega (arith, more)

listening_append : (xs ys : List Act) → AreListening xs → AreListening ys → AreListening (xs ++ ys)
listening_append [] ys a b = b
listening_append (x ∷ xs) ys (one, a) b = (one, listening_append xs ys a b)

pub did_more : (old now new : Option (List Moment)) (h m h' : HeadWorld) (xs ys : List Act) → Did old now h xs m → Did now new m ys h' → Did old new h (xs ++ ys) h'
did_more old now new h m h' xs ys a b = record {
  does = acts_more h m h' xs ys a.does b.does;
  happened = adds_as old new (moments_of xs ++ moments_of ys) (moments_of (xs ++ ys)) (sym (moments_append xs ys)) (adds_more old now new (moments_of xs) (moments_of ys) a.happened b.happened);
}

pub did_one : (old new : Option (List Moment)) (h h' : HeadWorld) (act : Act) → Does h act h' → Adds old new (moments_by act) → Did old new h (act ∷ []) h'
did_one old new h h' act does adds = record { does = (h', does, refl); happened = adds_as old new (moments_by act) (moments_by act ++ []) (sym (append-nil (moments_by act))) adds }

did_none : (past : Option (List Moment)) (h : HeadWorld) → Did past past h [] h
did_none past h = record { does = refl; happened = adds_none past }

-- ---- the frames of a piece

-- so far none of them was answered, and this rest is to be taken
pub record Listening {A : Type 0} (old now : Option (List Moment)) (h : HeadWorld) (head : HeadEnd A) (rest : List ℕ) : Type 0 where
  pub acts : List Act
  pub world : HeadWorld
  pub listens : AreListening acts
  pub pieces : pieces_in acts ≡ 0
  pub did : Did old now h acts world
  pub at : IsAt head world
  pub taken : world.inflow.rest ≡ rest

abbrev pub HeadFed : {A : Type 0} → Option (List Moment) → Option (List Moment) → HeadEnd A → HeadEnd A → List ℕ → List ℕ → Type 0
HeadFed old now start head bytes rest = (h : HeadWorld) → IsAt start h → h.inflow.rest ≡ bytes → Listening old now h head rest

pub head_start : {A : Type 0} (past : Option (List Moment)) (head : HeadEnd A) (bytes : List ℕ) → HeadFed past past head head bytes bytes
head_start past head bytes = λ h at taken. record { acts = []; world = h; listens = tt; pieces = refl; did = did_none past h; at = at; taken = taken }

-- one act more at which nothing is answered
listens_more : {A : Type 0} (old now new : Option (List Moment)) (h world : HeadWorld) (head head' : HeadEnd A) (rest left : List ℕ) (act : Act)
    → (s : Listening old now h head rest) → Does s.world act world → AreListening (act ∷ []) → piece_by act ≡ 0 → Adds now new (moments_by act) → IsAt head' world → world.inflow.rest ≡ left → Listening old new h head' left
listens_more old now new h world head head' rest left act s does listens none adds at taken =
    let count : pieces_in (act ∷ []) ≡ 0 = omega (arith, none) in
    record {
      acts = s.acts ++ act ∷ [];
      world = world;
      listens = listening_append s.acts (act ∷ []) s.listens listens;
      pieces = omega (arith, pieces_append s.acts (act ∷ []), s.pieces, count);
      did = did_more old now new h s.world world s.acts (act ∷ []) s.did (did_one now new s.world world act does adds);
      at = at;
      taken = taken;
    }

-- bytes that end no frame
pub fed_skip : {A : Type 0} (old now : Option (List Moment)) (start head head' : HeadEnd A) (bytes rest piece left : List ℕ)
    → piece ++ left ≡ rest → HeadFed old now start head bytes rest → TakesBytes head.deframer.bytes piece None head'.deframer.bytes → head'.poller ≡ head.poller → head'.left ≡ head.left → HeadFed old now start head' bytes left
fed_skip old now start head head' bytes rest piece left cut so_far takes poller may h at taken =
    let s = so_far h at taken in
    let n = none_taken s.world.inflow head.deframer.bytes head'.deframer.bytes head.left rest piece left s.at.holds s.taken cut takes in
    let next : HeadWorld = record { inflow = n.0; poller = s.world.poller } in
    listens_more old now now h next head head' rest left (Skips piece) s (n.1, refl) (tt, tt) refl (adds_none now)
    (record { holds = holds_as n.0 head'.deframer.bytes head'.deframer.bytes head.left head'.left refl may n.2; poller = poller ∙ s.at.poller }) n.3

-- a frame, as the poller is given it
pub record Heard (world : HeadWorld) (piece behind kept : List ℕ) (left : ℕ) (frame : Parts) (given : Result PollStep PollFault) (after : PollerValue) : Type 0 where
  pub inflow : Inflow
  pub hears : IsHearing world piece frame given (record { inflow = behind_frame given inflow; poller = after })
  pub holds : Holds kept left inflow
  pub rest : inflow.rest ≡ behind

hears : {A : Type 0} (head : HeadEnd A) (world : HeadWorld) (rest piece left kept : List ℕ) (frame : Parts) (given : Result PollStep PollFault) (after : PollerValue)
    → IsAt head world → world.inflow.rest ≡ rest → piece ++ left ≡ rest → TakesBytes head.deframer.bytes piece (Some frame) kept → IsCall head.poller (On frame given) after → Heard world piece left kept head.left frame given after
hears head world rest piece left kept frame given after at taken cut takes call =
    let f = frame_taken world.inflow head.deframer.bytes kept head.left rest piece left frame at.holds taken cut takes in
    record {
      inflow = f.0;
      hears = record { inflow = f.0; ends = f.1; call = subst (λ (p : PollerValue). IsCall p (On frame given) after) at.poller call; after = refl };
      holds = f.2;
      rest = f.3;
    }

-- one of which nothing is made
heard_none : {A : Type 0} (old now new : Option (List Moment)) (h : HeadWorld) (head head' : HeadEnd A) (rest piece left kept : List ℕ) (frame : Parts) (given : Result PollStep PollFault)
    → piece ++ left ≡ rest → TakesBytes head.deframer.bytes piece (Some frame) kept → IsCall head.poller (On frame given) head'.poller → head'.deframer.bytes ≡ kept → head'.left ≡ head.left
    → Listening old now h head rest → Gives now new given (Ok None) head'.poller → Listening old new h head' left
heard_none old now new h head head' rest piece left kept frame (Ok step.Nothing) cut takes call same may s (told, adds) =
    let k = hears head s.world rest piece left kept frame (Ok step.Nothing) head'.poller s.at s.taken cut takes call in
    let next : HeadWorld = record { inflow = k.inflow; poller = head'.poller } in
    let at : IsAt head' next = record { holds = holds_as k.inflow kept head'.deframer.bytes head.left head'.left same may k.holds; poller = refl } in
    listens_more old now new h next head head' rest left (Hears piece frame (Ok step.Nothing)) s k.hears (refl, tt) refl adds at k.rest
heard_none old now new h head head' rest piece left kept frame (Ok (step.Send f)) cut takes call same may s (told, adds) = absurd (cc told)
heard_none old now new h head head' rest piece left kept frame (Ok step.Done) cut takes call same may s (told, adds) = absurd (cc told)
heard_none old now new h head head' rest piece left kept frame (Err e) cut takes call same may s (told, adds) = absurd (cc told)

pub fed_none : {A : Type 0} (old now new : Option (List Moment)) (start head head' : HeadEnd A) (bytes rest piece left kept : List ℕ) (frame : Parts)
    → piece ++ left ≡ rest → HeadFed old now start head bytes rest → TakesBytes head.deframer.bytes piece (Some frame) kept → TakesFrame now new head.poller frame (Ok None) head'.poller → head'.deframer.bytes ≡ kept → head'.left ≡ head.left
    → HeadFed old new start head' bytes left
fed_none old now new start head head' bytes rest piece left kept frame cut so_far takes (given, call, gives) same may h at taken =
    heard_none old now new h head head' rest piece left kept frame given cut takes call same may (so_far h at taken) gives

-- how the frames of a piece end a turn
ends_so : {A : Type 0} (old now new : Option (List Moment)) (h : HeadWorld) (head head' : HeadEnd A) (rest : List ℕ) (result : Result PollTurn RunFault)
    → (s : Listening old now h head rest) → Ends 0 now new s.world head' result → Turned 0 old new h head' result
ends_so old now new h head head' rest result s ends = record { front = s.acts; mid = s.world; now = now; listens = s.listens; pieces = sym s.pieces; did = s.did; ends = ends }

-- one that is answered, or at which the poll is done
heard_some : {A : Type 0} (old now new : Option (List Moment)) (h : HeadWorld) (head head' : HeadEnd A) (rest piece left kept : List ℕ) (frame : Parts) (given : Result PollStep PollFault) (turn : PollTurn)
    → piece ++ left ≡ rest → TakesBytes head.deframer.bytes piece (Some frame) kept → IsCall head.poller (On frame given) head'.poller → Fits head'.deframer.bytes [] 0 → head'.left ≡ head.left
    → Listening old now h head rest → Gives now new given (Ok (Some turn)) head'.poller → Turned 0 old new h head' (Ok turn)
heard_some old now new h head head' rest piece left kept frame (Ok step.Nothing) turn cut takes call idle may s (told, adds) = absurd (cc told)
heard_some old now new h head head' rest piece left kept frame (Ok (step.Send f)) Sent cut takes call idle may s (told, adds) =
    let k = hears head s.world rest piece left kept frame (Ok (step.Send f)) head'.poller s.at s.taken cut takes call in
    ends_so old now new h head head' rest (Ok Sent) s (record {
      act = Hears piece frame (Ok (step.Send f));
      frame = f;
      world = record { inflow = cleared k.inflow; poller = head'.poller };
      gives = refl;
      does = k.hears;
      happened = adds;
      stands = record { at = record { holds = idled k.inflow head'.deframer.bytes head'.left idle (may ∙ k.holds.may); poller = refl }; taken = refl };
    })
heard_some old now new h head head' rest piece left kept frame (Ok (step.Send f)) Done cut takes call idle may s (told, adds) = absurd (cc told)
heard_some old now new h head head' rest piece left kept frame (Ok step.Done) Sent cut takes call idle may s (told, adds) = absurd (cc told)
heard_some old now new h head head' rest piece left kept frame (Ok step.Done) Done cut takes call idle may s (told, adds) =
    let k = hears head s.world rest piece left kept frame (Ok step.Done) head'.poller s.at s.taken cut takes call in
    ends_so old now new h head head' rest (Ok Done) s (record {
      bytes = piece;
      frame = frame;
      world = record { inflow = cleared k.inflow; poller = head'.poller };
      does = k.hears;
      happened = adds;
      stands = record { at = record { holds = idled k.inflow head'.deframer.bytes head'.left idle (may ∙ k.holds.may); poller = refl }; taken = refl };
    })
heard_some old now new h head head' rest piece left kept frame (Err e) turn cut takes call idle may s (told, adds) = absurd (cc told)

pub fed_some : {A : Type 0} (old now new : Option (List Moment)) (start head head' : HeadEnd A) (bytes rest piece left kept : List ℕ) (frame : Parts) (after : PollerValue) (turn : PollTurn)
    → piece ++ left ≡ rest → HeadFed old now start head bytes rest → TakesBytes head.deframer.bytes piece (Some frame) kept → TakesFrame now new head.poller frame (Ok (Some turn)) after → after ≡ head'.poller
    → Fits head'.deframer.bytes [] 0 → head'.left ≡ head.left → (h : HeadWorld) → IsAt start h → h.inflow.rest ≡ bytes → Turned 0 old new h head' (Ok turn)
fed_some old now new start head head' bytes rest piece left kept frame after turn cut so_far takes frame_taken same idle may h at taken =
    let f : TakesFrame now new head.poller frame (Ok (Some turn)) head'.poller = subst (λ (p : PollerValue). TakesFrame now new head.poller frame (Ok (Some turn)) p) same frame_taken in
    heard_some old now new h head head' rest piece left kept frame f.0 turn cut takes f.1 idle may (so_far h at taken) f.2

-- ---- faults

fails_system : (count : ℕ) (old new : Option (List Moment)) (h : HeadWorld) (after : PollerValue) (fault : RunFault) → IsOfSystem fault → LineBreaks old new h after → Fails count old new h after fault
fails_system count old new h after fault (inl is) breaks = subst (λ (f : RunFault). Fails count old new h after f) (sym is) breaks
fails_system count old new h after fault (inr is) breaks = subst (λ (f : RunFault). Fails count old new h after f) (sym is) breaks

fails_told : (old new : Option (List Moment)) (h : HeadWorld) (after : PollerValue) (given : PollFault) → Refuses old new h after given → Fails 0 old new h after (told_by given after)
fails_told old new h after (poll.Refused diagnostic) r = AtFrame (λ e. cc) r
fails_told old new h after (poll.Result code) r = AtFrame (λ e. cc) r
fails_told old new h after poll.Line r = AtFrame (λ e. cc) r
fails_told old new h after poll.Protocol r = AtFrame (λ e. cc) r
fails_told old new h after poll.Columns r = (r, refl)
fails_told old new h after poll.Memory r = AtFrame (λ e. cc) r

heard_err : {A : Type 0} (old now new : Option (List Moment)) (h : HeadWorld) (head head' : HeadEnd A) (rest piece left kept : List ℕ) (frame : Parts) (given : Result PollStep PollFault) (fault : RunFault)
    → piece ++ left ≡ rest → TakesBytes head.deframer.bytes piece (Some frame) kept → IsCall head.poller (On frame given) head'.poller
    → Listening old now h head rest → Gives now new given (Err fault) head'.poller → Turned 0 old new h head' (Err fault)
heard_err old now new h head head' rest piece left kept frame (Ok step.Nothing) fault cut takes call s (told, adds) = absurd (cc told)
heard_err old now new h head head' rest piece left kept frame (Ok (step.Send f)) fault cut takes call s (is, (part, missing, begins, adds)) =
    let k = hears head s.world rest piece left kept frame (Ok (step.Send f)) head'.poller s.at s.taken cut takes call in
    let broken : IsCut now new s.world head'.poller = record {
      act = Hears piece frame (Ok (step.Send f));
      frame = f;
      part = part;
      missing = missing;
      world = record { inflow = cleared k.inflow; poller = head'.poller };
      gives = refl;
      does = k.hears;
      begins = begins;
      happened = adds;
      poller = refl;
    } in
    ends_so old now new h head head' rest (Err fault) s (fails_system 0 now new s.world head'.poller fault is (Sending broken))
heard_err old now new h head head' rest piece left kept frame (Ok step.Done) fault cut takes call s (told, adds) = absurd (cc told)
heard_err old now new h head head' rest piece left kept frame (Err e) fault cut takes call s (told, adds) =
    let k = hears head s.world rest piece left kept frame (Err e) head'.poller s.at s.taken cut takes call in
    let refuses : Refuses now new s.world head'.poller e = record {
      bytes = piece;
      frame = frame;
      world = record { inflow = k.inflow; poller = head'.poller };
      does = k.hears;
      happened = adds;
      poller = refl;
    } in
    let same : fault ≡ told_by e head'.poller = cc told in
    ends_so old now new h head head' rest (Err fault) s (subst (λ (f : RunFault). Fails 0 now new s.world head'.poller f) (sym same) (fails_told now new s.world head'.poller e refuses))

pub fed_err : {A : Type 0} (old now new : Option (List Moment)) (start head head' : HeadEnd A) (bytes rest piece left kept : List ℕ) (frame : Parts) (fault : RunFault)
    → piece ++ left ≡ rest → HeadFed old now start head bytes rest → TakesBytes head.deframer.bytes piece (Some frame) kept → TakesFrame now new head.poller frame (Err fault) head'.poller
    → (h : HeadWorld) → IsAt start h → h.inflow.rest ≡ bytes → Turned 0 old new h head' (Err fault)
fed_err old now new start head head' bytes rest piece left kept frame fault cut so_far takes (given, call, gives) h at taken =
    heard_err old now new h head head' rest piece left kept frame given fault cut takes call (so_far h at taken) gives

pub fed_all : {A : Type 0} (old now : Option (List Moment)) (start head : HeadEnd A) (bytes rest : List ℕ) → length rest ≡ 0 → HeadFed old now start head bytes rest → (h : HeadWorld) → IsAt start h → h.inflow.rest ≡ bytes → Listened old now h head
fed_all old now start head bytes rest none so_far h at taken =
    let s = so_far h at taken in
    record { acts = s.acts; world = s.world; listens = s.listens; pieces = s.pieces; did = s.did; stands = record { at = s.at; taken = s.taken ∙ nothing_left rest none } }

-- ---- nothing comes

-- the poller is told that nothing arrived
waits : {A : Type 0} (head : HeadEnd A) (h : HeadWorld) (given : Result Parts PollFault) (after : PollerValue) → IsIn head h → IsCall head.poller (Timeout given) after
    → IsWaiting h given (record { inflow = cleared h.inflow; poller = after })
waits head h given after stands call = record { taken = stands.taken; call = subst (λ (p : PollerValue). IsCall p (Timeout given) after) stands.at.poller call; after = refl }

at_once : {A : Type 0} (old new : Option (List Moment)) (h : HeadWorld) (head' : HeadEnd A) (result : Result PollTurn RunFault) → Ends 0 old new h head' result → Turned 0 old new h head' result
at_once old new h head' result ends = record { front = []; mid = h; now = old; listens = tt; pieces = refl; did = did_none old h; ends = ends }

waits_so : {A : Type 0} (old now new : Option (List Moment)) (head head' : HeadEnd A) (given : Result Parts PollFault) (result : Result PollTurn RunFault) → Adds old now (Quiet ∷ []) → Fits head'.deframer.bytes [] 0 → head'.left ≡ head.left
    → IsCall head.poller (Timeout given) head'.poller → GivesAgain now new given result → (h : HeadWorld) → IsIn head h → Ends 0 old new h head' result
waits_so old now new head head' (Ok frame) (Ok Sent) quiet idle may call (told, adds) h stands = record {
  act = Waits (Ok frame);
  frame = frame;
  world = record { inflow = cleared h.inflow; poller = head'.poller };
  gives = refl;
  does = waits head h (Ok frame) head'.poller stands call;
  happened = adds_more old now new (Quiet ∷ []) (Went (spelling frame) ∷ []) quiet adds;
  stands = record { at = record { holds = idled h.inflow head'.deframer.bytes head'.left idle (may ∙ stands.at.holds.may); poller = refl }; taken = refl };
}
waits_so old now new head head' (Ok frame) (Ok Done) quiet idle may call (told, adds) h stands = absurd (cc told)
waits_so old now new head head' (Ok frame) (Err fault) quiet idle may call (is, (part, missing, begins, adds)) h stands =
    let broken : IsCut old new h head'.poller = record {
      act = Waits (Ok frame);
      frame = frame;
      part = part;
      missing = missing;
      world = record { inflow = cleared h.inflow; poller = head'.poller };
      gives = refl;
      does = waits head h (Ok frame) head'.poller stands call;
      begins = begins;
      happened = adds_more old now new (Quiet ∷ []) (Broke part ∷ []) quiet adds;
      poller = refl;
    } in
    fails_system 0 old new h head'.poller fault is (Sending broken)
waits_so old now new head head' (Err fault) result quiet idle may call (told, adds) h stands =
    subst (λ (r : Result PollTurn RunFault). Ends 0 old new h head' r) (sym told)
    (AtSilence (record { inflow = cleared h.inflow; poller = head'.poller }) (waits head h (Err fault) head'.poller stands call) (adds_still old now new (Quiet ∷ []) quiet adds) refl)

repeats_so : {A : Type 0} (old now new : Option (List Moment)) (head head' : HeadEnd A) (result : Result PollTurn RunFault) → Adds old now (Quiet ∷ []) → Fits head'.deframer.bytes [] 0 → head'.left ≡ head.left
    → Repeats now new head.poller result head'.poller → (h : HeadWorld) → IsIn head h → Turned 0 old new h head' result
repeats_so old now new head head' result quiet idle may (inl is) h stands =
    let none : CanTimeOut h.poller → ⊥ = subst (λ (p : PollerValue). CanTimeOut p → ⊥) stands.at.poller is.none in
    at_once old new h head' result
    (subst (λ (r : Result PollTurn RunFault). Ends 0 old new h head' r) (sym is.told) (NoneIsOut refl none (adds_still old now new (Quiet ∷ []) quiet is.quiet) (is.same ∙ stands.at.poller)))
repeats_so old now new head head' result quiet idle may (inr (given, call, gives)) h stands = at_once old new h head' result (waits_so old now new head head' given result quiet idle may call gives h stands)

-- ---- a turn

-- so many pieces came, and none was answered
pub record TurnSoFar {A : Type 0} (old now : Option (List Moment)) (h : HeadWorld) (head : HeadEnd A) (count : ℕ) : Type 0 where
  pub front : List Act
  pub mid : HeadWorld
  pub listens : AreListening front
  pub pieces : count ≡ pieces_in front
  pub did : Did old now h front mid
  pub stands : IsIn head mid

abbrev pub HeadSoFar : {A : Type 0} → Option (List Moment) → Option (List Moment) → HeadEnd A → HeadEnd A → ℕ → Type 0
HeadSoFar old now start head count = (h : HeadWorld) → IsIn start h → TurnSoFar old now h head count

pub so_far_start : {A : Type 0} (past : Option (List Moment)) (head : HeadEnd A) → HeadSoFar past past head head 0
so_far_start past head = λ h stands. record { front = []; mid = h; listens = tt; pieces = refl; did = did_none past h; stands = stands }

-- the end of a turn after no piece is its end after any number of them
ends_behind : {A : Type 0} (count : ℕ) (old new : Option (List Moment)) (h : HeadWorld) (head : HeadEnd A) (result : Result PollTurn RunFault) → Ends 0 old new h head result → Ends count old new h head result
ends_behind count old new h head (Ok Sent) ends = ends
ends_behind count old new h head (Ok Done) ends = ends
ends_behind count old new h head (Err (Poll f)) (AtFrame other refuses) = AtFrame other refuses
ends_behind count old new h head (Err (Poll f)) (AtSilence world does adds same) = AtSilence world does adds same
ends_behind count old new h head (Err (Poll f)) (Floods is bytes more adds same) = Floods is bytes more adds same
ends_behind count old new h head (Err (Poll f)) (NoneIsOut is none adds same) = NoneIsOut is none adds same
ends_behind count old new h head (Err (Poll f)) (Tires is all adds same) = absurd (omega (arith, all))
ends_behind count old new h head (Err fault) ends = ends

-- a turn continues after what arrived, and ends
turned_behind : {A : Type 0} (old now new : Option (List Moment)) (h m : HeadWorld) (head' : HeadEnd A) (result : Result PollTurn RunFault) (front : List Act) → AreListening front → Did old now h front m
    → Turned 0 now new m head' result → TakesTurn old new h head' result
turned_behind old now new h m head' result front listens did t =
    let count = pieces_in (front ++ t.front) in (
      count,
      record {
        front = front ++ t.front;
        mid = t.mid;
        now = t.now;
        listens = listening_append front t.front listens t.listens;
        pieces = refl;
        did = did_more old now t.now h m t.mid front t.front did t.did;
        ends = ends_behind count t.now new t.mid head' result t.ends;
      },
    )

-- nothing came
pub turn_waits : {A : Type 0} (old now mid new : Option (List Moment)) (start head head' : HeadEnd A) (count : ℕ) (result : Result PollTurn RunFault) → HeadSoFar old now start head count → Adds now mid (Quiet ∷ [])
    → Fits head'.deframer.bytes [] 0 → head'.left ≡ head.left → Repeats mid new head.poller result head'.poller → (h : HeadWorld) → IsIn start h → TakesTurn old new h head' result
turn_waits old now mid new start head head' count result so_far quiet idle may again h stands =
    let s = so_far h stands in
    turned_behind old now new h s.mid head' result s.front s.listens s.did (repeats_so now mid new head head' result quiet idle may again s.mid s.stands)

-- a piece came, and is counted
gets : {A : Type 0} (head head' : HeadEnd A) (h : HeadWorld) (bytes : List ℕ) (count : ℕ) → IsIn head h → length bytes ≡ count → count ≤ head.left → head' ≡ record head { left = head.left - count }
    → (h' : HeadWorld) × Does h (Gets bytes) h' × IsAt head' h' × (h'.inflow.rest ≡ bytes)
gets head head' h bytes count stands long within counted =
    let b = brought h.inflow head.deframer.bytes head.left count bytes stands.at.holds stands.taken long within in (
      record { inflow = b.0; poller = h.poller },
      (b.1, refl),
      record {
        holds = holds_as b.0 head.deframer.bytes head'.deframer.bytes (head.left - count) head'.left (ap (λ (e : HeadEnd _). e.deframer.bytes) counted) (ap (λ (e : HeadEnd _). e.left) counted) b.2;
        poller = ap (λ (e : HeadEnd _). e.poller) counted ∙ stands.at.poller;
      },
      b.3,
    )

-- and it ended the turn
pub turn_ends : {A : Type 0} (old now mid new : Option (List Moment)) (start head head' head'' : HeadEnd A) (count room : ℕ) (bytes : List ℕ) (result : Result PollTurn RunFault) → HeadSoFar old now start head count → Adds now mid (Came bytes ∷ [])
    → length bytes ≡ room → room ≤ head.left → head' ≡ record head { left = head.left - room } → ((h : HeadWorld) → IsAt head' h → h.inflow.rest ≡ bytes → Turned 0 mid new h head'' result)
    → (h : HeadWorld) → IsIn start h → TakesTurn old new h head'' result
turn_ends old now mid new start head head' head'' count room bytes result so_far came long within counted ends h stands =
    let s = so_far h stands in
    let g = gets head head' s.mid bytes room s.stands long within counted in
    let did : Did old mid h (s.front ++ Gets bytes ∷ []) g.0 = did_more old now mid h s.mid g.0 s.front (Gets bytes ∷ []) s.did (did_one now mid s.mid g.0 (Gets bytes) g.1 came) in
    turned_behind old mid new h g.0 head'' result (s.front ++ Gets bytes ∷ []) (listening_append s.front (Gets bytes ∷ []) s.listens (tt, tt)) did (ends g.0 g.2 g.3)

-- or it did not
pub turn_on : {A : Type 0} (old now mid new : Option (List Moment)) (start head head' head'' : HeadEnd A) (count room : ℕ) (bytes : List ℕ) → HeadSoFar old now start head count → Adds now mid (Came bytes ∷ [])
    → length bytes ≡ room → room ≤ head.left → head' ≡ record head { left = head.left - room } → ((h : HeadWorld) → IsAt head' h → h.inflow.rest ≡ bytes → Listened mid new h head'')
    → HeadSoFar old new start head'' (count + 1)
turn_on old now mid new start head head' head'' count room bytes so_far came long within counted listened h stands =
    let s = so_far h stands in
    let g = gets head head' s.mid bytes room s.stands long within counted in
    let l = listened g.0 g.2 g.3 in
    let did : Did old mid h (s.front ++ Gets bytes ∷ []) g.0 = did_more old now mid h s.mid g.0 s.front (Gets bytes ∷ []) s.did (did_one now mid s.mid g.0 (Gets bytes) g.1 came) in
    record {
      front = (s.front ++ Gets bytes ∷ []) ++ l.acts;
      mid = l.world;
      listens = listening_append (s.front ++ Gets bytes ∷ []) l.acts (listening_append s.front (Gets bytes ∷ []) s.listens (tt, tt)) l.listens;
      pieces = omega (arith, pieces_append (s.front ++ Gets bytes ∷ []) l.acts, pieces_append s.front (Gets bytes ∷ []), s.pieces, l.pieces);
      did = did_more old mid new h g.0 l.world (s.front ++ Gets bytes ∷ []) l.acts did l.did;
      stands = l.stands;
    }

-- more bytes came than may
pub turn_floods : {A : Type 0} (old now new : Option (List Moment)) (start head head' : HeadEnd A) (count room : ℕ) (bytes : List ℕ) (fault : RunFault) → HeadSoFar old now start head count → Adds now new (Came bytes ∷ [])
    → length bytes ≡ room → head.left < room → fault ≡ Poll poll.Protocol → head' ≡ head → (h : HeadWorld) → IsIn start h → TakesTurn old new h head' (Err fault)
turn_floods old now new start head head' count room bytes fault so_far came long more is same h stands =
    let s = so_far h stands in
    let many : s.mid.inflow.left < length bytes = omega (arith, long, more, s.stands.at.holds.may) in
    let fails : Fails count now new s.mid head'.poller fault =
    subst (λ (f : RunFault). Fails count now new s.mid head'.poller f) (sym is) (Floods refl bytes many came (ap (λ (e : HeadEnd _). e.poller) same ∙ s.stands.at.poller)) in
    (count, record { front = s.front; mid = s.mid; now = now; listens = s.listens; pieces = s.pieces; did = s.did; ends = fails })

-- a read failed
pub turn_unheard : {A : Type 0} (old now new : Option (List Moment)) (start head : HeadEnd A) (count : ℕ) (fault : RunFault) (error : Error) → HeadSoFar old now start head count → Adds now new (Unheard error ∷ []) → IsOfSystem fault
    → (h : HeadWorld) → IsIn start h → TakesTurn old new h head (Err fault)
turn_unheard old now new start head count fault error so_far broke is h stands =
    let s = so_far h stands in
    (count, record { front = s.front; mid = s.mid; now = now; listens = s.listens; pieces = s.pieces; did = s.did; ends = fails_system count now new s.mid head.poller fault is (Reading error broke s.stands.at.poller) })

-- so many pieces came
pub turn_tires : {A : Type 0} (old now : Option (List Moment)) (start head : HeadEnd A) (count : ℕ) → HeadSoFar old now start head count → count ≡ READS → (h : HeadWorld) → IsIn start h → TakesTurn old now h head (Err (Poll poll.Line))
turn_tires old now start head count so_far all h stands =
    let s = so_far h stands in
    (count, record { front = s.front; mid = s.mid; now = now; listens = s.listens; pieces = s.pieces; did = s.did; ends = Tires refl all (adds_none now) s.stands.at.poller })

-- ---- results

pub piece_err : {A : Type 0} (old new : Option (List Moment)) (h : HeadWorld) (head : HeadEnd A) (r : Result (Option PollTurn) RunFault) (fault : RunFault) → r ≡ Err fault → Turned 0 old new h head (Err fault) → TakesPiece old new h head r
piece_err old new h head r fault is turned = subst (λ (x : Result (Option PollTurn) RunFault). TakesPiece old new h head x) (sym is) turned

pub frame_as : (old new : Option (List Moment)) (before after : PollerValue) (frame : Parts) (o p : Option PollTurn) → o ≡ p → TakesFrame old new before frame (Ok o) after → TakesFrame old new before frame (Ok p) after
frame_as old new before after frame o p is h = subst (λ (x : Option PollTurn). TakesFrame old new before frame (Ok x) after) is h

pub found_as : (old taken new : List ℕ) (o p : Option Parts) → o ≡ p → TakesBytes old taken o new → TakesBytes old taken p new
found_as old taken new o p is h = subst (λ (q : Option Parts). TakesBytes old taken q new) is h

pub piece_as : {A : Type 0} (old new : Option (List Moment)) (h : HeadWorld) (head : HeadEnd A) (o p : Option PollTurn) → o ≡ p → TakesPiece old new h head (Ok o) → TakesPiece old new h head (Ok p)
piece_as old new h head o p is takes = subst (λ (x : Option PollTurn). TakesPiece old new h head (Ok x)) is takes

pub turn_err : {A : Type 0} (old new : Option (List Moment)) (h : HeadWorld) (head : HeadEnd A) (r : Result PollTurn RunFault) (fault : RunFault) → r ≡ Err fault → TakesTurn old new h head (Err fault) → TakesTurn old new h head r
turn_err old new h head r fault is turned = subst (λ (x : Result PollTurn RunFault). TakesTurn old new h head x) (sym is) turned

pub err_is : {T : Type 0} (r : Result T RunFault) (fault : RunFault) → IsErrAnd r (λ given. given ≡ fault) → r ≡ Err fault
err_is (Ok x) fault is = absurd is
err_is (Err e) fault is = ap (λ (f : RunFault). Err f) is

-- an error of the system, as a fault
pub system_err : {T : Type 0} (r : Result T RunFault) (error : Error) → IsErrAnd r (TellsError error) → (fault : RunFault) × (r ≡ Err fault) × IsOfSystem fault
system_err (Ok x) error is = absurd is
system_err (Err f) error (inl told) = (f, refl, inl told.1)
system_err (Err f) error (inr told) = (f, refl, inr told.1)

taken_all : (n : ℕ) (xs : List ℕ) → n ≤ length xs → length (take n xs) ≡ n
taken_all n xs within = grind (arith, length-take n xs)

-- a read gives as many bytes as it says
pub room : (x : HeardAs) (piece : List ℕ) (count : ℕ) → x ≡ Bytes count → HasRoom x → length piece ≡ PIECE → length (take count piece) ≡ count
room x piece count is fits long =
    let within : count ≤ PIECE = subst (λ (y : HeardAs). HasRoom y) is fits in
    taken_all count piece (subst (λ (n : ℕ). count ≤ n) (sym long) within)

pub room_of : (x : HeardAs) (piece bytes : List ℕ) (count : ℕ) → x ≡ Bytes count → HasRoom x → length piece ≡ PIECE → bytes ≡ take count piece → length bytes ≡ count
room_of x piece bytes count is fits long same = ap (λ (t : List ℕ). length t) same ∙ room x piece count is fits long
