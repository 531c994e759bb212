-- Runs of the carrier over TCP.
use Rattle.std.proofs.Common.{◌≡◌, ◌≢◌, ℕ, ◌+◌, ◌<◌, ◌≤◌, ◌^◌, List, [], ◌∷◌, ◌++◌, length, take, map, refl, sym, ap, subst, ◌∙◌, append_assoc, arith, Option, Some, None, All, false}
use Rattle.std.proofs.lemmas.List.{append-nil, take_all}
use Rattle.std.proofs.lemmas.List.Elements.{All-cons, All-head, All-tail}
use Rattle.dlms_wrapper.specs.Message.{IsMessage, Parts, message_bytes}
use Rattle.dlms_wrapper.specs.Stream.{HasNoMessage, IsFound, Kept, found_bytes, stream_of}
use Rattle.dlms_wrapper.specs.declared.message.TheConstants.{MOST_APDU}
use Rattle.dlms_carrier.specs.Carrying.{Call, Does, Input, Begin, Give, Feed, Wait, End, given, given_by, handed_up, read, read_by, written}
use Rattle.dlms_carrier.specs.Tcp.{Brings, Comes, HandedUp, Hears, Ignored, IsBetween, IsWithin, NoMessage, Reads, Steps, TcpRuns, TcpValue, apdu_in, at_start, fresh, is_notification, last_apdu, message_of}
use Rattle.dlms_carrier.proofs.TcpLemmas.{none_is_refused}
use Rattle.dlms_carrier.specs.declared.event.Event.{Event}
use Rattle.dlms_carrier.specs.declared.event.Event.TheVariants.{Nothing, Up, Apdu, TimedOut, Refused, Insecure}
use Rattle.dlms_carrier.specs.declared.event.Event.TheVariants as event
use Rattle.dlms_carrier.specs.declared.phase.Phase.{Phase}
use Rattle.dlms_carrier.specs.declared.phase.Phase.TheVariants.{Down, Idle, Waiting}

abbrev call_of : Input → Event → List ℕ → List ℕ → Call
call_of input result out apdu = record { input = input; event = result; out = out; apdu = apdu }

-- ---- one step: the ports, the octets that go out, and the reader

record Stays (c new : TcpValue) : Type 0 where
  own : new.own ≡ c.own
  server : new.server ≡ c.server
  text : new.text ≡ c.text
  reader : new.reader ≡ c.reader

stays_at : (p : Phase) (c new : TcpValue) → new ≡ record c { phase = p } → Stays c new
stays_at p c new e = record {
  own = ap (λ (v : TcpValue). v.own) e;
  server = ap (λ (v : TcpValue). v.server) e;
  text = ap (λ (v : TcpValue). v.text) e;
  reader = ap (λ (v : TcpValue). v.reader) e;
}

comes_stays : (result : Event) (c new : TcpValue) → Comes c result new → Stays c new
comes_stays Nothing c new h = stays_at c.phase c new h.2
comes_stays Apdu c new h = stays_at Idle c new h.2
comes_stays (Refused why) c new h = stays_at Down c new h.2
comes_stays Insecure c new h = absurd h
comes_stays Up c new h = absurd h
comes_stays event.Down c new h = absurd h
comes_stays TimedOut c new h = absurd h

-- the octets that go out when this APDU is given, or none
abbrev text_given : ℕ → ℕ → Option (List ℕ) → List ℕ
text_given own server None = []
text_given own server (Some apdu) = message_bytes (message_of own server apdu)

record Passes (input : Input) (c new : TcpValue) : Type 0 where
  own : new.own ≡ c.own
  server : new.server ≡ c.server
  text : new.text ≡ text_given c.own c.server (given_by input)

passes_step : (input : Input) (result : Event) (c new : TcpValue) → Steps c input result new → Passes input c new
passes_step Begin result c new h = record { own = ap (λ (v : TcpValue). v.own) h.2; server = ap (λ (v : TcpValue). v.server) h.2; text = ap (λ (v : TcpValue). v.text) h.2 }
passes_step (Give apdu) result c new h = record { own = ap (λ (v : TcpValue). v.own) h.3; server = ap (λ (v : TcpValue). v.server) h.3; text = ap (λ (v : TcpValue). v.text) h.3 }
passes_step (Feed octets count) result c new h = let s = comes_stays result _ new h.comes in record { own = s.own; server = s.server; text = s.text }
passes_step Wait result c new h = record { own = ap (λ (v : TcpValue). v.own) h.2; server = ap (λ (v : TcpValue). v.server) h.2; text = ap (λ (v : TcpValue). v.text) h.2 }
passes_step End result c new h = record { own = ap (λ (v : TcpValue). v.own) h.2; server = ap (λ (v : TcpValue). v.server) h.2; text = ap (λ (v : TcpValue). v.text) h.2 }

-- ---- what goes out

sent_more : (input : Input) (result : Event) (out apdu : List ℕ) (calls : List Call) (own server : ℕ) → out ≡ text_given own server (given_by input)
    → written calls ≡ stream_of (map (message_of own server) (given calls))
    → written (call_of input result out apdu ∷ calls) ≡ stream_of (map (message_of own server) (given (call_of input result out apdu ∷ calls)))
sent_more Begin result out apdu calls own server e more = ap (λ o. o ++ written calls) e ∙ more
sent_more (Give a) result out apdu calls own server e more = ap (λ o. o ++ written calls) e ∙ ap (λ w. message_bytes (message_of own server a) ++ w) more
sent_more (Feed octets count) result out apdu calls own server e more = ap (λ o. o ++ written calls) e ∙ more
sent_more Wait result out apdu calls own server e more = ap (λ o. o ++ written calls) e ∙ more
sent_more End result out apdu calls own server e more = ap (λ o. o ++ written calls) e ∙ more

pub sent : (calls : List Call) (old new : TcpValue) → TcpRuns old calls new → written calls ≡ stream_of (map (message_of old.own old.server) (given calls))
sent [] old new run = refl
sent (call ∷ calls) old new (mid, does, run) =
    let s = passes_step call.input call.event old mid does.step in
    let more = sent calls mid new run in
    let more_own = subst (λ o. written calls ≡ stream_of (map (message_of o mid.server) (given calls))) s.own more in
    let more_both = subst (λ o. written calls ≡ stream_of (map (message_of old.own o) (given calls))) s.server more_own in
    sent_more call.input call.event call.out call.apdu calls old.own old.server (does.out ∙ s.text) more_both

-- ---- after the connection's end

unheard : (input : Input) (result : Event) (out apdu : List ℕ) (calls : List Call) → result ≢ Apdu → handed_up (call_of input result out apdu ∷ calls) ≡ handed_up calls
unheard input Nothing out apdu calls e = refl
unheard input Up out apdu calls e = refl
unheard input Apdu out apdu calls e = absurd (e refl)
unheard input event.Down out apdu calls e = refl
unheard input TimedOut out apdu calls e = refl
unheard input (Refused why) out apdu calls e = refl
unheard input Insecure out apdu calls e = refl

record Drops (result : Event) (c new : TcpValue) : Type 0 where
  event : result ≢ Apdu
  phase : new.phase ≡ Down
  reader : new.reader ≡ c.reader

drops_comes : (result : Event) (c new : TcpValue) → c.phase ≡ Down → Comes c result new → Drops result c new
drops_comes Nothing c new down h = record { event = λ e. cc; phase = ap (λ (v : TcpValue). v.phase) h.2 ∙ down; reader = ap (λ (v : TcpValue). v.reader) h.2 }
drops_comes Apdu c new down h = let waits = h.0.0 in cc
drops_comes (Refused why) c new down h = absurd (h.0 down)
drops_comes Insecure c new down h = absurd h
drops_comes Up c new down h = absurd h
drops_comes event.Down c new down h = absurd h
drops_comes TimedOut c new down h = absurd h

drops_step : (input : Input) (result : Event) (c new : TcpValue) → c.phase ≡ Down → input ≢ Begin → Steps c input result new → Drops result c new
drops_step Begin result c new down within h = absurd (within refl)
drops_step (Give apdu) result c new down within h = let idle = h.0 in cc
drops_step (Feed octets count) result c new down within h =
    let d = drops_comes result _ new down h.comes in
    record { event = d.event; phase = d.phase; reader = d.reader ∙ h.drops down }
drops_step Wait result c new down within h = let waits = h.0 in cc
drops_step End result c new down within h = let idle = h.0 in cc

record IsOver (calls : List Call) (old new : TcpValue) : Type 0 where
  handed : handed_up calls ≡ []
  phase : new.phase ≡ Down
  reader : new.reader ≡ old.reader

over : (calls : List Call) (old new : TcpValue) → old.phase ≡ Down → All IsWithin calls → TcpRuns old calls new → IsOver calls old new
over [] old new down within run = record { handed = refl; phase = ap (λ (v : TcpValue). v.phase) run ∙ down; reader = ap (λ (v : TcpValue). v.reader) run }
over (call ∷ calls) old new down within (mid, does, run) =
    let d = drops_step call.input call.event old mid down (All-head IsWithin call calls within) does.step in
    let o = over calls mid new d.phase (All-tail IsWithin call calls within) run in
    record { handed = unheard call.input call.event call.out call.apdu calls d.event ∙ o.handed; phase = o.phase; reader = o.reader ∙ d.reader }

-- ---- what comes in

-- octets complete a message that is not handed up, or none
ignores : (own server : ℕ) (kept octets left more : List ℕ) (found : Option Parts) (apdus : List (List ℕ)) (new : TcpValue)
    → kept ++ octets ≡ found_bytes found ++ left → IsFound MOST_APDU found → Brings own server left more apdus new → Brings own server kept (octets ++ more) apdus new
ignores own server kept octets left more None apdus new e fits b = record {
  stream = octets ++ b.stream;
  dropped = b.dropped;
  messages = b.messages;
  text = ap (λ t. octets ++ t) b.text ∙ sym (append_assoc octets b.stream b.dropped);
  splits = record {
    text = sym (append_assoc kept octets b.stream) ∙ (ap (λ t. t ++ b.stream) e ∙ b.splits.text);
    each = b.splits.each;
    partial = b.splits.partial;
  };
  among = b.among;
  none = b.none;
}
ignores own server kept octets left more (Some m) apdus new e fits b = record {
  stream = octets ++ b.stream;
  dropped = b.dropped;
  messages = m ∷ b.messages;
  text = ap (λ t. octets ++ t) b.text ∙ sym (append_assoc octets b.stream b.dropped);
  splits = record {
    text = sym (append_assoc kept octets b.stream) ∙ (ap (λ t. t ++ b.stream) e ∙ (append_assoc (message_bytes m) left b.stream ∙ (ap (λ t. message_bytes m ++ t) b.splits.text ∙ sym (append_assoc (message_bytes m) (stream_of b.messages) new.reader.bytes))));
    each = All-cons (IsMessage MOST_APDU) m b.messages fits b.splits.each;
    partial = b.splits.partial;
  };
  among = Ignored m apdus b.messages b.among;
  none = b.none;
}

-- octets complete the message that is handed up
hands : (own server : ℕ) (kept octets left more apdu : List ℕ) (apdus : List (List ℕ)) (new : TcpValue)
    → kept ++ octets ≡ message_bytes (message_of server own apdu) ++ left → IsMessage MOST_APDU (message_of server own apdu) → is_notification apdu ≡ false
    → Brings own server left more apdus new → Brings own server kept (octets ++ more) (apdu ∷ apdus) new
hands own server kept octets left more apdu apdus new e fits answers b =
    let m : Parts = message_of server own apdu in
    record {
      stream = octets ++ b.stream;
      dropped = b.dropped;
      messages = m ∷ b.messages;
      text = ap (λ t. octets ++ t) b.text ∙ sym (append_assoc octets b.stream b.dropped);
      splits = record {
        text = sym (append_assoc kept octets b.stream) ∙ (ap (λ t. t ++ b.stream) e ∙ (append_assoc (message_bytes m) left b.stream ∙ (ap (λ t. message_bytes m ++ t) b.splits.text ∙ sym (append_assoc (message_bytes m) (stream_of b.messages) new.reader.bytes))));
        each = All-cons (IsMessage MOST_APDU) m b.messages fits b.splits.each;
        partial = b.splits.partial;
      };
      among = HandedUp apdu apdus b.messages answers b.among;
      none = b.none;
    }

-- the message that was completed is from the meter to the client: it is that of its APDU
between_is : (source dest : ℕ) (found : Option Parts) (b : IsBetween source dest found) → found ≡ Some (message_of source dest b.message.apdu)
between_is source dest found b =
    b.whole ∙ ap Some (ap (λ s. message_of s b.message.dest b.message.apdu) b.from ∙ ap (λ d. message_of source d b.message.apdu) b.to)

-- the calls after one that reads octets
feed_more : (result : Event) (arrived : List ℕ) (count : ℕ) (octets out apdu : List ℕ) (calls : List Call) (reader : Kept) (c mid new : TcpValue)
    → Comes (record c { reader = reader; text = [] }) result mid → apdu ≡ apdu_in reader.message
    → c.reader.bytes ++ octets ≡ found_bytes reader.message ++ reader.bytes → IsFound MOST_APDU reader.message
    → Brings c.own c.server reader.bytes (read calls) (handed_up calls) new
    → Brings c.own c.server c.reader.bytes (octets ++ read calls) (handed_up (call_of (Feed arrived count) result out apdu ∷ calls)) new
feed_more Nothing arrived count octets out apdu calls reader c mid new comes same e fits b = ignores c.own c.server c.reader.bytes octets reader.bytes (read calls) reader.message (handed_up calls) new e fits b
feed_more (Refused why) arrived count octets out apdu calls reader c mid new comes same e fits b = ignores c.own c.server c.reader.bytes octets reader.bytes (read calls) reader.message (handed_up calls) new e fits b
feed_more Insecure arrived count octets out apdu calls reader c mid new comes same e fits b = absurd comes
feed_more Apdu arrived count octets out apdu calls reader c mid new comes same e fits b =
    let is = between_is c.server c.own reader.message comes.0.1 in
    let a : List ℕ = comes.0.1.message.apdu in
    let whole = hands c.own c.server c.reader.bytes octets reader.bytes (read calls) a (handed_up calls) new (subst (λ f. c.reader.bytes ++ octets ≡ found_bytes f ++ reader.bytes) is e) (subst (IsFound MOST_APDU) is fits) comes.0.1.answers b in
    subst (λ x. Brings c.own c.server c.reader.bytes (octets ++ read calls) (x ∷ handed_up calls) new) (sym (same ∙ ap apdu_in is)) whole
feed_more Up arrived count octets out apdu calls reader c mid new comes same e fits b = absurd comes
feed_more event.Down arrived count octets out apdu calls reader c mid new comes same e fits b = absurd comes
feed_more TimedOut arrived count octets out apdu calls reader c mid new comes same e fits b = absurd comes

-- what a carrier keeps between two calls
record IsSound (c : TcpValue) : Type 0 where
  limit : c.reader.limit ≡ MOST_APDU
  rest : HasNoMessage MOST_APDU c.reader.bytes

sound_reader : (c mid : TcpValue) → mid.reader ≡ c.reader → IsSound c → IsSound mid
sound_reader c mid e sound = record {
  limit = ap (λ (r : Kept). r.limit) e ∙ sound.limit;
  rest = subst (λ (r : Kept). HasNoMessage MOST_APDU r.bytes) (sym e) sound.rest;
}

sound_reads : (c mid : TcpValue) (octets : List ℕ) (reader : Kept) → mid.reader ≡ reader → Reads c.reader octets reader → IsSound c → IsSound mid
sound_reads c mid octets reader e reads sound = record {
  limit = ap (λ (r : Kept). r.limit) e ∙ (reads.limit ∙ sound.limit);
  rest = subst (λ (r : Kept). HasNoMessage MOST_APDU r.bytes) (sym e) (subst (λ l. HasNoMessage l reader.bytes) sound.limit reads.takes.rest);
}

sound_step : (input : Input) (result : Event) (c mid : TcpValue) → c.phase ≢ Down → input ≢ Begin → Steps c input result mid → IsSound c → IsSound mid
sound_step Begin result c mid up within h sound = absurd (within refl)
sound_step (Give apdu) result c mid up within h sound = sound_reader c mid (ap (λ (v : TcpValue). v.reader) h.3) sound
sound_step (Feed octets count) result c mid up within h sound = sound_reads c mid (take count octets) h.reader (comes_stays result _ mid h.comes).reader (h.reads up) sound
sound_step Wait result c mid up within h sound = sound_reader c mid (ap (λ (v : TcpValue). v.reader) h.2) sound
sound_step End result c mid up within h sound = sound_reader c mid (ap (λ (v : TcpValue). v.reader) h.2) sound

-- the calls after one that reads nothing and hands nothing up
quiet : (input : Input) (result : Event) (out apdu : List ℕ) (calls : List Call) (c mid new : TcpValue) → result ≢ Apdu → read_by input ≡ [] → mid.reader ≡ c.reader
    → Brings c.own c.server mid.reader.bytes (read calls) (handed_up calls) new
    → Brings c.own c.server c.reader.bytes (read_by input ++ read calls) (handed_up (call_of input result out apdu ∷ calls)) new
quiet input result out apdu calls c mid new e none same b =
    let by_reader = subst (λ (r : Kept). Brings c.own c.server r.bytes (read calls) (handed_up calls) new) same b in
    let by_octets = subst (λ o. Brings c.own c.server c.reader.bytes (o ++ read calls) (handed_up calls) new) (sym none) by_reader in
    subst (λ x. Brings c.own c.server c.reader.bytes (read_by input ++ read calls) x new) (sym (unheard input result out apdu calls e)) by_octets

-- a call while the connection is up, and those after it
up_more : (input : Input) (result : Event) (out apdu : List ℕ) (calls : List Call) (c mid new : TcpValue) → c.phase ≢ Down → input ≢ Begin → IsSound c
    → Steps c input result mid → apdu ≡ last_apdu mid → Brings c.own c.server mid.reader.bytes (read calls) (handed_up calls) new
    → Brings c.own c.server c.reader.bytes (read_by input ++ read calls) (handed_up (call_of input result out apdu ∷ calls)) new
up_more Begin result out apdu calls c mid new up within sound h same b = absurd (within refl)
up_more (Give a) result out apdu calls c mid new up within sound h same b =
    let is = h.2 in quiet (Give a) result out apdu calls c mid new (λ e. cc) refl (ap (λ (v : TcpValue). v.reader) h.3) b
up_more Wait result out apdu calls c mid new up within sound h same b =
    let is = h.1 in quiet Wait result out apdu calls c mid new (λ e. cc) refl (ap (λ (v : TcpValue). v.reader) h.2) b
up_more End result out apdu calls c mid new up within sound h same b =
    let is = h.1 in quiet End result out apdu calls c mid new (λ e. cc) refl (ap (λ (v : TcpValue). v.reader) h.2) b
up_more (Feed octets count) result out apdu calls c mid new up within sound h same b =
    let stays = comes_stays result _ mid h.comes in
    let reads = h.reads up in
    let fits = subst (λ l. IsFound l h.reader.message) sound.limit reads.takes.message in
    let by_reader = subst (λ (r : Kept). Brings c.own c.server r.bytes (read calls) (handed_up calls) new) stays.reader b in
    feed_more result octets count (take count octets) out apdu calls h.reader c mid new h.comes (same ∙ ap (λ (r : Kept). apdu_in r.message) stays.reader) reads.takes.text fits by_reader

-- no octet was read
nothing_read : (own server : ℕ) (octets : List ℕ) (c new : TcpValue) → IsSound c → new.reader ≡ c.reader → (new.phase ≢ Down → octets ≡ []) → Brings own server c.reader.bytes octets [] new
nothing_read own server octets c new sound same none = record {
  stream = [];
  dropped = octets;
  messages = [];
  text = refl;
  splits = record {
    text = append-nil c.reader.bytes ∙ sym (ap (λ (r : Kept). r.bytes) same);
    each = λ k d within. absurd (omega arith);
    partial = subst (λ (r : Kept). HasNoMessage MOST_APDU r.bytes) (sym same) sound.rest;
  };
  among = NoMessage;
  none = none;
}

all_dropped : (calls : List Call) (old new : TcpValue) → old.phase ≡ Down → IsSound old → All IsWithin calls → TcpRuns old calls new
    → Brings old.own old.server old.reader.bytes (read calls) (handed_up calls) new
all_dropped calls old new down sound within run =
    let o = over calls old new down within run in
    subst (λ x. Brings old.own old.server old.reader.bytes (read calls) x new) (sym o.handed) (nothing_read old.own old.server (read calls) old new sound o.reader (λ up. absurd (up o.phase)))

-- one call, and those after it
up_first : (call : Call) (calls : List Call) (old mid new : TcpValue) → old.phase ≢ Down → IsSound old → IsWithin call → Does Steps (λ c. c.text) last_apdu old call mid
    → (IsSound mid → Brings mid.own mid.server mid.reader.bytes (read calls) (handed_up calls) new)
    → Brings old.own old.server old.reader.bytes (read (call ∷ calls)) (handed_up (call ∷ calls)) new
up_first call calls old mid new up sound within does others =
    let s = passes_step call.input call.event old mid does.step in
    let more = others (sound_step call.input call.event old mid up within does.step sound) in
    let more_own = subst (λ o. Brings o mid.server mid.reader.bytes (read calls) (handed_up calls) new) s.own more in
    let more_both = subst (λ o. Brings old.own o mid.reader.bytes (read calls) (handed_up calls) new) s.server more_own in
    up_more call.input call.event call.out call.apdu calls old mid new up within sound does.step does.apdu more_both

in_phase : (p : Phase) (call : Call) (calls : List Call) (old mid new : TcpValue) → old.phase ≡ p → IsSound old → All IsWithin (call ∷ calls)
    → Does Steps (λ c. c.text) last_apdu old call mid → TcpRuns mid calls new
    → (IsSound mid → Brings mid.own mid.server mid.reader.bytes (read calls) (handed_up calls) new)
    → Brings old.own old.server old.reader.bytes (read (call ∷ calls)) (handed_up (call ∷ calls)) new
in_phase Down call calls old mid new e sound within does run others = all_dropped (call ∷ calls) old new e sound within (mid, does, run)
in_phase Idle call calls old mid new e sound within does run others = up_first call calls old mid new (λ down. cc) sound (All-head IsWithin call calls within) does others
in_phase Waiting call calls old mid new e sound within does run others = up_first call calls old mid new (λ down. cc) sound (All-head IsWithin call calls within) does others

brings : (calls : List Call) (old new : TcpValue) → IsSound old → All IsWithin calls → TcpRuns old calls new → Brings old.own old.server old.reader.bytes (read calls) (handed_up calls) new
brings [] old new sound within run = nothing_read old.own old.server [] old new sound (ap (λ (v : TcpValue). v.reader) run) (λ up. refl)
brings (call ∷ calls) old new sound within (mid, does, run) =
    in_phase old.phase call calls old mid new refl sound within does run (λ s. brings calls mid new s (All-tail IsWithin call calls within) run)

no_octets : (limit : ℕ) → HasNoMessage limit []
no_octets limit m after fits e = cc

begun : (input : Input) (result : Event) (old mid : TcpValue) → input ≡ Begin → Steps old input result mid → mid ≡ record old { phase = Idle; reader = at_start; text = [] }
begun Begin result old mid e h = h.2
begun (Give apdu) result old mid e h = cc
begun (Feed octets count) result old mid e h = cc
begun Wait result old mid e h = cc
begun End result old mid e h = cc

pub received : (old new : TcpValue) (begin : Call) (calls : List Call) → begin.input ≡ Begin → All IsWithin calls → TcpRuns old (begin ∷ calls) new
    → Brings old.own old.server [] (read calls) (handed_up calls) new
received old new begin calls e within (mid, does, run) =
    let is = begun begin.input begin.event old mid e does.step in
    let run_on = subst (λ (v : TcpValue). TcpRuns v calls new) is run in
    brings calls (record old { phase = Idle; reader = at_start; text = [] }) new (record { limit = refl; rest = no_octets MOST_APDU }) within run_on

-- ---- no more APDUs are handed up than were given

abbrev pending : Phase → ℕ
pending Down = 0
pending Idle = 0
pending Waiting = 1

pending_at : (p : Phase) (c new : TcpValue) → new ≡ record c { phase = p } → pending new.phase ≡ pending p
pending_at p c new e = ap (λ (v : TcpValue). pending v.phase) e

count_heard : (result : Event) (c mid : TcpValue) (apdu : List ℕ) (calls : List Call) (octets : List ℕ) (count : ℕ) (out : List ℕ) (given_later after : ℕ) → Comes c result mid
    → length (handed_up calls) + after ≤ given_later + pending mid.phase
    → length (handed_up (call_of (Feed octets count) result out apdu ∷ calls)) + after ≤ given_later + pending c.phase
count_heard Nothing c mid apdu calls octets count out given_later after h more = let e = ap (λ (v : TcpValue). pending v.phase) h.2 in omega (arith, e, more)
count_heard Apdu c mid apdu calls octets count out given_later after h more = let e = pending_at Idle c mid h.2 in let f = ap pending h.0.0 in omega (arith, e, f, more)
count_heard (Refused why) c mid apdu calls octets count out given_later after h more = let e = pending_at Down c mid h.2 in omega (arith, e, more)
count_heard Insecure c mid apdu calls octets count out given_later after h more = absurd h
count_heard Up c mid apdu calls octets count out given_later after h more = absurd h
count_heard event.Down c mid apdu calls octets count out given_later after h more = absurd h
count_heard TimedOut c mid apdu calls octets count out given_later after h more = absurd h

count_more : (input : Input) (result : Event) (out apdu : List ℕ) (calls : List Call) (c mid : TcpValue) (after : ℕ) → Steps c input result mid
    → length (handed_up calls) + after ≤ length (given calls) + pending mid.phase
    → length (handed_up (call_of input result out apdu ∷ calls)) + after ≤ length (given (call_of input result out apdu ∷ calls)) + pending c.phase
count_more Begin result out apdu calls c mid after h more =
    let e = ap (λ (v : TcpValue). pending v.phase) h.2 in
    let none = ap length (unheard Begin result out apdu calls (λ is. let up = h.1 in cc)) in omega (arith, e, none, more)
count_more (Give a) result out apdu calls c mid after h more =
    let e = ap (λ (v : TcpValue). pending v.phase) h.3 in
    let none = ap length (unheard (Give a) result out apdu calls (λ is. let up = h.2 in cc)) in omega (arith, e, none, more)
count_more (Feed octets count) result out apdu calls c mid after h more = count_heard result _ mid apdu calls octets count out (length (given calls)) after h.comes more
count_more Wait result out apdu calls c mid after h more =
    let e = ap (λ (v : TcpValue). pending v.phase) h.2 in
    let none = ap length (unheard Wait result out apdu calls (λ is. let up = h.1 in cc)) in omega (arith, e, none, more)
count_more End result out apdu calls c mid after h more =
    let e = ap (λ (v : TcpValue). pending v.phase) h.2 in
    let none = ap length (unheard End result out apdu calls (λ is. let up = h.1 in cc)) in omega (arith, e, none, more)

counted : (calls : List Call) (old new : TcpValue) → TcpRuns old calls new → length (handed_up calls) + pending new.phase ≤ length (given calls) + pending old.phase
counted [] old new run = let e = ap (λ (v : TcpValue). pending v.phase) run in omega (arith, e)
counted (call ∷ calls) old new (mid, does, run) =
    count_more call.input call.event call.out call.apdu calls old mid (pending new.phase) does.step (counted calls mid new run)

pub one_each : (own server : ℕ) (calls : List Call) (new : TcpValue) → TcpRuns (fresh own server) calls new → length (handed_up calls) ≤ length (given calls)
one_each own server calls new run = omega (arith, counted calls (fresh own server) new run)

-- ---- one exchange

pub exchange : (own server : ℕ) (apdu answer : List ℕ) → own < 2 ^ 16 → server < 2 ^ 16 → length apdu ≤ MOST_APDU → length answer ≤ MOST_APDU → is_notification answer ≡ false
    → (calls : List Call) × (new : TcpValue) × TcpRuns (fresh own server) calls new × (given calls ≡ apdu ∷ []) × (handed_up calls ≡ answer ∷ [])
exchange own server apdu answer port meter short fits answers =
    let m : Parts = message_of server own answer in
    let got : Kept = record { limit = MOST_APDU; bytes = []; message = Some m } in
    let up : TcpValue = record (fresh own server) { phase = Idle; reader = at_start; text = [] } in
    let asked : TcpValue = record up { phase = Waiting; text = message_bytes (message_of own server apdu) } in
    let done : TcpValue = record asked { phase = Idle; reader = got; text = [] } in
    let begins : Call = call_of Begin Up [] [] in
    let gives : Call = call_of (Give apdu) Nothing (message_bytes (message_of own server apdu)) [] in
    let hears : Call = call_of (Feed (message_bytes m) (length (message_bytes m))) Apdu [] answer in
    let all : take (length (message_bytes m)) (message_bytes m) ≡ message_bytes m = take_all (length (message_bytes m)) (message_bytes m) (omega arith) in
    let reads : Reads at_start (take (length (message_bytes m)) (message_bytes m)) got = record {
      limit = refl;
      takes = record { text = all ∙ sym (append-nil (message_bytes m)); message = record { source = meter; dest = port; short = fits }; rest = no_octets MOST_APDU };
    } in
    let heard : Hears asked (take (length (message_bytes m)) (message_bytes m)) Apdu done = record {
      reader = got;
      reads = λ open_. reads;
      drops = λ down. cc;
      comes = ((refl, record { message = m; whole = refl; from = refl; to = refl; answers = answers }), none_is_refused MOST_APDU, refl);
    } in
    let first : Does Steps (λ c. c.text) last_apdu (fresh own server) begins up = record { step = (refl, refl, refl); out = refl; apdu = refl } in
    let second : Does Steps (λ c. c.text) last_apdu up gives asked = record { step = (refl, short, refl, refl); out = refl; apdu = refl } in
    let third : Does Steps (λ c. c.text) last_apdu asked hears done = record { step = heard; out = refl; apdu = refl } in
    (begins ∷ gives ∷ hears ∷ [], done, (up, first, (asked, second, (done, third, refl))), refl, refl)
