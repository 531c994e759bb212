-- The segments sent are the LLC and the APDU.
use Rattle.std.proofs.Common.{append_assoc, ◌≡◌, ℕ, ◌≤◌, ◌<◌, ◌==◌, ◌&&◌, ◌⊎◌, inl, inr, if◌then◌else◌, refl, sym, ◌∙◌, arith, ap, Bool, true, false, List, [], ◌∷◌, ◌++◌, length, take, drop, map, All, None, Some, Option, length-append, length-drop}
use Rattle.std.proofs.lemmas.Bool.Decides.{nat_tests}
use Rattle.std.proofs.lemmas.List.{take-append-drop, length-take}
use Rattle.std.proofs.lemmas.List.Elements.{All-cons, All-nil, All-head}
use Rattle.dlms_frame.specs.Frame.{Parts}
use Rattle.dlms_link.specs.declared.out.LinkOut.TheVariants.{Reply}
use Rattle.dlms_link.specs.declared.out.ClientOut.{ClientOut}
use Rattle.dlms_link.specs.declared.out.ClientOut.TheVariants.{Send}
use Rattle.dlms_link.specs.declared.control.Control.{Control}
use Rattle.dlms_link.specs.declared.control.Control.TheVariants.{Snrm, Disc, Ua, Dm, Information, Ready, NotReady, Other}
use Rattle.dlms_link.specs.declared.server_row.ServerRow.TheVariants.{Keeps, HandsUp, Repeats, SendsNext, SaysReady, Ignores}
use Rattle.dlms_link.specs.declared.client_row.ClientRow.TheVariants.{Takes, TakenBefore, LetsNext, Leaves}
use Rattle.dlms_link.specs.Octet.{control_of, before}
use Rattle.dlms_link.specs.Kept.{Fresh, capped, llc, from_meter, from_client, is_more}
use Rattle.dlms_link.specs.Server.{ServerRecord, row_of, row_of_snrm, is_meter, is_client, row_while_up, row_while_down, was_information, server_send, segment_of}
use Rattle.dlms_link.specs.Parameters.{size_of}
use Rattle.dlms_link.specs.Client.{ClientRecord, way_of, client_step, client_timeout, client_send, client_segment}
use Rattle.dlms_link.specs.Segments.{joined, kept_after_all, read_whole, IsSegmented, IsUnderWay}
use Rattle.dlms_link.specs.Between.{MeterGoes, NothingCame, MeterTakes, MeterSends, MeterPasses, Heard, ClientGoes, NothingHeard, ClientTakes, ClientSends, ClientAnswersAgain, ClientPasses, ClientWaits}
use Rattle.dlms_link.proofs.Passing.{passes, by_way_of, waits_on, takes_drops}
use Rattle.dlms_link.proofs.Whole.{read_at_once}

same : (n : ℕ) → (n == n) ≡ true
same n = grind (arith, nat_tests)

-- what is left is sent: nothing, or in segments
abbrev IsSent : ℕ → List ℕ → List Parts → Type 0
IsSent size text frames = ((text ≡ []) × (frames ≡ [])) ⊎ ((is_more text ≡ true) × IsSegmented size text frames)

not_more : (xs : List ℕ) → is_more xs ≡ true → 0 < length xs
not_more [] e = cc
not_more (x ∷ xs) e = omega arith

fills : (size : ℕ) (text : List ℕ) → is_more (drop size text) ≡ true → length (take size text) ≡ size
fills size text h = omega (arith, not_more (drop size text) h, length-drop size text, length-take size text)

-- a text whose first segment is this frame, and the rest of it in those that follow
begins : (size : ℕ) (text : List ℕ) (f : Parts) (frames : List Parts) → f.info ≡ take size text → f.segmented ≡ is_more (drop size text) → IsSent size (drop size text) frames → IsSegmented size text (f ∷ frames)
begins size text f frames ei es (inl h) = record {
  front = [];
  last = f;
  in_order = rw h.1 refl;
  text_joined = rw (h.1, ei) (ap (λ zs. take size text ++ zs) (sym h.0) ∙ take-append-drop size text);
  full = All-nil (λ (g : Parts). length g.info ≡ size);
  go_on = All-nil (λ (g : Parts). g.segmented ≡ true);
  short = rw ei (omega (arith, length-take size text));
  ends = es ∙ ap is_more h.0;
}
begins size text f frames ei es (inr h) =
    let s = h.1 in
    record {
      front = f ∷ s.front;
      last = s.last;
      in_order = ap (λ gs. f ∷ gs) s.in_order;
      text_joined = rw (ei, s.text_joined) (take-append-drop size text);
      full = All-cons (λ (g : Parts). length g.info ≡ size) f s.front (rw ei (fills size text h.0)) s.full;
      go_on = All-cons (λ (g : Parts). g.segmented ≡ true) f s.front (es ∙ h.0) s.go_on;
      short = s.short;
      ends = s.ends;
    }

-- the row of the next segment is met only if a segment is unsent
snrm_sends_none : (o : Option ℕ) → row_of_snrm o ≡ SendsNext → ⊥
snrm_sends_none None e = cc
snrm_sends_none (Some size) e = cc

information_sends_none : (a b c : Bool) → (if a then (if b then Keeps else HandsUp) else (if c then Repeats else Ignores)) ≡ SendsNext → ⊥
information_sends_none true true c e = cc
information_sends_none true false c e = cc
information_sends_none false b true e = cc
information_sends_none false b false e = cc

ready_sends : (a m c : Bool) → (if a then (if m then SendsNext else SaysReady) else (if c then Repeats else Ignores)) ≡ SendsNext → m ≡ true
ready_sends true true c e = refl
ready_sends true false c e = cc
ready_sends false m true e = cc
ready_sends false m false e = cc

up_sends : (r : ServerRecord) (segmented : Bool) (info : List ℕ) (k : Control) → row_while_up r segmented info k ≡ SendsNext → is_more r.unsent ≡ true
up_sends r segmented info Snrm e = absurd (snrm_sends_none (size_of info) e)
up_sends r segmented info Disc e = cc
up_sends r segmented info Ua e = cc
up_sends r segmented info Dm e = cc
up_sends r segmented info NotReady e = cc
up_sends r segmented info Other e = cc
up_sends r segmented info (Information s n) e = absurd (information_sends_none ((s == r.receive_next) && (n == r.send_next)) segmented ((s == before r.receive_next) && r.took_information) e)
up_sends r segmented info (Ready n) e = ready_sends (n == r.send_next) (is_more r.unsent) ((n == before r.send_next) && was_information r.last) e

down_sends_none : (info : List ℕ) (k : Control) → row_while_down info k ≡ SendsNext → ⊥
down_sends_none info Snrm e = absurd (snrm_sends_none (size_of info) e)
down_sends_none info Disc e = cc
down_sends_none info Ua e = cc
down_sends_none info Dm e = cc
down_sends_none info NotReady e = cc
down_sends_none info Other e = cc
down_sends_none info (Information s n) e = cc
down_sends_none info (Ready n) e = cc

sends_more : (r : ServerRecord) (f : Parts) → row_of r f ≡ SendsNext → is_more r.unsent ≡ true
unfolding row_of
sends_more r f e = by_tests (is_meter f.dest && is_client r.client f.src) r.up e
  where
    by_tests : (a up : Bool) → (if a then (if up then row_while_up r f.segmented f.info (control_of f.control) else row_while_down f.info (control_of f.control)) else Ignores) ≡ SendsNext → is_more r.unsent ≡ true
    by_tests true true e = up_sends r f.segmented f.info (control_of f.control) e
    by_tests true false e = absurd (down_sends_none f.info (control_of f.control) e)
    by_tests false up e = cc

is_reply : (f g : Parts) → Reply f ≡ Reply g → f ≡ g
is_reply f g e = cc

more_behind : (xs ys : List ℕ) → is_more ys ≡ true → is_more (xs ++ ys) ≡ true
more_behind [] ys e = e
more_behind (x ∷ xs) ys e = refl

-- of a text that is unsent, if there is one, these frames have gone out
record IsOnWay (size : ℕ) (text : List ℕ) (frames : List Parts) (rest : List ℕ) : Type 0 where
  together : joined (map (λ (f : Parts). f.info) frames) ++ rest ≡ text
  full : is_more rest ≡ true → All (λ (f : Parts). length f.info ≡ size) frames
  go_on : is_more rest ≡ true → All (λ (f : Parts). f.segmented ≡ true) frames
  ends : rest ≡ [] → IsSent size text frames

none_sent : (size : ℕ) (text : List ℕ) → IsOnWay size text [] text
none_sent size text = record {
  together = refl;
  full = λ h. All-nil (λ (f : Parts). length f.info ≡ size);
  go_on = λ h. All-nil (λ (f : Parts). f.segmented ≡ true);
  ends = λ e. inl (e, refl);
}

-- a frame, and those that follow it
one_more : (size : ℕ) (text : List ℕ) (f : Parts) (frames : List Parts) (rest : List ℕ) → f.info ≡ take size text → f.segmented ≡ is_more (drop size text) → IsOnWay size (drop size text) frames rest → IsUnderWay size text (f ∷ frames) rest
one_more size text f frames rest ei es s =
    let infos = joined (map (λ (g : Parts). g.info) frames) in
    let more : is_more rest ≡ true → is_more (drop size text) ≡ true = λ h. ap is_more (sym s.together) ∙ more_behind infos rest h in
    record {
      together = ap (λ zs. (zs ++ infos) ++ rest) ei ∙ append_assoc (take size text) infos rest ∙ ap (λ zs. take size text ++ zs) s.together ∙ take-append-drop size text;
      full = λ h. All-cons (λ (g : Parts). length g.info ≡ size) f frames (ap length ei ∙ fills size text (more h)) (s.full h);
      go_on = λ h. All-cons (λ (g : Parts). g.segmented ≡ true) f frames (es ∙ more h) (s.go_on h);
      ends = λ e. begins size text f frames ei es (s.ends e);
    }

on_way : (size : ℕ) (text : List ℕ) (frames : List Parts) (rest : List ℕ) → is_more text ≡ true → IsUnderWay size text frames rest → IsOnWay size text frames rest
on_way size text frames rest h s = record { together = s.together; full = s.full; go_on = s.go_on; ends = λ e. inr (h, s.ends e) }

meter_goes : {r now : ServerRecord} {frames sent : List Parts} {taken : List (List ℕ)} → MeterGoes r frames taken sent now → IsOnWay r.size r.unsent sent now.unsent
meter_goes (NothingCame r) = none_sent r.size r.unsent
meter_goes (MeterTakes r f frames taken sent now er more) = let later = meter_goes more in rw er at later
meter_goes (MeterSends r f segment frames taken sent now er es more) =
    let later = meter_goes more in
    let after = rw er at later in
    let reply = rw er at es in
    let one : segment_of r f.dest ≡ segment = is_reply (segment_of r f.dest) segment reply in
    on_way r.size r.unsent (segment ∷ sent) now.unsent (sends_more r f er) (one_more r.size r.unsent segment sent now.unsent (ap (λ (g : Parts). g.info) (sym one)) (ap (λ (g : Parts). g.segmented) (sym one)) after)
meter_goes (MeterPasses r f frames taken sent now p more) =
    let e = passes r f (row_of r f) p in
    let later = meter_goes more in
    rw (e.size, e.unsent) at later

pub meter_sends : (r now : ServerRecord) (answer : List ℕ) (frames sent : List Parts) (taken : List (List ℕ)) → MeterGoes (server_send r answer).0 frames taken sent now →
    IsUnderWay r.size (llc from_meter ++ answer) ((server_send r answer).1 ∷ sent) now.unsent
meter_sends r now answer frames sent taken h = one_more r.size (llc from_meter ++ answer) (server_send r answer).1 sent now.unsent refl refl (meter_goes h)

-- the client's next segment is sent only if one is unsent
information_lets_none : (a b : Bool) → (if a then Takes else (if b then TakenBefore else Leaves)) ≡ LetsNext → ⊥
information_lets_none true b e = cc
information_lets_none false true e = cc
information_lets_none false false e = cc

ready_lets : (a m : Bool) → (if a && m then LetsNext else Leaves) ≡ LetsNext → m ≡ true
ready_lets true true e = refl
ready_lets true false e = cc
ready_lets false m e = cc

lets_more : (c : ClientRecord) (k : Control) → way_of c k ≡ LetsNext → is_more c.unsent ≡ true
unfolding way_of
lets_more c (Information s n) e = absurd (information_lets_none ((s == c.receive_next) && (n == c.send_next)) (s == before c.receive_next) e)
lets_more c (Ready n) e = ready_lets (n == c.send_next) (is_more c.unsent) e
lets_more c Snrm e = cc
lets_more c Disc e = cc
lets_more c Ua e = cc
lets_more c Dm e = cc
lets_more c NotReady e = cc
lets_more c Other e = cc

is_sent : (f g : Parts) → Send f ≡ Send g → f ≡ g
is_sent f g e = cc

-- what the client sends, and the rest if no segment was taken yet
record ClientIsOnWay (c now : ClientRecord) (taken : List (List ℕ)) (sent : List Parts) : Type 0 where
  rest : List ℕ
  on : IsOnWay c.size c.unsent sent rest
  left : taken ≡ [] → now.unsent ≡ rest

none_left : (size : ℕ) (text : List ℕ) (frames : List Parts) (rest : List ℕ) → text ≡ [] → IsOnWay size text frames rest → frames ≡ []
none_left size text [] rest e s = refl
none_left size text (f ∷ frames) [] e s = elim (s.ends refl) [ inl h ↦ h.1 | inr h ↦ (let none = rw e at h.0 in cc) ]
none_left size text (f ∷ frames) (x ∷ rest) e s = let t = s.together in absurd (longer f.info (joined (map (λ (g : Parts). g.info) frames)) (t ∙ e))
  where
    longer : (a b : List ℕ) → (a ++ b) ++ x ∷ rest ≡ [] → ⊥
    longer a b h = omega (arith, ap length h, length-append (a ++ b) (x ∷ rest))

at_text : (c : ClientRecord) (size : ℕ) (text : List ℕ) (frames : List Parts) (rest : List ℕ) → c.size ≡ size → c.unsent ≡ text → IsOnWay c.size c.unsent frames rest → IsOnWay size text frames rest
at_text c size text frames rest es et s = rw⁻¹ (es, et) s

client_goes : {c now : ClientRecord} {heard : List Heard} {taken : List (List ℕ)} {sent : List Parts} → ClientGoes c heard taken sent now → ClientIsOnWay c now taken sent
client_goes (NothingHeard c) = record { rest = c.unsent; on = none_sent c.size c.unsent; left = λ e. refl }
client_goes (ClientTakes c f ready heard taken sent now way es more) =
    let later = client_goes more in
    let none : sent ≡ [] = none_left (client_step c f).0.size (client_step c f).0.unsent sent later.rest (takes_drops c f ready way es) later.on in
    record { rest = c.unsent; on = rw none (none_sent c.size c.unsent); left = λ e. cc }
client_goes (ClientSends c f segment heard taken sent now way es more) =
    let e = by_way_of c f LetsNext (λ l. cc) way in
    let later = client_goes more in
    let after = at_text (client_step c f).0 c.size (drop c.size c.unsent) sent later.rest (ap (λ (z : ClientRecord × ClientOut). z.0.size) e) (ap (λ (z : ClientRecord × ClientOut). z.0.unsent) e) later.on in
    let out = rw e at es in
    let one : client_segment c ≡ segment = is_sent (client_segment c) segment out in
    record {
      rest = later.rest;
      on = on_way c.size c.unsent (segment ∷ sent) later.rest (lets_more c (control_of f.control) way.its_way) (one_more c.size c.unsent segment sent later.rest (ap (λ (g : Parts). g.info) (sym one)) (ap (λ (g : Parts). g.segmented) (sym one)) after);
      left = later.left;
    }
client_goes (ClientAnswersAgain c f heard taken sent now way more) =
    let e = by_way_of c f TakenBefore (λ l. cc) way in
    let later = client_goes more in
    let after = at_text (client_step c f).0 c.size c.unsent sent later.rest (ap (λ (z : ClientRecord × ClientOut). z.0.size) e) (ap (λ (z : ClientRecord × ClientOut). z.0.unsent) e) later.on in
    record { rest = later.rest; on = after; left = later.left }
client_goes (ClientPasses c f heard taken sent now e more) = let later = client_goes more in record { rest = later.rest; on = later.on; left = later.left }
client_goes (ClientWaits c heard taken sent now h more) =
    let later = client_goes more in
    let after = at_text (client_timeout c).0 c.size c.unsent sent later.rest (ap (λ (z : ClientRecord). z.size) (waits_on c h)) (ap (λ (z : ClientRecord). z.unsent) (waits_on c h)) later.on in
    record { rest = later.rest; on = after; left = later.left }

pub client_sends : (c now : ClientRecord) (apdu : List ℕ) (heard : List Heard) (sent : List Parts) (taken : List (List ℕ)) → ClientGoes (client_send c apdu).0 heard taken sent now →
    (rest : List ℕ) × IsUnderWay c.size (llc from_client ++ apdu) ((client_send c apdu).1 ∷ sent) rest × (taken ≡ [] → now.unsent ≡ rest)
client_sends c now apdu heard sent taken h =
    let s = client_goes h in
    (s.rest, one_more c.size (llc from_client ++ apdu) (client_send c apdu).1 sent s.rest refl refl s.on, s.left)

-- segments whose first one holds the LLC are read again
reads : (side : ℕ) (apdu : List ℕ) (g : Parts) (gs : List Parts) → 3 ≤ length g.info → joined (map (λ (f : Parts). f.info) (g ∷ gs)) ≡ llc side ++ apdu →
    kept_after_all side Fresh (map (λ (f : Parts). f.info) (g ∷ gs)) ≡ capped apdu
reads side apdu g gs h e = read_at_once side g.info (map (λ (f : Parts). f.info) gs) h ∙ ap (read_whole side) e ∙ rw (same side) refl

again : (side size : ℕ) (apdu : List ℕ) (front frames : List Parts) (last : Parts) → 3 ≤ size → frames ≡ front ++ last ∷ [] → joined (map (λ (f : Parts). f.info) frames) ≡ llc side ++ apdu →
    All (λ (f : Parts). length f.info ≡ size) front → kept_after_all side Fresh (map (λ (f : Parts). f.info) frames) ≡ capped apdu
again side size apdu [] frames last h e j full =
    let j' = rw e at j in
    rw e (reads side apdu last [] (omega (arith, ap length j', length-append last.info [])) j')
again side size apdu (f ∷ front) frames last h e j full =
    let j' = rw e at j in
    rw e (reads side apdu f (front ++ last ∷ []) (omega (arith, h, All-head (λ (f : Parts). length f.info ≡ size) f front full)) j')

pub read_again : (side size : ℕ) (apdu : List ℕ) (frames : List Parts) → 3 ≤ size → IsSegmented size (llc side ++ apdu) frames → kept_after_all side Fresh (map (λ f. f.info) frames) ≡ capped apdu
read_again side size apdu frames h s = again side size apdu s.front frames s.last h s.in_order s.text_joined s.full
