-- Segments are read one after another, and each list of frames is cut where something new begins.
use Rattle.std.proofs.Common.{◌≡◌, ℕ, ◌⊎◌, inl, inr, refl, sym, ◌∙◌, ap, Bool, true, false, List, [], ◌∷◌, ◌++◌}
use Rattle.dlms_frame.specs.Frame.{Parts}
use Rattle.dlms_link.specs.declared.out.LinkOut.TheVariants.{Reply}
use Rattle.dlms_link.specs.declared.out.ClientOut.TheVariants.{Send}
use Rattle.dlms_link.specs.declared.server_row.ServerRow.{ServerRow}
use Rattle.dlms_link.specs.declared.server_row.ServerRow.TheVariants.{Connects, Refuses, Disconnects, Keeps, HandsUp, Repeats, SendsNext, SaysReady, Ignores}
use Rattle.dlms_link.specs.declared.client_row.ClientRow.TheVariants.{Takes, TakenBefore, LetsNext}
use Rattle.dlms_link.specs.Kept.{Kept, Fresh, Good, TooLong, BadStart, kept_after, apdu_of, from_meter, from_client}
use Rattle.dlms_link.specs.Server.{ServerRecord, row_of, server_on, by_row, told, segment_of}
use Rattle.dlms_link.specs.Client.{ClientRecord, client_step, takes}
use Rattle.dlms_link.specs.Segments.{kept_after_all}
use Rattle.dlms_link.specs.Between.{MeterGoes, NothingCame, MeterTakes, MeterSends, MeterPasses, IsPassed, IsAnew, GoesOn, BeginsAnew, IsByWay, Heard, ClientGoes, NothingHeard, ClientTakes, ClientSends, ClientAnswersAgain, ClientPasses, ClientWaits}
use Rattle.dlms_link.proofs.Passing.{passes, by_way_of, waits_on}

kept_last : (side : ℕ) (k : Kept) (infos : List (List ℕ)) (last : List ℕ) → kept_after_all side k (infos ++ last ∷ []) ≡ kept_after side (kept_after_all side k infos) last
kept_last side k [] last = refl
kept_last side k (info ∷ infos) last = kept_last side (kept_after side k info) infos last

meter_keeps : {r now : ServerRecord} {frames sent : List Parts} {taken : List (List ℕ)} → MeterGoes r frames taken sent now → now.kept ≡ kept_after_all from_client r.kept taken
meter_keeps (NothingCame r) = refl
meter_keeps (MeterTakes r f frames taken sent now er more) = let later = meter_keeps more in rw er at later
meter_keeps (MeterSends r f segment frames taken sent now er es more) = let later = meter_keeps more in rw er at later
meter_keeps (MeterPasses r f frames taken sent now p more) = let e = passes r f (row_of r f) p in let later = meter_keeps more in rw e.kept at later

pub meter_takes : (r now : ServerRecord) (frames sent : List Parts) (taken : List (List ℕ)) (f : Parts) → MeterGoes r frames taken sent now → r.kept ≡ Fresh → row_of now f ≡ HandsUp →
    ((server_on now f).1 ≡ told (kept_after_all from_client Fresh (taken ++ f.info ∷ []))) × ((server_on now f).0.apdu ≡ apdu_of (kept_after_all from_client Fresh (taken ++ f.info ∷ [])))
meter_takes r now frames sent taken f h fresh er =
    let k : now.kept ≡ kept_after_all from_client Fresh taken = meter_keeps h ∙ ap (λ (z : Kept). kept_after_all from_client z taken) fresh in
    rw (er, k, kept_last from_client Fresh taken f.info) (refl, refl)

client_keeps : {c now : ClientRecord} {heard : List Heard} {taken : List (List ℕ)} {sent : List Parts} → ClientGoes c heard taken sent now → now.kept ≡ kept_after_all from_meter c.kept taken
client_keeps (NothingHeard c) = refl
client_keeps (ClientTakes c f ready heard taken sent now way es more) =
    let later = client_keeps more in
    later ∙ ap (λ (z : Kept). kept_after_all from_meter z taken) (kept_of_taken c f ready way es)
  where
    taken_kept : (c : ClientRecord) (segmented : Bool) (k : Kept) (ready : Parts) → (takes c segmented k).1 ≡ Send ready → (takes c segmented k).0.kept ≡ k
    taken_kept c true (Good bytes) ready e = refl
    taken_kept c false (Good bytes) ready e = cc
    taken_kept c segmented Fresh ready e = cc
    taken_kept c segmented TooLong ready e = cc
    taken_kept c segmented BadStart ready e = cc

    kept_of_taken : (c : ClientRecord) (f ready : Parts) → IsByWay c f Takes → (client_step c f).1 ≡ Send ready → (client_step c f).0.kept ≡ kept_after from_meter c.kept f.info
    kept_of_taken c f ready way es =
        let e = by_way_of c f Takes (λ l. cc) way in
        let out = rw e at es in
        rw e (taken_kept c f.segmented (kept_after from_meter c.kept f.info) ready out)
client_keeps (ClientSends c f segment heard taken sent now way es more) =
    let e = by_way_of c f LetsNext (λ l. cc) way in
    let later = client_keeps more in
    rw e at later
client_keeps (ClientAnswersAgain c f heard taken sent now way more) =
    let e = by_way_of c f TakenBefore (λ l. cc) way in
    let later = client_keeps more in
    rw e at later
client_keeps (ClientPasses c f heard taken sent now e more) = client_keeps more
client_keeps (ClientWaits c heard taken sent now h more) = let later = client_keeps more in rw (waits_on c h) at later

pub client_takes : (c now : ClientRecord) (heard : List Heard) (taken : List (List ℕ)) (sent : List Parts) (f : Parts) → ClientGoes c heard taken sent now → c.kept ≡ Fresh → IsByWay now f Takes →
    client_step now f ≡ takes now f.segmented (kept_after_all from_meter Fresh (taken ++ f.info ∷ []))
client_takes c now heard taken sent f h fresh way =
    let k : now.kept ≡ kept_after_all from_meter Fresh taken = client_keeps h ∙ ap (λ (z : Kept). kept_after_all from_meter z taken) fresh in
    by_way_of now f Takes (λ l. cc) way ∙ ap (λ (z : Kept). takes now f.segmented z) (ap (λ (z : Kept). kept_after from_meter z f.info) k ∙ sym (kept_last from_meter Fresh taken f.info))

-- every list of frames goes on to its end, or is cut where something begins anew
pub cut : (r : ServerRecord) (frames : List Parts) → GoesOn r frames ⊎ BeginsAnew r frames
cut r [] = inl (record { taken = []; sent = []; now = r; goes = NothingCame r })
cut r (f ∷ frames) = by_its_row (row_of r f) refl (cut (server_on r f).0 frames)
  where
    passed : IsPassed (row_of r f) → GoesOn (server_on r f).0 frames ⊎ BeginsAnew (server_on r f).0 frames → GoesOn r (f ∷ frames) ⊎ BeginsAnew r (f ∷ frames)
    passed p (inl g) = inl (record { taken = g.taken; sent = g.sent; now = g.now; goes = MeterPasses r f frames g.taken g.sent g.now p g.goes })
    passed p (inr b) =
        let g = b.before in
        inr (record { front = f ∷ b.front; first = b.first; rest = b.rest; in_order = ap (λ (z : List Parts). f ∷ z) b.in_order; before = record { taken = g.taken; sent = g.sent; now = g.now; goes = MeterPasses r f b.front g.taken g.sent g.now p g.goes }; anew = b.anew })

    keeps : row_of r f ≡ Keeps → GoesOn (server_on r f).0 frames ⊎ BeginsAnew (server_on r f).0 frames → GoesOn r (f ∷ frames) ⊎ BeginsAnew r (f ∷ frames)
    keeps p (inl g) = inl (record { taken = f.info ∷ g.taken; sent = g.sent; now = g.now; goes = MeterTakes r f frames g.taken g.sent g.now p g.goes })
    keeps p (inr b) =
        let g = b.before in
        inr (record { front = f ∷ b.front; first = b.first; rest = b.rest; in_order = ap (λ (z : List Parts). f ∷ z) b.in_order; before = record { taken = f.info ∷ g.taken; sent = g.sent; now = g.now; goes = MeterTakes r f b.front g.taken g.sent g.now p g.goes }; anew = b.anew })

    sends : (p : row_of r f ≡ SendsNext) → (server_on r f).1 ≡ Reply (segment_of r f.dest) → GoesOn (server_on r f).0 frames ⊎ BeginsAnew (server_on r f).0 frames → GoesOn r (f ∷ frames) ⊎ BeginsAnew r (f ∷ frames)
    sends p e (inl g) = inl (record { taken = g.taken; sent = segment_of r f.dest ∷ g.sent; now = g.now; goes = MeterSends r f (segment_of r f.dest) frames g.taken g.sent g.now p e g.goes })
    sends p e (inr b) =
        let g = b.before in
        inr (record { front = f ∷ b.front; first = b.first; rest = b.rest; in_order = ap (λ (z : List Parts). f ∷ z) b.in_order; before = record { taken = g.taken; sent = segment_of r f.dest ∷ g.sent; now = g.now; goes = MeterSends r f (segment_of r f.dest) b.front g.taken g.sent g.now p e g.goes }; anew = b.anew })

    at_once : IsAnew (row_of r f) → BeginsAnew r (f ∷ frames)
    at_once a = record { front = []; first = f; rest = frames; in_order = refl; before = record { taken = []; sent = []; now = r; goes = NothingCame r }; anew = a }

    by_its_row : (row : ServerRow) → row_of r f ≡ row → GoesOn (server_on r f).0 frames ⊎ BeginsAnew (server_on r f).0 frames → GoesOn r (f ∷ frames) ⊎ BeginsAnew r (f ∷ frames)
    by_its_row (Connects size) e later = inr (at_once (rw e tt))
    by_its_row Refuses e later = passed (rw e tt) later
    by_its_row Disconnects e later = passed (rw e tt) later
    by_its_row Keeps e later = keeps e later
    by_its_row HandsUp e later = inr (at_once (rw e tt))
    by_its_row Repeats e later = passed (rw e tt) later
    by_its_row SendsNext e later = sends e (rw e refl) later
    by_its_row SaysReady e later = passed (rw e tt) later
    by_its_row Ignores e later = passed (rw e tt) later

anew_at : (r : ServerRecord) (f : Parts) (row : ServerRow) → IsAnew row → (by_row r f row).0.kept ≡ Fresh
anew_at r f (Connects size) a = refl
anew_at r f HandsUp a = refl
anew_at r f Refuses a = absurd a
anew_at r f Disconnects a = absurd a
anew_at r f Keeps a = absurd a
anew_at r f Repeats a = absurd a
anew_at r f SendsNext a = absurd a
anew_at r f SaysReady a = absurd a
anew_at r f Ignores a = absurd a

pub anew : (r : ServerRecord) (f : Parts) → IsAnew (row_of r f) → (server_on r f).0.kept ≡ Fresh
anew r f a = anew_at r f (row_of r f) a
