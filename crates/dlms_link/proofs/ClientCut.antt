-- Whatever comes to the client's end goes on to its end, or is cut where something begins anew.
use Rattle.std.proofs.Common.{◌≡◌, ℕ, ◌<◌, ◌≤◌, ◌⊎◌, inl, inr, refl, sym, ◌∙◌, ap, subst, arith, Bool, true, false, List, [], ◌∷◌, nat_lt}
use Rattle.std.proofs.lemmas.Bool.Decides.{nat_tests}
use Rattle.dlms_frame.specs.Frame.{Parts}
use Rattle.dlms_link.specs.declared.out.ClientOut.TheVariants.{Nothing, Send}
use Rattle.dlms_link.specs.declared.phase.Phase.{Phase}
use Rattle.dlms_link.specs.declared.phase.Phase.TheVariants.{Closed, Connecting, Open, Closing}
use Rattle.dlms_link.specs.declared.control.Control.{Control}
use Rattle.dlms_link.specs.declared.control.Control.TheVariants.{Snrm, Disc, Ua, Dm, Information, Ready, NotReady, Other}
use Rattle.dlms_link.specs.declared.client_row.ClientRow.{ClientRow}
use Rattle.dlms_link.specs.declared.client_row.ClientRow.TheVariants.{Takes, TakenBefore, LetsNext, Leaves}
use Rattle.dlms_link.specs.Octet.{control_of, next}
use Rattle.dlms_link.specs.Kept.{Kept, Fresh, Good, TooLong, BadStart, kept_after, from_meter}
use Rattle.dlms_link.specs.Client.{ClientRecord, by_way, client_ready, client_segment, client_step, client_timeout, is_answer, on_control, on_counted, on_ua, takes, way_of}
use Rattle.dlms_link.specs.Between.{IsByWay, Heard, Comes, Silence, NothingHeard, ClientTakes, ClientSends, ClientAnswersAgain, ClientPasses, ClientWaits, ClientGoesOn, ClientBeginsAnew, EndsIt, IsAnewForClient, client_hears}
use Rattle.dlms_link.proofs.Passing.{by_way_of}

-- what a frame is to the client
data Sorted (c : ClientRecord) (f : Parts) : Type 0 where
  Took : (ready : Parts) → IsByWay c f Takes → (client_step c f).1 ≡ Send ready → Sorted c f
  Sent : (segment : Parts) → IsByWay c f LetsNext → (client_step c f).1 ≡ Send segment → Sorted c f
  Again : IsByWay c f TakenBefore → Sorted c f
  Passed : client_step c f ≡ (c, Nothing) → Sorted c f
  Ended : EndsIt (client_step c f).1 → Sorted c f

ends_taking : (c : ClientRecord) (segmented : Bool) (k : Kept) → ((ready : Parts) × ((takes c segmented k).1 ≡ Send ready)) ⊎ EndsIt (takes c segmented k).1
ends_taking c true (Good bytes) = inl (client_ready (record c { receive_next = next c.receive_next; kept = Good bytes; unsent = [] }), refl)
ends_taking c false (Good bytes) = inr tt
ends_taking c segmented Fresh = inr tt
ends_taking c segmented TooLong = inr tt
ends_taking c segmented BadStart = inr tt

sort_taken : (c : ClientRecord) (f : Parts) → IsByWay c f Takes → Sorted c f
sort_taken c f way =
    let e = by_way_of c f Takes (λ l. cc) way in
    either (ends_taking c f.segmented (kept_after from_meter c.kept f.info)) e
  where
    either : ((ready : Parts) × ((takes c f.segmented (kept_after from_meter c.kept f.info)).1 ≡ Send ready)) ⊎ EndsIt (takes c f.segmented (kept_after from_meter c.kept f.info)).1
        → client_step c f ≡ takes c f.segmented (kept_after from_meter c.kept f.info) → Sorted c f
    either (inl (ready, goes)) e = Took ready way (ap (λ x. x.1) e ∙ goes)
    either (inr ends) e = Ended (subst (λ x. EndsIt x.1) (sym e) ends)

sort_open : (c : ClientRecord) (f : Parts) → is_answer c f ≡ true → c.phase ≡ Open → (way : ClientRow) → way_of c (control_of f.control) ≡ way → (way ≡ Leaves → client_step c f ≡ (c, Nothing)) → Sorted c f
sort_open c f a up Takes e left = sort_taken c f (record { from_meter = a; up = up; its_way = e })
sort_open c f a up TakenBefore e left = Again (record { from_meter = a; up = up; its_way = e })
sort_open c f a up LetsNext e left =
    let way : IsByWay c f LetsNext = record { from_meter = a; up = up; its_way = e } in
    Sent (client_segment c) way (ap (λ x. x.1) (by_way_of c f LetsNext (λ l. cc) way))
sort_open c f a up Leaves e left = Passed (left refl)

sort_counted : (c : ClientRecord) (f : Parts) (k : Control) → is_answer c f ≡ true → control_of f.control ≡ k → (client_step c f ≡ on_counted c f c.phase) → (phase : Phase) → c.phase ≡ phase → Sorted c f
sort_counted c f k a ek es Closed ep = Passed (es ∙ ap (λ x. on_counted c f x) ep)
sort_counted c f k a ek es Connecting ep = Passed (es ∙ ap (λ x. on_counted c f x) ep)
sort_counted c f k a ek es Closing ep = Passed (es ∙ ap (λ x. on_counted c f x) ep)
sort_counted c f k a ek es Open ep =
    sort_open c f a ep (way_of c (control_of f.control)) refl (λ l. es ∙ ap (λ x. on_counted c f x) ep ∙ ap (λ x. by_way c f x) l)

sort_ua : (c : ClientRecord) (f : Parts) → client_step c f ≡ on_ua c f.info c.phase → (phase : Phase) → c.phase ≡ phase → Sorted c f
sort_ua c f es Closed ep = Passed (es ∙ ap (λ x. on_ua c f.info x) ep)
sort_ua c f es Open ep = Passed (es ∙ ap (λ x. on_ua c f.info x) ep)
sort_ua c f es Connecting ep = Ended (subst (λ x. EndsIt x.1) (sym (es ∙ ap (λ x. on_ua c f.info x) ep)) tt)
sort_ua c f es Closing ep = Ended (subst (λ x. EndsIt x.1) (sym (es ∙ ap (λ x. on_ua c f.info x) ep)) tt)

sort_control : (c : ClientRecord) (f : Parts) → is_answer c f ≡ true → client_step c f ≡ on_control c f (control_of f.control) → (k : Control) → control_of f.control ≡ k → Sorted c f
sort_control c f a es Ua ek = sort_ua c f (es ∙ ap (λ x. on_control c f x) ek) c.phase refl
sort_control c f a es Dm ek = Ended (subst (λ x. EndsIt x.1) (sym (es ∙ ap (λ x. on_control c f x) ek)) tt)
sort_control c f a es (Information s r) ek = sort_counted c f (Information s r) a ek (es ∙ ap (λ x. on_control c f x) ek) c.phase refl
sort_control c f a es (Ready r) ek = sort_counted c f (Ready r) a ek (es ∙ ap (λ x. on_control c f x) ek) c.phase refl
sort_control c f a es Snrm ek = Passed (es ∙ ap (λ x. on_control c f x) ek)
sort_control c f a es Disc ek = Passed (es ∙ ap (λ x. on_control c f x) ek)
sort_control c f a es NotReady ek = Passed (es ∙ ap (λ x. on_control c f x) ek)
sort_control c f a es Other ek = Passed (es ∙ ap (λ x. on_control c f x) ek)

sort : (c : ClientRecord) (f : Parts) → Sorted c f
sort c f = by_answer (is_answer c f) refl
  where
    by_answer : (b : Bool) → is_answer c f ≡ b → Sorted c f
    by_answer true e = sort_control c f e (rw e refl) (control_of f.control) refl
    by_answer false e = Passed (rw e refl)

abbrev Cut : ClientRecord → List Heard → Type 0
Cut c heard = ClientGoesOn c heard ⊎ ClientBeginsAnew c heard

at_once : (c : ClientRecord) (h : Heard) (heard : List Heard) → IsAnewForClient c h → Cut c (h ∷ heard)
at_once c h heard a = inr (record { front = []; first = h; rest = heard; in_order = refl; before = record { taken = []; sent = []; now = c; goes = NothingHeard c }; anew = a })

took : (c : ClientRecord) (f ready : Parts) (heard : List Heard) → IsByWay c f Takes → (client_step c f).1 ≡ Send ready → Cut (client_step c f).0 heard → Cut c (Comes f ∷ heard)
took c f ready heard way e (inl g) = inl (record { taken = f.info ∷ g.taken; sent = g.sent; now = g.now; goes = ClientTakes c f ready heard g.taken g.sent g.now way e g.goes })
took c f ready heard way e (inr b) =
    let g = b.before in
    inr (record { front = Comes f ∷ b.front; first = b.first; rest = b.rest; in_order = ap (λ (z : List Heard). Comes f ∷ z) b.in_order; before = record { taken = f.info ∷ g.taken; sent = g.sent; now = g.now; goes = ClientTakes c f ready b.front g.taken g.sent g.now way e g.goes }; anew = b.anew })

sent : (c : ClientRecord) (f segment : Parts) (heard : List Heard) → IsByWay c f LetsNext → (client_step c f).1 ≡ Send segment → Cut (client_step c f).0 heard → Cut c (Comes f ∷ heard)
sent c f segment heard way e (inl g) = inl (record { taken = g.taken; sent = segment ∷ g.sent; now = g.now; goes = ClientSends c f segment heard g.taken g.sent g.now way e g.goes })
sent c f segment heard way e (inr b) =
    let g = b.before in
    inr (record { front = Comes f ∷ b.front; first = b.first; rest = b.rest; in_order = ap (λ (z : List Heard). Comes f ∷ z) b.in_order; before = record { taken = g.taken; sent = segment ∷ g.sent; now = g.now; goes = ClientSends c f segment b.front g.taken g.sent g.now way e g.goes }; anew = b.anew })

again : (c : ClientRecord) (f : Parts) (heard : List Heard) → IsByWay c f TakenBefore → Cut (client_step c f).0 heard → Cut c (Comes f ∷ heard)
again c f heard way (inl g) = inl (record { taken = g.taken; sent = g.sent; now = g.now; goes = ClientAnswersAgain c f heard g.taken g.sent g.now way g.goes })
again c f heard way (inr b) =
    let g = b.before in
    inr (record { front = Comes f ∷ b.front; first = b.first; rest = b.rest; in_order = ap (λ (z : List Heard). Comes f ∷ z) b.in_order; before = record { taken = g.taken; sent = g.sent; now = g.now; goes = ClientAnswersAgain c f b.front g.taken g.sent g.now way g.goes }; anew = b.anew })

passed : (c : ClientRecord) (f : Parts) (heard : List Heard) → client_step c f ≡ (c, Nothing) → Cut c heard → Cut c (Comes f ∷ heard)
passed c f heard e (inl g) = inl (record { taken = g.taken; sent = g.sent; now = g.now; goes = ClientPasses c f heard g.taken g.sent g.now e g.goes })
passed c f heard e (inr b) =
    let g = b.before in
    inr (record { front = Comes f ∷ b.front; first = b.first; rest = b.rest; in_order = ap (λ (z : List Heard). Comes f ∷ z) b.in_order; before = record { taken = g.taken; sent = g.sent; now = g.now; goes = ClientPasses c f b.front g.taken g.sent g.now e g.goes }; anew = b.anew })

waited : (c : ClientRecord) (heard : List Heard) → c.repeats < 3 → Cut (client_timeout c).0 heard → Cut c (Silence ∷ heard)
waited c heard few (inl g) = inl (record { taken = g.taken; sent = g.sent; now = g.now; goes = ClientWaits c heard g.taken g.sent g.now few g.goes })
waited c heard few (inr b) =
    let g = b.before in
    inr (record { front = Silence ∷ b.front; first = b.first; rest = b.rest; in_order = ap (λ (z : List Heard). Silence ∷ z) b.in_order; before = record { taken = g.taken; sent = g.sent; now = g.now; goes = ClientWaits c b.front g.taken g.sent g.now few g.goes }; anew = b.anew })

pub client_cut : (c : ClientRecord) (heard : List Heard) → ClientGoesOn c heard ⊎ ClientBeginsAnew c heard
client_cut c [] = inl (record { taken = []; sent = []; now = c; goes = NothingHeard c })
client_cut c (Comes f ∷ heard) = by_sort (sort c f) (client_cut (client_step c f).0 heard) (client_cut c heard)
  where
    by_sort : Sorted c f → Cut (client_step c f).0 heard → Cut c heard → Cut c (Comes f ∷ heard)
    by_sort (Took ready way e) later same = took c f ready heard way e later
    by_sort (Sent segment way e) later same = sent c f segment heard way e later
    by_sort (Again way) later same = again c f heard way later
    by_sort (Passed e) later same = passed c f heard e same
    by_sort (Ended a) later same = at_once c (Comes f) heard a
client_cut c (Silence ∷ heard) = by_count (nat_lt c.repeats 3) refl (client_cut (client_timeout c).0 heard)
  where
    by_count : (b : Bool) → nat_lt c.repeats 3 ≡ b → Cut (client_timeout c).0 heard → Cut c (Silence ∷ heard)
    by_count true e later = waited c heard (grind (arith, nat_tests)) later
    by_count false e later = at_once c Silence heard (grind (arith, nat_tests))

-- where something new begins nothing is kept
ended_taking : (c : ClientRecord) (segmented : Bool) (k : Kept) → EndsIt (takes c segmented k).1 → (takes c segmented k).0.kept ≡ Fresh
ended_taking c true (Good bytes) a = absurd a
ended_taking c false (Good bytes) a = refl
ended_taking c segmented Fresh a = refl
ended_taking c segmented TooLong a = refl
ended_taking c segmented BadStart a = refl

ended_by_way : (c : ClientRecord) (f : Parts) (way : ClientRow) → EndsIt (by_way c f way).1 → (by_way c f way).0.kept ≡ Fresh
ended_by_way c f Takes a = ended_taking c f.segmented (kept_after from_meter c.kept f.info) a
ended_by_way c f TakenBefore a = absurd a
ended_by_way c f LetsNext a = absurd a
ended_by_way c f Leaves a = absurd a

ended_counted : (c : ClientRecord) (f : Parts) (phase : Phase) → EndsIt (on_counted c f phase).1 → (on_counted c f phase).0.kept ≡ Fresh
ended_counted c f Closed a = absurd a
ended_counted c f Connecting a = absurd a
ended_counted c f Open a = ended_by_way c f (way_of c (control_of f.control)) a
ended_counted c f Closing a = absurd a

ended_ua : (c : ClientRecord) (ua : List ℕ) (phase : Phase) → EndsIt (on_ua c ua phase).1 → (on_ua c ua phase).0.kept ≡ Fresh
ended_ua c ua Closed a = absurd a
ended_ua c ua Connecting a = refl
ended_ua c ua Open a = absurd a
ended_ua c ua Closing a = refl

ended_control : (c : ClientRecord) (f : Parts) (k : Control) → EndsIt (on_control c f k).1 → (on_control c f k).0.kept ≡ Fresh
ended_control c f Ua a = ended_ua c f.info c.phase a
ended_control c f Dm a = refl
ended_control c f (Information s r) a = ended_counted c f c.phase a
ended_control c f (Ready r) a = ended_counted c f c.phase a
ended_control c f Snrm a = absurd a
ended_control c f Disc a = absurd a
ended_control c f NotReady a = absurd a
ended_control c f Other a = absurd a

cut_off : (c : ClientRecord) → 3 ≤ c.repeats → (client_timeout c).0.kept ≡ Fresh
cut_off c a = let e : nat_lt c.repeats 3 ≡ false = grind (arith, nat_tests) in rw e refl

pub client_anew : (c : ClientRecord) (h : Heard) → IsAnewForClient c h → (client_hears c h).kept ≡ Fresh
client_anew c (Comes f) a = by_answer (is_answer c f) refl
  where
    by_answer : (b : Bool) → is_answer c f ≡ b → (client_step c f).0.kept ≡ Fresh
    by_answer true e = let b : EndsIt (on_control c f (control_of f.control)).1 = rw e at a in rw e (ended_control c f (control_of f.control) b)
    by_answer false e = let b : ⊥ = rw e at a in absurd b
client_anew c Silence a = cut_off c a
