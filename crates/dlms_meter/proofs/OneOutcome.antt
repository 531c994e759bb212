-- A piece of bytes has one outcome if memory is found.
use Rattle.std.proofs.Common.{◌≡◌, ◌∙◌, ℕ, sym, ap, subst, List, [], ◌∷◌, ◌++◌, Option, Some, None}
use Rattle.dlms_frame.specs.declared.client.Client.{Client}
use Rattle.dlms_frame.specs.Frame.{Parts}
use Rattle.dlms_frame.specs.Stream.{IsNext}
use Rattle.dlms_frame.proofs.LawLemmas.{one_next}
use Rattle.dlms_service.specs.Serves.{FindsMemory}
use Rattle.dlms_store.specs.World.{StoreWorld}
use Rattle.dlms_state.specs.declared.event.Event.{Event}
use Rattle.dlms_meter.specs.Run.{Choice, Served, Stored, IsTurn, events_of, MeterWorld, Records, Turn, Handled, Handles, Takes, Answers, Comes, FoundMemory, client_at, with_record, after_turn, grown, listed}
use Rattle.dlms_meter.proofs.Once.{handled_once}
use Rattle.dlms_meter.specs.Alike.{IsAlike}
use Rattle.dlms_meter.proofs.Events.{stored_once, turn_events}

-- what two turns have in common
record Same (t u : Turn) : Type 0 where
  records : t.records ≡ u.records
  reply : t.reply ≡ u.reply
  answer : t.answer ≡ u.answer
  accepted : t.accepted ≡ u.accepted

taken_once : (who : Option Client) (E : List Event) (records : Records) (t u : Turn) → t.frame ≡ u.frame → t.choice ≡ Served FindsMemory → u.choice ≡ Served FindsMemory
    → Takes E records t who → Takes E records u who → Same t u
taken_once None E records t u frame found found' (same, none, silent, nothing) (same', none', silent', nothing') =
    record { records = same ∙ sym same'; reply = none ∙ sym none'; answer = silent ∙ sym silent'; accepted = nothing ∙ sym nothing' }
taken_once (Some who) E records t u frame found found' (own, handles, same) (own', handles', same') =
    let ht : Handled = record { own = own; reply = t.reply; answer = t.answer; accepted = t.accepted } in
    let hu : Handled = record { own = own'; reply = u.reply; answer = u.answer; accepted = u.accepted } in
    let one : Handles (Served FindsMemory) E (records who) u.frame ht =
    subst (λ (f : Parts). Handles (Served FindsMemory) E (records who) f ht) frame (subst (λ (c : Choice). Handles c E (records who) t.frame ht) found handles) in
    let other : Handles (Served FindsMemory) E (records who) u.frame hu = subst (λ (c : Choice). Handles c E (records who) u.frame hu) found' handles' in
    let equal : ht ≡ hu = handled_once E (records who) u.frame ht hu one other in
    record {
      records = same ∙ ap (λ (h : Handled). with_record records who h.own) equal ∙ sym same';
      reply = ap (λ (h : Handled). h.reply) equal;
      answer = ap (λ (h : Handled). h.answer) equal;
      accepted = ap (λ (h : Handled). h.accepted) equal;
    }

same_store : (w : MeterWorld) (t u : Turn) → t.choice ≡ Served FindsMemory → u.choice ≡ Served FindsMemory → Same t u → IsTurn w t → IsTurn w u → t.store ≡ u.store
same_store w t u found found' same is is' =
    let there : Stored t.choice t.answer t.accepted u.steps =
    subst (λ (c : Choice). Stored c t.answer t.accepted u.steps) (found' ∙ sym found)
    (subst (λ (a : Option (List ℕ)). Stored u.choice a t.accepted u.steps) (sym same.answer) (subst (λ (es : List Event). Stored u.choice u.answer es u.steps) (sym same.accepted) is'.stored)) in
    stored_once t.answer t.choice FindsMemory t.accepted t.steps u.steps w.store t.store u.store found is.stored is.run there is'.run

same_world : (w : MeterWorld) (t u : Turn) → t.to ≡ u.to → t.store ≡ u.store → Same t u → after_turn w t ≡ after_turn w u
same_world w t u to store same =
    ap (λ (n : ℕ). record (after_turn w t) { place = n }) to
    ∙ ap (λ (r : Records). record { stretch = w.stretch; place = u.to; records = r; store = t.store }) same.records
    ∙ ap (λ (x : StoreWorld). record { stretch = w.stretch; place = u.to; records = u.records; store = x }) store

same_answers : (ts us : List Turn) (w u v : MeterWorld) (xs ys : List (List ℕ)) → Answers w ts xs u → Answers w us ys v → FoundMemory ts → FoundMemory us → (xs ≡ ys) × (u ≡ v)
same_answers [] [] w u v xs ys a b found found' = (a.1 ∙ sym b.1, a.2 ∙ sym b.2)
same_answers [] (n ∷ us) w u v xs ys a b found found' = absurd (a.0 n.from n.to n.frame b.0.next.behind b.0.next.stands)
same_answers (t ∷ ts) [] w u v xs ys a b found found' = absurd (b.0 t.from t.to t.frame a.0.next.behind a.0.next.stands)
same_answers (t ∷ ts) (n ∷ us) w u v xs ys (is_turn, more, joins, answers) (is_turn', more', joins', answers') found found' =
    let one = one_next w.stretch w.place t.from t.to n.from n.to t.frame n.frame is_turn.next is_turn'.next in
    let moved : Takes (events_of w) w.records n (client_at t.frame.src) = subst (λ (f : Parts). Takes (events_of w) w.records n (client_at f.src)) (sym one.1) is_turn'.takes in
    let same : Same t n = taken_once (client_at t.frame.src) (events_of w) w.records t n one.1 found.0 found'.0 is_turn.takes moved in
    let after : after_turn w t ≡ after_turn w n = same_world w t n one.0 (same_store w t n found.0 found'.0 same is_turn is_turn') same in
    let rest = same_answers ts us (after_turn w t) u v more more' answers (subst (λ (x : MeterWorld). Answers x us more' v) (sym after) answers') found.1 found'.1 in (
      joins ∙ ap (λ (o : Option (List ℕ)). listed o ++ more) same.reply ∙ ap (λ (rs : List (List ℕ)). listed n.reply ++ rs) rest.0 ∙ sym joins',
      rest.1,
    )

pub same_comes : (w u v : MeterWorld) (bytes : List ℕ) (first second : List (List ℕ)) (a : Comes w bytes first u) (b : Comes w bytes second v)
    → FoundMemory a.turns → FoundMemory b.turns → (first ≡ second) × (u ≡ v)
same_comes w u v bytes first second a b found found' = same_answers a.turns b.turns (grown w bytes) u v first second a.answers b.answers found found'

-- ---- from worlds that are alike

-- a turn of one of them is next in the other too
moved_next : (w x : MeterWorld) (n : Turn) → IsAlike w x → IsNext x.stretch x.place n.from n.to n.frame → IsNext w.stretch w.place n.from n.to n.frame
moved_next w x n alike next =
    subst (λ (s : List ℕ). IsNext s w.place n.from n.to n.frame) (sym alike.stretch) (subst (λ (k : ℕ). IsNext x.stretch k n.from n.to n.frame) (sym alike.place) next)

moved_takes : (w x : MeterWorld) (n : Turn) (who : Option Client) → IsAlike w x → Takes (events_of x) x.records n who → Takes (events_of w) w.records n who
moved_takes w x n who alike takes =
    subst (λ (es : List Event). Takes es w.records n who) (sym alike.events) (subst (λ (r : Records). Takes (events_of x) r n who) (sym alike.records) takes)

alike_after : (w x : MeterWorld) (t n : Turn) → IsAlike w x → t.to ≡ n.to → Same t n → IsTurn w t → IsTurn x n → IsAlike (after_turn w t) (after_turn x n)
alike_after w x t n alike to same is is' = record {
  stretch = alike.stretch;
  place = to;
  records = same.records;
  events = turn_events w t is ∙ ap (λ (es : List Event). es ++ t.accepted) alike.events ∙ ap (λ (es : List Event). events_of x ++ es) same.accepted ∙ sym (turn_events x n is');
}

alike_answers : (ts us : List Turn) (w x u v : MeterWorld) (xs ys : List (List ℕ)) → IsAlike w x → Answers w ts xs u → Answers x us ys v → FoundMemory ts → FoundMemory us → (xs ≡ ys) × IsAlike u v
alike_answers [] [] w x u v xs ys alike a b found found' =
    (a.1 ∙ sym b.1, subst (λ (z : MeterWorld). IsAlike z v) (sym a.2) (subst (λ (z : MeterWorld). IsAlike w z) (sym b.2) alike))
alike_answers [] (n ∷ us) w x u v xs ys alike a b found found' =
    let next = moved_next w x n alike b.0.next in absurd (a.0 n.from n.to n.frame next.behind next.stands)
alike_answers (t ∷ ts) [] w x u v xs ys alike a b found found' =
    let back : IsAlike x w = record { stretch = sym alike.stretch; place = sym alike.place; records = sym alike.records; events = sym alike.events } in
    let next = moved_next x w t back a.0.next in absurd (b.0 t.from t.to t.frame next.behind next.stands)
alike_answers (t ∷ ts) (n ∷ us) w x u v xs ys alike (is_turn, more, joins, answers) (is_turn', more', joins', answers') found found' =
    let one = one_next w.stretch w.place t.from t.to n.from n.to t.frame n.frame is_turn.next (moved_next w x n alike is_turn'.next) in
    let moved : Takes (events_of w) w.records n (client_at t.frame.src) =
    subst (λ (f : Parts). Takes (events_of w) w.records n (client_at f.src)) (sym one.1) (moved_takes w x n (client_at n.frame.src) alike is_turn'.takes) in
    let same : Same t n = taken_once (client_at t.frame.src) (events_of w) w.records t n one.1 found.0 found'.0 is_turn.takes moved in
    let after : IsAlike (after_turn w t) (after_turn x n) = alike_after w x t n alike one.0 same is_turn is_turn' in
    let rest = alike_answers ts us (after_turn w t) (after_turn x n) u v more more' after answers answers' found.1 found'.1 in (
      joins ∙ ap (λ (o : Option (List ℕ)). listed o ++ more) same.reply ∙ ap (λ (rs : List (List ℕ)). listed n.reply ++ rs) rest.0 ∙ sym joins',
      rest.1,
    )

pub alike_comes : (w w' u v : MeterWorld) (bytes : List ℕ) (first second : List (List ℕ)) → IsAlike w w' → (a : Comes w bytes first u) (b : Comes w' bytes second v)
    → FoundMemory a.turns → FoundMemory b.turns → (first ≡ second) × IsAlike u v
alike_comes w w' u v bytes first second alike a b found found' =
    let grows : IsAlike (grown w bytes) (grown w' bytes) = record { stretch = ap (λ (s : List ℕ). s ++ bytes) alike.stretch; place = alike.place; records = alike.records; events = alike.events } in
    alike_answers a.turns b.turns (grown w bytes) (grown w' bytes) u v first second grows a.answers b.answers found found'
