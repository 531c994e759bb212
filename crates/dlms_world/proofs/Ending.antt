-- The frame that ends a poll: the APDUs that it took are the answers to its requests, as the meter served them in turn.
use Rattle.std.proofs.Common.{◌≡◌, ℕ, true, List, [], ◌∷◌, ◌++◌, map, Option, None, Some, refl, sym, ◌∙◌, ap, subst}
use Rattle.std.specs.Prelude.{Contains}
use Rattle.std.proofs.lemmas.List.{append-nil}
use Rattle.std.specs.List.{AllByRecursion as ByRecursion}
use Rattle.std.proofs.lemmas.List.Elements.{All-from_recursion, All-contains}
use Rattle.dlms_frame.specs.declared.client.Client.{Client}
use Rattle.dlms_frame.specs.Frame.{Parts}
use Rattle.dlms_headend.specs.Asking.{PlanValue}
use Rattle.dlms_headend.specs.Poll.{Asks, HasReleased}
use Rattle.dlms_headend.specs.declared.plan.Columns.{Columns}
use Rattle.dlms_headend.specs.declared.row.Row.{Row}
use Rattle.dlms_link.specs.World.{LinkWorld as Link, IsBeginningOf}
use Rattle.dlms_link.specs.declared.phase.Phase.{Phase}
use Rattle.dlms_link.specs.declared.phase.Phase.TheVariants.{Closed, Connecting, Open, Closing}
use Rattle.dlms_link.proofs.Sound.{Sound}
use Rattle.dlms_link.proofs.Steps.{served_is, taken_is}
use Rattle.dlms_meter.specs.Transfers.{Exchange, Asked, InTurn}
use Rattle.dlms_service.specs.Session.{fresh}
use Rattle.dlms_store.specs.World.{StoreWorld as Store, IsBeginning}
use Rattle.dlms_service.specs.Stake.{is_success}
use Rattle.dlms_world.specs.World.{World, settled_in}
use Rattle.dlms_world.specs.Told.{Talks, IsTold, AnswersTell}
use Rattle.dlms_link.proofs.LineLaws.{quiet, IsQuiet}
use Rattle.dlms_world.proofs.Chains.{Chain, asked_in, told_in}
use Rattle.dlms_world.proofs.Asked.{Fit, FitsBy, Answered}
use Rattle.dlms_world.proofs.Keeping.{DataSettled}

-- the first of the APDUs that were asked were answered by these
record AskedFirst (plan : PlanValue) (asked taken : List (List ℕ)) : Type 0 where
  before : List (List ℕ)
  rest : List (List ℕ)
  are : asked ≡ before ++ rest
  answered : Answered plan [] before taken

asked_first : (plan : PlanValue) (phase : Phase) (waits : Option Parts) (asked taken : List (List ℕ)) → (taken ≡ [] → ⊥) → (phase ≡ Closed → ⊥) → FitsBy plan phase waits asked taken → AskedFirst plan asked taken
asked_first plan Open None asked taken some up fit = record { before = asked; rest = []; are = sym (append-nil asked); answered = fit }
asked_first plan Open (Some f) asked taken some up fit = record { before = fit.before; rest = fit.last ∷ []; are = fit.are; answered = fit.answered }
asked_first plan Closing waits asked taken some up fit = record { before = asked; rest = []; are = sym (append-nil asked); answered = fit }
asked_first plan Connecting waits asked taken some up fit = absurd (some fit.1)
asked_first plan Closed waits asked taken some up fit = absurd (up refl)

abbrev first_of : List (List ℕ) → List ℕ
first_of [] = []
first_of (x ∷ xs) = x

abbrev rest_of : List (List ℕ) → List (List ℕ)
rest_of [] = []
rest_of (x ∷ xs) = xs

talks : (plan : PlanValue) (b qs ts rest more others : List (List ℕ)) (served : List Exchange) → Answered plan b qs ts → asked_in served ++ more ≡ qs ++ rest → ts ++ others ≡ told_in served → Talks plan b served ts
talks plan b qs [] rest more others served h e k = tt
talks plan b [] (t ∷ ts) rest more others served h e k = absurd h
talks plan b (q ∷ qs) (t ∷ ts) rest more others [] h e k = cc
talks plan b (q ∷ qs) (t ∷ ts) rest more others (x ∷ served) h e k =
    (subst (Asks plan b) (sym (ap first_of e)) h.0, sym (ap first_of k), talks plan (b ++ t ∷ []) qs ts rest more others served h.1 (ap rest_of e) (ap rest_of k))

none_released : (columns : Columns) (taken : List (List ℕ)) (rows : List Row) → HasReleased columns taken rows → taken ≡ [] → ⊥
none_released columns taken rows released none = no_end released.before released.answer (sym released.are ∙ none)
  where
    no_end : (xs : List (List ℕ)) (x : List ℕ) → xs ++ x ∷ [] ≡ [] → ⊥
    no_end [] x e = cc
    no_end (y ∷ ys) x e = cc

line_not_closed : (who : Client) (link : Link) (frame : Parts) (rest : List Parts) → Sound who link → link.down_line ≡ frame ∷ rest → link.client.phase ≡ Closed → ⊥
line_not_closed who link frame rest sound line closed =
    let silent : link.down_line ≡ [] = (subst (λ p. IsQuiet p link.up_line link.down_line) closed (quiet who sound)).1 in
    apart (sym line ∙ silent)
  where
    apart : frame ∷ rest ≡ [] → ⊥
    apart e = cc

pub is_told : AnswersTell → (who : Client) (w : World) (frame : Parts) (rest : List Parts) (rows : List Row) → w.plan.client ≡ who → Sound who w.link → w.link.down_line ≡ frame ∷ rest → Fit w.plan w.link → Chain who w.link w.ours w.session w.served →
    HasReleased w.plan.columns w.link.taken rows → IsTold w.plan w.served rows
is_told tell who w frame rest rows client sound line fit c released =
    let first = asked_first w.plan w.link.client.phase w.link.client.waits w.link.asked w.link.taken (none_released w.plan.columns w.link.taken rows released) (line_not_closed who w.link frame rest sound line) fit in
    let up : IsBeginningOf w.link.served w.link.asked = served_is who sound in
    let down : IsBeginningOf w.link.taken w.link.answers = taken_is who sound in
    let talk = talks w.plan [] first.before w.link.taken first.rest up.0 down.0 w.served first.answered (ap (λ l. l ++ up.0) c.apdus ∙ up.1 ∙ first.are) (down.1 ∙ sym c.answers) in
    tell w.plan w.served c.last w.link.taken rows (subst (λ k. InTurn (fresh k) (map Asked w.served) c.last) (sym client) c.in_turn) talk released

-- the events after an answer of data are settled
settled_each : (memory : Store) (served : List Exchange) → DataSettled memory served → ByRecursion (λ x. is_success x.outcome.answer ≡ true → IsBeginning x.before (settled_in memory)) served
settled_each memory [] d = tt
settled_each memory (x ∷ served) d = (d.0, settled_each memory served d.1)

pub is_settled : (memory : Store) (served : List Exchange) (x : Exchange) → DataSettled memory served → Contains served x → is_success x.outcome.answer ≡ true → IsBeginning x.before (settled_in memory)
is_settled memory served x d in_it = All-contains (λ y. is_success y.outcome.answer ≡ true → IsBeginning y.before (settled_in memory)) served x
    (All-from_recursion (λ y. is_success y.outcome.answer ≡ true → IsBeginning y.before (settled_in memory)) served (settled_each memory served d)) in_it
