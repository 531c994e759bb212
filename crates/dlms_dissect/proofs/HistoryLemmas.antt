-- The kept object of a session was requested, and since then no frame was missing.
use Rattle.std.proofs.Common.{◌≡◌, ◌⊎◌, inl, inr, ℕ, ◌==◌, ◌&&◌, not, if◌then◌else◌, Bool, true, false, List, [], ◌∷◌, Option, Some, None, refl}
use Rattle.dlms_apdu.specs.declared.request.Request.{Request}
use Rattle.dlms_apdu.specs.declared.request.Request.TheVariants.{GetNormal, GetNext, SetNormal, SetFirst, SetBlock, ActionNormal, ActionFirst, ActionBlock}
use Rattle.dlms_apdu.specs.declared.response.Response.{Response}
use Rattle.dlms_apdu.specs.declared.response.Response.TheVariants as answer
use Rattle.dlms_dissect.specs.declared.named.Asked.{Asked}
use Rattle.dlms_dissect.specs.declared.parties.Side.{Side}
use Rattle.dlms_dissect.specs.declared.parties.Side.TheVariants.{Client, Meter}
use Rattle.dlms_dissect.specs.declared.segments.Came.{Came}
use Rattle.dlms_dissect.specs.declared.segments.Came.TheVariants as came
use Rattle.dlms_dissect.specs.declared.talks.Numbers.{Numbers}
use Rattle.dlms_dissect.specs.declared.talks.Talk.{Talk}
use Rattle.dlms_dissect.specs.Asked.{of_invoke, of_kind, of_service}
use Rattle.dlms_dissect.specs.Foreign.{asked_by, role_of}
use Rattle.dlms_dissect.specs.Services.{heard_as}
use Rattle.dlms_dissect.specs.declared.foreign.Foreign.{Foreign}
use Rattle.dlms_dissect.specs.declared.foreign.Role.{Role}
use Rattle.dlms_dissect.specs.declared.foreign.Role.TheVariants.{Asks, Answers, AnswersUnfollowed, Says}
use Rattle.dlms_dissect.specs.Segments.{begun, is_known, is_next, opened, without_rest}
use Rattle.dlms_dissect.specs.Talks.{asked_anew, asks_anew, awaited, is_certain, taken_next, taken_of, taken_of_client, uncertain, without_answer}
use Rattle.dlms_dissect.specs.History.{Step, frame, asks, answers, hears, unread, says, awaits, goes_down, comes_up, talk_after, talk_after_all, IsUnbroken, AreUnbroken, Names, WasAsked, IsKept}

-- ---- what goes on is of what was begun

if-some : (c : Bool) (o : Option Asked) (a : Asked) → (if c then o else None) ≡ Some a → o ≡ Some a
if-some true o a h = h
if-some false o a h = cc

of_invoke-some : (o : Option Asked) (i : ℕ) (a : Asked) → of_invoke o i ≡ Some a → o ≡ Some a
of_invoke-some None i a h = cc
of_invoke-some (Some b) i a h = if-some (b.invoke == i) (Some b) a h

if-none : (c : Bool) (o : Option Asked) (a : Asked) → (if c then None else o) ≡ Some a → o ≡ Some a
if-none true o a h = cc
if-none false o a h = h

of_kind-some : (o : Option Asked) (m : Bool) (a : Asked) → of_kind o m ≡ Some a → o ≡ Some a
of_kind-some None m a h = cc
of_kind-some (Some b) true a h = if-some b.named.method (Some b) a h
of_kind-some (Some b) false a h = if-none b.named.method (Some b) a h

of_service-some : (o : Option Asked) (i : ℕ) (m : Bool) (a : Asked) → of_service o i m ≡ Some a → o ≡ Some a
of_service-some o i m a h = of_invoke-some o i a (of_kind-some (of_invoke o i) m a h)

-- ---- frames

none-kept : {A : Type 0} (t : Talk A) (a : Asked) → IsKept (uncertain t) a → ⊥
none-kept t a (inl h) = cc
none-kept t a (inr (inl h)) = cc
none-kept t a (inr (inr h)) = cc

kept-asked_anew : {A : Type 0} (t : Talk A) (follows : Bool) (a : Asked) → IsKept (asked_anew t follows) a → IsKept t a
kept-asked_anew t true a k = k
kept-asked_anew t false a (inl h) = cc
kept-asked_anew t false a (inr k) = inr k

-- of a frame of the client, by whether it has a poll bit, and whether it is the next one
kept-if : {A : Type 0} (t : Talk A) (poll next : Bool) (x y : Came) (z : Came × Talk A) (a : Asked) → (IsKept z.1 a → IsKept t a)
    → IsKept (if poll then (x, t) else (if next then z else (y, t))).1 a → IsKept t a
kept-if t true next x y z a h k = k
kept-if t false true x y z a h k = h k
kept-if t false false x y z a h k = k

-- of a number that the meter awaits, by whether it is the next one
kept-awaited : {A : Type 0} (t : Talk A) (known : Bool) (u : Talk A) (a : Asked) → (IsKept u a → ⊥) → IsKept (if known then t else u) a → IsKept t a × (known ≡ true)
kept-awaited t true u a none k = (k, refl)
kept-awaited t false u a none k = absurd (none k)

lost-kept : {A : Type 0} (t : Talk A) (number : ℕ) (a : Asked) → IsKept (awaited t number) a → IsKept t a × (is_known t.client.next number ≡ true)
lost-kept {A} t number a k =
    let met : Talk A = record t { client = begun (Some number); meter = without_rest t.meter } in
    kept-awaited t (is_known t.client.next number) (uncertain met) a (none-kept met a) k

kept-anew : {A : Type 0} (t : Talk A) (anew : Bool) (a : Asked) → IsKept (if anew then without_answer t else t) a → IsKept t a
kept-anew t true a k = k
kept-anew t false a k = k

kept-client : {A : Type 0} (t : Talk A) (n : Numbers) (follows : Bool) (info : List ℕ) (a : Asked) → IsKept (taken_of_client t n follows info).1 a → IsKept t a
kept-client t n follows info a k =
    kept-if t (not n.poll) (is_next t.client.next n.send && is_next t.meter.next n.receive) came.NoPoll _ (taken_next t n follows info) a (kept-asked_anew _ follows a) k

kept-taken : {A : Type 0} (t : Talk A) (side : Option Side) (n : Numbers) (follows : Bool) (info : List ℕ) (a : Asked)
    → IsKept (taken_of t side n follows info).1 a → IsKept t a
kept-taken t (Some Client) n follows info a k = kept-anew t (asks_anew t.client n.send info) a (kept-client _ n follows info a k)
kept-taken t (Some Meter) n follows info a k = (lost-kept t n.receive a k).0
kept-taken t None n follows info a k = k

kept-frame : {A : Type 0} (t : Talk A) (certain : Bool) (side : Option Side) (n : Numbers) (follows : Bool) (info : List ℕ) (a : Asked)
    → IsKept (taken_of (if certain then t else uncertain t) side n follows info).1 a → IsKept t a × (certain ≡ true)
kept-frame t true side n follows info a k = (kept-taken t side n follows info a k, refl)
kept-frame t false side n follows info a k = absurd (none-kept t a (kept-taken (uncertain t) side n follows info a k))

-- ---- APDUs

kept-asks : {A : Type 0} (t : Talk A) (request : Request A) (a : Asked) → IsKept (talk_after t (asks request)) a → IsKept t a ⊎ Names (asks request) a
kept-asks t (GetNormal i d s) a (inl h) = inr h
kept-asks t (GetNormal i d s) a (inr (inl h)) = cc
kept-asks t (GetNormal i d s) a (inr (inr h)) = inl (inr (inr h))
kept-asks t (GetNext i n) a (inl h) = inl (inr (inl (of_invoke-some t.services.transfers.got_of i a h)))
kept-asks t (GetNext i n) a (inr k) = inl (inr k)
kept-asks t (SetNormal i d s v) a (inl h) = inr h
kept-asks t (SetNormal i d s v) a (inr k) = inl (inr k)
kept-asks t (SetFirst i d s last n raw) a (inl h) = inr h
kept-asks t (SetFirst i d s last n raw) a (inr (inl h)) = inl (inr (inl h))
kept-asks t (SetFirst i d s last n raw) a (inr (inr h)) = inr h
kept-asks t (SetBlock i last n raw) a (inl h) = inl (inr (inr (of_service-some t.services.transfers.put_of i false a h)))
kept-asks t (SetBlock i last n raw) a (inr (inl h)) = inl (inr (inl h))
kept-asks t (SetBlock i last n raw) a (inr (inr h)) = inl (inr (inr (of_service-some t.services.transfers.put_of i false a h)))
kept-asks t (ActionNormal i d p) a (inl h) = inr h
kept-asks t (ActionNormal i d p) a (inr k) = inl (inr k)
kept-asks t (ActionFirst i d last n raw) a (inl h) = inr h
kept-asks t (ActionFirst i d last n raw) a (inr (inl h)) = inl (inr (inl h))
kept-asks t (ActionFirst i d last n raw) a (inr (inr h)) = inr h
kept-asks t (ActionBlock i last n raw) a (inl h) = inl (inr (inr (of_service-some t.services.transfers.put_of i true a h)))
kept-asks t (ActionBlock i last n raw) a (inr (inl h)) = inl (inr (inl h))
kept-asks t (ActionBlock i last n raw) a (inr (inr h)) = inl (inr (inr (of_service-some t.services.transfers.put_of i true a h)))

-- an APDU of another form
kept-heard : {A : Type 0} (t : Talk A) (role : Role) (f : Foreign) (a : Asked) → IsKept (record t { services = heard_as role t.services f.survey }) a → IsKept t a ⊎ (asked_by f.survey ≡ Some a)
kept-heard t Asks f a (inl h) = inr h
kept-heard t Asks f a (inr (inl h)) = cc
kept-heard t Asks f a (inr (inr h)) = cc
kept-heard t Answers f a (inl h) = cc
kept-heard t Answers f a (inr k) = inl (inr k)
kept-heard t AnswersUnfollowed f a (inl h) = cc
kept-heard t AnswersUnfollowed f a (inr k) = inl (inr k)
kept-heard t Says f a k = inl k

-- the object of a block that is read is the requested one, or that of its first block
kept-either : {A : Type 0} (t : Talk A) (first : Bool) (a : Asked) → (if first then t.services.asked else t.services.transfers.got_of) ≡ Some a → IsKept t a
kept-either t true a h = inl h
kept-either t false a h = inr (inl h)

kept-answers : {A : Type 0} (t : Talk A) (response : Response A) (a : Asked) → IsKept (talk_after t (answers response)) a → IsKept t a
kept-answers t (answer.GetBlock i last n raw) a (inl h) = cc
kept-answers t (answer.GetBlock i last n raw) a (inr (inl h)) = kept-either t (n == 1) a (of_invoke-some (if n == 1 then t.services.asked else t.services.transfers.got_of) i a h)
kept-answers t (answer.GetBlock i last n raw) a (inr (inr h)) = inr (inr h)
kept-answers t _ a (inl h) = cc
kept-answers t _ a (inr k) = inr k

-- ---- steps

kept-step : {A : Type 0} (t : Talk A) (s : Step A) (a : Asked) → IsKept (talk_after t s) a → (IsKept t a × IsUnbroken t s) ⊎ Names s a
kept-step t (frame side n follows info) a k = inl (kept-frame t (is_certain t side n info) side n follows info a k)
kept-step t (asks request) a k = elim (kept-asks t request a k) [ inl h ↦ inl (h, tt) | inr h ↦ inr h ]
kept-step t (answers response) a k = inl (kept-answers t response a k, tt)
kept-step t (hears f) a k = elim (kept-heard t (role_of f.tag) f a k) [ inl h ↦ inl (h, tt) | inr h ↦ inr h ]
kept-step t unread a k = absurd (none-kept t a k)
kept-step t says a (inl h) = cc
kept-step t says a (inr k) = inl (inr k, tt)
kept-step t (awaits number) a k = inl (lost-kept t number a k)
kept-step {A} t goes_down a k = let down : Talk A = record t { client = begun None; meter = begun None } in absurd (none-kept down a k)
kept-step {A} t comes_up a k = let up : Talk A = record t { client = opened t.client; meter = opened t.meter } in absurd (none-kept up a k)

pub kept : {A : Type 0} (t : Talk A) (ss : List (Step A)) (a : Asked) → IsKept (talk_after_all t ss) a → (IsKept t a × AreUnbroken t ss) ⊎ WasAsked t ss a
kept t [] a k = inl (k, tt)
kept t (s ∷ ss) a k =
    elim (kept (talk_after t s) ss a k) [
      | inl h ↦ elim (kept-step t s a h.0) [ inl g ↦ inl (g.0, (g.1, h.1)) | inr named ↦ inr (inl (named, h.1)) ]
      | inr was ↦ inr (inr was)
    ]
