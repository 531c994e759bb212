-- The APDUs that were served in a connection are served in turn, from a client that has just come up.
use Rattle.std.proofs.Common.{◌≡◌, ℕ, ◌&&◌, Bool, true, false, List, [], ◌∷◌, ◌++◌, map, refl, sym, ◌∙◌, ap, subst}
use Rattle.std.proofs.lemmas.List.{append-nil, map-append}
use Rattle.dlms_frame.specs.declared.client.Client.{Client}
use Rattle.dlms_frame.specs.Frame.{Parts}
use Rattle.dlms_link.specs.declared.phase.Phase.{Phase}
use Rattle.dlms_link.specs.declared.phase.Phase.TheVariants.{Closed, Connecting}
use Rattle.dlms_link.specs.declared.out.LinkOut.{LinkOut}
use Rattle.dlms_link.specs.declared.out.LinkOut.TheVariants.{Nothing, Reply, Apdu, Oversize, BadLlc, Up, Down}
use Rattle.dlms_link.specs.Server.{ServerRecord}
use Rattle.dlms_link.specs.World.{LinkWorld as Link, start, connects, meter_does}
use Rattle.dlms_meter.specs.Transfers.{Exchange, Asked, InTurn}
use Rattle.dlms_meter.specs.Run.{Choice, Does}
use Rattle.dlms_world.proofs.Clients.{by_link}
use Rattle.dlms_service.specs.Session.{SessionValue, Outcome, fresh}
use Rattle.dlms_state.specs.declared.event.Event.{Event}
use Rattle.dlms_world.specs.Turn.{Answers, served_by, still_ours, silent}
use Rattle.dlms_world.proofs.Live.{live, Allows, StandsUp, IsSame, is_linked, still, nothing_true}

abbrev pub asked_in : List Exchange → List (List ℕ)
asked_in served = map (λ x. x.apdu) served

abbrev pub told_in : List Exchange → List (List ℕ)
told_in served = map (λ x. x.outcome.answer) served

abbrev pub InOrder : Client → List Exchange → SessionValue → Type 0
InOrder who served last = InTurn (fresh who) (map Asked served) last

-- the exchanges that the meter served are the APDUs that its link handed up and was given, in turn, and its record of the client is
-- what they left
pub record Chain (who : Client) (link : Link) (ours : Bool) (session : SessionValue) (served : List Exchange) : Type 0 where
  pub apdus : asked_in served ≡ link.served
  pub answers : told_in served ≡ link.answers
  pub last : SessionValue
  pub in_turn : InOrder who served last
  pub now : ours ≡ true → session ≡ last
  pub alive : live link ≡ true → ours ≡ true

pub aside : (who : Client) (link other : Link) (ours : Bool) (session : SessionValue) (served : List Exchange) → Chain who link ours session served → IsSame link other → (live other ≡ true → live link ≡ true) → Chain who other ours session served
aside who link other ours session served c same was = record {
  apdus = c.apdus ∙ sym same.served;
  answers = c.answers ∙ sym same.answers;
  last = c.last;
  in_turn = c.in_turn;
  now = c.now;
  alive = λ h. c.alive (was h);
}

-- the meter's end is not live, whatever it keeps
pub broken : (who : Client) (link other : Link) (ours : Bool) (session now : SessionValue) (served : List Exchange) → Chain who link ours session served → other.served ≡ link.served → other.answers ≡ link.answers → (live other ≡ true → ⊥) → Chain who other false now served
broken who link other ours session now served c same_served same_answers dead = record {
  apdus = c.apdus ∙ sym same_served;
  answers = c.answers ∙ sym same_answers;
  last = c.last;
  in_turn = c.in_turn;
  now = λ h. absurd (never h);
  alive = λ h. absurd (dead h);
}
  where
    never : false ≡ true → ⊥
    never h = cc

-- a new client, of which nothing was served
pub anew : (who : Client) (m : ServerRecord) (up down : List Parts) (session : SessionValue) → Chain who (record (start who) { meter = m; up_line = up; down_line = down }) false session []
anew who m up down session = record {
  apdus = refl;
  answers = refl;
  last = fresh who;
  in_turn = refl;
  now = λ h. absurd (never h);
  alive = λ h. absurd (nothing_true m.up h);
}
  where
    never : false ≡ true → ⊥
    never h = cc

-- a connection begins
pub begins : (who : Client) (link : Link) (session : SessionValue) (phase : Phase) → phase ≡ Closed → link.down_line ≡ [] → Chain who (connects link phase) false session []
begins who link session phase closed silent = subst (λ p. Chain who (connects link p) false session []) (sym closed) (record {
  apdus = refl;
  answers = refl;
  last = fresh who;
  in_turn = refl;
  now = λ h. absurd (never h);
  alive = λ h. absurd (dead h);
})
  where
    never : false ≡ true → ⊥
    never h = cc

    dead : (link.meter.up && is_linked Connecting link.down_line) ≡ true → ⊥
    dead h = nothing_true link.meter.up (subst (λ line. (link.meter.up && is_linked Connecting line) ≡ true) silent h)

go_on : (s m : SessionValue) (xs : List Exchange) (x : Exchange) → InTurn s (map Asked xs) m → Does x.choice x.before m x.apdu x.outcome → InTurn s (map Asked (xs ++ x ∷ [])) x.outcome.own
go_on s m [] x h k = (subst (λ (v : SessionValue). Does x.choice x.before v x.apdu x.outcome) h k, refl)
go_on s m (y ∷ ys) x h k = (h.0, go_on y.outcome.own m ys x h.1 k)

-- none is served if the link handed up none
none_served : (served : List Exchange) → asked_in served ≡ [] → served ≡ []
none_served [] e = refl
none_served (x ∷ xs) e = cc

-- a link that neither served nor came up or went down
unmoved : (who : Client) (link other : Link) (ours : Bool) (session : SessionValue) (o : Outcome) (served : List Exchange) → Chain who link ours session served → other.served ≡ link.served → other.answers ≡ link.answers → o.own ≡ session
    → (live other ≡ true → ours ≡ true) → Chain who other ours o.own (served ++ [])
unmoved who link other ours session o served c same_served same_answers same was = subst (λ (l : List Exchange). Chain who other ours o.own l) (sym (append-nil served)) (record {
  apdus = c.apdus ∙ sym same_served;
  answers = c.answers ∙ sym same_answers;
  last = c.last;
  in_turn = c.in_turn;
  now = λ h. same ∙ c.now h;
  alive = was;
})

-- a frame at the meter
pub arrives : (who : Client) (link : Link) (m : ServerRecord) (rest : List Parts) (choice : Choice) (E : List Event) (s : SessionValue) (result : LinkOut) (o : Outcome) (ours : Bool) (served : List Exchange) →
    Chain who link ours s served → StandsUp link.meter.up m.up result → Allows (live link) link.served result → Answers choice E m s result o → s.client ≡ who →
    Chain who (meter_does (record link { meter = m; up_line = rest }) o.answer result) (still_ours ours result) o.own (served ++ served_by choice E m result o)
arrives who link m rest choice E s Nothing o ours served c stands allowed is client =
    unmoved who link (record link { meter = m; up_line = rest }) ours s o served c refl refl (ap (λ (x : Outcome). x.own) (by_link choice (o ≡ silent s) is)) (still link m rest o.answer Nothing ours stands allowed c.alive)
arrives who link m rest choice E s (Reply f) o ours served c stands allowed is client =
    unmoved who link (record link { meter = m; up_line = rest; down_line = link.down_line ++ f ∷ [] }) ours s o served c refl refl (ap (λ (x : Outcome). x.own) (by_link choice (o ≡ silent s) is)) (still link m rest o.answer (Reply f) ours stands allowed c.alive)
arrives who link m rest choice E s Apdu o ours served c stands allowed is client =
    let x : Exchange = record { apdu = m.apdu; before = E; choice = choice; outcome = o } in
    record {
      apdus = map-append (λ (y : Exchange). y.apdu) served (x ∷ []) ∙ ap (λ l. l ++ m.apdu ∷ []) c.apdus;
      answers = map-append (λ (y : Exchange). y.outcome.answer) served (x ∷ []) ∙ ap (λ l. l ++ o.answer ∷ []) c.answers;
      last = o.own;
      in_turn = go_on (fresh who) c.last served x c.in_turn (subst (λ (v : SessionValue). Does choice E v m.apdu o) (c.now (c.alive allowed)) is);
      now = λ h. refl;
      alive = still link m rest o.answer Apdu ours stands allowed c.alive;
    }
arrives who link m rest choice E s Oversize o ours served c stands none is client = absurd none
arrives who link m rest choice E s BadLlc o ours served c stands none is client = absurd none
arrives who link m rest choice E s (Up f) o ours served c stands allowed is client =
    let empty : served ≡ [] = none_served served (c.apdus ∙ allowed) in
    subst (λ (l : List Exchange). Chain who (record link { meter = m; up_line = rest; down_line = link.down_line ++ f ∷ [] }) true o.own l) (sym (append-nil served)) (record {
      apdus = c.apdus;
      answers = c.answers;
      last = fresh who;
      in_turn = subst (λ (l : List Exchange). InOrder who l (fresh who)) (sym empty) refl;
      now = λ h. ap (λ (x : Outcome). x.own) (by_link choice (o ≡ silent (fresh s.client)) is) ∙ ap fresh client;
      alive = λ h. refl;
    })
arrives who link m rest choice E s (Down f) o ours served c stands allowed is client =
    subst (λ (l : List Exchange). Chain who (record link { meter = m; up_line = rest; down_line = link.down_line ++ f ∷ [] }) false o.own l) (sym (append-nil served)) (record {
      apdus = c.apdus;
      answers = c.answers;
      last = c.last;
      in_turn = c.in_turn;
      now = λ h. cc;
      alive = still link m rest o.answer (Down f) ours stands allowed c.alive;
    })
