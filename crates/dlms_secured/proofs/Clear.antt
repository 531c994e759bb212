-- No counter is used twice, and what goes out is protected.
use Rattle.std.proofs.Common.{◌≡◌, refl, sym, subst, arith, ℕ, List, [], ◌∷◌, ◌++◌, map, Option, Some, None, inl, inr}
use Rattle.std.specs.Prelude.{All}
use Rattle.std.specs.List.Sorted.{IsStrictlyIncreasing}
use Rattle.std.proofs.lemmas.List.Elements.{All-nil, All-cons, All-head, All-tail, All-append, All-same, All-weaker}
use Rattle.dlms_carrier.specs.Carrying.{Meaning, given}
use Rattle.dlms_security.specs.Run.{Event as SecurityCall, Exchange, IsProtected, NeverTwice as TwiceOf, NeverInTheClear, Fresh, outgoing, incoming}
use Rattle.dlms_security.specs.Run.{used_counters, counter_in}
use Rattle.dlms_security.specs.Security.{SecurityState}
use Rattle.dlms_secured.specs.Guard.{GuardValue}
use Rattle.dlms_secured.specs.Run.{Call, GoesOut, Share, AreShares, carried_in, made_in, session_in, calls_of, IsNoStop, IsLayer, IsLayerOf, IsSecret}
use Rattle.dlms_secured.specs.Run.{AreStates, NeverTwice, NeverInClear}
use Rattle.dlms_secured.specs.Steps.{Guarded}
use Rattle.dlms_secured.proofs.Authentic.{restoring}
use Rattle.dlms_secured.proofs.MadeLemmas.{outgoing_append}
use Rattle.dlms_secured.proofs.Sharing.{all_split, given_append, runs_lead}

pub never_twice : TwiceOf → Fresh → {C : Type 0} (m : Meaning C) → NeverTwice m
never_twice twice once m old new calls state runs =
    let beside = runs_lead m old new calls runs in
    let s : SecurityState = old.guard.security in
    let made : List SecurityCall = made_in beside.shares in
    record {
      beside = beside;
      used = twice s new.guard.security made state beside.security;
      accepted = once s new.guard.security made (restoring s new.guard.security made beside.unstopped beside.security);
    }

-- a layer of this guard protects it
abbrev IsUnder : GuardValue → Exchange → Type 0
IsUnder g x = (s : SecurityState) × IsLayerOf g s × IsProtected s s.own (counter_in x) x

-- the messages of one call
secret_here : (base g : GuardValue) (call : Call) (made : List SecurityCall) (messages : List (List ℕ)) → All (IsUnder base) (outgoing made)
    → All (GoesOut g call made) messages → All (IsSecret base) messages
secret_here base g call made [] are h = All-nil (IsSecret base)
secret_here base g call made (message ∷ messages) are h =
    let out : GoesOut g call made message = All-head (GoesOut g call made) message messages h in
    let is : IsUnder base out.exchange = All-head (IsUnder base) out.exchange [] (subst (λ (l : List Exchange). All (IsUnder base) l) out.alone are) in
    All-cons (IsSecret base) message messages
    (record { guard = g; call = call; exchange = out.exchange; layer = is.0; among = is.1; is = is.2; covers = out.covers })
    (secret_here base g call made messages are (All-tail (GoesOut g call made) message messages h))

secret_shares : {C : Type 0} (m : Meaning C) (base : GuardValue) (calls : List Call) (shares : List Share) (old new : Guarded C)
    → AreShares m old calls shares new → All (IsUnder base) (outgoing (made_in shares)) → All (IsUnder base) (outgoing (session_in shares))
    → All (IsSecret base) (given (carried_in shares))
secret_shares m base [] [] old new h made session = All-nil (IsSecret base)
secret_shares m base [] (share ∷ shares) old new h made session = absurd h
secret_shares m base (call ∷ calls) [] old new h made session = absurd h
secret_shares m base (call ∷ calls) (share ∷ shares) old new h made session =
    let global = all_split (IsUnder base) (outgoing share.made) (outgoing (made_in shares))
    (subst (λ (l : List Exchange). All (IsUnder base) l) (outgoing_append share.made (made_in shares)) made) in
    let own = all_split (IsUnder base) (outgoing share.session) (outgoing (session_in shares))
    (subst (λ (l : List Exchange). All (IsUnder base) l) (outgoing_append share.session (session_in shares)) session) in
    let here : All (IsUnder base) (outgoing (calls_of share)) =
    subst (λ (l : List Exchange). All (IsUnder base) l) (sym (outgoing_append share.made share.session))
    (All-append (IsUnder base) (outgoing share.made) (outgoing share.session) global.0 own.0) in
    All-same (IsSecret base) (given (share.carried ++ carried_in shares)) (given share.carried ++ given (carried_in shares))
    (given_append share.carried (carried_in shares))
    (All-append (IsSecret base) (given share.carried) (given (carried_in shares))
    (secret_here base old.guard call (calls_of share) (given share.carried) here h.1.down)
    (secret_shares m base calls shares h.0 new h.2 global.1 own.1))

-- the calls of the layer of the dedicated key
record Kept (g : GuardValue) (calls : List SecurityCall) : Type 0 where
  under : All (IsUnder g) (outgoing calls)
  used : IsStrictlyIncreasing (used_counters calls)
  accepted : IsStrictlyIncreasing (map counter_in (incoming calls))

none_kept : (g : GuardValue) → Kept g []
none_kept g = record { under = All-nil (IsUnder g); used = λ k short. absurd (omega arith); accepted = λ k short. absurd (omega arith) }

layer_kept : TwiceOf → NeverInTheClear → Fresh → (g : GuardValue) (calls : List SecurityCall) (d e : Option SecurityState) → g.dedicated ≡ d
    → AreStates g → All IsNoStop calls → IsLayer d calls e → Kept g calls
layer_kept twice clear once g calls None None is states still h = subst (Kept g) (sym h) (none_kept g)
layer_kept twice clear once g calls None (Some e) is states still h = absurd h
layer_kept twice clear once g calls (Some d) None is states still h = absurd h
layer_kept twice clear once g calls (Some d) (Some e) is states still h = record {
  under = All-weaker (λ x. IsProtected d d.own (counter_in x) x) (IsUnder g) (λ x p. (d, inr is, p)) (outgoing calls)
      (clear d e calls (states.dedicated d is) h);
  used = twice d e calls (states.dedicated d is) h;
  accepted = once d e calls (restoring d e calls still h);
}

pub never_in_clear : TwiceOf → NeverInTheClear → Fresh → {C : Type 0} (m : Meaning C) → NeverInClear m
never_in_clear twice clear once m old new calls states none runs =
    let beside = runs_lead m old new calls runs in
    let s : SecurityState = old.guard.security in
    let kept : Kept old.guard (session_in beside.shares) =
    layer_kept twice clear once old.guard (session_in beside.shares) old.guard.dedicated new.guard.dedicated refl states beside.session
    (beside.layer none) in
    record {
      beside = beside;
      secret = secret_shares m old.guard calls beside.shares old new beside.each
          (All-weaker (λ x. IsProtected s s.own (counter_in x) x) (IsUnder old.guard) (λ x p. (s, inl refl, p)) (outgoing (made_in beside.shares))
          (clear s new.guard.security (made_in beside.shares) states.global beside.security)) kept.under;
      session = record { used = kept.used; accepted = kept.accepted };
    }
