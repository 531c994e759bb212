-- A meter that serves one connection after another.
use Rattle.std.proofs.Common.{refl, sym, ◌∙◌, ◌≡◌, ℕ, Bool, true, false, List, [], ◌∷◌, Option, Some, None, Result, Ok, Err, subst}
use Rattle.std.specs.Prelude.{IsErrAnd}
use Rattle.std.specs.declared.io.Error.{Error}
use Rattle.std.specs.declared.net.socket_addr.SocketAddr.{SocketAddr}
use Rattle.std.proofs.lemmas.Bool.{false≢true}
use Rattle.dlms_ends.specs.Faults.{TellsError}
use Rattle.dlms_ends.specs.declared.fault.RunFault.{RunFault}
use Rattle.dlms_ends.proofs.PollLemmas.{system_told}
use Rattle.dlms_meter.specs.declared.meter.Meter.{Meter}
use Rattle.dlms_pages.specs.declared.device.Pages.{Ghosts}
use Rattle.dlms_serving.specs.Connection.{LooksOnce, timed}
use Rattle.dlms_serving.specs.HangingUp.{HangsUp}
use Rattle.dlms_lines.specs.Faults.{IsOther}
use Rattle.dlms_serving.specs.Serving.{Bans, Closes, is_refused, IsSystem, Passes, ServesAll, ServesMany, ServesNext, NoLook, NoneCame, OneCame, HasPassed, PortFails, ServesOne, Served, TellsOther, Visits}
use Rattle.dlms_lines.specs.Watching.{Sight, Sees}
use Rattle.dlms_lines.specs.Watching.Sight.{Second, Next, Bars, Pauses}
use Rattle.dlms_lines.specs.declared.fault.FieldFault.{FieldFault}
use Rattle.dlms_serving.specs.declared.talking.Ending.{Ending}
use Rattle.dlms_serving.specs.declared.talking.Rules.{Rules}
use Rattle.dlms_serving.specs.declared.ticks.Ticks.{Ticks}
use Rattle.dlms_lines.proofs.SharedLemmas.{sees_more, sees_nothing}

pub bans_in_vain : {T : Type 0} (address : SocketAddr) (seen seen' : Option (List Sight)) (error : Error) (r : Result T RunFault) → IsErrAnd r (TellsError error) → Sees seen seen' (Second None ∷ []) → Bans address seen seen' r
bans_in_vain address seen seen' error (Ok done) told sees = absurd told
bans_in_vain address seen seen' error (Err fault) told sees = (sees, system_told fault error told)

pub closes_still : (address : SocketAddr) (past : Option (List Sight)) (ending : Ending) (refused : Bool) → refused ≡ is_refused ending → refused ≡ false → Closes {T = Unit {0}} address ending past past (Ok tt)
closes_still address past ending refused is none = (λ so. absurd (false≢true (sym none ∙ is ∙ so)), λ not. (sees_nothing past, refl))

pub closes_banned : (address : SocketAddr) (v w x : Option (List Sight)) (ending : Ending) (refused : Bool) (now : ℕ) → refused ≡ is_refused ending → refused ≡ true → Sees v w (Second (Some now) ∷ []) → Sees w x (Bars address now ∷ [])
    → Closes {T = Unit {0}} address ending v x (Ok tt)
closes_banned address v w x ending refused now is so looks bars = (λ refuses. (now, sees_more v w x (Second (Some now) ∷ []) (Bars address now ∷ []) looks bars), λ not. absurd (false≢true (sym not ∙ sym is ∙ so)))

pub closes_in_vain : (address : SocketAddr) (v w : Option (List Sight)) (ending : Ending) (refused : Bool) (error : Error) (r : Result (Unit {0}) RunFault) → refused ≡ is_refused ending → refused ≡ true → IsErrAnd r (TellsError error)
    → Sees v w (Second None ∷ []) → Closes address ending v w r
closes_in_vain address v w ending refused error r is so told sees = (λ refuses. bans_in_vain address v w error r told sees, λ not. absurd (false≢true (sym not ∙ sym is ∙ so)))

module _ {P A : Type 0} {ghosts : Ghosts P} where
  pub served : (rules : Rules) (address : SocketAddr) (v w x : Option (List Sight)) (a begun ended after : Meter P A ghosts) (ticks ticks' ticks'' : Ticks) (ending : Ending) (result : Result (Unit {0}) RunFault) → HangsUp a begun
      → Visits rules v w (timed begun ticks) (Ok ending) (timed ended ticks') → HangsUp ended after → Closes address ending w x result → ticks'' ≡ ticks' → ServesOne rules address v x (timed a ticks) result (timed after ticks'')
  served rules address v w x a begun ended after ticks ticks' ticks'' ending result first visits last closes same =
      subst (λ (t : Ticks). ServesOne rules address v x (timed a ticks) result (timed after t)) (sym same) (Served w begun after (timed ended ticks') ending result first visits last closes)

  -- ---- the next one, behind a look at the clock

  pub no_look : (rules : Rules) (v w : Option (List Sight)) (a b : Meter P A ghosts) (ticks ticks' : Ticks) (fault : RunFault) (given : FieldFault) → IsOther given fault → LooksOnce rules.tick v w (timed a ticks) (Err fault) (timed b ticks')
      → ServesNext rules v w (timed a ticks) (Err given) (timed b ticks')
  no_look rules v w a b ticks ticks' fault given is looks = NoLook fault given looks.0 (timed b ticks') is looks.2 looks.1

  pub none_came : (rules : Rules) (v w x : Option (List Sight)) (a b : Meter P A ghosts) (ticks ticks' : Ticks) (now : ℕ) (came : Option SocketAddr) → LooksOnce rules.tick v w (timed a ticks) (Ok now) (timed b ticks') → Sees w x (Next now (Ok came) ∷ [])
      → came ≡ None → ServesNext rules v x (timed a ticks) (Ok tt) (timed b ticks')
  none_came rules v w x a b ticks ticks' now came looks sees is =
      NoneCame now (timed b ticks') looks.1 (sees_more v w x (Second (Some now) ∷ []) (Next now (Ok None) ∷ []) looks.0 (subst (λ (c : Option SocketAddr). Sees w x (Next now (Ok c) ∷ [])) is sees))

  pub one_came : (rules : Rules) (v w x y : Option (List Sight)) (a b d : Meter P A ghosts) (ticks told ticks' : Ticks) (now : ℕ) (address : SocketAddr) (came : Option SocketAddr) (outcome : Result (Unit {0}) RunFault) (result : Result (Unit {0}) FieldFault)
      → LooksOnce rules.tick v w (timed a ticks) (Ok now) (timed b told) → Sees w x (Next now (Ok came) ∷ []) → came ≡ Some address → ServesOne rules address x y (timed b told) outcome (timed d ticks') → TellsOther outcome result → ServesNext rules v y (timed a ticks) result (timed d ticks')
  one_came rules v w x y a b d ticks told ticks' now address came outcome result looks sees is serves tells =
      OneCame now address x (timed b told) (timed d ticks') outcome result looks.1 (sees_more v w x (Second (Some now) ∷ []) (Next now (Ok (Some address)) ∷ []) looks.0 (subst (λ (c : Option SocketAddr). Sees w x (Next now (Ok c) ∷ [])) is sees)) serves tells

  pub port_fails : (rules : Rules) (v w x : Option (List Sight)) (a b : Meter P A ghosts) (ticks ticks' : Ticks) (now : ℕ) (error : Error) (given : FieldFault) → LooksOnce rules.tick v w (timed a ticks) (Ok now) (timed b ticks')
      → Sees w x (Next now (Err error) ∷ []) → (Passes error → ⊥) → IsSystem given error → ServesNext rules v x (timed a ticks) (Err given) (timed b ticks')
  port_fails rules v w x a b ticks ticks' now error given looks sees stays is =
      PortFails now error given (timed b ticks') looks.1 stays is (sees_more v w x (Second (Some now) ∷ []) (Next now (Err error) ∷ []) looks.0 sees)

  pub has_passed : (rules : Rules) (v w x y : Option (List Sight)) (a b : Meter P A ghosts) (ticks ticks' ticks'' : Ticks) (now : ℕ) (error : Error) → LooksOnce rules.tick v w (timed a ticks) (Ok now) (timed b ticks') → Sees w x (Next now (Err error) ∷ [])
      → ticks'' ≡ ticks' → (z : Option (List Sight)) → z ≡ x → Sees z y (Pauses ∷ []) → Passes error → ServesNext rules v y (timed a ticks) (Ok tt) (timed b ticks'')
  has_passed rules v w x y a b ticks ticks' ticks'' now error looks sees same z still waits passes =
      let pauses : Sees x y (Pauses ∷ []) = subst (λ (t : Option (List Sight)). Sees t y (Pauses ∷ [])) still waits in
      subst (λ (t : Ticks). ServesNext rules v y (timed a ticks) (Ok tt) (timed b t)) (sym same)
      (HasPassed now error (timed b ticks') looks.1 passes (sees_more v w y (Second (Some now) ∷ []) (Next now (Err error) ∷ Pauses ∷ []) looks.0 (sees_more w x y (Next now (Err error) ∷ []) (Pauses ∷ []) sees pauses)))

  pub until : (rules : Rules) (v w x : Option (List Sight)) (a b d : Meter P A ghosts) (ticks told ticks' : Ticks) (count : ℕ) (fault : FieldFault) → ServesMany rules v (timed a ticks) count w (timed b told)
      → ServesNext rules w x (timed b told) (Err fault) (timed d ticks') → ServesAll {T = Unit {0}} rules v x (timed a ticks) (Err fault) (timed d ticks')
  until rules v w x a b d ticks told ticks' count fault many ends = record { count = count; mid = w; last = timed b told; many = many; ends = ends }
