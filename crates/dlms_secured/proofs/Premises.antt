-- The premises of the laws are true of a new guard.
use Rattle.std.proofs.Common.{◌≡◌, ◌∙◌, sym, ap, true, List, ℕ, Option, Some, None, inl, inr}
use Rattle.dlms_security.specs.Security.{SecurityState}
use Rattle.dlms_security.specs.declared.policy.Policy.{Policy}
use Rattle.dlms_secured.specs.Guard.{GuardValue, layer_of}
use Rattle.dlms_secured.specs.Run.{HaveTags, IsLayerOf, has_tag}

layer_policy : (own authentication : List ℕ) (policy : Policy) (key : Option (List ℕ)) (s : SecurityState)
    → layer_of own authentication policy key ≡ Some s → s.policy ≡ policy
layer_policy own authentication policy None s e = absurd cc
layer_policy own authentication policy (Some key) s e =
    let policy_in : Option SecurityState → Policy = λ o. elim o [ None ↦ policy | Some t ↦ t.policy ] in
    sym (ap policy_in e)

-- both layers have the policy
pub new_tags : (g : GuardValue) (own authentication : List ℕ) (policy : Policy) (key : Option (List ℕ)) → g.security.policy ≡ policy
    → g.dedicated ≡ layer_of own authentication policy key → has_tag policy ≡ true → HaveTags g
new_tags g own authentication policy key is layer has s among = ap has_tag (by_layer among) ∙ has
  where
    by_layer : IsLayerOf g s → s.policy ≡ policy
    by_layer among = elim among [
      | inl same ↦ ap (λ (t : SecurityState). t.policy) same ∙ is
      | inr dedicated ↦ layer_policy own authentication policy key s (sym layer ∙ dedicated)
    ]
