-- The route to a meter, and the terms that the client proposes to it.
use Rattle.std.specs.Prelude.{ℕ, ◌≤◌, List, Option, option_map}
use Rattle.dlms_blocks.specs.declared.block.TheConstants.{LEAST_SIZE, MOST_SIZE}
use Rattle.dlms_association.specs.Terms.{TermsValue}
use Rattle.dlms_carrier.specs.Any.{IsRoute}
use Rattle.dlms_carrier.specs.declared.any.Route.{Route}
use Rattle.dlms_client.specs.declared.plan.Plan.{Plan}

pub record PlanValue : Type 0 where
  pub route : Route
  pub secret : Option (List ℕ)
  pub size : ℕ

abbrev pub plan_of : Plan → PlanValue
plan_of plan = record {
  route = plan.route;
  secret = option_map (λ secret. secret.items) plan.secret;
  size = plan.size;
}

-- the route's addresses are in their ranges, and two ends may agree on APDUs of this size
pub record IsPlan (plan : PlanValue) : Type 0 where
  pub route : IsRoute plan.route
  pub least : LEAST_SIZE ≤ plan.size
  pub most : plan.size ≤ MOST_SIZE

-- the terms of its association
abbrev pub terms_in : PlanValue → TermsValue
terms_in plan = record { secret = plan.secret; size = plan.size }
