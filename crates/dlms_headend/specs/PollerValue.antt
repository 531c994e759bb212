-- The contract's view of a poll.
use Rattle.std.specs.Prelude.{◌≡◌}
use Rattle.dlms_link.specs.Client.{ClientRecord, IsDown}
use Rattle.dlms_headend.specs.declared.plan.Plan.{Plan}
use Rattle.dlms_headend.specs.declared.stage.Course.{Course}
use Rattle.dlms_headend.specs.declared.stage.Course.TheVariants.{Ready}
use Rattle.dlms_headend.specs.Asking.{AreSeconds, PlanValue}
use Rattle.dlms_headend.specs.TalkValue.{TalkValue}

pub record PollerValue : Type 0 where
  pub plan : PlanValue
  pub link : ClientRecord
  pub course : Course
  pub talk : TalkValue

abbrev pub plan_of : Plan → PlanValue
plan_of plan = record {
  client = plan.client;
  secret = plan.secret.items;
  after = plan.after;
  until = plan.until;
  columns = plan.columns;
}

-- before the first frame the link is down; the plan's seconds are those of the clock
pub record IsStanding (plan : Plan) (link : ClientRecord) (course : Course) : Type 0 where
  pub down : course ≡ Ready → IsDown link
  pub seconds : AreSeconds plan.after plan.until
