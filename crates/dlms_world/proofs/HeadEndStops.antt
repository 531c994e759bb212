-- The head end may be stopped at any moment.
use Rattle.std.proofs.Common.{◌≡◌, ◌∙◌, refl, ap, List, [], ◌∷◌}
use Rattle.dlms_frame.specs.Frame.{Parts}
use Rattle.dlms_headend.specs.Asking.{PlanValue}
use Rattle.dlms_link.specs.World.{happens, LostUp, LostDown, without_first}
use Rattle.dlms_world.proofs.Records.{again, same_records}
use Rattle.dlms_world.specs.Possible.{CanStop}
use Rattle.dlms_world.specs.Turn.{Run, Stays, Goes, LosesUp, LosesDown, TurnsTo, records_in, turned}
use Rattle.dlms_world.specs.World.{World}

-- what a loss leaves as it was
pub record Kept (w now : World) : Type 0 where
  pub plan : now.plan ≡ w.plan
  pub file : now.file ≡ w.file
  pub memory : now.memory ≡ w.memory
  pub meter : now.link.meter ≡ w.link.meter
  pub session : now.session ≡ w.session
  pub others : now.others ≡ w.others

kept_all : (w : World) → Kept w w
kept_all w = record { plan = refl; file = refl; memory = refl; meter = refl; session = refl; others = refl }

kept_on : (w m now : World) → Kept w m → Kept m now → Kept w now
kept_on w m now a b = record {
  plan = b.plan ∙ a.plan;
  file = b.file ∙ a.file;
  memory = b.memory ∙ a.memory;
  meter = b.meter ∙ a.meter;
  session = b.session ∙ a.session;
  others = b.others ∙ a.others;
}

loses_up : (w m : World) (frames : List Parts) → Run w m → m.link.up_line ≡ frames → (now : World) × Run w now × (now.link.up_line ≡ []) × Kept m now
loses_up w m [] run none = (m, run, none, kept_all m)
loses_up w m (f ∷ fs) run line =
    let mid : World = record m { link = happens m.link LostUp } in
    let more = loses_up w mid fs (Goes m mid run (LosesUp m)) (ap without_first line) in
    (more.0, more.1, more.2, kept_on m mid more.0 (record { plan = refl; file = refl; memory = refl; meter = refl; session = refl; others = refl }) more.3)

loses_down : (w m : World) (frames : List Parts) → Run w m → m.link.up_line ≡ [] → m.link.down_line ≡ frames → (now : World) × Run w now × (now.link.up_line ≡ []) × (now.link.down_line ≡ []) × Kept m now
loses_down w m [] run up none = (m, run, up, none, kept_all m)
loses_down w m (f ∷ fs) run up line =
    let mid : World = record m { link = happens m.link LostDown } in
    let more = loses_down w mid fs (Goes m mid run (LosesDown m)) up (ap without_first line) in
    (more.0, more.1, more.2, more.3, kept_on m mid more.0 (record { plan = refl; file = refl; memory = refl; meter = refl; session = refl; others = refl }) more.4)

-- all that is on the line is lost
pub silences : (w : World) → (now : World) × Run w now × (now.link.up_line ≡ []) × (now.link.down_line ≡ []) × Kept w now
silences w =
    let first = loses_up w w w.link.up_line Stays refl in
    let second = loses_down w first.0 first.0.link.down_line first.1 first.2 refl in
    (second.0, second.1, second.2, second.3, kept_on w first.0 second.0 first.3 second.4)

pub can_stop : CanStop
can_stop plan w =
    let quiet = silences w in
    let m = quiet.0 in
    let kept = quiet.4 in (
      turned m plan,
      Goes m (turned m plan) quiet.1 (TurnsTo m plan quiet.2 quiet.3),
      record {
        course = refl;
        plan = refl;
        link = refl;
        silent = (quiet.2, quiet.3);
        file = kept.file;
        memory = kept.memory;
        records = λ who. again (records_in m) plan.client who ∙ same_records w m (ap (λ (p : PlanValue). p.client) kept.plan) kept.meter kept.session kept.others who;
      },
    )
