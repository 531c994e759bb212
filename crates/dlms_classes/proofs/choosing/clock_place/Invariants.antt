use Rattle.std.proofs.Common.{◌≡◌, drop}
use Rattle.std.specs.Prelude.{◌==◌}
use Rattle.std.specs.List.{position_from}
use Rattle.dlms_classes.specs.Shown.{clock_place}
use Rattle.dlms_classes.proofs.choosing.clock_place.Given as goal

-- it is among the columns still to come
abbrev pub invariant-loop-place : goal.invariant-loop-place
invariant-loop-place l = clock_place l.columns ≡ position_from (λ id. id == 0) l.place (drop l.place l.columns)
