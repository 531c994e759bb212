use Rattle.std.proofs.Common.{sym, subst, List}
use Rattle.dlms_headend.specs.Merged.{merged}
use Rattle.dlms_headend.specs.declared.row.Row.{Row}
use Rattle.dlms_meter.specs.Run.{events_of}
use Rattle.dlms_world.specs.Agree.{AreCaptures}
use Rattle.dlms_world.specs.Programs.{Merges, Then}
use Rattle.dlms_polling.proofs.laws.the_place_holds_captures.Goals as goal

pub returns : goal.returns
returns g c = λ plan first now is acts same done kept some asked asked' printed printed' after files.
    let then = record now { file = merged now.file kept } in
    let (m, stands, fits, captures) = c.programs_are_runs.ensures plan first then is (Then now then acts (Merges now kept done some)) same in
    let (merges, text, spelled, gives) = files in
    record {
      text = text;
      put = gives.0;
      spelled = spelled;
      world = m;
      stands = stands;
      fits = fits;
      captures = subst (λ (rows : List Row). AreCaptures (events_of m) rows) (sym merges) captures;
    }
