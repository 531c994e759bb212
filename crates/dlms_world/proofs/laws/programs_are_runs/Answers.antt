use Rattle.dlms_world.proofs.ProgramLaw.{files_are_captures}
use Rattle.dlms_world.proofs.laws.programs_are_runs.Goals as goal

pub returns : goal.returns
returns g c = files_are_captures c.args.meter.now
