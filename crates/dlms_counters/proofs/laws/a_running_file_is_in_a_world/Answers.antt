use Rattle.std.proofs.Common.{ℕ, ◌<◌, ◌^◌, subst}
use Rattle.dlms_counters.proofs.StepLemmas.{running_world}
use Rattle.dlms_counters.proofs.laws.a_running_file_is_in_a_world.Goals as goal

pub returns : goal.returns
returns g c w fits runs = running_world c.args.file.now w fits runs (subst (λ (n : ℕ). n < 2 ^ 32) c.reserved.ensures c.fits_word.ensures)
