-- A new job that reads or corrects a clock.
use Rattle.std.proofs.Common.{◌≡◌, refl, sym, subst, ℕ, Option, Box}
use Rattle.std.specs.declared.alloc.Global.{Global}
use Rattle.dlms_fleet.specs.Numbers.{numbered}
use Rattle.dlms_inquiries.specs.ClockScripts.{IsNewScript}
use Rattle.dlms_inquiries.specs.Clocks.{IsSystem}
use Rattle.dlms_inquiries.specs.Inquiries.{AskValue}
use Rattle.dlms_inquiries.specs.declared.clock.Comparison.{Comparison}
use Rattle.dlms_inquiries.specs.declared.clock_script.ClockScript.{ClockScript}
use Rattle.dlms_inquiries.specs.declared.meter_job.MeterJob.TheVariants.{Clock}
use Rattle.dlms_collecting.specs.Clocks.{IsNewClockJob}

pub new_clock_job : (number second begins : ℕ) (found : Option Comparison) (ask : Box (AskValue ClockScript) Global) (script : ClockScript)
    → ask.value.script ≡ script → IsNewScript found begins script → IsSystem second begins → IsNewClockJob number found second (numbered number (Clock ask))
new_clock_job number second begins found ask script same new system = record {
  ask = ask;
  is_clock = refl;
  begins = begins;
  at = system;
  script = subst (λ (s : ClockScript). IsNewScript found begins s) (sym same) new;
}
