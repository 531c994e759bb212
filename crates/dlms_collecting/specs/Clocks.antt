-- Which clocks are corrected, and what a meter's answers say of its clock.
use Rattle.std.specs.Prelude.{◌≡◌, ℕ, ℤ, Bool, false, List, IsErr, Option, Some, None, Result, Ok, Err, Box}
use Rattle.std.specs.declared.alloc.Global.{Global}
use Rattle.dlms_association.specs.declared.answer.Answer.{Answer}
use Rattle.dlms_association.specs.declared.answer.Answer.TheVariants as answer
use Rattle.dlms_fleet.specs.Numbers.{numbered}
use Rattle.dlms_fleet.specs.declared.numbered.Numbered.{Numbered}
use Rattle.dlms_inquiries.specs.Clocks.{IsShown, IsSystem, is_off}
use Rattle.dlms_inquiries.specs.ClockScripts.{IsNewScript}
use Rattle.dlms_inquiries.specs.Inquiries.{AskValue}
use Rattle.dlms_inquiries.specs.declared.clock.Comparison.{Comparison}
use Rattle.dlms_inquiries.specs.declared.clock_script.ClockScript.{ClockScript}
use Rattle.dlms_inquiries.specs.declared.meter_job.MeterJob.{MeterJob}
use Rattle.dlms_inquiries.specs.declared.meter_job.MeterJob.TheVariants.{Clock as ClockJob}
use Rattle.dlms_collecting.specs.declared.collecting.Purpose.{Purpose}
use Rattle.dlms_collecting.specs.declared.collecting.Purpose.TheVariants.{Poll, Get, Clock}
use Rattle.dlms_collecting.specs.declared.fault.MeterFault.{MeterFault}
use Rattle.dlms_collecting.specs.declared.fault.MeterFault.TheVariants.{Refused}
use Rattle.dlms_collecting.specs.declared.fault.Refusal.TheVariants as refusal

-- Whether a clock that is ahead by this many seconds is corrected: clocks are to be corrected, and it is off by more than the threshold, or
-- shows no time.
abbrev pub corrects : Purpose → Option ℤ → Bool
corrects (Poll folder) ahead = false
corrects (Get written names) ahead = false
corrects (Clock None) ahead = false
corrects (Clock (Some threshold)) ahead = is_off threshold ahead

-- A job of the meter with this number that makes the requests of a new script, from this second of the system's clock on: the clock was
-- found so, if it is to be corrected.
pub record IsNewClockJob (number : ℕ) (found : Option Comparison) (second : ℕ)
    (job : Numbered MeterJob) : Type 0 where
  pub ask : Box (AskValue ClockScript) Global
  pub is_clock : job ≡ numbered number (ClockJob ask)
  pub begins : ℕ
  pub at : IsSystem second begins
  pub script : IsNewScript found begins ask.value.script

-- what an encoding shows at this second of the system's clock
pub record Compares (encoding : List ℕ) (second : ℕ) (found : Comparison) : Type 0 where
  pub shown : IsShown encoding found.shown
  pub system : IsSystem second found.system

-- The last answer of a script that is over: the time, or why it was not given or not set.
abbrev pub SaysOfClock : Option Answer → List ℕ → ℕ → Result Comparison MeterFault → Type 0
SaysOfClock (Some answer.Value) encoding second (Ok found) = Compares encoding second found
SaysOfClock (Some answer.Value) encoding second (Err fault) = ⊥
SaysOfClock (Some (answer.Result code)) encoding second result =
    result ≡ Err (Refused 0 (refusal.Result code))
SaysOfClock (Some (answer.Denied denial)) encoding second result =
    result ≡ Err (Refused 0 (refusal.Denied denial))
SaysOfClock None encoding second result = IsErr result

abbrev pub IsClockOf : ClockScript → ℕ → Result Comparison MeterFault → Type 0
IsClockOf script second result = SaysOfClock script.answer script.shown.items second result
