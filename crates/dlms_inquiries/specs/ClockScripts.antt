-- The requests that read a meter's clock, and those that correct it before.
use Rattle.std.specs.Prelude.{◌≡◌, ℕ, ℤ, Bool, true, false, nat_eq, List, [], ◌∷◌, Option, Some, None, Result, Ok, Err}
use Rattle.std.specs.declared.alloc.AllocError.{AllocError}
use Rattle.std.specs.declared.alloc.Global.{Global}
use Rattle.dlms_association.specs.declared.answer.Answer.{Answer}
use Rattle.dlms_association.specs.declared.answer.Answer.TheVariants.{Value, Result as ResultOf, Denied}
use Rattle.dlms_data.specs.Value.{long, octet_string}
use Rattle.dlms_data.specs.View.{value_of}
use Rattle.dlms_data.specs.declared.data.Data.{Data}
use Rattle.dlms_data.specs.declared.descriptor.Descriptor.{Descriptor}
use Rattle.dlms_inquiries.specs.Clocks.{IsAhead, IsTimeNow, shift_for}
use Rattle.dlms_inquiries.specs.declared.clock.Comparison.{Comparison}
use Rattle.dlms_inquiries.specs.declared.clock_script.ClockScript.{ClockScript}
use Rattle.dlms_inquiries.specs.declared.clock_script.Correction.{Correction}
use Rattle.dlms_inquiries.specs.declared.clock_script.Correction.TheVariants as correction
use Rattle.dlms_inquiries.specs.declared.clock_script.Stage.{Stage}
use Rattle.dlms_inquiries.specs.declared.clock_script.Stage.TheVariants as stage
use Rattle.dlms_inquiries.specs.declared.script.Question.{Question}
use Rattle.dlms_inquiries.specs.declared.script.Question.TheVariants.{Get, Set, Act}

-- the attribute or method with this number of the class Clock (8), in the object 0.0.1.0.0.255
abbrev pub clock_part : ℕ → Descriptor
clock_part id = record { class = 8; name = 0 ∷ 0 ∷ 1 ∷ 0 ∷ 0 ∷ 255 ∷ []; id = id }

-- its time, and shift_time
abbrev pub the_time : Descriptor
the_time = clock_part 2

abbrev pub shift_time : Descriptor
shift_time = clock_part 6

-- ---- before the first request

-- nothing was done yet; the clock was found so, if it is to be corrected; the requests begin at this second of the system's clock
pub record IsNewScript (found : Option Comparison) (second : ℕ) (script : ClockScript) : Type 0
  where
    pub was : script.found ≡ found
    pub begins : script.second ≡ second
    pub start : script.stage ≡ stage.Start
    pub nothing : script.done ≡ correction.Nothing

-- ---- an answer

-- the meter did what was requested
abbrev pub is_done : Option Answer → Bool
is_done None = false
is_done (Some Value) = true
is_done (Some (ResultOf code)) = nat_eq code 0
is_done (Some (Denied why)) = false

-- a value came
abbrev pub is_given : Option Answer → Bool
is_given None = false
is_given (Some Value) = true
is_given (Some (ResultOf code)) = false
is_given (Some (Denied why)) = false

-- ---- a request, and the script after it

-- the time is read, and no other request follows: this was done to the clock
abbrev pub ReadsLast : Correction → ClockScript → Option Question → ClockScript → Type 0
ReadsLast done old next new = (next ≡ Some (Get the_time))
    × (new ≡ record old { done = done; stage = stage.Last })

-- the time is read, to be set then
abbrev pub ReadsTime : ClockScript → Option Question → ClockScript → Type 0
ReadsTime old next new = (next ≡ Some (Get the_time)) × (new ≡ record old { stage = stage.Time })

-- the clock is shifted by this many seconds
abbrev pub Shifts : ℤ → ClockScript → Option Question → ClockScript → Type 0
Shifts seconds old next new = (value : Data Global) × (next ≡ Some (Act shift_time (Some value)))
    × (value_of value ≡ long seconds) × (new ≡ record old { stage = stage.Shift })

-- there is no other request, after this answer
abbrev pub Ends : Option Answer → ClockScript → Option Question → ClockScript → Type 0
Ends answer old next new = (next ≡ None) × (new ≡ record old { answer = answer })

-- the clock, found so and with this encoding of its time, is set
abbrev pub SetsFrom : Option Comparison → List ℕ → ClockScript → Option Question → ClockScript
    → Type 0
SetsFrom None encoding old next new = Ends None old next new
SetsFrom (Some found) encoding old next new = (time : List ℕ) × (value : Data Global)
    × IsTimeNow found encoding old.second time × (next ≡ Some (Set the_time value))
    × (value_of value ≡ octet_string time) × (new ≡ record old { stage = stage.Set })

abbrev pub Sets : ClockScript → List ℕ → Option Question → ClockScript → Type 0
Sets old encoding next new = SetsFrom old.found encoding old next new

-- A clock is shifted by as many seconds back as it is ahead, if it can be shifted so far.
abbrev pub BeginsBy : Option ℤ → ClockScript → Option Question → ClockScript → Type 0
BeginsBy None old next new = ReadsTime old next new
BeginsBy (Some seconds) old next new = Shifts seconds old next new

-- The first request: the time, if the clock is not to be corrected.
abbrev pub BeginsFrom : Option Comparison → ClockScript → Option Question → ClockScript → Type 0
BeginsFrom None old next new = ReadsLast correction.Nothing old next new
BeginsFrom (Some found) old next new = (ahead : Option ℤ) × IsAhead found ahead
    × BeginsBy (shift_for ahead) old next new

abbrev pub Begins : ClockScript → Option Question → ClockScript → Type 0
Begins old next new = BeginsFrom old.found old next new

-- there is no other request; the encoding is kept if the answer is a value
abbrev pub Keeps : Option Answer → ClockScript → List ℕ → Option Question → ClockScript → Type 0
Keeps answer old encoding next new = (next ≡ None)
    × (new ≡ record old { answer = answer; shown = new.shown })
    × (is_given answer ≡ true → new.shown.items ≡ encoding)
    × (is_given answer ≡ false → new.shown ≡ old.shown)

-- ---- the script

abbrev pub When : Bool → Type 0 → Type 0 → Type 0
When true a b = a
When false a b = b

-- What follows from the answer to the last request: if a shift is refused the clock is set, and a clock that was corrected is read again.
abbrev pub FollowsAt : Stage → ClockScript → Option Answer → List ℕ → Option Question
    → ClockScript → Type 0
FollowsAt stage.Start old answer encoding next new = Begins old next new
FollowsAt stage.Shift old answer encoding next new =
    When (is_done answer) (ReadsLast correction.Shifted old next new) (ReadsTime old next new)
FollowsAt stage.Time old answer encoding next new =
    When (is_given answer) (Sets old encoding next new) (Ends answer old next new)
FollowsAt stage.Set old answer encoding next new =
    When (is_done answer) (ReadsLast correction.Set old next new) (Ends answer old next new)
FollowsAt stage.Last old answer encoding next new = Keeps answer old encoding next new

abbrev pub ClockFollows : ClockScript → Option Answer → List ℕ
    → Result (Option Question) AllocError → ClockScript → Type 0
ClockFollows old answer encoding (Ok next) new =
    FollowsAt old.stage old answer encoding next new
ClockFollows old answer encoding (Err fault) new = Unit {0}
