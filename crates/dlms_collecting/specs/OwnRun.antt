-- A poll of a meter whose rows are filed under its name: there is one, whatever the meter's answers and its rows are.
use Rattle.std.specs.Prelude.{◌≡◌, ◌≤◌, ℕ, List, [], Option, None, Some, Box, length, true, false}
use Rattle.std.specs.declared.alloc.Global.{Global}
use Rattle.dlms_acse.specs.Writing.{release_request}
use Rattle.dlms_carrier.specs.Tcp.{is_notification, message_of}
use Rattle.dlms_carrier.specs.declared.any.Route.{Route}
use Rattle.dlms_carrier.specs.declared.any.Route.TheVariants as by
use Rattle.dlms_ends.specs.PollEnds.{IsNew, PollEndValue}
use Rattle.dlms_filing.specs.Filing.{PlaceCall}
use Rattle.dlms_filing.specs.Printing.{Printed}
use Rattle.dlms_fleet.specs.Numbers.{HandsBack, NumberedSteps}
use Rattle.dlms_fleet.specs.Runs.{Event, FleetRun}
use Rattle.dlms_fleet.specs.Seats.{FleetValue}
use Rattle.dlms_fleet.specs.declared.numbered.Numbered.{Numbered}
use Rattle.dlms_fleet.specs.declared.running.Outcome.TheVariants as outcome
use Rattle.dlms_headend.specs.Asking.{IsBufferRequest, columns_bytes}
use Rattle.dlms_headend.specs.CarrierPollValue.{TermsValue}
use Rattle.dlms_headend.specs.Columns.{TellsColumns}
use Rattle.dlms_headend.specs.Due.{association_with}
use Rattle.dlms_headend.specs.Poll.{Accepts, Spells, is_release}
use Rattle.dlms_headend.specs.declared.plan.Columns.TheVariants.{Asked}
use Rattle.dlms_headend.specs.declared.row.Row.{Row}
use Rattle.dlms_inquiries.specs.Inquiries.{Sent}
use Rattle.dlms_inquiries.specs.MeterJobs.{MeterSteps, poll_of}
use Rattle.dlms_inquiries.specs.declared.meter_job.JobFault.{JobFault}
use Rattle.dlms_inquiries.specs.declared.meter_job.MeterJob.{MeterJob}
use Rattle.dlms_polling.specs.Keeping.{FilesPolled}
use Rattle.dlms_wrapper.specs.Message.{message_bytes}
use Rattle.dlms_wrapper.specs.declared.message.TheConstants.{MOST_APDU}
use Rattle.dlms_collecting.specs.Own.{FilesOwn, IsNewPoll}

-- between the wrapper ports 16 and 1, by the public client, of all rows: as a collection polls a meter for the first time
abbrev pub the_route : Route
the_route = by.Tcp 16 1

abbrev pub the_terms : TermsValue
the_terms = record { secret = None; after = None; until = None; columns = Asked }

-- the messages of an APDU to the meter, and from it
abbrev pub to_meter : List ℕ → List ℕ
to_meter apdu = message_bytes (message_of 16 1 apdu)

abbrev pub from_meter : List ℕ → List ℕ
from_meter apdu = message_bytes (message_of 1 16 apdu)

-- the octets that the poll sends, one after another
pub record AreRequests (first second third fourth fifth : Sent) : Type 0 where
  pub get : List ℕ
  pub wanted : IsBufferRequest None None get
  pub associates : first.items ≡ to_meter (association_with None)
  pub names : second.items ≡ to_meter columns_bytes
  pub gets : third.items ≡ to_meter get
  pub checks : fourth.items ≡ to_meter columns_bytes
  pub releases : fifth.items ≡ to_meter release_request

-- an APDU that a message brings as an answer
pub record IsAnswer (apdu : List ℕ) : Type 0 where
  pub short : length apdu ≤ MOST_APDU
  pub answers : is_notification apdu ≡ false

-- the meter's answers to them, and the rows that they spell
pub record AreAnswers (accept named answer again release : List ℕ) (rows : List Row) : Type 0 where
  pub accepts : Accepts accept
  pub names : TellsColumns named
  pub spells : Spells 0 [] answer rows
  pub checks : TellsColumns again
  pub releases : is_release release ≡ true
  pub one : IsAnswer accept
  pub two : IsAnswer named
  pub three : IsAnswer answer
  pub four : IsAnswer again
  pub five : IsAnswer release

-- what the law of filed rows speaks of: a new poll that was started on a seat, and handed back as done; its rows were filed
pub record IsFiledOnce (number : ℕ) (job : Numbered MeterJob)
    (asked asked' : Option (List PlaceCall))
    (printed printed' errors errors' : Printed) (before : List Row) : Type 0 where
  pub old : FleetValue (Numbered MeterJob)
  pub new : FleetValue (Numbered MeterJob)
  pub events : List (Event (Numbered MeterJob) Sent JobFault)
  pub result : Numbered MeterJob
  pub run : FleetRun (NumberedSteps MeterSteps) old events new
  pub fresh : IsNewPoll number the_route job
  pub back : HandsBack 0 events job outcome.Done result
  pub files : FilesOwn number result asked asked' printed printed' errors errors' before

-- Each new poll of a meter over the wrapper, each of its answers, and each filing of the rows that they spell are such.
abbrev pub OwnPollsExist : Type 0
OwnPollsExist = (number : ℕ) (new : Box PollEndValue Global)
    (first second third fourth fifth : Sent) (accept named answer again release : List ℕ)
    (rows : List Row) (asked asked' : Option (List PlaceCall))
    (printed printed' errors errors' : Printed) (before : List Row)
    → IsNew the_route the_terms None new.value → AreRequests first second third fourth fifth
    → AreAnswers accept named answer again release rows
    → FilesPolled asked asked' printed printed' errors errors' before rows
    → IsFiledOnce number (poll_of number new) asked asked' printed printed' errors errors' before
