-- A poll, from the secret to the file.
use Rattle.std.proofs.Common.{◌≡◌, ℕ, List, Option, Result, Ok, Err, subst}
use Rattle.std.specs.Prelude.{IfErr, IfOk}
use Rattle.dlms_headend.specs.declared.row.Row.{Row}
use Rattle.dlms_filing.specs.Filing.{PlaceCall}
use Rattle.dlms_polling.specs.Calling.{FailsCalled, HasDone, aim_of}
use Rattle.dlms_polling.specs.Clocks.{Takes}
use Rattle.dlms_polling.specs.Guards.{watch}
use Rattle.dlms_polling.specs.Keeping.{FilesNone, FilesPolled}
use Rattle.dlms_polling.specs.Polled.{IsReady, Known, NotCalled, NotFiled, PollFails, Polls, PrintsNone, readings_of, way_after}
use Rattle.dlms_polling.specs.Ways.{IsDoneBy, Way, rows_of}
use Rattle.dlms_polling.specs.declared.way.DonePoll.{DonePoll}
use Rattle.dlms_lines.specs.Watching.{Sight}
use Rattle.dlms_polling.specs.declared.clocks.Limit.{Limit}
use Rattle.dlms_lines.specs.declared.fault.FieldFault.{FieldFault}
use Rattle.dlms_polling.specs.declared.polling.Polling.{Polling}

pub not_called : (polling : Polling) (before after : Known) (secret : Option (List ℕ)) (rows : List Row) (limit : Option Limit) (seen : Option (List Sight)) (way : Way) (fault : FieldFault)
    → IsReady polling before.seen seen before.asked after.asked secret rows limit → way ≡ way_after polling secret rows
    → FailsCalled (aim_of polling way) polling.strict limit before.past after.past (watch seen before.given) (watch after.seen after.given) fault → PrintsNone before after → PollFails polling before after fault
not_called polling before after secret rows limit seen way fault ready same fails none =
    NotCalled secret rows limit seen ready (subst (λ (w : Way). FailsCalled (aim_of polling w) polling.strict limit before.past after.past (watch seen before.given) (watch after.seen after.given) fault) same fails) none

pub polls_so : (polling : Polling) (before after : Known) (secret : Option (List ℕ)) (rows : List Row) (limit : Option Limit) (seen : Option (List Sight)) (asked : Option (List PlaceCall)) (way : Way) (done : DonePoll)
    → IsReady polling before.seen seen before.asked asked secret rows limit → way ≡ way_after polling secret rows
    → HasDone (aim_of polling way) before.past after.past (watch seen before.given) (watch after.seen after.given) done → Takes polling.strict limit (rows_of done) → IsDoneBy (way_after polling secret rows) done
    → (r : Result (Unit {0}) FieldFault) → IfOk r (λ _. FilesPolled asked after.asked before.printed after.printed before.errors after.errors rows (rows_of done))
    → IfErr r (FilesNone (readings_of polling) asked after.asked before.printed after.printed before.errors after.errors rows (rows_of done)) → Polls polling before after r
polls_so polling before after secret rows limit seen asked way done ready same called takes polled (Ok tt) files fails =
    record {
      secret = secret;
      rows = rows;
      limit = limit;
      seen = seen;
      asked = asked;
      ready = ready;
      done = done;
      called = subst (λ (w : Way). HasDone (aim_of polling w) before.past after.past (watch seen before.given) (watch after.seen after.given) done) same called;
      takes = takes;
      polled = polled;
      files = files;
    }
polls_so polling before after secret rows limit seen asked way done ready same called takes polled (Err fault) files fails =
    NotFiled secret rows limit seen asked ready done (subst (λ (w : Way). HasDone (aim_of polling w) before.past after.past (watch seen before.given) (watch after.seen after.given) done) same called) takes fails
