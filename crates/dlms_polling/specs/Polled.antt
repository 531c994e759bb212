-- The course of a poll, from the secret to the file.
use Rattle.std.specs.Prelude.{◌≡◌, ℕ, Bool, true, false, List, [], ◌∷◌, length, option_map, Option, Some, None, Result, Ok, Err, IsOk, MatchResult}
use Rattle.std.specs.declared.io.Error.{Error}
use Rattle.dlms_carrier.specs.declared.any.Route.{Route}
use Rattle.dlms_carrier.specs.declared.any.Route.TheVariants.{Hdlc}
use Rattle.dlms_frame.specs.Client.{sap_of}
use Rattle.dlms_frame.specs.declared.client.Client.{Client}
use Rattle.dlms_frame.specs.declared.frame.Address.TheVariants.{One}
use Rattle.dlms_headend.specs.Asking.{PlanValue}
use Rattle.dlms_headend.specs.CarrierPollValue.{TermsValue}
use Rattle.dlms_headend.specs.Merged.{last_clock}
use Rattle.dlms_headend.specs.declared.plan.Columns.TheVariants.{Asked as AsksColumns}
use Rattle.dlms_headend.specs.declared.row.Row.{Row}
use Rattle.dlms_ends.specs.Faults.{TellsError}
use Rattle.dlms_filing.specs.Filing.{PlaceCall}
use Rattle.dlms_ends.specs.Moments.{Moment}
use Rattle.dlms_filing.specs.Printing.{Printed}
use Rattle.dlms_ends.specs.declared.fault.RunFault.{RunFault}
use Rattle.dlms_polling.specs.Calling.{FailsCalled, HasDone, aim_of}
use Rattle.dlms_polling.specs.Clocks.{AreInTime, IsFirstAhead, Takes}
use Rattle.dlms_polling.specs.Guards.{Guarding, watch}
use Rattle.dlms_lines.specs.Faults.{IsOther}
use Rattle.dlms_polling.specs.Keeping.{FilesNone, FilesPolled, HoldsFile, OpensFile}
use Rattle.dlms_polling.specs.Secret.{FindsNoneSent, FindsSent}
use Rattle.dlms_polling.specs.Ways.{IsDoneBy, Way, Linked, Routed, Secured, rows_of}
use Rattle.dlms_polling.specs.declared.way.DonePoll.{DonePoll}
use Rattle.dlms_lines.specs.Watching.{Sight, Sees}
use Rattle.dlms_lines.specs.Watching.Sight.{Dates}
use Rattle.dlms_lines.specs.declared.fault.ClockFault.TheVariants.{Ahead}
use Rattle.dlms_polling.specs.declared.clocks.Limit.{Limit}
use Rattle.dlms_lines.specs.declared.fault.FieldFault.{FieldFault}
use Rattle.dlms_lines.specs.declared.fault.FieldFault.TheVariants.{Clock}
use Rattle.dlms_polling.specs.declared.polling.Polling.{Polling}

-- the plan of a poll by this client, from the last of these rows on, until a second if one is given
abbrev pub plan_after : Client → List ℕ → List Row → Option ℕ → PlanValue
plan_after client secret before until = record {
  client = client;
  secret = secret;
  after = last_clock before;
  until = until;
  columns = AsksColumns;
}

abbrev pub secret_in : Option (List ℕ) → List ℕ
secret_in None = []
secret_in (Some secret) = secret

-- the terms of a poll over a route, with this secret or with none
abbrev pub terms_after : Option (List ℕ) → List Row → Option ℕ → TermsValue
terms_after secret before until = record {
  secret = secret;
  after = last_clock before;
  until = until;
  columns = AsksColumns;
}

-- the route, or without one that of this client to the meter at address 1
abbrev pub route_or_link : Option Route → Client → Route
route_or_link None client = Hdlc (sap_of client) (One 1) None
route_or_link (Some route) client = route

-- The way of such a poll. In clear it goes over the route, if there is one, and otherwise over this client's link. In a protected
-- association it goes over a route, and no secret is sent.
abbrev pub way_by : (is_protected : Bool) → Option Route → Client → Option (List ℕ) → List Row → Option ℕ → Way
way_by true route client secret before until =
    Secured (route_or_link route client) (terms_after None before until)
way_by false None client secret before until =
    Linked (plan_after client (secret_in secret) before until)
way_by false (Some route) client secret before until =
    Routed route (terms_after secret before until)

abbrev pub way_after : Polling → Option (List ℕ) → List Row → Way
way_after polling secret before =
    way_by polling.is_protected polling.route polling.client secret before polling.until

-- the known questions of a head end: to the world, to what gives its guards, to the place of its readings, to its line, and the texts
-- that it prints and reports as errors
pub record Known : Type 0 where
  pub seen : Option (List Sight)
  pub given : Option (List Guarding)
  pub asked : Option (List PlaceCall)
  pub past : Option (List Moment)
  pub printed : Printed
  pub errors : Printed

-- the names of its two files, if they are given
abbrev pub readings_of : Polling → Option (List ℕ)
readings_of polling = option_map (λ file. file.now) polling.readings

abbrev pub secret_file_of : Polling → Option (List ℕ)
secret_file_of polling = option_map (λ file. file.now) polling.secret_file

-- ---- before the call

-- the secret that it sends, or why there is none
abbrev pub SendsSecret : Polling → Option (List Sight) → Option (List Sight) → Option (List ℕ)
    → Type 0
SendsSecret polling seen seen' secret =
    FindsSent polling.route polling.client (secret_file_of polling) seen seen' secret

abbrev pub LacksSecret : Polling → Option (List Sight) → Option (List Sight) → FieldFault → Type 0
LacksSecret polling seen seen' fault =
    FindsNoneSent polling.route polling.client (secret_file_of polling) seen seen' fault

-- How far a row may be past the clock of the day, which is looked at if that is asked for.
abbrev pub Limits : Option ℕ → Option (List Sight) → Option (List Sight)
    → Result (Option Limit) RunFault → Type 0
Limits None seen seen' (Ok limit) = (limit ≡ None) × Sees seen seen' []
Limits None seen seen' (Err fault) = ⊥
Limits (Some margin) seen seen' (Ok limit) = (second : ℕ)
    × (limit ≡ Some (record { now = second; margin = margin }))
    × Sees seen seen' (Dates (Ok second) ∷ [])
Limits (Some margin) seen seen' (Err fault) = (error : Error)
    × Sees seen seen' (Dates (Err error) ∷ []) × TellsError error fault

-- a row of this file is past the limit, and which one
abbrev pub IsAheadIn : List ℕ → Limit → List Row → FieldFault → Type 0
IsAheadIn file limit rows (Clock place (Ahead number)) = (place.now ≡ file)
    × IsFirstAhead limit.now limit.margin rows number
IsAheadIn file limit rows _ = ⊥

-- if a file is given, none of its rows is past the limit, if there is one
abbrev pub JudgesFiled : {T : Type 0} → Option (List ℕ) → Option Limit → List Row
    → Result T FieldFault → Type 0
JudgesFiled None limit rows result = IsOk result
JudgesFiled (Some file) None rows result = IsOk result
JudgesFiled (Some file) (Some limit) rows result =
    MatchResult result (λ _. AreInTime limit.now limit.margin rows (length rows))
    (IsAheadIn file limit rows)

-- The secret is there, the file is held, these rows are in it, and the limit is known.
pub record HasRead (polling : Polling) (seen seen' : Option (List Sight))
    (asked asked' : Option (List PlaceCall)) (secret : Option (List ℕ)) (rows : List Row)
    (limit : Option Limit) : Type 0 where
  pub mid : Option (List Sight)
  pub held : Option (List PlaceCall)
  pub finds : SendsSecret polling seen mid secret
  pub holds : HoldsFile {T = Unit {0}} (readings_of polling) asked held (Ok tt)
  pub opens : OpensFile (readings_of polling) held asked' (Ok rows)
  pub limits : Limits polling.ahead mid seen' (Ok limit)

-- and the rows are not past it
pub record IsReady (polling : Polling) (seen seen' : Option (List Sight))
    (asked asked' : Option (List PlaceCall)) (secret : Option (List ℕ)) (rows : List Row)
    (limit : Option Limit) : Type 0 where
  pub has : HasRead polling seen seen' asked asked' secret rows limit
  pub judged : JudgesFiled {T = Unit {0}} (readings_of polling) limit rows (Ok tt)

-- Or the first of these that is not so, with its report.
pub data IsUnready (polling : Polling) (seen seen' : Option (List Sight))
    (asked asked' : Option (List PlaceCall)) (fault : FieldFault) : Type 0 where
  NoSecret : LacksSecret polling seen seen' fault → asked' ≡ asked
      → IsUnready polling seen seen' asked asked' fault
  NotHeld : (secret : Option (List ℕ)) → SendsSecret polling seen seen' secret
      → HoldsFile {T = Unit {0}} (readings_of polling) asked asked' (Err fault)
      → IsUnready polling seen seen' asked asked' fault
  NotOpened : (secret : Option (List ℕ)) (held : Option (List PlaceCall))
      → SendsSecret polling seen seen' secret
      → HoldsFile {T = Unit {0}} (readings_of polling) asked held (Ok tt)
      → OpensFile (readings_of polling) held asked' (Err fault)
      → IsUnready polling seen seen' asked asked' fault
  NoDate : (secret : Option (List ℕ)) (rows : List Row) (mid : Option (List Sight))
      (held : Option (List PlaceCall)) (why : RunFault)
      → SendsSecret polling seen mid secret
      → HoldsFile {T = Unit {0}} (readings_of polling) asked held (Ok tt)
      → OpensFile (readings_of polling) held asked' (Ok rows)
      → Limits polling.ahead mid seen' (Err why) → IsOther fault why
      → IsUnready polling seen seen' asked asked' fault
  IsAhead : (secret : Option (List ℕ)) (rows : List Row) (limit : Option Limit)
      → HasRead polling seen seen' asked asked' secret rows limit
      → JudgesFiled {T = Unit {0}} (readings_of polling) limit rows (Err fault)
      → IsUnready polling seen seen' asked asked' fault

-- ---- the whole of it

-- It was ready; over the line each expected text was shown, and then a poll was done over the route or by this client, from the
-- second of the last row in the file on, with rows that are accepted; and they are filed. A protected poll was done with the guard
-- that was given for it, and what that accepted was kept.
pub record IsDone (polling : Polling) (before after : Known) : Type 0 where
  pub secret : Option (List ℕ)
  pub rows : List Row
  pub limit : Option Limit
  pub seen : Option (List Sight)
  pub asked : Option (List PlaceCall)
  pub ready : IsReady polling before.seen seen before.asked asked secret rows limit
  pub done : DonePoll
  pub called : HasDone (aim_of polling (way_after polling secret rows)) before.past after.past
      (watch seen before.given) (watch after.seen after.given) done
  pub takes : Takes polling.strict limit (rows_of done)
  pub polled : IsDoneBy (way_after polling secret rows) done
  pub files : FilesPolled asked after.asked before.printed after.printed before.errors after.errors
      rows (rows_of done)

-- nothing was printed, and nothing told
abbrev pub PrintsNone : Known → Known → Type 0
PrintsNone before after = (after.printed ≡ before.printed) × (after.errors ≡ before.errors)

-- Why it fails: it was not ready; the call failed, or its rows are not taken; or they were not filed.
pub data PollFails (polling : Polling) (before after : Known) (fault : FieldFault) : Type 0 where
  NotReady : IsUnready polling before.seen after.seen before.asked after.asked fault
      → after.past ≡ before.past → after.given ≡ before.given → PrintsNone before after
      → PollFails polling before after fault
  NotCalled : (secret : Option (List ℕ)) (rows : List Row) (limit : Option Limit)
      (seen : Option (List Sight))
      → IsReady polling before.seen seen before.asked after.asked secret rows limit
      → FailsCalled (aim_of polling (way_after polling secret rows)) polling.strict limit
      before.past after.past (watch seen before.given) (watch after.seen after.given) fault
      → PrintsNone before after
      → PollFails polling before after fault
  NotFiled : (secret : Option (List ℕ)) (rows : List Row) (limit : Option Limit)
      (seen : Option (List Sight)) (asked : Option (List PlaceCall))
      → IsReady polling before.seen seen before.asked asked secret rows limit
      → (done : DonePoll)
      → HasDone (aim_of polling (way_after polling secret rows)) before.past after.past
      (watch seen before.given) (watch after.seen after.given) done
      → Takes polling.strict limit (rows_of done)
      → FilesNone (readings_of polling) asked after.asked before.printed after.printed before.errors
      after.errors rows (rows_of done) fault
      → PollFails polling before after fault

abbrev pub Polls : {T : Type 0} → Polling → Known → Known → Result T FieldFault → Type 0
Polls polling before after result =
    MatchResult result (λ _. IsDone polling before after) (PollFails polling before after)
