-- The whole invariant, over every run.
use Rattle.std.proofs.Common.{◌≡◌, ◌⊎◌, ⊎_elim, inl, inr, List, [], ◌∷◌, ◌++◌, refl, sym, ◌∙◌, ap, append_assoc, subst}
use Rattle.std.proofs.lemmas.List.{append-nil}
use Rattle.std.proofs.lemmas.List.Elements.{Contains-append_left}
use Rattle.dlms_frame.specs.declared.client.Client.{Client}
use Rattle.dlms_headend.specs.Asking.{PlanValue, first_second}
use Rattle.dlms_headend.specs.Merged.{merged}
use Rattle.dlms_headend.specs.declared.row.Row.{Row}
use Rattle.dlms_headend.specs.declared.stage.Course.{Course}
use Rattle.dlms_headend.specs.declared.stage.Course.TheVariants.{Ready, Running, Done, Failed}
use Rattle.dlms_link.specs.Server.{server_on}
use Rattle.dlms_link.proofs.Steps.{sound}
use Rattle.dlms_meter.specs.Transfers.{Exchange}
use Rattle.dlms_service.specs.Session.{fresh}
use Rattle.dlms_store.specs.World.{StoreWorld as Store, IsBeginning}
use Rattle.dlms_world.specs.World.{World, settled_in, all_readings, rows_asked, first_world}
use Rattle.dlms_meter.specs.Run.{events_in}
use Rattle.dlms_world.specs.Sublists.{IsSublist}
use Rattle.dlms_world.specs.Turn.{Turn, Begins, GoesOn, AsksNext, Leaves, Ends, FailsAt, TimedOut, GivesUp, TurnsTo, Merges, LosesUp, LosesDown, Arrives, Intruded, OtherSends, Happens, Works, StopsInside, Restarted, Run, Stays, Goes, served_by}
use Rattle.dlms_world.proofs.Keeping.{over_silent}
use Rattle.dlms_world.specs.Agree.{LineIsSilent}
use Rattle.dlms_world.specs.Agree.{AreCaptures, BringsBuffer, Rise, PollsAreTold, ReadingsAreCaptures, ReadingsRise}
use Rattle.dlms_world.specs.Named.{IsNamed, PollsAreNamed}
use Rattle.dlms_world.specs.Told.{IsTold, AnswersTell}
use Rattle.dlms_world.proofs.Growing.{through, settled_begins}
use Rattle.dlms_world.proofs.Readings.{still_captures, rose_before, merged_among, merged_rise, sublist_among, sublist_rise, asked_are_captures, asked_rise}
use Rattle.dlms_world.proofs.Keeping.{settles_on, whose_after, Linked, linked, StandsBy, stands, Chained, chained, DataSettled, data_settled}
use Rattle.dlms_world.proofs.Ending.{is_told, is_settled}
use Rattle.dlms_world.proofs.Telling.{tells}
use Rattle.dlms_world.proofs.Lawful.{legal_after, none_legal, beginning_legal}
use Rattle.dlms_world.proofs.SameAsMeter.{due_range}
use Rattle.dlms_state.proofs.Limits.{IsWithinLimits-legal}
use Rattle.dlms_state.specs.Refusal.{IsLegal}

-- the poll's rows are determined by events that are settled
pub record Brought (plan : PlanValue) (served : List Exchange) (memory : Store) (rows : List Row) : Type 0 where
  pub told : IsTold plan served rows
  pub settled : IsBeginning told.get.before (settled_in memory)

abbrev pub DoneBy : Course → PlanValue → List Exchange → Store → List Row → Type 0
DoneBy Ready plan served memory rows = Unit {0}
DoneBy Running plan served memory rows = Unit {0}
DoneBy Done plan served memory rows = Brought plan served memory rows
DoneBy (Failed fault) plan served memory rows = Unit {0}

named_still : (plan : PlanValue) (served later : List Exchange) (rows : List Row) → IsNamed plan served rows → IsNamed plan (served ++ later) rows
named_still plan served later rows n = record {
  association = n.association;
  first = n.first;
  get = n.get;
  between = n.between;
  last = n.last;
  more = n.more ++ later;
  are = ap (λ l. l ++ later) n.are ∙ ap (λ l. n.association ∷ n.first ∷ n.get ∷ l) (append_assoc n.between (n.last ∷ n.more) later);
  asked_first = n.asked_first;
  asked = n.asked;
  asked_last = n.asked_last;
  success_first = n.success_first;
  success = n.success;
  names_first = n.names_first;
  names_last = n.names_last;
  named = n.named;
}

brought_still : (plan : PlanValue) (served more : List Exchange) (before after : Store) (rows : List Row) → IsBeginning (settled_in before) (settled_in after) → Brought plan served before rows → Brought plan (served ++ more) after rows
brought_still plan served more before after rows grown b = record {
  told = record { get = b.told.get; took = Contains-append_left served more b.told.get b.told.took; asked = b.told.asked; success = b.told.success; are = b.told.are; names = λ asked. named_still plan served more rows (b.told.names asked) };
  settled = through b.told.get.before (settled_in before) (settled_in after) b.settled grown;
}

done_still : (course : Course) (plan : PlanValue) (served more : List Exchange) (before after : Store) (rows : List Row) → IsBeginning (settled_in before) (settled_in after) → DoneBy course plan served before rows → DoneBy course plan (served ++ more) after rows
done_still Ready plan served more before after rows grown d = tt
done_still Running plan served more before after rows grown d = tt
done_still Done plan served more before after rows grown d = brought_still plan served more before after rows grown d
done_still (Failed fault) plan served more before after rows grown d = tt

done_on : (course : Course) (plan : PlanValue) (served : List Exchange) (before after : Store) (rows : List Row) → IsBeginning (settled_in before) (settled_in after) → DoneBy course plan served before rows → DoneBy course plan served after rows
done_on course plan served before after rows grown d = subst (λ l. DoneBy course plan l after rows) (append-nil served) (done_still course plan served [] before after rows grown d)

runs_on : (course : Course) (plan : PlanValue) (served : List Exchange) (memory : Store) (rows : List Row) → course ≡ Running → DoneBy course plan served memory rows
runs_on course plan served memory rows runs = subst (λ c. DoneBy c plan served memory rows) (sym runs) tt

-- what is kept of a world
pub record Good (who : Client) (w : World) : Type 0 where
  pub link : Linked who w
  pub poll : StandsBy w.course w.plan w.link
  pub chain : Chained who w
  pub settled : DataSettled w.memory w.served
  pub done : DoneBy w.course w.plan w.served w.memory w.rows
  pub file : AreCaptures (settled_in w.memory) w.file
  pub order : Rise (all_readings (settled_in w.memory)) → Rise w.file
  pub legal : IsLegal (events_in w.memory)

done_after : AnswersTell → (who : Client) {w now : World} → (turn : Turn w now) → Good who w → DoneBy now.course now.plan now.served now.memory now.rows
done_after tell who (Begins w ready) g = tt
done_after tell who (GoesOn w frame rest runs line own) g = g.done
done_after tell who (AsksNext w frame rest apdu short runs line free asks) g = g.done
done_after tell who (Leaves w frame rest rows runs line free released) g = g.done
done_after tell who (Ends w frame rest rows runs line down released) g =
    let told : IsTold w.plan w.served rows = is_told tell who w frame rest rows g.link.plan g.link.sound line (subst (λ c. StandsBy c w.plan w.link) runs g.poll) g.chain released in
    record { told = told; settled = is_settled w.memory w.served told.get g.settled told.took told.success }
done_after tell who (FailsAt w frame rest fault runs line fails) g = tt
done_after tell who (TimedOut w runs up) g = g.done
done_after tell who (GivesUp w fault runs closed) g = tt
done_after tell who (TurnsTo w plan up down) g = tt
done_after tell who (Merges w kept done some) g = g.done
done_after tell who (LosesUp w) g = g.done
done_after tell who (LosesDown w) g = g.done
done_after tell who (Arrives w frame rest choice o memory line takes) g =
    let done = server_on w.link.meter frame in
    done_still w.course w.plan w.served (served_by choice (events_in w.memory) done.0 done.1 o) w.memory memory w.rows (settles_on (Arrives w frame rest choice o memory line takes)) g.done
done_after tell who (Intruded w frame choice o memory between closed takes) g = done_on w.course w.plan w.served w.memory memory w.rows (settles_on (Intruded w frame choice o memory between closed takes)) g.done
done_after tell who (OtherSends w other frame choice own reply answer accepted memory on differs of handles remembers) g = done_on w.course w.plan w.served w.memory memory w.rows (settles_on (OtherSends w other frame choice own reply answer accepted memory on differs of handles remembers)) g.done
done_after tell who (Happens w event memory on follows remembers) g = done_on w.course w.plan w.served w.memory memory w.rows (settles_on (Happens w event memory on follows remembers)) g.done
done_after tell who (Works w memory on remembers) g = done_on w.course w.plan w.served w.memory memory w.rows (settles_on (Works w memory on remembers)) g.done
done_after tell who (StopsInside w accepted mid memory on remembers stops) g = done_on w.course w.plan w.served w.memory memory w.rows (settles_on (StopsInside w accepted mid memory on remembers stops)) g.done
done_after tell who (Restarted w step memory unusual next) g = done_on w.course w.plan w.served w.memory memory w.rows (settles_on (Restarted w step memory unusual next)) g.done

-- the file changes by merging alone
abbrev pub FileAfter : World → World → Type 0
FileAfter w now = (now.file ≡ w.file) ⊎ ((w.course ≡ Done) × (kept : List Row) × IsSublist kept w.rows × (now.file ≡ merged w.file kept))

pub file_after : {w now : World} → Turn w now → FileAfter w now
file_after (Begins w ready) = inl refl
file_after (GoesOn w frame rest runs line own) = inl refl
file_after (AsksNext w frame rest apdu short runs line free asks) = inl refl
file_after (Leaves w frame rest rows runs line free released) = inl refl
file_after (Ends w frame rest rows runs line down released) = inl refl
file_after (FailsAt w frame rest fault runs line fails) = inl refl
file_after (TimedOut w runs up) = inl refl
file_after (GivesUp w fault runs closed) = inl refl
file_after (TurnsTo w plan up down) = inl refl
file_after (Merges w kept done some) = inr (done, kept, some, refl)
file_after (LosesUp w) = inl refl
file_after (LosesDown w) = inl refl
file_after (Arrives w frame rest choice o memory line takes) = inl refl
file_after (Intruded w frame choice o memory between closed takes) = inl refl
file_after (OtherSends w other frame choice own reply answer accepted memory on differs of handles remembers) = inl refl
file_after (Happens w event memory on follows remembers) = inl refl
file_after (Works w memory on remembers) = inl refl
file_after (StopsInside w accepted mid memory on remembers stops) = inl refl
file_after (Restarted w step memory unusual next) = inl refl

pub is_brought : (who : Client) (w : World) → Good who w → w.course ≡ Done → Brought w.plan w.served w.memory w.rows
is_brought who w g done = subst (λ c. DoneBy c w.plan w.served w.memory w.rows) done g.done

-- the rows that are merged are readings of settled captures, and rise where these do
brought_captures : (plan : PlanValue) (served : List Exchange) (memory : Store) (rows : List Row) → Brought plan served memory rows → AreCaptures (settled_in memory) rows
brought_captures plan served memory rows b =
    subst (AreCaptures (settled_in memory)) (sym b.told.are) (still_captures b.told.get.before (settled_in memory) (rows_asked plan b.told.get.before) b.settled (asked_are_captures plan b.told.get.before))

brought_rise : (plan : PlanValue) (served : List Exchange) (memory : Store) (rows : List Row) → Brought plan served memory rows → Rise (all_readings (settled_in memory)) → Rise rows
brought_rise plan served memory rows b rise =
    subst Rise (sym b.told.are) (asked_rise plan b.told.get.before (rose_before b.told.get.before (settled_in memory) b.settled rise))

captures_after : (who : Client) {w now : World} → Turn w now → Good who w → AreCaptures (settled_in now.memory) now.file
captures_after who {w} {now} turn g =
    let grown = settles_on turn in
    let old : AreCaptures (settled_in now.memory) w.file = still_captures (settled_in w.memory) (settled_in now.memory) w.file grown g.file in
    ⊎_elim (λ is. subst (AreCaptures (settled_in now.memory)) (sym is) old)
    (λ is.
    let new = still_captures (settled_in w.memory) (settled_in now.memory) w.rows grown (brought_captures w.plan w.served w.memory w.rows (is_brought who w g is.0)) in
    subst (AreCaptures (settled_in now.memory)) (sym is.3) (merged_among (all_readings (settled_in now.memory)) w.file is.1 old (sublist_among (all_readings (settled_in now.memory)) is.1 w.rows new is.2)))
    (file_after turn)

rise_after : (who : Client) {w now : World} → Turn w now → Good who w → Rise (all_readings (settled_in now.memory)) → Rise now.file
rise_after who {w} {now} turn g rise =
    let was : Rise (all_readings (settled_in w.memory)) = rose_before (settled_in w.memory) (settled_in now.memory) (settles_on turn) rise in
    ⊎_elim (λ is. subst Rise (sym is) (g.order was))
    (λ is.
    let rise_kept : Rise is.1 = sublist_rise is.1 w.rows (brought_rise w.plan w.served w.memory w.rows (is_brought who w g is.0) was) is.2 in
    subst Rise (sym is.3) (merged_rise w.file is.1 (g.order was) rise_kept))
    (file_after turn)

pub keep : AnswersTell → (who : Client) {w now : World} (turn : Turn w now) → Good who w → Good (whose_after who turn) now
keep tell who turn g = record {
  link = linked who turn g.link;
  poll = stands who turn g.link g.poll;
  chain = chained who turn g.link g.poll g.chain;
  settled = data_settled turn g.settled;
  done = done_after tell who turn g;
  file = captures_after who turn g;
  order = rise_after who turn g;
  legal = legal_after turn g.legal;
}

pub first : (plan : PlanValue) → Good plan.client (first_world plan)
first plan = record {
  link = record { sound = sound plan.client []; plan = refl; session = refl; others = λ who. (refl, refl) };
  poll = refl;
  chain = record { apdus = refl; answers = refl; last = fresh plan.client; in_turn = refl; now = λ h. refl; alive = λ h. cc };
  settled = tt;
  done = tt;
  file = tt;
  order = λ h. tt;
  legal = none_legal;
}

-- where runs start
pub record Start : Type 0 where
  pub world : World
  pub good : Good world.plan.client world

abbrev pub start_of : PlanValue → Start
start_of plan = record { world = first_world plan; good = first plan }

pub good_from : AnswersTell → (start : Start) (w : World) → Run start.world w → Good w.plan.client w
good_from tell start w Stays = start.good
good_from tell start w (Goes mid now run turn) =
    let kept = keep tell mid.plan.client turn (good_from tell start mid run) in
    subst (λ (who : Client). Good who w) (sym kept.link.plan) kept

pub good : AnswersTell → (plan : PlanValue) (w : World) → Run (first_world plan) w → Good w.plan.client w
good tell plan w run = good_from tell (start_of plan) w run

pub told_from : (start : Start) (w : World) → Run start.world w → w.course ≡ Done → BringsBuffer w.plan w.served w.rows
told_from start w run done =
    let all = good_from tells start w run in
    let brought = is_brought w.plan.client w all done in
    let told = brought.told in
    let legal : IsLegal told.get.before = beginning_legal told.get.before (events_in w.memory) (through told.get.before (settled_in w.memory) (events_in w.memory) brought.settled (settled_begins w.memory)) all.legal in
    record { get = told.get; took = told.took; asked = told.asked; are = told.are ∙ due_range (first_second w.plan.after) w.plan.until told.get.before (IsWithinLimits-legal told.get.before legal) }

pub polls_are_told : PollsAreTold
polls_are_told plan w run done = told_from (start_of plan) w run done

pub polls_are_named : PollsAreNamed
polls_are_named plan w run done asked = (is_brought w.plan.client w (good tells plan w run) done).told.names asked

held_grows : (m : Store) → IsBeginning (settled_in m) (events_in m)
held_grows m = settled_begins m

pub readings_are_captures : ReadingsAreCaptures
readings_are_captures plan w run = still_captures (settled_in w.memory) (events_in w.memory) w.file (held_grows w.memory) (good tells plan w run).file

pub readings_rise : ReadingsRise
readings_rise plan w run rise = (good tells plan w run).order (rose_before (settled_in w.memory) (events_in w.memory) (held_grows w.memory) rise)

pub line_is_silent : LineIsSilent
line_is_silent plan w run over =
    let all = good tells plan w run in
    over_silent w.plan.client w.course w.plan w.link all.link.sound over all.poll
