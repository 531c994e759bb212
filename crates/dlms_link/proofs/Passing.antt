-- What a frame leaves unchanged if nothing is taken and nothing sent, and what the client does for each row.
use Rattle.std.proofs.Common.{◌≡◌, ◌<◌, ◌+◌, refl, sym, arith, Bool, true, false, [], nat_lt}
use Rattle.std.proofs.lemmas.Bool.Decides.{nat_tests}
use Rattle.dlms_frame.specs.Frame.{Parts}
use Rattle.dlms_link.specs.declared.out.ClientOut.TheVariants.{Send}
use Rattle.dlms_link.specs.declared.phase.Phase.TheVariants.{Open}
use Rattle.dlms_link.specs.declared.control.Control.{Control}
use Rattle.dlms_link.specs.declared.control.Control.TheVariants.{Snrm, Disc, Ua, Dm, Information, Ready, NotReady, Other}
use Rattle.dlms_link.specs.declared.server_row.ServerRow.{ServerRow}
use Rattle.dlms_link.specs.declared.server_row.ServerRow.TheVariants.{Connects, Refuses, Disconnects, Keeps, HandsUp, Repeats, SendsNext, SaysReady, Ignores}
use Rattle.dlms_link.specs.declared.client_row.ClientRow.{ClientRow}
use Rattle.dlms_link.specs.declared.client_row.ClientRow.TheVariants.{Takes, Leaves}
use Rattle.dlms_link.specs.Octet.{control_of}
use Rattle.dlms_link.specs.Kept.{Kept, Fresh, Good, TooLong, BadStart, kept_after, from_meter}
use Rattle.dlms_link.specs.Server.{ServerRecord, by_row}
use Rattle.dlms_link.specs.Client.{ClientRecord, way_of, by_way, on_control, client_step, client_timeout, takes}
use Rattle.dlms_link.specs.Between.{IsPassed, IsByWay}

pub record Passes (r now : ServerRecord) : Type 0 where
  pub size : now.size ≡ r.size
  pub unsent : now.unsent ≡ r.unsent
  pub kept : now.kept ≡ r.kept

pub passes : (r : ServerRecord) (f : Parts) (row : ServerRow) → IsPassed row → Passes r (by_row r f row).0
passes r f (Connects size) p = absurd p
passes r f Refuses p = record { size = refl; unsent = refl; kept = refl }
passes r f Disconnects p = record { size = refl; unsent = refl; kept = refl }
passes r f Keeps p = absurd p
passes r f HandsUp p = absurd p
passes r f Repeats p = record { size = refl; unsent = refl; kept = refl }
passes r f SendsNext p = absurd p
passes r f SaysReady p = record { size = refl; unsent = refl; kept = refl }
passes r f Ignores p = record { size = refl; unsent = refl; kept = refl }

control_by_way : (c : ClientRecord) (f : Parts) (way : ClientRow) (k : Control) → (way ≡ Leaves → ⊥) → c.phase ≡ Open → way_of c (control_of f.control) ≡ way → way_of c k ≡ way → on_control c f k ≡ by_way c f way
unfolding way_of
control_by_way c f way (Information s n) l up e ek = rw (up, e) refl
control_by_way c f way (Ready n) l up e ek = rw (up, e) refl
control_by_way c f way Snrm l up e ek = absurd (l (sym ek))
control_by_way c f way Disc l up e ek = absurd (l (sym ek))
control_by_way c f way Ua l up e ek = absurd (l (sym ek))
control_by_way c f way Dm l up e ek = absurd (l (sym ek))
control_by_way c f way NotReady l up e ek = absurd (l (sym ek))
control_by_way c f way Other l up e ek = absurd (l (sym ek))

pub by_way_of : (c : ClientRecord) (f : Parts) (way : ClientRow) → (way ≡ Leaves → ⊥) → IsByWay c f way → client_step c f ≡ by_way c f way
by_way_of c f way l h = rw h.from_meter (control_by_way c f way (control_of f.control) l h.up h.its_way h.its_way)

pub waits_on : (c : ClientRecord) → c.repeats < 3 → (client_timeout c).0 ≡ record c { repeats = c.repeats + 1 }
waits_on c h = let e : nat_lt c.repeats 3 ≡ true = grind (arith, nat_tests) in rw e refl

-- a segment that is taken drops what is unsent
taken_drops : (c : ClientRecord) (segmented : Bool) (k : Kept) → (takes c segmented k).0.unsent ≡ []
taken_drops c true (Good bytes) = refl
taken_drops c false (Good bytes) = refl
taken_drops c segmented Fresh = refl
taken_drops c segmented TooLong = refl
taken_drops c segmented BadStart = refl

pub takes_drops : (c : ClientRecord) (f ready : Parts) → IsByWay c f Takes → (client_step c f).1 ≡ Send ready → (client_step c f).0.unsent ≡ []
takes_drops c f ready way es = rw (by_way_of c f Takes (λ l. cc) way) (taken_drops c f.segmented (kept_after from_meter c.kept f.info))
