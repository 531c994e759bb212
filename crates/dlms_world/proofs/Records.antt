-- The meter's record of each client.
use Rattle.std.proofs.Common.{◌≡◌, ◌≢◌, ◌∙◌, refl, ap, Bool, true, false, if◌then◌else◌}
use Rattle.dlms_frame.specs.declared.client.Client.{Client}
use Rattle.dlms_link.specs.Server.{ServerRecord}
use Rattle.dlms_meter.proofs.Apart.{same-is, is_itself, differing}
use Rattle.dlms_meter.specs.ClientRecord.{ClientRecord}
use Rattle.dlms_meter.specs.Run.{Records, is_same, with_record}
use Rattle.dlms_service.specs.Session.{SessionValue}
use Rattle.dlms_world.specs.Turn.{records_in}
use Rattle.dlms_world.specs.World.{World}

-- each is that client's own
abbrev pub AreOwn : Records → Type 0
AreOwn records = (who : Client) → ((records who).link.client ≡ who) × ((records who).session.client ≡ who)

pub with_own : (records : Records) (who : Client) (own : ClientRecord) → AreOwn records → own.link.client ≡ who → own.session.client ≡ who → AreOwn (with_record records who own)
with_own records who own are link session other = by_test (is_same who other) refl
  where
    by_test : (b : Bool) → is_same who other ≡ b → ((if b then own else records other).link.client ≡ other) × ((if b then own else records other).session.client ≡ other)
    by_test true e = (link ∙ same-is who other e, session ∙ same-is who other e)
    by_test false e = are other

-- a record put back in its place
pub again : (records : Records) (who other : Client) → with_record records who (records who) other ≡ records other
again records who other = by_test (is_same who other) refl
  where
    by_test : (b : Bool) → is_same who other ≡ b → (if b then records who else records other) ≡ records other
    by_test true e = ap records (same-is who other e)
    by_test false e = refl

-- the poller's client, and another one
pub its_record : (w : World) → records_in w w.plan.client ≡ record { link = w.link.meter; session = w.session }
its_record w = ap (λ (b : Bool). (let own : ClientRecord = record { link = w.link.meter; session = w.session } in if b then own else w.others w.plan.client)) (is_itself w.plan.client)

pub other_record : (w : World) (other : Client) → other ≢ w.plan.client → records_in w other ≡ w.others other
other_record w other differs =
    ap (λ (b : Bool). (let own : ClientRecord = record { link = w.link.meter; session = w.session } in if b then own else w.others other)) (differing w.plan.client other differs)

-- they are the same if none of their parts has changed
pub same_records : (w now : World) → now.plan.client ≡ w.plan.client → now.link.meter ≡ w.link.meter → now.session ≡ w.session → now.others ≡ w.others → (who : Client) → records_in now who ≡ records_in w who
same_records w now client meter session others who =
    ap (λ (o : Records). with_record o now.plan.client (record { link = now.link.meter; session = now.session }) who) others
    ∙ ap (λ (c : Client). with_record w.others c (record { link = now.link.meter; session = now.session }) who) client
    ∙ ap (λ (m : ServerRecord). with_record w.others w.plan.client (record { link = m; session = now.session }) who) meter
    ∙ ap (λ (s : SessionValue). with_record w.others w.plan.client (record { link = w.link.meter; session = s }) who) session
