-- A link does not depend on its addresses.
use Rattle.std.proofs.Common.{◌≡◌, ◌∙◌, ℕ, List, refl, ap, Bool, true, false}
use Rattle.std.specs.Prelude.{nat_lt}
use Rattle.dlms_frame.specs.Frame.{Parts}
use Rattle.dlms_link.specs.declared.client_row.ClientRow.{ClientRow}
use Rattle.dlms_link.specs.declared.client_row.ClientRow.TheVariants.{Takes, TakenBefore, LetsNext, Leaves}
use Rattle.dlms_link.specs.declared.control.Control.{Control}
use Rattle.dlms_link.specs.declared.control.Control.TheVariants.{Snrm, Disc, Ua, Dm, Information, Ready, NotReady, Other}
use Rattle.dlms_link.specs.declared.out.ClientOut.TheVariants.{Nothing}
use Rattle.dlms_link.specs.declared.phase.Phase.{Phase}
use Rattle.dlms_link.specs.declared.phase.Phase.TheVariants.{Closed, Connecting, Open, Closing}
use Rattle.dlms_link.specs.Client.{ClientRecord, by_count, by_way, client_step, is_answer, on_control, on_counted, on_ua, takes, way_of}
use Rattle.dlms_link.specs.Kept.{Kept, Fresh, Good, TooLong, BadStart, kept_after, from_meter}
use Rattle.dlms_link.specs.Octet.{control_of}
use Rattle.dlms_link.specs.Readdressing.{AddressesAreFree, Pair, again_readdressed, both_readdressed, inward, readdressed}
use Rattle.dlms_link.proofs.Rows.{is_answer-to_client}

module _ (pair : Pair) (c : ClientRecord) where
  takes_free : (segmented : Bool) (kept : Kept) → takes (readdressed pair c) segmented kept ≡ both_readdressed pair (takes c segmented kept)
  takes_free true (Good bytes) = refl
  takes_free false (Good bytes) = refl
  takes_free segmented Fresh = refl
  takes_free segmented TooLong = refl
  takes_free segmented BadStart = refl

  way_free : (control : Control) → way_of (readdressed pair c) control ≡ way_of c control
  unfolding way_of
  way_free (Information send receive) = refl
  way_free (Ready receive) = refl
  way_free Snrm = refl
  way_free Disc = refl
  way_free Ua = refl
  way_free Dm = refl
  way_free NotReady = refl
  way_free Other = refl

  by_way_free : (f : Parts) (way : ClientRow) → by_way (readdressed pair c) (inward pair f) way ≡ both_readdressed pair (by_way c f way)
  by_way_free f Takes = takes_free f.segmented (kept_after from_meter c.kept f.info)
  by_way_free f TakenBefore = refl
  by_way_free f LetsNext = refl
  by_way_free f Leaves = refl

  counted_free : (f : Parts) (phase : Phase) → on_counted (readdressed pair c) (inward pair f) phase ≡ both_readdressed pair (on_counted c f phase)
  counted_free f Open = ap (λ way. by_way (readdressed pair c) (inward pair f) way) (way_free (control_of f.control)) ∙ by_way_free f (way_of c (control_of f.control))
  counted_free f Closed = refl
  counted_free f Connecting = refl
  counted_free f Closing = refl

  ua_free : (ua : List ℕ) (phase : Phase) → on_ua (readdressed pair c) ua phase ≡ both_readdressed pair (on_ua c ua phase)
  ua_free ua Closed = refl
  ua_free ua Connecting = refl
  ua_free ua Open = refl
  ua_free ua Closing = refl

  control_free : (f : Parts) (control : Control) → on_control (readdressed pair c) (inward pair f) control ≡ both_readdressed pair (on_control c f control)
  control_free f Ua = ua_free f.info c.phase
  control_free f Dm = refl
  control_free f (Information send receive) = counted_free f c.phase
  control_free f (Ready receive) = counted_free f c.phase
  control_free f Snrm = refl
  control_free f Disc = refl
  control_free f NotReady = refl
  control_free f Other = refl

  step_free : (f : Parts) → is_answer c f ≡ true → client_step (readdressed pair c) (inward pair f) ≡ both_readdressed pair (client_step c f)
  step_free f ours = rw (is_answer-to_client (readdressed pair c) f.control f.segmented f.info, ours) (control_free f (control_of f.control))

  step_passed : (f : Parts) → is_answer c f ≡ false → client_step c f ≡ (c, Nothing)
  step_passed f other = rw other refl

  count_free : (b : Bool) → by_count (readdressed pair c) b ≡ again_readdressed pair (by_count c b)
  count_free true = refl
  count_free false = refl

  pub addresses_free : AddressesAreFree pair c
  addresses_free = record {
    connects = refl;
    sends = λ apdu. refl;
    disconnects = refl;
    times_out = count_free (nat_lt c.repeats 3);
    takes = step_free;
    passes = step_passed;
  }
