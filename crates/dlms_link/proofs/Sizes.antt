-- The size that a UA agrees to, and what a frame leaves of it.
use Rattle.std.proofs.Common.{◌≡◌, ℕ, ◌≤◌, if◌then◌else◌, refl, ◌∙◌, ap, arith, Bool, true, false, List, Option, None, Some, nat_le, min, unwrap_or}
use Rattle.std.specs.Prelude.{IfSome}
use Rattle.std.proofs.lemmas.Bool.Decides.{nat_tests}
use Rattle.dlms_frame.specs.declared.client.Client.{Client}
use Rattle.dlms_frame.specs.Frame.{Parts}
use Rattle.dlms_link.specs.declared.control.Control.{Control}
use Rattle.dlms_link.specs.declared.control.Control.TheVariants.{Snrm, Disc, Ua, Dm, Information, Ready, NotReady, Other}
use Rattle.dlms_link.specs.declared.client_row.ClientRow.{ClientRow}
use Rattle.dlms_link.specs.declared.client_row.ClientRow.TheVariants.{Takes, TakenBefore, LetsNext, Leaves}
use Rattle.dlms_link.specs.declared.phase.Phase.{Phase}
use Rattle.dlms_link.specs.declared.phase.Phase.TheVariants.{Closed, Connecting, Open, Closing}
use Rattle.dlms_link.specs.Octet.{control_of}
use Rattle.dlms_link.specs.Kept.{Kept, Fresh, Good, TooLong, BadStart, kept_after, from_meter}
use Rattle.dlms_link.specs.Parameters.{Parameter, IsInformation, IsProposable, agreed_size, capped_size, greatest_received, size_of}
use Rattle.dlms_link.specs.Client.{ClientRecord, IsSizedAfter, by_way, client_step, is_answer, on_control, on_counted, on_ua, takes, way_of}
use Rattle.dlms_link.specs.World.{LinkWorld, LinkEvent, run, start_proposing}
use Rattle.dlms_link.proofs.ParameterLaws.{size_of-information}
use Rattle.dlms_link.proofs.Sound.{SoundWith, Away, Calling, Called, Leaving, Left, Idle, Asking, Received, Answered, Readying, LostCalled, LostIdle, LostAsking, Denied, LostReceived, LostAnswered}
use Rattle.dlms_link.proofs.Steps.{sound_with}

-- ---- the UA

pub agreed : (size : ℕ) (ua : List ℕ) (ps : List Parameter) → IsInformation ua ps → 32 ≤ greatest_received ps → agreed_size (Some size) ua ≡ min (greatest_received ps) 128
agreed size ua ps h l =
    let e : nat_le 32 (greatest_received ps) ≡ true = grind (arith, nat_tests) in
    let read : capped_size (greatest_received ps) ≡ Some (min (greatest_received ps) 128) = rw e refl in
    ap (λ (o : Option ℕ). unwrap_or o 128) (size_of-information ua ps h ∙ read)

pub unread : (size : ℕ) (ua : List ℕ) → size_of ua ≡ None → agreed_size (Some size) ua ≡ 128
unread size ua e = rw e refl

-- ---- a frame

module _ (c : ClientRecord) (f : Parts) where
  abbrev IsSized : (ClientRecord × Rattle.dlms_link.specs.declared.out.ClientOut.ClientOut) → Type 0
  IsSized done = IsSizedAfter c f.info done.1 done.0

  taken_sized : (segmented : Bool) (k : Kept) → IsSized (takes c segmented k)
  taken_sized true (Good bytes) = refl
  taken_sized false (Good bytes) = refl
  taken_sized segmented Fresh = refl
  taken_sized segmented TooLong = refl
  taken_sized segmented BadStart = refl

  way_sized : (way : ClientRow) → IsSized (by_way c f way)
  way_sized Takes = taken_sized f.segmented (kept_after from_meter c.kept f.info)
  way_sized TakenBefore = refl
  way_sized LetsNext = refl
  way_sized Leaves = refl

  counted_sized : (phase : Phase) → IsSized (on_counted c f phase)
  counted_sized Closed = refl
  counted_sized Connecting = refl
  counted_sized Open = way_sized (way_of c (control_of f.control))
  counted_sized Closing = refl

  ua_sized : (phase : Phase) → IsSized (on_ua c f.info phase)
  ua_sized Closed = refl
  ua_sized Connecting = refl
  ua_sized Open = refl
  ua_sized Closing = refl

  control_sized : (control : Control) → IsSized (on_control c f control)
  control_sized Ua = ua_sized c.phase
  control_sized Dm = refl
  control_sized (Information send receive) = counted_sized c.phase
  control_sized (Ready receive) = counted_sized c.phase
  control_sized Snrm = refl
  control_sized Disc = refl
  control_sized NotReady = refl
  control_sized Other = refl

  answer_sized : (b : Bool) → IsSized (if b then on_control c f (control_of f.control) else (c, Rattle.dlms_link.specs.declared.out.ClientOut.TheVariants.Nothing))
  answer_sized true = control_sized (control_of f.control)
  answer_sized false = refl

  pub sized_after : IsSizedAfter c f.info (client_step c f).1 (client_step c f).0
  sized_after = answer_sized (is_answer c f)

-- ---- the size with this project's meter

is_whole : {p : Option ℕ} {who : Client} {w : LinkWorld} → SoundWith p who w → (w.client.proposal ≡ p) × (w.client.size ≡ 128)
is_whole (Away m x asked served answers taken ps pt) = (refl, refl)
is_whole (Calling sent m t x) = (refl, refl)
is_whole (Called t x) = (refl, refl)
is_whole (Leaving sent m s n t k x u asked served answers taken ps pt) = (refl, refl)
is_whole (Left was m s n t k x u asked served answers taken ps pt) = (refl, refl)
is_whole (Idle s n size last took had x given got hs hn hz) = (refl, refl)
is_whole (Asking sent s n size t last took k had x info u apdu given got hs hn hz j i short) = (refl, refl)
is_whole (Received line s n size t y bytes had x info u apdu given got hs hn hz j short) = (refl, refl)
is_whole (Answered line s n size t q took k had x info u answer given got hs hn hz j i short again refuses) = (refl, refl)
is_whole (Readying sent s n size t y last took bytes had x u answer given got hs hn hz j short) = (refl, refl)
is_whole (LostCalled t x) = (refl, refl)
is_whole (LostIdle s n x asked served answers taken hs hn ps pt) = (refl, refl)
is_whole (LostAsking sent q s n t k x u asked served answers taken refuses ps pt) = (refl, refl)
is_whole (Denied q s n t k x u asked served answers taken refuses ps pt) = (refl, refl)
is_whole (LostReceived s n t y x info u apdu given got hs hn) = (refl, refl)
is_whole (LostAnswered s n t q k x info u answer given got hs hn j i short refuses) = (refl, refl)

pub stays_whole : (p : Option ℕ) (who : Client) (events : List LinkEvent) → IfSome p IsProposable → let c = (run events (start_proposing p who)).client in (c.proposal ≡ p) × (c.size ≡ 128)
stays_whole p who events fair = is_whole (sound_with p fair who events)
