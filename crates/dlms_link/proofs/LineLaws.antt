-- What may be on the line, in each state that a run can reach.
use Rattle.std.proofs.Common.{◌≡◌, ◌+◌, ◌≤◌, arith, ℕ, Bool, true, false, List, [], length, Option, None, Some, refl, subst}
use Rattle.std.specs.Prelude.{IfSome}
use Rattle.dlms_frame.specs.declared.client.Client.{Client}
use Rattle.dlms_frame.specs.Frame.{Parts}
use Rattle.dlms_link.specs.declared.phase.Phase.{Phase}
use Rattle.dlms_link.specs.declared.phase.Phase.TheVariants.{Closed, Connecting, Open, Closing}
use Rattle.dlms_link.specs.declared.out.LinkOut.{LinkOut}
use Rattle.dlms_link.specs.declared.out.LinkOut.TheVariants.{Nothing, Reply, Apdu, Oversize, BadLlc, Up, Down}
use Rattle.dlms_link.specs.Line.{HandsUpAt, AreUp, ApdusComeUp, LineIsSilent, OneFrameAtMost}
use Rattle.dlms_link.specs.Parameters.{IsProposable}
use Rattle.dlms_link.specs.Server.{ServerRecord, server_on}
use Rattle.dlms_link.specs.World.{LinkWorld}
use Rattle.dlms_link.proofs.Rows.{row_of-snrm_with, row_of-disc_up, row_of-disc_down}
use Rattle.dlms_link.proofs.Sound.{SoundWith, Away, Calling, Called, Leaving, Left, Idle, Asking, Received, Answered, Readying, LostCalled, LostIdle, LostAsking, Denied, LostReceived, LostAnswered, Silent, Going, Coming, at, disc}
use Rattle.dlms_link.proofs.Steps.{sound_with}

-- ---- an APDU is handed up only where both ends are up

abbrev IsOther : LinkOut → Type 0
IsOther Nothing = Unit {0}
IsOther (Reply f) = Unit {0}
IsOther Apdu = ⊥
IsOther Oversize = Unit {0}
IsOther BadLlc = Unit {0}
IsOther (Up f) = Unit {0}
IsOther (Down f) = Unit {0}

module _ (p : Option ℕ) (fair : IfSome p IsProposable) (who : Client) where
  leaves_other : (m : ServerRecord) (up : Bool) → m.up ≡ up → IsOther (server_on (at who m) (disc who)).1
  leaves_other m true e = rw (row_of-disc_up (at who m) e) tt
  leaves_other m false e = rw (row_of-disc_down (at who m) e) tt

  come_up : {w : LinkWorld} → SoundWith p who w → HandsUpAt w.meter w.up_line → AreUp w
  come_up (Away m x asked served answers taken ps pt) h = absurd h
  come_up (Calling true m t x) h = absurd (subst IsOther h (rw (row_of-snrm_with p fair (at who m)) tt))
  come_up (Calling false m t x) h = absurd h
  come_up (Called t x) h = absurd h
  come_up (Leaving true m s n t k x u asked served answers taken ps pt) h = absurd (subst IsOther h (leaves_other m m.up refl))
  come_up (Leaving false m s n t k x u asked served answers taken ps pt) h = absurd h
  come_up (Left was m s n t k x u asked served answers taken ps pt) h = absurd h
  come_up (Idle s n size last took had x given got hs hn hz) h = absurd h
  come_up (Asking true s n size t last took k had x info u apdu given got hs hn hz j i short) h = record { meter = refl; client = refl }
  come_up (Asking false s n size t last took k had x info u apdu given got hs hn hz j i short) h = absurd h
  come_up (Received Silent s n size t y bytes had x info u apdu given got hs hn hz j short) h = absurd h
  come_up (Received Going s n size t y bytes had x info u apdu given got hs hn hz j short) h = record { meter = refl; client = refl }
  come_up (Received Coming s n size t y bytes had x info u apdu given got hs hn hz j short) h = absurd h
  come_up (Answered Silent s n size t q took k had x info u answer given got hs hn hz j i short again refuses) h = absurd h
  come_up (Answered Going s n size t q took k had x info u answer given got hs hn hz j i short again refuses) h = record { meter = refl; client = refl }
  come_up (Answered Coming s n size t q took k had x info u answer given got hs hn hz j i short again refuses) h = absurd h
  come_up (Readying true s n size t y last took bytes had x u answer given got hs hn hz j short) h = record { meter = refl; client = refl }
  come_up (Readying false s n size t y last took bytes had x u answer given got hs hn hz j short) h = absurd h
  come_up (LostCalled t x) h = absurd h
  come_up (LostIdle s n x asked served answers taken hs hn ps pt) h = absurd h
  come_up (LostAsking true q s n t k x u asked served answers taken refuses ps pt) h = absurd (subst IsOther h (rw refuses.0 tt))
  come_up (LostAsking false q s n t k x u asked served answers taken refuses ps pt) h = absurd h
  come_up (Denied q s n t k x u asked served answers taken refuses ps pt) h = absurd h
  come_up (LostReceived s n t y x info u apdu given got hs hn) h = absurd h
  come_up (LostAnswered s n t q k x info u answer given got hs hn j i short refuses) h = absurd h

-- ---- nothing is on the line of a link that awaits nothing, or is closed

abbrev pub IsSilent : Option Parts → List Parts → List Parts → Type 0
IsSilent None up down = (up ≡ []) × (down ≡ [])
IsSilent (Some f) up down = Unit {0}

abbrev pub IsQuiet : Phase → List Parts → List Parts → Type 0
IsQuiet Closed up down = (up ≡ []) × (down ≡ [])
IsQuiet Connecting up down = Unit {0}
IsQuiet Open up down = Unit {0}
IsQuiet Closing up down = Unit {0}

-- a link that is closed awaits nothing
abbrev pub IsResting : Phase → Option Parts → Type 0
IsResting Closed waits = waits ≡ None
IsResting Connecting waits = Unit {0}
IsResting Open waits = Unit {0}
IsResting Closing waits = Unit {0}

module _ (who : Client) {p : Option ℕ} where
  pub silent : {w : LinkWorld} → SoundWith p who w → IsSilent w.client.waits w.up_line w.down_line
  silent (Away m x asked served answers taken ps pt) = (refl, refl)
  silent (Calling sent m t x) = tt
  silent (Called t x) = tt
  silent (Leaving sent m s n t k x u asked served answers taken ps pt) = tt
  silent (Left was m s n t k x u asked served answers taken ps pt) = tt
  silent (Idle s n size last took had x given got hs hn hz) = (refl, refl)
  silent (Asking sent s n size t last took k had x info u apdu given got hs hn hz j i short) = tt
  silent (Received line s n size t y bytes had x info u apdu given got hs hn hz j short) = tt
  silent (Answered line s n size t q took k had x info u answer given got hs hn hz j i short again refuses) = tt
  silent (Readying sent s n size t y last took bytes had x u answer given got hs hn hz j short) = tt
  silent (LostCalled t x) = tt
  silent (LostIdle s n x asked served answers taken hs hn ps pt) = (refl, refl)
  silent (LostAsking sent q s n t k x u asked served answers taken refuses ps pt) = tt
  silent (Denied q s n t k x u asked served answers taken refuses ps pt) = tt
  silent (LostReceived s n t y x info u apdu given got hs hn) = tt
  silent (LostAnswered s n t q k x info u answer given got hs hn j i short refuses) = tt

  pub quiet : {w : LinkWorld} → SoundWith p who w → IsQuiet w.client.phase w.up_line w.down_line
  quiet (Away m x asked served answers taken ps pt) = (refl, refl)
  quiet (Calling sent m t x) = tt
  quiet (Called t x) = tt
  quiet (Leaving sent m s n t k x u asked served answers taken ps pt) = tt
  quiet (Left was m s n t k x u asked served answers taken ps pt) = tt
  quiet (Idle s n size last took had x given got hs hn hz) = tt
  quiet (Asking sent s n size t last took k had x info u apdu given got hs hn hz j i short) = tt
  quiet (Received line s n size t y bytes had x info u apdu given got hs hn hz j short) = tt
  quiet (Answered line s n size t q took k had x info u answer given got hs hn hz j i short again refuses) = tt
  quiet (Readying sent s n size t y last took bytes had x u answer given got hs hn hz j short) = tt
  quiet (LostCalled t x) = tt
  quiet (LostIdle s n x asked served answers taken hs hn ps pt) = tt
  quiet (LostAsking sent q s n t k x u asked served answers taken refuses ps pt) = tt
  quiet (Denied q s n t k x u asked served answers taken refuses ps pt) = tt
  quiet (LostReceived s n t y x info u apdu given got hs hn) = tt
  quiet (LostAnswered s n t q k x info u answer given got hs hn j i short refuses) = tt

  pub resting : {w : LinkWorld} → SoundWith p who w → IsResting w.client.phase w.client.waits
  resting (Away m x asked served answers taken ps pt) = refl
  resting (Calling sent m t x) = tt
  resting (Called t x) = tt
  resting (Leaving sent m s n t k x u asked served answers taken ps pt) = tt
  resting (Left was m s n t k x u asked served answers taken ps pt) = tt
  resting (Idle s n size last took had x given got hs hn hz) = tt
  resting (Asking sent s n size t last took k had x info u apdu given got hs hn hz j i short) = tt
  resting (Received line s n size t y bytes had x info u apdu given got hs hn hz j short) = tt
  resting (Answered line s n size t q took k had x info u answer given got hs hn hz j i short again refuses) = tt
  resting (Readying sent s n size t y last took bytes had x u answer given got hs hn hz j short) = tt
  resting (LostCalled t x) = tt
  resting (LostIdle s n x asked served answers taken hs hn ps pt) = tt
  resting (LostAsking sent q s n t k x u asked served answers taken refuses ps pt) = tt
  resting (Denied q s n t k x u asked served answers taken refuses ps pt) = tt
  resting (LostReceived s n t y x info u apdu given got hs hn) = tt
  resting (LostAnswered s n t q k x info u answer given got hs hn j i short refuses) = tt

  one_frame : {w : LinkWorld} → SoundWith p who w → length w.up_line + length w.down_line ≤ 1
  one_frame (Away m x asked served answers taken ps pt) = omega arith
  one_frame (Calling true m t x) = omega arith
  one_frame (Calling false m t x) = omega arith
  one_frame (Called t x) = omega arith
  one_frame (Leaving true m s n t k x u asked served answers taken ps pt) = omega arith
  one_frame (Leaving false m s n t k x u asked served answers taken ps pt) = omega arith
  one_frame (Left was m s n t k x u asked served answers taken ps pt) = omega arith
  one_frame (Idle s n size last took had x given got hs hn hz) = omega arith
  one_frame (Asking true s n size t last took k had x info u apdu given got hs hn hz j i short) = omega arith
  one_frame (Asking false s n size t last took k had x info u apdu given got hs hn hz j i short) = omega arith
  one_frame (Received Silent s n size t y bytes had x info u apdu given got hs hn hz j short) = omega arith
  one_frame (Received Going s n size t y bytes had x info u apdu given got hs hn hz j short) = omega arith
  one_frame (Received Coming s n size t y bytes had x info u apdu given got hs hn hz j short) = omega arith
  one_frame (Answered Silent s n size t q took k had x info u answer given got hs hn hz j i short again refuses) = omega arith
  one_frame (Answered Going s n size t q took k had x info u answer given got hs hn hz j i short again refuses) = omega arith
  one_frame (Answered Coming s n size t q took k had x info u answer given got hs hn hz j i short again refuses) = omega arith
  one_frame (Readying true s n size t y last took bytes had x u answer given got hs hn hz j short) = omega arith
  one_frame (Readying false s n size t y last took bytes had x u answer given got hs hn hz j short) = omega arith
  one_frame (LostCalled t x) = omega arith
  one_frame (LostIdle s n x asked served answers taken hs hn ps pt) = omega arith
  one_frame (LostAsking true q s n t k x u asked served answers taken refuses ps pt) = omega arith
  one_frame (LostAsking false q s n t k x u asked served answers taken refuses ps pt) = omega arith
  one_frame (Denied q s n t k x u asked served answers taken refuses ps pt) = omega arith
  one_frame (LostReceived s n t y x info u apdu given got hs hn) = omega arith
  one_frame (LostAnswered s n t q k x info u answer given got hs hn j i short refuses) = omega arith

silent_at : (waits : Option Parts) (up down : List Parts) → waits ≡ None → IsSilent waits up down → (up ≡ []) × (down ≡ [])
silent_at None up down e h = h
silent_at (Some f) up down e h = absurd (cc)

pub apdus_come_up : ApdusComeUp
apdus_come_up p who events fair = come_up p fair who (sound_with p fair who events)

pub line_is_silent : LineIsSilent
line_is_silent p who events fair e = silent_at _ _ _ e (silent who (sound_with p fair who events))

pub one_frame_at_most : OneFrameAtMost
one_frame_at_most p who events fair = one_frame who (sound_with p fair who events)
