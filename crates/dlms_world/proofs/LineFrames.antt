-- Everything on the way to the poller is a frame.
use Rattle.std.proofs.Common.{arith, ◌≤◌, ◌<◌, ℕ, Bool, false, List, [], ◌∷◌, ◌++◌, length, ap, length-append}
use Rattle.dlms_frame.specs.declared.client.Client.{Client}
use Rattle.dlms_frame.specs.declared.client.Client.TheVariants.{Public, Management, Reader}
use Rattle.dlms_frame.specs.declared.frame.Address.TheVariants.{One}
use Rattle.dlms_frame.specs.Client.{sap_of}
use Rattle.dlms_frame.specs.Frame.{Parts, IsFrame, tail_len}
use Rattle.dlms_link.specs.Kept.{Kept, Fresh, Good, TooLong, BadStart, from_meter}
use Rattle.dlms_link.specs.Parameters.{information_of, own_parameters}
use Rattle.dlms_link.specs.Server.{to_client}
use Rattle.dlms_link.specs.World.{LinkWorld as Link}
use Rattle.dlms_link.proofs.Joining.{Joins}
use Rattle.dlms_link.proofs.Sound.{Sound, Line, Silent, Going, Coming, coming, Away, Calling, Called, Leaving, Left, Idle, Asking, Received, Answered, Readying, LostCalled, LostIdle, LostAsking, Denied, LostReceived, LostAnswered}

-- each of these is a frame
abbrev pub AreFrames : List Parts → Type 0
AreFrames [] = Unit {0}
AreFrames (f ∷ fs) = IsFrame f × AreFrames fs

-- a client's address has seven bits
small : (who : Client) → sap_of who < 128
small Public = omega arith
small Management = omega arith
small Reader = omega arith

tail_short : (info : List ℕ) → length info ≤ 1100 → tail_len info ≤ 1105
tail_short [] short = omega arith
tail_short (x ∷ info) short = omega (arith, short)

frame : (who : Client) (octet : ℕ) (segmented : Bool) (info : List ℕ) → length info ≤ 1100 → IsFrame (to_client who (One 1) octet segmented info)
frame who octet segmented info short = record { dest = small who; src = omega arith; len = omega (arith, tail_short info short) }

-- a segment has no more than the whole and its LLC
segment : (k : Kept) (info u answer : List ℕ) → Joins from_meter k (info ++ u) answer → length answer ≤ 1024 → length info ≤ 1100
segment Fresh info u answer joins short = omega (arith, short, ap length joins, length-append info u)
segment (Good bytes) info u answer joins short = omega (arith, short, ap length joins, length-append bytes (info ++ u), length-append info u)
segment TooLong info u answer joins short = absurd joins
segment BadStart info u answer joins short = absurd joins

on_its_way : (line : Line) (f : Parts) → IsFrame f → AreFrames (coming line f)
on_its_way Silent f is = tt
on_its_way Going f is = tt
on_its_way Coming f is = (is, tt)

ua : (who : Client) → IsFrame (to_client who (One 1) 115 false (information_of (own_parameters 128)))
ua who = frame who 115 _ (information_of (own_parameters 128)) (omega arith)

pub are_frames : (who : Client) (link : Link) → Sound who link → AreFrames link.down_line
are_frames who link (Away m x asked served answers taken ps pt) = tt
are_frames who link (Calling sent m t x) = tt
are_frames who link (Called t x) = (ua who, tt)
are_frames who link (Leaving sent m s n t k x u asked served answers taken ps pt) = tt
are_frames who link (Left was m s n t k x u asked served answers taken ps pt) = (frame who _ _ [] (omega arith), tt)
are_frames who link (Idle s n size last took had x given got hs hn hz) = tt
are_frames who link (Asking sent s n size t last took k had x info u apdu given got hs hn hz j i short) = tt
are_frames who link (Received line s n size t y bytes had x info u apdu given got hs hn hz j short) = on_its_way line _ (frame who _ _ [] (omega arith))
are_frames who link (Answered line s n size t q took k had x info u answer given got hs hn hz j i short again refuses) = on_its_way line _ (frame who _ _ info (segment k info u answer j short))
are_frames who link (Readying sent s n size t y last took bytes had x u answer given got hs hn hz j short) = tt
are_frames who link (LostCalled t x) = (ua who, tt)
are_frames who link (LostIdle s n x asked served answers taken hs hn ps pt) = tt
are_frames who link (LostAsking sent q s n t k x u asked served answers taken refuses ps pt) = tt
are_frames who link (Denied q s n t k x u asked served answers taken refuses ps pt) = (frame who _ _ [] (omega arith), tt)
are_frames who link (LostReceived s n t y x info u apdu given got hs hn) = (frame who _ _ [] (omega arith), tt)
are_frames who link (LostAnswered s n t q k x info u answer given got hs hn j i short refuses) = (frame who _ _ info (segment k info u answer j short), tt)
