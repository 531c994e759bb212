-- The calls of a listener give the APDUs of the line's frames.
use Rattle.std.proofs.Common.{◌≡◌, ℕ, List, [], ◌∷◌, ◌++◌, refl, ap, subst, ◌∙◌, Option, Some, None, option_to_list}
use Rattle.dlms_frame.specs.Frame.{Parts}
use Rattle.dlms_frame.specs.Stream as frames
use Rattle.dlms_wrapper.specs.Message as wrapper
use Rattle.dlms_listen.specs.Joined.{Segmented}
use Rattle.dlms_transfer.specs.Blocks.{Blocked}
use Rattle.dlms_listen.specs.Line.{Joined, Line, TakesBy, TakesFrames, apdu_in, carrier_in, joined_in, with_frame}
use Rattle.dlms_listen.specs.Cutting.{Call, Feeds, apdus_of, apdus_of_frames, found_in, octets_of}
use Rattle.dlms_listen.specs.declared.carrier.Carrier.TheVariants.{Hdlc}

-- the APDU of a call, and those of the frames after it
abbrev apdus_from : Joined → Option wrapper.Parts → List Parts → List (List ℕ)
apdus_from j message fs = found_in j message ++ apdus_of_frames j.segments j.blocks fs

one_found : (segments : Segmented) (blocks : Blocked) (found : Option Parts) (calls : List frames.Call) (taken : List ℕ)
    → apdus_from (with_frame segments blocks found) None (frames.frames_of calls)
    ≡ apdus_of_frames segments blocks (frames.frames_of (record { taken = taken; found = found } ∷ calls))
one_found segments blocks None calls taken = refl
one_found segments blocks (Some f) calls taken = refl

pub frame_calls : (calls : List Call) (old new : Line) → old.carrier ≡ Some Hdlc → old.messages.message ≡ None → Feeds old calls new
    → (fs : List frames.Call) × frames.Feeds old.frames.bytes fs new.frames.bytes × (frames.bytes_of fs ≡ octets_of calls)
    × (apdus_of calls ≡ apdus_of_frames old.segments old.blocks (frames.frames_of fs))
frame_calls [] old new hdlc none fed = ([], ap (λ (l : Line). l.frames.bytes) fed, refl, refl)
frame_calls (call ∷ calls) old new hdlc none (mid, takes, apdu, fed) =
    let t : TakesFrames old call.taken mid = subst (λ k. TakesBy (carrier_in k call.taken) old call.taken mid) hdlc takes in
    let quiet : mid.messages.message ≡ None = ap (λ m. m.message) t.messages ∙ none in
    let rest = frame_calls calls mid new t.carrier quiet fed in
    let found = mid.frames.frame in
    let here : option_to_list call.apdu ++ apdus_of calls ≡ apdus_from (joined_in mid) mid.messages.message (frames.frames_of rest.0) =
    ap (λ a. option_to_list a ++ apdus_of calls) apdu ∙ ap (λ xs. option_to_list (apdu_in mid) ++ xs) rest.3 in
    let clear : apdus_from (joined_in mid) mid.messages.message (frames.frames_of rest.0) ≡ apdus_from (with_frame old.segments old.blocks found) None (frames.frames_of rest.0) =
    ap (λ j. apdus_from j mid.messages.message (frames.frames_of rest.0)) t.joined ∙ ap (λ m. apdus_from (with_frame old.segments old.blocks found) m (frames.frames_of rest.0)) quiet in (
      record { taken = call.taken; found = found } ∷ rest.0,
      (mid.frames.bytes, t.frames, rest.1),
      ap (λ xs. call.taken ++ xs) rest.2,
      here ∙ clear ∙ one_found old.segments old.blocks found rest.0 call.taken,
    )
