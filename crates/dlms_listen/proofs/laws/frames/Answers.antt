use Rattle.std.proofs.Common.{subst, ap}
use Rattle.dlms_frame.specs.Stream as frames
use Rattle.dlms_listen.proofs.CutLemmas.{frame_calls}
use Rattle.dlms_listen.proofs.laws.frames.Goals as goal

pub returns : goal.returns
returns c start last calls is_start fed =
    let run = frame_calls calls start last is_start.carrier (ap (λ m. m.message) is_start.messages) fed in (
      frames.frames_of run.0,
      subst (λ octets. frames.FramesOf octets 0 (frames.frames_of run.0)) run.2 (c.any_pieces.ensures start.frames.bytes last.frames.bytes run.0 is_start.frames run.1),
      run.3,
    )
