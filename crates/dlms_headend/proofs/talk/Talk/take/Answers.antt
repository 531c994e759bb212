use Rattle.std.proofs.Common.{refl}
use Rattle.dlms_headend.proofs.TalkLemmas.{releasing_opened, ends_unreleased}
use Rattle.dlms_headend.proofs.talk.Talk.take.Goals as goal

pub returns-in-Err : goal.returns-in-Err
returns-in-Err g c = λ apdus h e.
    let fits = releasing_opened c.args.columns c.args.self.now (record { stage = c.self.inside.stage; blocks = c.self.inside.blocks; rows = c.self.inside.rows.items }) apdus c.self.view_is h c.in-Releasing.is in
    (ends_unreleased c.args.columns apdus c.args.apdu.now c.self.inside.blocks c.self.inside.rows.items c.in-Err.fault fits c.in-Err.ensures.0 c.in-Err.ensures.1, refl)
