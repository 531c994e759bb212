use Rattle.std.proofs.Common.{refl}
use Rattle.dlms_headend.proofs.TalkLemmas.{opened, check_taken, ends_unchecked}
use Rattle.dlms_headend.proofs.talk.Talk.check.Goals as goal

pub returns-in-Ok : goal.returns-in-Ok
returns-in-Ok g c = λ apdus h e.
    let fits = opened c.args.columns c.args.self.now (record { stage = c.self.inside.stage; blocks = c.self.inside.blocks; rows = c.self.inside.rows.items }) _ apdus c.self.view_is h e in
    (check_taken c.args.columns apdus c.args.apdu.now c.self.inside.blocks c.self.inside.rows.items fits c.in-Ok.ensures, λ getting. absurd getting)

pub returns-in-Err : goal.returns-in-Err
returns-in-Err g c = λ apdus h e.
    let fits = opened c.args.columns c.args.self.now (record { stage = c.self.inside.stage; blocks = c.self.inside.blocks; rows = c.self.inside.rows.items }) _ apdus c.self.view_is h e in
    (ends_unchecked c.args.columns apdus c.args.apdu.now c.self.inside.blocks c.self.inside.rows.items c.in-Err.fault fits c.in-Err.ensures, refl)
