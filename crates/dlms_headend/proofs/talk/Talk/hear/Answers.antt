use Rattle.std.proofs.Common.{ap, subst, sym, ◌++◌, ◌∷◌, []}
use Rattle.dlms_headend.specs.TalkValue.{TalkValue}
use Rattle.dlms_headend.specs.Talk.{FitsAt, IsGetting}
use Rattle.dlms_headend.specs.declared.stage.Stage.{Stage}
use Rattle.dlms_headend.proofs.TalkLemmas.{opened, block_taken, rows_taken, get_ends, none_getting}
use Rattle.dlms_headend.proofs.talk.Talk.hear.Goals as goal

pub returns-in-Err : goal.returns-in-Err
returns-in-Err g c = λ apdus h e.
    let fits = opened c.args.columns c.args.self.now (record { stage = c.self.inside.stage; blocks = c.self.inside.blocks; rows = c.self.inside.rows.items }) _ apdus c.self.view_is h e in
    (get_ends c.args.columns apdus c.args.apdu.now c.args.taken c.self.inside.blocks c.self.inside.rows.items c.in-Err.fault fits (c.in-Err.ensures.hears fits.1), ap (λ (t : TalkValue). t.rows) c.self.view_is)

pub returns-in-Ok-More : goal.returns-in-Ok-More
returns-in-Ok-More g c = λ apdus h e.
    let fits = opened c.args.columns c.args.self.now (record { stage = c.self.inside.stage; blocks = c.self.inside.blocks; rows = c.self.inside.rows.items }) _ apdus c.self.view_is h e in
    let heard = (rw c.in-Ok-More.field-0-is at c.in-Ok-More.ensures.hears) fits.1 in
    (block_taken c.args.columns apdus c.args.apdu.now heard.1.0 c.args.taken c.in-Ok-More.number c.self.inside.blocks c.heard.new.blocks c.self.inside.rows.items fits heard.0 heard.1.1 heard.1.2, λ getting. ap (λ (t : TalkValue). t.rows) c.self.view_is)

pub returns-in-Ok-Rows : goal.returns-in-Ok-Rows
returns-in-Ok-Rows g c = λ apdus h e.
    let fits = opened c.args.columns c.args.self.now (record { stage = c.self.inside.stage; blocks = c.self.inside.blocks; rows = c.self.inside.rows.items }) _ apdus c.self.view_is h e in
    let heard = (rw c.in-Ok-Rows.field-0-is at c.in-Ok-Rows.ensures.hears) fits.1 in (
      subst (λ (stage : Stage). FitsAt c.args.columns stage c.heard.new.blocks c.in-Ok-Rows.rows.items (apdus ++ c.args.apdu.now ∷ [])) (sym c.behind_rows-self-inside.ensures)
          (rows_taken c.args.columns apdus c.args.apdu.now c.args.taken c.self.inside.blocks c.heard.new.blocks c.self.inside.rows.items c.in-Ok-Rows.rows.items fits heard),
      λ getting. absurd (none_getting c.args.columns (subst IsGetting c.behind_rows-self-inside.ensures getting)),
    )
