use Rattle.std.proofs.Common.{ap, refl, subst, sym, ◌++◌, ◌∷◌, []}
use Rattle.dlms_headend.specs.TalkValue.{TalkValue}
use Rattle.dlms_headend.specs.Talk.{FitsAt}
use Rattle.dlms_headend.specs.declared.stage.Stage.{Stage}
use Rattle.dlms_headend.proofs.TalkLemmas.{opened, accepted, ends_denied}
use Rattle.dlms_headend.proofs.talk.Talk.associate.Goals as goal

pub returns-in-Ok : goal.returns-in-Ok
returns-in-Ok g c = λ apdus h e.
    let fits = opened c.args.columns c.args.self.now (record { stage = c.self.inside.stage; blocks = c.self.inside.blocks; rows = c.self.inside.rows.items }) _ apdus c.self.view_is h e in (
      subst (λ (stage : Stage). FitsAt c.args.columns stage c.self.inside.blocks c.self.inside.rows.items (apdus ++ c.args.apdu.now ∷ [])) (sym c.behind_acceptance-self-inside.ensures)
          (accepted c.args.columns apdus c.args.apdu.now c.self.inside.blocks c.self.inside.rows.items fits c.in-Ok.ensures),
      λ getting. ap (λ (t : TalkValue). t.rows) c.self.view_is,
    )

pub returns-in-Err : goal.returns-in-Err
returns-in-Err g c = λ apdus h e.
    let fits = opened c.args.columns c.args.self.now c.args.self.now _ apdus refl h e in
    (ends_denied c.args.columns apdus c.args.apdu.now c.in-Err.fault fits.0 c.in-Err.ensures, refl)
