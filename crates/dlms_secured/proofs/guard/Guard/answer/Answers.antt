use Rattle.std.proofs.Common.{◌≡◌, ◌∙◌, sym, ap, subst, ℕ, List, [], Option, Result, Err}
use Rattle.dlms_security.specs.Security.{SecurityState}
use Rattle.dlms_secured.specs.Guard.{GuardValue, Is, sends, sends_by, stage_after}
use Rattle.dlms_secured.specs.GuardView.{value_of}
use Rattle.dlms_secured.specs.Made.{Made, sends_answer, taught}
use Rattle.dlms_secured.specs.declared.fault.SecuredFault.{SecuredFault}
use Rattle.dlms_secured.specs.declared.reply.Reply.{Reply}
use Rattle.dlms_secured.specs.declared.stage.Stage.TheVariants.{Proving, Failed}
use Rattle.dlms_secured.proofs.guard.Guard.answer.Goals as goal

-- no message goes out, and the association is over
failed : (v w : GuardValue) (reply : Reply) (why : SecuredFault) (s : SecurityState) (d : Option SecurityState) → v ≡ w
    → (sends_answer v.security v.form reply.answer).result ≡ Err why → s ≡ (sends_answer v.security v.form reply.answer).security
    → d ≡ taught reply.title v.dedicated
    → Is (sends_by w [] reply (sends_answer w.security w.form reply.answer)) (Err why) (record v { security = s; dedicated = d; stage = Failed why })
failed v w reply why s d same is security dedicated =
    let m : Made (List ℕ) = sends_answer v.security v.form reply.answer in
    subst (λ (u : GuardValue). Is (sends_by u [] reply (sends_answer u.security u.form reply.answer)) (Err why)
    (record v { security = s; dedicated = d; stage = Failed why })) same (
      sym (ap (λ (r : Result (List ℕ) SecuredFault). sends r) is),
      ap (λ (s : SecurityState). record v { security = s; dedicated = d; stage = Failed why }) security
          ∙ ap (λ (d : Option SecurityState). record v { security = m.security; dedicated = d; stage = Failed why }) dedicated
          ∙ ap (λ (r : Result (List ℕ) SecuredFault). record v {
            security = m.security;
            dedicated = taught reply.title v.dedicated;
            stage = stage_after (Proving reply.granted) r;
          }) (sym is),
    )

pub returns-in-Err-clause-sends : goal.returns-in-Err-clause-sends
returns-in-Err-clause-sends c = failed (value_of c.self.inside) c.args.self.now c.args.reply.now c.in-Err.fault c.send_answer.new.security
    c.teach.new.dedicated c.self.view_is c.in-Err.ensures.result c.send_answer.ensures.after c.teach.ensures
