use Rattle.std.proofs.Common.{sym, subst, refl}
use Rattle.dlms_frame.specs.declared.client.Client.{Client}
use Rattle.dlms_frame.specs.declared.client.Client.TheVariants.{Public, Management, Reader}
use Rattle.dlms_meter.specs.Messages.{Requests}
use Rattle.dlms_meter.proofs.Requesting.{others, requested, with_management, with_public, with_reader}
use Rattle.dlms_meter.proofs.meter.Meter.request.Goals as goal

pub returns-in-Public-clause-requests : goal.returns-in-Public-clause-requests
returns-in-Public-clause-requests g c =
    let old = c.args.self.now in
    let a = c.request in
    let new = with_public old old.deframer a.new.self a.new.store in
    subst (λ (who : Client). Requests old who c.args.apdu.now a.result.items new) (sym c.in-Public.is)
    (requested Public old new c.args.apdu.now a.result.items a.ensures.short (record { line = refl; link = a.ensures.link; others = others Public old new (λ ne. absurd (ne refl)) (λ _. refl) (λ _. refl) }) (λ h. g.met.P.Pages.rules old.store.device h) a.ensures.served a.ensures.too_long)

pub returns-in-Management-clause-requests : goal.returns-in-Management-clause-requests
returns-in-Management-clause-requests g c =
    let old = c.args.self.now in
    let a = c.request-in-Management in
    let new = with_management old old.deframer a.new.self a.new.store in
    subst (λ (who : Client). Requests old who c.args.apdu.now a.result.items new) (sym c.in-Management.is)
    (requested Management old new c.args.apdu.now a.result.items a.ensures.short (record { line = refl; link = a.ensures.link; others = others Management old new (λ _. refl) (λ ne. absurd (ne refl)) (λ _. refl) }) (λ h. g.met.P.Pages.rules old.store.device h) a.ensures.served a.ensures.too_long)

pub returns-in-Reader-clause-requests : goal.returns-in-Reader-clause-requests
returns-in-Reader-clause-requests g c =
    let old = c.args.self.now in
    let a = c.request-in-Reader in
    let new = with_reader old old.deframer a.new.self a.new.store in
    subst (λ (who : Client). Requests old who c.args.apdu.now a.result.items new) (sym c.in-Reader.is)
    (requested Reader old new c.args.apdu.now a.result.items a.ensures.short (record { line = refl; link = a.ensures.link; others = others Reader old new (λ _. refl) (λ _. refl) (λ ne. absurd (ne refl)) }) (λ h. g.met.P.Pages.rules old.store.device h) a.ensures.served a.ensures.too_long)
