use Rattle.std.proofs.Common.{◌≡◌, ◌∙◌, sym, ap, subst, refl, Option, Some, None, take, option_map}
use Rattle.dlms_frame.specs.Frame.{Parts}
use Rattle.dlms_frame.specs.Stream.{Takes}
use Rattle.dlms_frame.specs.declared.client.Client.{Client}
use Rattle.dlms_frame.specs.declared.client.Client.TheVariants.{Public, Management, Reader}
use Rattle.dlms_meter.specs.Run.{Replies, client_at}
use Rattle.dlms_meter.proofs.Feeding.{fed_none, fed_one, with_kept}
use Rattle.dlms_meter.proofs.Requesting.{others, with_management, with_public, with_reader}
use Rattle.dlms_meter.proofs.meter.Meter.feed.Goals as goal

pub returns-in_default-clause-feeds : goal.returns-in_default-clause-feeds
returns-in_default-clause-feeds g c =
    let old = c.args.self.now in
    let kept = c.feed-taken.new.self in
    let taken = take c.feed-taken.result c.args.bytes.now in
    fed_none old taken kept (λ h. g.met.P.Pages.rules old.store.device h)
    (subst (λ (o : Option Parts). Takes old.deframer.bytes taken o kept.bytes) (sym c.frame.ensures ∙ c.in_default.is) c.feed-taken.ensures.takes)

pub returns-in-Some-Public-clause-all : goal.returns-in-Some-Public-clause-all
returns-in-Some-Public-clause-all g c =
    let kept = c.feed-taken.new.self in
    let taken = take c.feed-taken.result c.args.bytes.now in
    let takes = subst (λ (o : Option Parts). Takes c.args.self.now.deframer.bytes taken o kept.bytes) (sym c.frame.ensures ∙ c.in-Some.is) c.feed-taken.ensures.takes in
    λ w stands short. (let there = takes w.stretch w.place stands.line in (there.0, there.1, c.in-Some.frame, there.2, there.3))

pub returns-in-Some-Management-clause-all : goal.returns-in-Some-Management-clause-all
returns-in-Some-Management-clause-all g c =
    let kept = c.feed-taken.new.self in
    let taken = take c.feed-taken.result c.args.bytes.now in
    let takes = subst (λ (o : Option Parts). Takes c.args.self.now.deframer.bytes taken o kept.bytes) (sym c.frame.ensures ∙ c.in-Some.is) c.feed-taken.ensures.takes in
    λ w stands short. (let there = takes w.stretch w.place stands.line in (there.0, there.1, c.in-Some.frame, there.2, there.3))

pub returns-in-Some-Reader-clause-all : goal.returns-in-Some-Reader-clause-all
returns-in-Some-Reader-clause-all g c =
    let kept = c.feed-taken.new.self in
    let taken = take c.feed-taken.result c.args.bytes.now in
    let takes = subst (λ (o : Option Parts). Takes c.args.self.now.deframer.bytes taken o kept.bytes) (sym c.frame.ensures ∙ c.in-Some.is) c.feed-taken.ensures.takes in
    λ w stands short. (let there = takes w.stretch w.place stands.line in (there.0, there.1, c.in-Some.frame, there.2, there.3))

pub returns-in-None-clause-all : goal.returns-in-None-clause-all
returns-in-None-clause-all g c =
    let kept = c.feed-taken.new.self in
    let taken = take c.feed-taken.result c.args.bytes.now in
    let takes = subst (λ (o : Option Parts). Takes c.args.self.now.deframer.bytes taken o kept.bytes) (sym c.frame.ensures ∙ c.in-Some.is) c.feed-taken.ensures.takes in
    λ w stands short. (let there = takes w.stretch w.place stands.line in (there.0, there.1, c.in-Some.frame, there.2, there.3))

pub returns-in-Some-Public-clause-feeds : goal.returns-in-Some-Public-clause-feeds
returns-in-Some-Public-clause-feeds g c =
    let old = c.args.self.now in
    let kept = c.feed-taken.new.self in
    let taken = take c.feed-taken.result c.args.bytes.now in
    let f : Parts = c.in-Some.frame in
    let a = c.answer-reply in
    let reply = option_map (λ reply. reply.items) a.result in
    let new = with_public old kept a.new.self a.new.store in
    let takes = subst (λ (o : Option Parts). Takes old.deframer.bytes taken o kept.bytes) (sym c.frame.ensures ∙ c.in-Some.is) c.feed-taken.ensures.takes in
    let who : client_at f.src ≡ Some Public = sym (c.client_at.ensures ∙ ap (λ (p : Parts). client_at p.src) c.frame-2.view_is) ∙ cc (c.in-Some-Public.is, c.in-Some-Public.field-0-is) in
    fed_one old taken kept f reply new (λ h. g.met.P.Pages.rules old.store.device h) takes
    (subst (λ (o : Option Client). Replies (with_kept old kept) f reply new o) (sym who)
    (a.ensures.handled, refl, others Public (with_kept old kept) new (λ ne. absurd (ne refl)) (λ _. refl) (λ _. refl)))

pub returns-in-Some-Management-clause-feeds : goal.returns-in-Some-Management-clause-feeds
returns-in-Some-Management-clause-feeds g c =
    let old = c.args.self.now in
    let kept = c.feed-taken.new.self in
    let taken = take c.feed-taken.result c.args.bytes.now in
    let f : Parts = c.in-Some.frame in
    let a = c.answer-reply-in-Some-Management in
    let reply = option_map (λ reply. reply.items) a.result in
    let new = with_management old kept a.new.self a.new.store in
    let takes = subst (λ (o : Option Parts). Takes old.deframer.bytes taken o kept.bytes) (sym c.frame.ensures ∙ c.in-Some.is) c.feed-taken.ensures.takes in
    let who : client_at f.src ≡ Some Management = sym (c.client_at.ensures ∙ ap (λ (p : Parts). client_at p.src) c.frame-2.view_is) ∙ cc (c.in-Some-Management.is, c.in-Some-Management.field-0-is) in
    fed_one old taken kept f reply new (λ h. g.met.P.Pages.rules old.store.device h) takes
    (subst (λ (o : Option Client). Replies (with_kept old kept) f reply new o) (sym who)
    (a.ensures.handled, refl, others Management (with_kept old kept) new (λ _. refl) (λ ne. absurd (ne refl)) (λ _. refl)))

pub returns-in-Some-Reader-clause-feeds : goal.returns-in-Some-Reader-clause-feeds
returns-in-Some-Reader-clause-feeds g c =
    let old = c.args.self.now in
    let kept = c.feed-taken.new.self in
    let taken = take c.feed-taken.result c.args.bytes.now in
    let f : Parts = c.in-Some.frame in
    let a = c.answer-reply-in-Some-Reader in
    let reply = option_map (λ reply. reply.items) a.result in
    let new = with_reader old kept a.new.self a.new.store in
    let takes = subst (λ (o : Option Parts). Takes old.deframer.bytes taken o kept.bytes) (sym c.frame.ensures ∙ c.in-Some.is) c.feed-taken.ensures.takes in
    let who : client_at f.src ≡ Some Reader = sym (c.client_at.ensures ∙ ap (λ (p : Parts). client_at p.src) c.frame-2.view_is) ∙ cc (c.in-Some-Reader.is, c.in-Some-Reader.field-0-is) in
    fed_one old taken kept f reply new (λ h. g.met.P.Pages.rules old.store.device h) takes
    (subst (λ (o : Option Client). Replies (with_kept old kept) f reply new o) (sym who)
    (a.ensures.handled, refl, others Reader (with_kept old kept) new (λ _. refl) (λ _. refl) (λ ne. absurd (ne refl))))

pub returns-in-None-clause-feeds : goal.returns-in-None-clause-feeds
returns-in-None-clause-feeds g c =
    let old = c.args.self.now in
    let kept = c.feed-taken.new.self in
    let taken = take c.feed-taken.result c.args.bytes.now in
    let f : Parts = c.in-Some.frame in
    let takes = subst (λ (o : Option Parts). Takes old.deframer.bytes taken o kept.bytes) (sym c.frame.ensures ∙ c.in-Some.is) c.feed-taken.ensures.takes in
    let who : client_at f.src ≡ None = sym (c.client_at.ensures ∙ ap (λ (p : Parts). client_at p.src) c.frame-2.view_is) ∙ c.in-None.is in
    fed_one old taken kept f None (with_kept old kept) (λ h. g.met.P.Pages.rules old.store.device h) takes
    (subst (λ (o : Option Client). Replies (with_kept old kept) f None (with_kept old kept) o) (sym who) (refl, refl))
