use Rattle.std.proofs.Common.{rules, ◌≡◌, ◌≢◌, ◌∙◌, Some, ap, inl, inr, refl, subst, sym}
use Rattle.dlms_c.specs.Meter.{IsGivenBack}
use Rattle.dlms_c.specs.Refusal.{closed_code}
use Rattle.dlms_c.proofs.Openings.{given_back}
use Rattle.dlms_c.proofs.kept_meter.KeptMeter.settle.Goals as goal

pub returns-then-faults-eq0 : goal.returns-then-faults-eq0
returns-then-faults-eq0 c =
    let there : c.args.self.now.meter ≡ Some c.in-Some.running = search rules in
    let none : c.faults.result ≡ 0 = search rules in
    let back = given_back c.in-Some.running c.close-device.result 0 (λ done. sym c.faults.ensures ∙ none, λ never. refl) c.close-device.ensures.settles in
    record {
      closed = λ some. absurd (some (ap (λ meter. closed_code meter) there));
      settled = λ still. (inl refl, subst (λ m. IsGivenBack m 0) (sym there) back, c.take.ensures.after, refl);
      others = refl;
    }

pub returns : goal.returns
returns c =
    let there : c.args.self.now.meter ≡ Some c.in-Some.running = search rules in
    let some : c.faults.result ≢ 0 = search rules in
    let back = given_back c.in-Some.running c.close-device.result 33 (λ done. absurd (cc done), λ never. absurd (some (c.faults.ensures ∙ never))) c.close-device.ensures.settles in
    record {
      closed = λ other. absurd (other (ap (λ meter. closed_code meter) there));
      settled = λ still. (inr refl, subst (λ m. IsGivenBack m 33) (sym there) back, c.take.ensures.after, refl);
      others = refl;
    }
