use Rattle.std.proofs.Common.{◌≡◌, ℕ, List, ◌+◌, ◌*◌, ◌++◌, subst, refl, ap, ◌∙◌, append_assoc}
use Rattle.dlms_data.specs.DateTime.{NamesSecond}
use Rattle.dlms_buffer.specs.Clock.{iso_of, offset_of, deviation_of}
use Rattle.dlms_buffer.proofs.clock.append_clock.Goals as goal

pub returns : goal.returns
returns g c =
    let s = c.in-Some.ensures.some in
    let named : NamesSecond c.octets.result (s.1.0 + c.args.later) = subst (NamesSecond c.octets.result) s.1.2 c.octets.ensures.second in
    let date : List ℕ = iso_of c.octets.result in
    let offset : List ℕ = offset_of (deviation_of c.args.clock.now) in
    let deviation : 256 * c.from.result + c.from-2.result ≡ deviation_of c.args.clock.now = rw (c.from.ensures, c.from-2.ensures) refl in (
      date ++ offset,
      (s.1.0, c.octets.result, s.1.1, named, refl),
      c.in_ok-append_offset.ensures ∙ ap (λ (n : ℕ). c.append_iso.new.text.items ++ offset_of n) deviation ∙ ap (λ (t : List ℕ). t ++ offset) c.in_ok-append_iso.ensures ∙ append_assoc c.args.text.now.items date offset,
    )
