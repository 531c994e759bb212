use Rattle.std.proofs.Common.{refl, subst, ℕ, ◌<◌, ◌^◌, List, All}
use Rattle.dlms_data.specs.Value.{octet_string}
use Rattle.dlms_world.proofs.laws.seconds_have_times.Goals as goal

pub returns : goal.returns
returns c =
    let octets = c.octets-octets.result in
    (octet_string octets, record { octets = octets; bytes = subst (λ (given : List ℕ). All (λ octet. octet < 2 ^ 8) given) c.as_slice.ensures c.bytes_fit.ensures; value = refl; names = c.octets-octets.ensures.second; plainly = c.octets-octets.ensures.plain })
