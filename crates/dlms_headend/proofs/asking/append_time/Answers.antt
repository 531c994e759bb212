use Rattle.std.proofs.Common.{refl, subst, ℕ, ◌<◌, ◌^◌, List, All}
use Rattle.dlms_data.specs.Value.{octet_string}
use Rattle.dlms_headend.proofs.Requests.{time_appended}
use Rattle.dlms_headend.proofs.asking.append_time.Goals as goal

pub returns-clause-time : goal.returns-clause-time
returns-clause-time c =
    let octets = c.octets-octets.result in (
      octet_string octets,
      record {
        octets = octets;
        bytes = subst (λ (given : List ℕ). All (λ octet. octet < 2 ^ 8) given) c.as_slice-2.ensures c.append-2.ensures.bytes;
        value = refl;
        names = c.octets-octets.ensures.second;
        plainly = c.octets-octets.ensures.plain;
      },
      time_appended c.args.request.now.items c.as_slice.result.now c.append.new.request.items c.as_slice-2.result.now octets c.append-2.new.request.items
          c.append.ensures.items c.as_slice.ensures c.append-2.ensures.items c.as_slice-2.ensures c.octets-octets.ensures.second.size,
    )
