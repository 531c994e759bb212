use Rattle.std.proofs.Common.{refl}
use Rattle.std.proofs.lemmas.Result.{on_ok_weaker}
use Rattle.dlms_data.specs.Value.{octet_string}
use Rattle.dlms_classes.proofs.putting_rows.put_time.Goals as goal

-- the octets are those of the second
pub returns : goal.returns
returns g c =
    on_ok_weaker c.put_octets.result
    (λ is. (
      octet_string c.octets-octets.result,
      (record { octets = c.octets-octets.result; bytes = rw (← c.as_slice.ensures) c.bytes_fit.ensures; value = refl; names = c.octets-octets.ensures.second; plainly = c.octets-octets.ensures.plain }),
      rw (← c.as_slice-2.ensures) is,
    ))
    c.put_octets.ensures
