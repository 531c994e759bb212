use Rattle.dlms_pages.proofs.Moments.{seen_is}
use Rattle.dlms_counters.specs.Fingerprint.{fingerprint_of}
use Rattle.dlms_counters.proofs.OpenLemmas.{fits_opened}
use Rattle.dlms_counters.proofs.laws.open_fits_what_a_stop_left.Goals as goal

pub returns : goal.returns
returns g c image d fixed two found is_own is_key =
    let v = g.P.Pages.view c.args.device in
    let seen = seen_is v image fixed (g.met.P.Pages.rules c.args.device fixed.honest) in
    let e = c.open.ensures in
    fits_opened g.P.Pages image d c.args.device c.args.own.now (fingerprint_of c.args.own.now c.args.key.now) two found is_own is_key seen c.open.result
    e.size (e.exact fixed.honest) (e.settled fixed.honest) e.runs
