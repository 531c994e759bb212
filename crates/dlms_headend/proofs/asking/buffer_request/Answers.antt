use Rattle.std.proofs.Common.{rules, ◌≡◌, refl, subst, ℕ, unwrap_or}
use Rattle.dlms_data.specs.Building.{IsTime}
use Rattle.dlms_headend.specs.Asking.{range, last_second}
use Rattle.dlms_headend.proofs.Requests.{range_appended}
use Rattle.dlms_headend.proofs.asking.buffer_request.Goals as goal

pub returns-clause-asks : goal.returns-clause-asks
returns-clause-asks c =
    let first = c.append_time.ensures.time in
    let last = c.append_time-2.ensures.time in
    let from : c.unwrap_or.result ≡ unwrap_or c.args.after 0 = search rules in
    let to : c.unwrap_or-2.result ≡ last_second c.args.until = search rules in
    record {
      value = range first.0 last.0;
      is = range_appended first.0 last.0 c.new-request.result.items c.append.new.request.items c.append_time.new.request.items c.append_time-2.new.request.items c.append-2.new.request.items c.as_slice.result.now c.as_slice-2.result.now
          c.new-request.ensures c.append.ensures.items c.as_slice.ensures first.2 last.2 c.append-2.ensures.items c.as_slice-2.ensures;
      wanted = record { first = first.0; last = last.0; is = refl; from_first = subst (λ (second : ℕ). IsTime second first.0) from first.1; to_last = subst (λ (second : ℕ). IsTime second last.0) to last.1 };
    }
