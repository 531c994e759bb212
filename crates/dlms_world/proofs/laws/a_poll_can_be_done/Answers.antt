use Rattle.std.proofs.Common.{rules, ◌≡◌, ℕ, subst, unwrap_or}
use Rattle.dlms_data.specs.Building.{IsTime}
use Rattle.dlms_headend.specs.Asking.{last_second}
use Rattle.dlms_world.proofs.Carried.{carried_first}
use Rattle.dlms_world.proofs.Done.{done_first, done_again}
use Rattle.dlms_world.proofs.laws.a_poll_can_be_done.Goals as goal

pub returns : goal.returns
returns c =
    let row = c.seconds_have_times.ensures.1 in
    let first = c.seconds_have_times-2.ensures in
    let last = c.seconds_have_times-3.ensures in
    let from : c.unwrap_or.result ≡ unwrap_or c.args.after 0 = search rules in
    let to : c.unwrap_or-2.result ≡ last_second c.args.until = search rules in
    let until : IsTime (last_second c.args.until) last.0 = subst (λ (second : ℕ). IsTime second last.0) to last.1 in
    let since : IsTime (unwrap_or c.args.after 0) first.0 = subst (λ (second : ℕ). IsTime second first.0) from first.1 in
    record { first = done_first row.octets row.bytes row.names row.plainly c.args.after c.args.until first.0 last.0 since until; again = done_again c.args.after c.args.until first.0 last.0 since until; carried = carried_first row.octets row.bytes row.names row.plainly c.args.after c.args.until first.0 last.0 since until }
