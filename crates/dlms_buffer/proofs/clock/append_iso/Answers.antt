use Rattle.std.proofs.Common.{◌≡◌, ℕ, List, ◌++◌, ◌+◌, ◌*◌, ◌/◌, ◌%◌, refl, ap, ◌∙◌}
use Rattle.dlms_data.specs.DateTime.{year_of}
use Rattle.dlms_buffer.specs.Clock.{iso_of, two_digits, digits_and}
use Rattle.dlms_buffer.proofs.Appending.{appended_by}
use Rattle.dlms_buffer.proofs.clock.append_iso.Goals as goal

pub returns : goal.returns
unfolding iso_of
returns g c =
    let old : List ℕ = c.args.text.now.items in
    let year : 256 * c.from.result + c.from-2.result ≡ year_of c.args.octets.now = rw (c.from.ensures, c.from-2.ensures) refl in
    let century = c.in_ok-append_digits.ensures ∙ ap (λ (n : ℕ). old ++ two_digits (n / 100)) year in
    let years = appended_by (λ n. digits_and n 45) _ _ old _ _ _ century c.in_ok-append_part.ensures (ap (λ (n : ℕ). n % 100) year) in
    let months = appended_by (λ n. digits_and n 45) _ _ old _ _ _ years c.in_ok-append_part-2.ensures c.from-3.ensures in
    let days = appended_by (λ n. digits_and n 84) _ _ old _ _ _ months c.in_ok-append_part-3.ensures c.from-4.ensures in
    let hours = appended_by (λ n. digits_and n 58) _ _ old _ _ _ days c.in_ok-append_part-4.ensures c.from-5.ensures in
    let minutes = appended_by (λ n. digits_and n 58) _ _ old _ _ _ hours c.in_ok-append_part-5.ensures c.from-6.ensures in
    appended_by two_digits _ _ old _ _ _ minutes c.in_ok-append_digits-2.ensures c.from-7.ensures
