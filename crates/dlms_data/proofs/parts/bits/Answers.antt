use Rattle.std.proofs.lemmas.Result.{err_from_is_err_and}
use Rattle.dlms_data.proofs.Wanting.{bits_wanting}
use Rattle.dlms_data.proofs.parts.bits.Goals as goal

pub returns-in_err-copied : goal.returns-in_err-copied
returns-in_err-copied g c =
    let p = err_from_is_err_and c.from_residual-in_err-copied.result c.from_residual-in_err-copied.ensures.1 in
    rw (p.1, p.2)
    (bits_wanting c.in_ok-count.count c.args.bytes.now c.in_ok-count.rest.now c.in_ok-front.front.now c.in_ok-front.rest.now c.in_ok-count.ensures.told c.in_ok-front.ensures.told c.in_ok-front.ensures.length c.in_err-copied.ensures.memory)
