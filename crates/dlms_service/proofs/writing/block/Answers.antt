use Rattle.std.proofs.Common.{◌≡◌, ◌∙◌, arith}
use Rattle.dlms_apdu.specs.Forms.{get_block}
use Rattle.dlms_apdu.specs.Writing.{response_bytes}
use Rattle.dlms_service.proofs.Lengths.{block_fits}
use Rattle.dlms_service.proofs.writing.block.Goals as goal

-- a block's answer fits an APDU
pub write_answer-requires : goal.write_answer-requires
write_answer-requires g c =
    let b = c.args.block.now in
    let raw = c.as_slice.result.now in
    let e : c.as_slice-in-Ok.result.now ≡ response_bytes (get_block c.args.invoke b.last b.number raw) = c.as_slice-in-Ok.ensures.value ∙ c.in-Ok.ensures.canonical in
    rw e (block_fits c.args.invoke b.number b.last raw (omega (arith, c.as_slice.ensures.fits)))
