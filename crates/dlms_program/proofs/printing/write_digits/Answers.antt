use Rattle.std.proofs.Common.{arith, rules, [], ◌∷◌, ◌++◌}
use Rattle.std.specs.Io.KnownBytes.{Appends}
use Rattle.hex.specs.Hex.{encode_lower}
use Rattle.dlms_program.specs.Written.{AppendsPart}
use Rattle.dlms_program.proofs.CallLemmas.{called_behind, called_failed, fails_behind, passes_more}
use Rattle.dlms_program.proofs.PutLemmas.{written_first, written_second, written_third}
use Rattle.dlms_program.proofs.printing.write_digits.Goals as goal

pub returns-in_err-put-clause-bytes : goal.returns-in_err-put-clause-bytes
returns-in_err-put-clause-bytes g c =
    let contents = g.W.Sink.contents in
    written_first (contents c.args.writer.now) (contents c.put.new.writer) (60 ∷ 32 ∷ []) (encode_lower c.args.bytes.now ++ 10 ∷ []) c.from_residual.result c.from_residual.ensures.0 c.in_err-put.ensures.bytes

pub returns-in_err-put-2-clause-bytes : goal.returns-in_err-put-2-clause-bytes
returns-in_err-put-2-clause-bytes g c =
    let contents = g.W.Sink.contents in
    let digits : AppendsPart (contents c.put.new.writer) (contents c.put-2.new.writer) (encode_lower c.args.bytes.now) = search rules in
    written_second (contents c.args.writer.now) (contents c.put.new.writer) (contents c.put-2.new.writer) (60 ∷ 32 ∷ []) (encode_lower c.args.bytes.now) (10 ∷ [])
    c.from_residual-in_err-put-2.result c.from_residual-in_err-put-2.ensures.0 c.in_ok-put.ensures.bytes digits

pub returns-clause-bytes : goal.returns-clause-bytes
returns-clause-bytes g c =
    let contents = g.W.Sink.contents in
    let digits : Appends (contents c.put.new.writer) (contents c.put-2.new.writer) (encode_lower c.args.bytes.now) = search rules in
    written_third (contents c.args.writer.now) (contents c.put.new.writer) (contents c.put-2.new.writer) (contents c.put-3.new.writer) (60 ∷ 32 ∷ []) (encode_lower c.args.bytes.now) (10 ∷ [])
    c.put-3.result c.in_ok-put.ensures.bytes digits c.put-3.ensures.bytes

pub returns-in_err-put-2-clause-calls : goal.returns-in_err-put-2-clause-calls
returns-in_err-put-2-clause-calls g c =
    let calls = g.W.Sink.calls in
    called_failed 0 (calls c.args.writer.now) (calls c.put-2.new.writer) c.from_residual-in_err-put-2.result c.from_residual-in_err-put-2.ensures.0
    (fails_behind 0 (calls c.args.writer.now) (calls c.put.new.writer) (calls c.put-2.new.writer) c.in_ok-put.ensures.calls c.in_err-put-2.ensures.calls)

pub returns-clause-calls : goal.returns-clause-calls
returns-clause-calls g c =
    let calls = g.W.Sink.calls in
    called_behind (calls c.args.writer.now) (calls c.put-2.new.writer) (calls c.put-3.new.writer) c.put-3.result
    (passes_more 0 0 0 (calls c.args.writer.now) (calls c.put.new.writer) (calls c.put-2.new.writer) c.in_ok-put.ensures.calls c.in_ok-put-2.ensures.calls (omega arith)) c.put-3.ensures.calls
