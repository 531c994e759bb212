use Rattle.std.proofs.Common.{◌≡◌, length}
use Rattle.std.specs.Io.KnownBytes.{Consumes}
use Rattle.dlms_polling.proofs.secret.first_of.Given as goal

abbrev pub invariant-bytes : goal.invariant-bytes
invariant-bytes g l = (length l.bytes.items ≡ l.counter) × Consumes (g.R.Read.remaining l.fn.file) (g.R.Read.remaining l.file) l.bytes.items
