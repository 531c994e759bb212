use Rattle.std.proofs.Common.{◌≡◌, arith, length}
use Rattle.dlms_polling.specs.declared.secret.TheConstants.{MOST_READ}
use Rattle.dlms_polling.proofs.SecretLemmas.{first_taken}
use Rattle.dlms_polling.proofs.secret.first_of.Goals as goal

pub returns : goal.returns
returns g c =
    let full : length c.bytes.bytes.items ≡ MOST_READ = omega arith in
    first_taken (g.R.Read.remaining c.args.file.now) (g.R.Read.remaining c.bytes.file) c.bytes.bytes.items full c.bytes.invariant.1
