use Rattle.std.proofs.Common.{ℕ, List, [], ◌∷◌, Err, subst}
use Rattle.std.specs.Prelude.{string_bytes}
use Rattle.dlms_filing.specs.Disk.{Called, Filled}
use Rattle.dlms_filing.specs.Disk.FileCall.{Removes}
use Rattle.dlms_filing.proofs.DiskLemmas.{not_laid}
use Rattle.dlms_filing.proofs.place.lay.Goals as goal

pub returns-in-Err-fill : goal.returns-in-Err-fill
returns-in-Err-fill g c =
    not_laid (g.D.Disk.made c.args.disk.now) (g.D.Disk.made c.create.new.self) (g.D.Disk.made c.fill.new.disk) (g.D.Disk.made c.remove.new.self) c.args.path.now c.args.text.now (string_bytes c.in-Ok.beside) c.in-Err-fill.error
    c.in-Ok.ensures
    (subst (λ (b : List ℕ). Filled {T = Unit {0}} (g.D.Disk.made c.create.new.self) (g.D.Disk.made c.fill.new.disk) b c.args.text.now (Err c.in-Err-fill.error)) c.as_str.ensures.value c.in-Err-fill.ensures)
    (subst (λ (b : List ℕ). Called (g.D.Disk.made c.fill.new.disk) (g.D.Disk.made c.remove.new.self) (Removes b ∷ [])) c.as_str-in-Err-fill.ensures.value c.remove.ensures)
