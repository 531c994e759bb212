use Rattle.std.proofs.Common.{inl, inr, subst, rules, ℕ, Ok, Err}
use Rattle.dlms_filing.specs.HostDisk.{MakesBeside}
use Rattle.dlms_filing.proofs.host_disk.made_like.Goals as goal

pub returns-in-Err : goal.returns-in-Err
returns-in-Err g c =
    inl (subst (λ (p : ℕ). MakesBeside (g.S.System.made c.args.system.now) (g.S.System.made c.made_beside.new.system) c.args.path.now p c.args.number (Err c.in-Err.e)) c.permissions_beside.ensures c.in-Err.ensures)

pub returns-in-Err-dress : goal.returns-in-Err-dress
returns-in-Err-dress g c =
    inr (
      c.in-Ok.made,
      g.S.System.made c.made_beside.new.system,
      subst (λ (p : ℕ). MakesBeside (g.S.System.made c.args.system.now) (g.S.System.made c.made_beside.new.system) c.args.path.now p c.args.number (Ok c.in-Ok.made)) c.permissions_beside.ensures c.in-Ok.ensures,
      search rules,
    )
