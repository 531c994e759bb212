use Rattle.std.proofs.Common.{[], ◌∷◌}
use Rattle.dlms_filing.specs.Filing.{error_in}
use Rattle.dlms_filing.specs.System.SystemCall.{GivesGroup, GivesOwner, Permits}
use Rattle.dlms_filing.proofs.DiskLemmas.{called_more}
use Rattle.dlms_filing.proofs.host_disk.take_after.Goals as goal

pub returns : goal.returns
returns g c =
    let group = GivesGroup c.args.file.now c.args.old.group (error_in c.give_group-group.result) in
    let owner = GivesOwner c.args.file.now c.args.old.owner (error_in c.give_owner-owner.result) in
    let permits = Permits c.args.file.now c.args.old.permissions (error_in c.permit.result) in (
      error_in c.give_group-group.result,
      error_in c.give_owner-owner.result,
      called_more (g.S.System.made c.args.system.now) (g.S.System.made c.give_group-group.new.self) (g.S.System.made c.permit.new.self) (group ∷ []) (owner ∷ permits ∷ []) c.give_group-group.ensures
          (called_more (g.S.System.made c.give_group-group.new.self) (g.S.System.made c.give_owner-owner.new.self) (g.S.System.made c.permit.new.self) (owner ∷ []) (permits ∷ []) c.give_owner-owner.ensures c.permit.ensures),
    )
