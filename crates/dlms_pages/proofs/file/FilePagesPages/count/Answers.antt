use Rattle.std.proofs.Common.{rules, sym, ◌∙◌, length, ◌≡◌}
use Rattle.dlms_pages.specs.SlotRules.{count_of}
use Rattle.dlms_pages.proofs.file.FilePagesPages.count.Goals as goal

pub returns : goal.returns
returns g c =
    let counted : c.len.result ≡ length c.args.self.now.unsynced = search rules in
    counted ∙ sym (count_of _ 0 (length c.args.self.now.unsynced))
