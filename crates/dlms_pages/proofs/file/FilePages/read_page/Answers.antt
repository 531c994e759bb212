use Rattle.std.proofs.Common.{rules, ap, Ok}
use Rattle.dlms_pages.specs.declared.asking.Came.TheVariants.{Slot, Short, Failed}
use Rattle.dlms_pages.proofs.FileDisk.{page_read}
use Rattle.dlms_pages.proofs.file.FilePages.read_page.Goals as goal

pub returns-in-Ok-true-clause-file : goal.returns-in-Ok-true-clause-file
returns-in-Ok-true-clause-file g c = record {
  page = search rules;
  slot = λ none. (Slot c.read_slot.new.slot, search rules, ap Ok (page_read c.args.index c.read_slot.new.slot c.open_slot.result c.read_slot.array_long c.open_slot.ensures), search rules);
  unsynced = search rules;
  behind = search rules;
  faults = search rules;
}

pub returns-in-Ok-false-clause-file : goal.returns-in-Ok-false-clause-file
returns-in-Ok-false-clause-file g c = record {
  page = search rules;
  slot = λ none. (Short, search rules, search rules, search rules);
  unsynced = search rules;
  behind = search rules;
  faults = search rules;
}

pub returns-in-Err-clause-file : goal.returns-in-Err-clause-file
returns-in-Err-clause-file g c = record {
  page = search rules;
  slot = λ none. (Failed, search rules, search rules, search rules);
  unsynced = search rules;
  behind = search rules;
  faults = search rules;
}
