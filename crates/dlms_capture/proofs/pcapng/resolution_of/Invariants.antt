use Rattle.std.proofs.Common.{◌≡◌, ◌-◌, length}
use Rattle.dlms_capture.specs.PcapngFormat.{options_in, resolution_by}
use Rattle.dlms_capture.proofs.pcapng.resolution_of.Given as goal

-- the options that are left say what all of them say
abbrev pub invariant-loop : goal.invariant-loop
invariant-loop l =
    resolution_by (options_in (length l.options - l.counter) l.endian l.rest) ≡ resolution_by (options_in (length l.options) l.endian l.options)
