-- The numbers that a call answers. 0 is done; up to 4 nothing went wrong.
use Rattle.std.specs.Prelude.{ℕ, ◌+◌, Result, Ok, Err}
use Rattle.dlms_state.specs.Refusal.{number_of}
use Rattle.dlms_store.specs.declared.fault.AddFault.{AddFault}
use Rattle.dlms_store.specs.declared.fault.AddFault.TheVariants as add
use Rattle.dlms_store.specs.declared.fault.OpenFault.{OpenFault}
use Rattle.dlms_store.specs.declared.fault.OpenFault.TheVariants as opened

abbrev pub add_code : {T : Type 0} → Result T AddFault → ℕ
add_code (Ok x) = 0
add_code (Err (add.Refused refused)) = 64 + number_of refused
add_code (Err add.Device) = 33
add_code (Err add.Stopped) = 34
add_code (Err add.Exhausted) = 35

abbrev pub open_code : OpenFault → ℕ
open_code opened.Device = 33
open_code opened.NoCheckpoint = 36
open_code (opened.Corrupt page) = 37
open_code opened.Memory = 32
open_code opened.Exhausted = 35
open_code opened.Size = 38
