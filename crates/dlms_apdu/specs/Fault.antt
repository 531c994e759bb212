-- The numbers of the faults, and the fault that tells a refusal.
use Rattle.std.specs.Prelude.{ℕ}
use Rattle.dlms_apdu.specs.declared.fault.ApduFault.{ApduFault}
use Rattle.dlms_apdu.specs.declared.fault.ApduFault.TheVariants as fault
use Rattle.dlms_apdu.specs.declared.fault.Refusal.{Refusal}
use Rattle.dlms_apdu.specs.declared.fault.Refusal.TheVariants as refusal

abbrev pub number_of : ApduFault → ℕ
number_of fault.Short = 1
number_of fault.Choice = 2
number_of fault.Trailing = 3
number_of fault.Data = 4
number_of fault.Memory = 5

abbrev pub fault_of : Refusal → ApduFault
fault_of refusal.Short = fault.Short
fault_of refusal.Choice = fault.Choice
fault_of refusal.Trailing = fault.Trailing
fault_of refusal.Data = fault.Data
