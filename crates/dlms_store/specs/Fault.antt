-- How a call that commits reports a fault of the commit.
use Rattle.dlms_store.specs.declared.fault.StoreFault.{StoreFault}
use Rattle.dlms_store.specs.declared.fault.StoreFault.TheVariants as commit
use Rattle.dlms_store.specs.declared.fault.AddFault.{AddFault}
use Rattle.dlms_store.specs.declared.fault.AddFault.TheVariants.{Device, Stopped, Exhausted}

abbrev pub add_fault : StoreFault → AddFault
add_fault commit.Device = Device
add_fault commit.Stopped = Stopped
add_fault commit.Exhausted = Exhausted
