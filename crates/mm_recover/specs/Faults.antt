-- What a fault of the disk is to a recovery.
use Rattle.mm_outside.specs.declared.disk.Device.{Device}
use Rattle.mm_outside.specs.declared.disk.Device.TheVariants as device
use Rattle.mm_recover.specs.declared.fault.Recover.{Recover}
use Rattle.mm_recover.specs.declared.fault.Recover.TheVariants.{DiskFault, NoMemory}

abbrev pub fault_of : Device → Recover
fault_of device.Fault = DiskFault
fault_of device.NoMemory = NoMemory

abbrev pub no_memory : Recover
no_memory = NoMemory
