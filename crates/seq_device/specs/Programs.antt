-- The programs that the device itself has, as the code names them. This project's own.
use Rattle.device_model.specs.Builtin.{Builtin}
use Rattle.device_model.specs.Builtin as builtin
use Rattle.seq_device.specs.declared.builtins.DeviceProgram.{DeviceProgram}
use Rattle.seq_device.specs.declared.builtins.DeviceProgram.TheVariants as program

-- what a program of the device does
abbrev pub builtin_of : DeviceProgram → Builtin
builtin_of program.Count = builtin.Count
builtin_of program.Sum = builtin.Sum
builtin_of program.Compare = builtin.Compare
builtin_of program.Classes = builtin.Classes
