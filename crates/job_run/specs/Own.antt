-- The programs that the device itself has, as work names them. This project's own.
use Rattle.device_model.specs.Builtin.{Builtin}
use Rattle.device_model.specs.Builtin as builtin
use Rattle.job_run.specs.declared.own.OwnProgram.{OwnProgram}
use Rattle.job_run.specs.declared.own.OwnProgram.TheVariants as program

-- what a program of the device does
abbrev pub named_builtin : OwnProgram → Builtin
named_builtin program.Count = builtin.Count
named_builtin program.Sum = builtin.Sum
named_builtin program.Compare = builtin.Compare
named_builtin program.Classes = builtin.Classes
