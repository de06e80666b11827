-- What is told in place of a script. This project's own.
use Rattle.std.specs.Prelude.{◌≡◌, Option, Some}
use Rattle.script_cmds.specs.declared.fault.ParseEnd.{ParseEnd}
use Rattle.script_cmds.specs.declared.fault.ParseEnd.TheVariants as told
use Rattle.script_cmds.specs.declared.fault.ScriptFault.{ScriptFault}

-- What `parse` tells in place of a script is the first fault, unless memory is wanting.
abbrev pub Tells : ParseEnd → Option ScriptFault → Type 0
Tells told.NoMemory fault = Unit {0}
Tells (told.Fault f) fault = fault ≡ Some f
