-- Which command takes memory, and so may be answered that there is none. This project's own.
use Rattle.std.specs.Prelude.{Bool, true, false, ◌&&◌, is_none}
use Rattle.cp_base.specs.Checks.{first_failing}
use Rattle.cp_base.specs.Commands.{is_moving, is_taking, nature_of}
use Rattle.cp_base.specs.Configuration.{Configuration}
use Rattle.cp_base.specs.declared.commands.Command.{Command}
use Rattle.device_model.specs.Checks.{checks_of}
use Rattle.device_model.specs.State.{State}

-- whether a command reads or writes bytes of namespaces
abbrev pub moves_bytes : Command → Bool
moves_bytes cmd = is_moving (nature_of cmd)

-- whether a command that passes its checks takes memory
abbrev pub may_take_memory : Command → Bool
may_take_memory cmd = is_taking (nature_of cmd)

-- whether a command takes memory in a state: it passes its checks, of which that of a program itself is
-- made with memory
abbrev pub takes_memory : Configuration → State → Command → Bool
takes_memory c s cmd = may_take_memory cmd && is_none (first_failing (checks_of c s cmd))
