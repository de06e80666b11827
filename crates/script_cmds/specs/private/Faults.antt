-- What is told in place of one line. Private contracts speak of this.
use Rattle.std.specs.Prelude.{◌≡◌, ℕ, Result, Err}
use Rattle.script_line.specs.declared.fault.TextCause.{TextCause}
use Rattle.script_cmds.specs.declared.fault.ParseEnd.{ParseEnd}
use Rattle.script_cmds.specs.declared.fault.ParseEnd.TheVariants as told
use Rattle.script_cmds.specs.declared.progress.Progress.{Progress}

-- the cause that reading a line gave, and the line's number, unless memory is wanting
abbrev pub Faults : ℕ → ParseEnd → Result Progress TextCause → Type 0
Faults number told.NoMemory read = Unit {0}
Faults number (told.Fault f) read = (read ≡ Err f.cause) × (f.line ≡ number)
