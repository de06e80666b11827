-- What holds of each script that is read. This project's own.
use Rattle.std.specs.Prelude.{◌≡◌, ℕ, List, true, is_ok}
use Rattle.script_line.specs.Sized.{AreSized}
use Rattle.script_cmds.specs.declared.script.Script.{Script}
use Rattle.script_cmds.specs.Fault.{after_lines}
use Rattle.script_cmds.specs.Progress.{start}
use Rattle.script_cmds.specs.Queues.{AreExact}
use Rattle.script_cmds.specs.Text.{lines_of, script_text}

-- each line of a script is in its place and keeps its limits
abbrev pub KeepsOrderAndLimits : Script → Type 0
KeepsOrderAndLimits script = is_ok (after_lines start (lines_of script)) ≡ true

-- a text is that of a script whose lines are sized, stand in their places and keep their limits, and which says of its
-- queues what they say
pub record IsScriptText (text : List ℕ) : Type 0 where
  pub script : Script
  pub spelled : script_text script ≡ text
  pub sized : AreSized (lines_of script)
  pub kept : KeepsOrderAndLimits script
  pub queues : AreExact script.form script.config.depth
