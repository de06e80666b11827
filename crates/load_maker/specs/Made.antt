-- What is printed of a load. This project's own.
use Rattle.std.specs.Prelude.{◌≡◌, ℕ, List, ◌++◌}
use Rattle.script_cmds.specs.Text.{lines_text}
use Rattle.script_line.specs.Line.{Line}
use Rattle.script_line.specs.Sized.{AreSized}

-- lines are added to a text, and their fields say what they can
pub record PrintsLines (lines : List Line) (old new : List ℕ) : Type 0 where
  pub text : new ≡ old ++ lines_text lines
  pub sized : AreSized lines
