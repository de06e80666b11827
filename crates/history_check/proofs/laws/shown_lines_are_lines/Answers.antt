use Rattle.history_check.proofs.Shown.{shown-is-line}
use Rattle.history_check.proofs.laws.shown_lines_are_lines.Goals as goal

pub returns : goal.returns
returns c = shown-is-line
