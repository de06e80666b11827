use Rattle.history_check.proofs.TextLines.{next-line, whole-history}
use Rattle.history_check.proofs.laws.lines_are_entries.Goals as goal

pub returns-clause-next : goal.returns-clause-next
returns-clause-next c = next-line

pub returns-clause-whole : goal.returns-clause-whole
returns-clause-whole c = whole-history
