use Rattle.history_check.proofs.NextBad.{bad-entry, missing-entry}
use Rattle.history_check.proofs.laws.bad_line_is_that_of_no_next_entry.Goals as goal

pub returns-clause-other : goal.returns-clause-other
returns-clause-other c = bad-entry

pub returns-clause-missing : goal.returns-clause-missing
returns-clause-missing c = missing-entry
