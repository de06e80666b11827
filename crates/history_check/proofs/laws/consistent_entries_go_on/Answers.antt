use Rattle.history_check.proofs.Continuing.{beginning-continued}
use Rattle.history_check.proofs.Ends.{all-entries, no-entries}
use Rattle.history_check.proofs.Fronts.{front-of-legal}
use Rattle.history_check.proofs.laws.consistent_entries_go_on.Goals as goal

pub returns-clause-goes_on : goal.returns-clause-goes_on
returns-clause-goes_on c = beginning-continued

pub returns-clause-begins : goal.returns-clause-begins
returns-clause-begins c = front-of-legal

pub returns-clause-none : goal.returns-clause-none
returns-clause-none c = no-entries

pub returns-clause-all : goal.returns-clause-all
returns-clause-all c = all-entries
