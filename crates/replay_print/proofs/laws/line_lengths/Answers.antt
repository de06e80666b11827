use Rattle.replay_print.proofs.Lengths.{length-line_of_entry-le, length-lines_of_summary-le, length-shown_text-le}
use Rattle.replay_print.proofs.laws.line_lengths.Goals as goal

pub returns-clause-entry : goal.returns-clause-entry
returns-clause-entry c = length-line_of_entry-le

pub returns-clause-show : goal.returns-clause-show
returns-clause-show c = length-shown_text-le

pub returns-clause-summary : goal.returns-clause-summary
returns-clause-summary c = length-lines_of_summary-le
