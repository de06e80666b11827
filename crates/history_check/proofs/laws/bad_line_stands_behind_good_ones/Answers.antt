use Rattle.history_check.proofs.BadLines.{bad-line, bad-rest}
use Rattle.history_check.proofs.laws.bad_line_stands_behind_good_ones.Goals as goal

pub returns-clause-line : goal.returns-clause-line
returns-clause-line c = bad-line

pub returns-clause-rest : goal.returns-clause-rest
returns-clause-rest c = bad-rest
