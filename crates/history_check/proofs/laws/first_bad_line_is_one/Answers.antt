use Rattle.history_check.proofs.OneBad.{one-bad}
use Rattle.history_check.proofs.laws.first_bad_line_is_one.Goals as goal

pub returns : goal.returns
returns c = one-bad
