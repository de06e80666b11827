use Rattle.history_check.proofs.OneMore.{came, may-come}
use Rattle.history_check.proofs.laws.entries_come_one_by_one.Goals as goal

pub returns-clause-comes : goal.returns-clause-comes
returns-clause-comes c = may-come

pub returns-clause-came : goal.returns-clause-came
returns-clause-came c = came
