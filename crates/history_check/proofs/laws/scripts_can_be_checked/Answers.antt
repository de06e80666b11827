use Rattle.history_check.proofs.Scripts.{plan-sized, shows-sized}
use Rattle.history_check.proofs.laws.scripts_can_be_checked.Goals as goal

pub returns-clause-plan : goal.returns-clause-plan
returns-clause-plan c = plan-sized

pub returns-clause-shows : goal.returns-clause-shows
returns-clause-shows c = shows-sized
