use Rattle.history_model.proofs.Withdrawn.{none_in_plan}
use Rattle.history_model.proofs.laws.none_is_withdrawn_without_an_abort.Goals as goal

pub returns : goal.returns
returns c = none_in_plan
