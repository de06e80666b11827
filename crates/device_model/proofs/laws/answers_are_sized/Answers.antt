use Rattle.device_model.proofs.Sizes.{opening_sized, step_sized}
use Rattle.device_model.proofs.laws.answers_are_sized.Goals as goal

pub returns-clause-opening : goal.returns-clause-opening
returns-clause-opening c = opening_sized

pub returns-clause-answer : goal.returns-clause-answer
returns-clause-answer c = λ c' s command answer next most h sized step. (step_sized c' s command answer next most h sized step).answer

pub returns-clause-next : goal.returns-clause-next
returns-clause-next c = λ c' s command answer next most h sized step. (step_sized c' s command answer next most h sized step).next
