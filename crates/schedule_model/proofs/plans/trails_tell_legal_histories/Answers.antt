use Rattle.schedule_model.proofs.Telling.{tells-plan}
use Rattle.schedule_model.proofs.plans.trails_tell_legal_histories.Goals as goal

pub returns : goal.returns
returns c = tells-plan
