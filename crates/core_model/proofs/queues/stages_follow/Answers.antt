use Rattle.core_model.proofs.Queueing.{restaged-differ, restaged-twice}
use Rattle.core_model.proofs.queues.stages_follow.Goals as goal

pub returns : goal.returns
returns c = record { last = restaged-twice; places = restaged-differ }
