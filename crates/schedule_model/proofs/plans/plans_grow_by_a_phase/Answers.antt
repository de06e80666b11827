use Rattle.schedule_model.proofs.Growing.{grown, nothing-yet, stayed}
use Rattle.schedule_model.proofs.plans.plans_grow_by_a_phase.Goals as goal

pub returns : goal.returns
returns c = record { begins = nothing-yet; grows = grown; stays = stayed }
