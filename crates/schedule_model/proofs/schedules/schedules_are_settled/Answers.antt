use Rattle.trail_model.specs.World.{first_world}
use Rattle.schedule_model.proofs.Settled.{settled}
use Rattle.schedule_model.proofs.schedules.schedules_are_settled.Goals as goal

pub returns : goal.returns
returns c = λ c phases workers choices one other runs runs' memory memory'. settled c workers (first_world c) phases choices one other runs runs' memory memory'
