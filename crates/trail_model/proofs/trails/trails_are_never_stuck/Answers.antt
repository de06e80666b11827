use Rattle.trail_model.specs.Lawful.{world_of}
use Rattle.trail_model.proofs.Counts.{all-pickable}
use Rattle.trail_model.proofs.trails.trails_are_never_stuck.Goals as goal

pub returns : goal.returns
returns c = λ c commands trail lawful none. all-pickable c (world_of c trail) none
