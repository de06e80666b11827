use Rattle.trail_model.proofs.SizedTrails.{sized-world}
use Rattle.trail_model.proofs.trails.answers_are_sized.Goals as goal

pub returns : goal.returns
returns c = sized-world
