use Rattle.trail_model.specs.World.{first_world}
use Rattle.trail_model.proofs.Counts.{beginning-from}
use Rattle.trail_model.proofs.trails.beginnings_are_lawful.Goals as goal

pub returns : goal.returns
returns c = λ c commands seen more lawful. beginning-from c commands (first_world c) seen more lawful
