use Rattle.trail_model.proofs.Counts.{bounded, count-world}
use Rattle.trail_model.proofs.trails.trails_are_bounded.Goals as goal

pub returns : goal.returns
returns c = record { counted = count-world; bounded = bounded }
