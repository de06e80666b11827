use Rattle.trail_model.proofs.Traced.{traced-world}
use Rattle.trail_model.proofs.trails.trails_hold_their_events.Goals as goal

pub returns : goal.returns
returns c = traced-world
