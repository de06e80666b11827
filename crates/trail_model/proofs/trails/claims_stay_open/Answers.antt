use Rattle.trail_model.proofs.Staying.{stays-open}
use Rattle.trail_model.proofs.trails.claims_stay_open.Goals as goal

pub returns : goal.returns
returns c = stays-open
