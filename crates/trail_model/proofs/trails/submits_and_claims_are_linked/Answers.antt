use Rattle.trail_model.proofs.Moving.{linked-world}
use Rattle.trail_model.proofs.trails.submits_and_claims_are_linked.Goals as goal

pub returns : goal.returns
returns c = linked-world
