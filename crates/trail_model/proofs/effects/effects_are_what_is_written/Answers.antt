use Rattle.trail_model.proofs.Written.{effect-written}
use Rattle.trail_model.proofs.effects.effects_are_what_is_written.Goals as goal

pub returns : goal.returns
returns c = effect-written
