use Rattle.history_model.proofs.Settled.{settled}
use Rattle.history_model.proofs.laws.step_is_settled.Goals as goal

pub returns : goal.returns
returns c = record { settled = settled }
