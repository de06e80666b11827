use Rattle.core_model.proofs.Numbers.{all-submits, ordinals-below}
use Rattle.core_model.proofs.facts.parts_are_bounded.Goals as goal

pub returns : goal.returns
returns c = record { ordinals = ordinals-below; submits = all-submits }
