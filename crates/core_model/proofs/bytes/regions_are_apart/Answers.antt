use Rattle.core_model.proofs.Apart.{pieces-out, sets-fit, taken-apart}
use Rattle.core_model.proofs.bytes.regions_are_apart.Goals as goal

pub returns : goal.returns
returns c = record { sets = sets-fit; apart = taken-apart; out = pieces-out }
