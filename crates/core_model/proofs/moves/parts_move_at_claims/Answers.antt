use Rattle.core_model.proofs.Claiming.{claim-stands}
use Rattle.core_model.proofs.moves.parts_move_at_claims.Goals as goal

pub returns : goal.returns
returns c = claim-stands
