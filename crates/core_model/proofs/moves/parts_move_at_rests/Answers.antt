use Rattle.core_model.proofs.Quiet.{rest-stands}
use Rattle.core_model.proofs.moves.parts_move_at_rests.Goals as goal

pub returns : goal.returns
returns c = rest-stands
