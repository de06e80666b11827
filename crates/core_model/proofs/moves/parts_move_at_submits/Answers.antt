use Rattle.core_model.proofs.Quiet.{submit-stands}
use Rattle.core_model.proofs.moves.parts_move_at_submits.Goals as goal

pub returns : goal.returns
returns c = submit-stands
