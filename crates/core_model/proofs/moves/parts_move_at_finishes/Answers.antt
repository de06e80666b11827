use Rattle.core_model.proofs.Finishing.{finish-stands}
use Rattle.core_model.proofs.moves.parts_move_at_finishes.Goals as goal

pub returns : goal.returns
returns c = finish-stands
