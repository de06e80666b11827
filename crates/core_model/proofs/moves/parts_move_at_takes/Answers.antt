use Rattle.core_model.proofs.Quiet.{take-stands}
use Rattle.core_model.proofs.moves.parts_move_at_takes.Goals as goal

pub returns : goal.returns
returns c = take-stands
