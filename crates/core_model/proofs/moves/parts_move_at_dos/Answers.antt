use Rattle.core_model.proofs.Doing.{do-stands}
use Rattle.core_model.proofs.moves.parts_move_at_dos.Goals as goal

pub returns : goal.returns
returns c = do-stands
