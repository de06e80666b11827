use Rattle.core_model.proofs.Apart.{filled-all, pieces-apart, pieces-whole}
use Rattle.core_model.proofs.bytes.pieces_come_home.Goals as goal

pub returns : goal.returns
returns c = record { whole = pieces-whole; apart = pieces-apart; filled = filled-all }
