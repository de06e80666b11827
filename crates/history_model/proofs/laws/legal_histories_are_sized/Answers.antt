use Rattle.history_model.proofs.SizedHistories.{history_sized}
use Rattle.history_model.proofs.laws.legal_histories_are_sized.Goals as goal

pub returns : goal.returns
returns c = history_sized
