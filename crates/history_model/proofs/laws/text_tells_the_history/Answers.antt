use Rattle.history_model.proofs.OneHistory.{one-history}
use Rattle.history_model.proofs.laws.text_tells_the_history.Goals as goal

pub returns : goal.returns
returns c = one-history
