use Rattle.core_model.proofs.Queueing.{claimed-under, places-differ, waiting-under}
use Rattle.core_model.proofs.queues.queues_by_parts.Goals as goal

pub returns : goal.returns
returns c = record { places = places-differ; waiting = waiting-under; claimed = claimed-under }
