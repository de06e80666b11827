use Rattle.core_model.proofs.Queueing.{post-under, withdrawn-named}
use Rattle.core_model.proofs.queues.withdrawn_commands_wait.Goals as goal

pub returns : goal.returns
returns c = record { earlier = withdrawn-named; still = post-under }
