use Rattle.core_model.proofs.Apart.{memory-taken}
use Rattle.core_model.proofs.bytes.moving_bytes_takes_memory.Goals as goal

pub returns : goal.returns
returns c = memory-taken
