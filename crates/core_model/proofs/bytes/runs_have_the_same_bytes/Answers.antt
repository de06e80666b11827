use Rattle.core_model.proofs.Homing.{any-runs}
use Rattle.core_model.proofs.bytes.runs_have_the_same_bytes.Goals as goal

pub returns : goal.returns
returns c = any-runs
