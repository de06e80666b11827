use Rattle.bpf_model.proofs.Windows.{local-ending, local-memory}
use Rattle.bpf_model.proofs.laws.runs_are_local.Goals as goal

pub returns : goal.returns
returns c = record { ending = local-ending; memory = local-memory }
