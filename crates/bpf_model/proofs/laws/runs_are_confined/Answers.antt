use Rattle.bpf_model.proofs.Windows.{confined}
use Rattle.bpf_model.proofs.laws.runs_are_confined.Goals as goal

pub returns : goal.returns
returns c = confined
