use Rattle.bpf_model.proofs.Windows.{windows-ending, windows-memory}
use Rattle.bpf_model.proofs.laws.runs_depend_on_windows.Goals as goal

pub returns : goal.returns
returns c = record { ending = windows-ending; windows = windows-memory }
