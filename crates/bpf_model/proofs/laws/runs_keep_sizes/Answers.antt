use Rattle.bpf_model.proofs.Sizes.{ending-fits}
use Rattle.bpf_model.proofs.Windows.{holds-bytes}
use Rattle.bpf_model.proofs.laws.runs_keep_sizes.Goals as goal

pub returns-clause-bytes : goal.returns-clause-bytes
returns-clause-bytes c = holds-bytes

pub returns-clause-ending : goal.returns-clause-ending
returns-clause-ending c = ending-fits
