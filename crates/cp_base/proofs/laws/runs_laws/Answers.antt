use Rattle.cp_base.proofs.RunBytes.{bytes_same, one_list_of_runs}
use Rattle.cp_base.proofs.Runs.{apart_runs, bytes_of_runs}
use Rattle.cp_base.proofs.laws.runs_laws.Goals as goal

pub returns-clause-runs : goal.returns-clause-runs
returns-clause-runs c = λ regions h. record { bytes = bytes_same regions; not_empty = bytes_of_runs regions h; apart = apart_runs regions }

pub returns-clause-one_list : goal.returns-clause-one_list
returns-clause-one_list c = one_list_of_runs
