use Rattle.script_cmds.specs.Hosts.{hosts_of}
use Rattle.history_model.proofs.Hosts.{ascend-differ, ascend-within}
use Rattle.history_model.proofs.laws.hosts_of_a_phase_differ.Goals as goal

pub returns-clause-differ : goal.returns-clause-differ
returns-clause-differ c = λ depth phase keeps. ascend-differ 0 (hosts_of phase.hosts) keeps.ascend

pub returns-clause-numbered : goal.returns-clause-numbered
returns-clause-numbered c = λ depth phase keeps. ascend-within 16 (hosts_of phase.hosts) keeps.ascend keeps.numbers
