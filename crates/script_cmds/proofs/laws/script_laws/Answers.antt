use Rattle.script_cmds.proofs.Exists.{some_script}
use Rattle.script_cmds.proofs.OneText.{accepted, one_text}
use Rattle.script_cmds.proofs.laws.script_laws.Goals as goal

pub returns-clause-accepted : goal.returns-clause-accepted
returns-clause-accepted c = accepted

pub returns-clause-one_text : goal.returns-clause-one_text
returns-clause-one_text c = one_text

pub returns-clause-some_script : goal.returns-clause-some_script
returns-clause-some_script c = some_script
