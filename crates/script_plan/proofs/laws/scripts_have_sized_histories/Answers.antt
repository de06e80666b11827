use Rattle.script_plan.proofs.SizedSends.{script_sized, script_told}
use Rattle.script_plan.proofs.laws.scripts_have_sized_histories.Goals as goal

pub returns-clause-sized : goal.returns-clause-sized
returns-clause-sized c = script_sized

pub returns-clause-told : goal.returns-clause-told
returns-clause-told c = script_told
