use Rattle.std.proofs.Common.{subst, sym}
use Rattle.script_cmds.specs.declared.script.Script.{Script}
use Rattle.script_upgrade.proofs.Kept.{still_kept}
use Rattle.script_upgrade.proofs.Planned.{same_plan, still_exact}
use Rattle.script_upgrade.proofs.upgrading.upgrade.Goals as goal

pub returns-clause-plan : goal.returns-clause-plan
returns-clause-plan c = same_plan c.args.script

pub returns-clause-queues : goal.returns-clause-queues
returns-clause-queues c = still_exact c.args.script.form c.args.script.config.depth

pub returns-clause-kept : goal.returns-clause-kept
returns-clause-kept c = still_kept c.args.script
