use Rattle.std.proofs.Common.{◌-◌, ◌*◌}
use Rattle.workers.proofs.phases.+workers.Given as goal

abbrev pub decreases-run_workers : goal.decreases-run_workers
decreases-run_workers g l = 2 * l.worker

abbrev pub decreases-others : goal.decreases-others
decreases-others g l = 2 * l.worker - 1
