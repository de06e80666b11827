use Rattle.std.proofs.Common.{◌+◌, ◌*◌}
use Rattle.workers.proofs.phases.+hosts.Given as goal

abbrev pub decreases-run_hosts : goal.decreases-run_hosts
decreases-run_hosts g l = 2 * l.parts.len

abbrev pub decreases-others : goal.decreases-others
decreases-others g l = 2 * l.parts.len + 1
