use Rattle.workers.proofs.phases.fn.run_hosts.host.Goals as goal

pub host_loop-requires-clause-pass : goal.host_loop-requires-clause-pass
host_loop-requires-clause-pass g c κs within = c.requires.1.of_device

pub host_loop-requires-clause-idle : goal.host_loop-requires-clause-idle
host_loop-requires-clause-idle g c κs within = c.requires.1.idle

pub host_loop-requires-clause-host : goal.host_loop-requires-clause-host
host_loop-requires-clause-host g c κs within = (c.requires.1.party, c.requires.1.few)

pub host_loop-requires-clause-none : goal.host_loop-requires-clause-none
host_loop-requires-clause-none g c κs within = c.requires.1.none

pub host_loop-requires-clause-queue : goal.host_loop-requires-clause-queue
host_loop-requires-clause-queue g c κs within = c.requires.1.queue
