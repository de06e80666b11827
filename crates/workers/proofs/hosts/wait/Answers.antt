use Rattle.workers.proofs.hosts.wait.Goals as goal

pub returns-in-Did : goal.returns-in-Did
returns-in-Did g c = c.in-Did.ensures
