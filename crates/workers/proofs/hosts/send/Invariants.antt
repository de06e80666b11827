use Rattle.std.proofs.Common.{◌≡◌, []}
use Rattle.std.specs.Arc.{arc_value}
use Rattle.workers.specs.Further.{IsFurther}
use Rattle.workers.proofs.hosts.send.Given as goal

-- the host has done no item, and still has the command
abbrev pub invariant-loop : goal.invariant-loop
invariant-loop g l = record { further : IsFurther 0 l.device l.fn.pass l.pass []; same : arc_value l.command ≡ arc_value l.fn.command }
