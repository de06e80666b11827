use Rattle.std.proofs.Common.{[]}
use Rattle.workers.specs.Further.{IsFurther}
use Rattle.workers.proofs.serving.work_loop.Given as goal

-- the party has done no item
abbrev pub invariant-loop : goal.invariant-loop
invariant-loop g l = record { further : IsFurther 0 l.device l.fn.pass l.pass [] }
