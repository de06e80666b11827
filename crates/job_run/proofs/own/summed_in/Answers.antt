use Rattle.std.proofs.Common.{arith}
use Rattle.builtin_programs.proofs.Lanes.{sum-small}
use Rattle.job_run.proofs.own.summed_in.Goals as goal

pub returns-clause-bounded : goal.returns-clause-bounded
returns-clause-bounded c = omega (arith, c.sum_bytes.ensures, sum-small c.args.bytes.now c.requires c.type_inv.bytes)
