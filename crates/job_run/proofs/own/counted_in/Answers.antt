use Rattle.std.proofs.Common.{◌==◌, arith}
use Rattle.std.proofs.lemmas.List.Sums.{count_by-le-length}
use Rattle.job_run.proofs.own.counted_in.Goals as goal

pub returns-clause-bounded : goal.returns-clause-bounded
returns-clause-bounded c = omega (arith, c.count_byte.ensures, count_by-le-length (λ byte. byte == c.args.value) c.args.bytes.now)
