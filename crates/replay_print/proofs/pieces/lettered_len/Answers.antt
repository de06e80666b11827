use Rattle.std.proofs.Common.{length, ap, arith}
use Rattle.std.proofs.lemmas.Fmt.{length-decimal-le}
use Rattle.replay_print.proofs.pieces.lettered_len.Goals as goal

pub returns-clause-small : goal.returns-clause-small
returns-clause-small c =
    λ low. omega (arith, ap length c.format.ensures.text, length-decimal-le 10 c.args.n (omega arith) (omega arith) (omega arith))

pub returns-clause-bounded : goal.returns-clause-bounded
returns-clause-bounded c =
    omega (arith, ap length c.format.ensures.text, length-decimal-le 20 c.args.n (omega arith) (omega arith) (omega arith))
