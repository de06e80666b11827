use Rattle.std.proofs.Common.{◌≡◌, ◌∙◌, length, ap, arith}
use Rattle.parts_bench.proofs.Changed.{length-asked_of}
use Rattle.parts_bench.proofs.claims.asked.Goals as goal

pub returns-clause-few : goal.returns-clause-few
returns-clause-few c =
    let n : length c.loop-number.asked.items ≡ c.loop-number.number = ap length c.loop-number.invariant ∙ length-asked_of c.args.writes c.loop-number.number in
    omega (arith, n, c.loop-number.auto.number-end, c.requires.count)
