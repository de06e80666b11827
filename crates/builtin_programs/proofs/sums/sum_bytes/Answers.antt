use Rattle.std.proofs.Common.{◌≡◌, ◌+◌, ◌^◌, ◌<◌, sum, drop, ap, ◌∙◌, arith, rules}
use lib.Lanes.{chunk}
use Rattle.builtin_programs.proofs.Lanes.{slice-rest, sum-chunk, sum-small}
use Rattle.builtin_programs.proofs.sums.sum_bytes.Goals as goal

pub overflow_add-total : goal.overflow_add-total
overflow_add-total c =
    let here : c.from-total.result ≡ sum (chunk c.loop-at.at 64 c.args.bytes.now) = search rules in
    let most = sum-small c.args.bytes.now c.requires c.type_inv.bytes in
    let small : c.loop-at.total + c.from-total.result < 2 ^ 32 = omega (arith, here, most, c.loop-at.invariant.summed, sum-chunk c.args.bytes.now c.loop-at.at 64) in
    search rules

pub loop-at-preserved : goal.loop-at-preserved
loop-at-preserved c =
    let here : c.from-total.result ≡ sum (chunk c.loop-at.at 64 c.args.bytes.now) = search rules in
    record {
      inside = search rules;
      summed = omega (arith, here, c.loop-at.invariant.summed, sum-chunk c.args.bytes.now c.loop-at.at 64);
    }

pub overflow_add-result : goal.overflow_add-result
overflow_add-result c =
    let most = sum-small c.args.bytes.now c.requires c.type_inv.bytes in
    let rest : c.sum_plainly.result ≡ sum (drop c.loop-at.at c.args.bytes.now) = c.sum_plainly.ensures ∙ ap sum (slice-rest c.args.bytes.now c.loop-at.at) in
    let small : c.loop-at.total + c.sum_plainly.result < 2 ^ 32 = omega (arith, rest, most, c.loop-at.invariant.summed) in
    search rules

pub returns : goal.returns
returns c =
    let rest : c.sum_plainly.result ≡ sum (drop c.loop-at.at c.args.bytes.now) = c.sum_plainly.ensures ∙ ap sum (slice-rest c.args.bytes.now c.loop-at.at) in
    omega (arith, rest, c.loop-at.invariant.summed)
