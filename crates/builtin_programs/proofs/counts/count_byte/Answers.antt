use Rattle.std.proofs.Common.{◌≡◌, ℕ, ◌+◌, ◌≤◌, ◌==◌, length, count_by, arith, rules}
use lib.Lanes.{chunk}
use Rattle.builtin_programs.proofs.Lanes.{count-chunk}
use Rattle.builtin_programs.proofs.counts.count_byte.Goals as goal

pub loop-at-preserved : goal.loop-at-preserved
loop-at-preserved c =
    let here : c.from-counted.result ≡ count_by (λ byte. byte == c.args.value) (chunk c.loop-at.at 64 c.args.bytes.now) = search rules in
    let inside : c.loop-at.at + 64 ≤ length c.args.bytes.now = search rules in
    record { inside = inside; counted = omega (arith, here, c.loop-at.invariant.counted, count-chunk (λ (byte : ℕ). byte == c.args.value) c.args.bytes.now c.loop-at.at 64) }
