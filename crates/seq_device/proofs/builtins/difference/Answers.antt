use Rattle.std.proofs.Common.{arith}
use Rattle.seq_device.proofs.Programs.{difference_at, no_difference}
use Rattle.seq_device.proofs.builtins.difference.Goals as goal

pub returns-then-byte-b : goal.returns-then-byte-b
returns-then-byte-b c =
    difference_at c.args.a.now c.args.b.now c.loop-place.place (omega arith) (omega arith) c.loop-place.invariant.1 c.if-byte-b.true

pub returns-after-loop-place : goal.returns-after-loop-place
returns-after-loop-place c = no_difference c.args.a.now c.args.b.now (λ k below below'. c.loop-place.invariant.1 k (omega arith))

pub returns-then-place-b : goal.returns-then-place-b
returns-then-place-b c = no_difference c.args.a.now c.args.b.now (λ k below below'. c.loop-place.invariant.1 k (omega arith))
