-- Each turn adds an extent to the run.
use Rattle.std.proofs.Common.{arith}
use Rattle.extents.proofs.Running.{reaches, run_less}
use Rattle.extents.proofs.tiles.run_start.Goals as goal

pub overflow_add-before : goal.overflow_add-before
overflow_add-before c =
    let far = reaches c.args.tiles.now.entries c.in-Some.before c.in-Some.bytes.now c.requires.tiles c.in-Some.ensures.entry in
    omega (arith, far.1, c.requires.bounded, c.len-else-len-ge-SMALL.ensures)

pub loop-start-preserved : goal.loop-start-preserved
loop-start-preserved c =
    run_less c.args.tiles.now.entries c.loop-start.start c.args.at c.in-Some.before c.in-Some.bytes.now c.requires.tiles c.loop-start.invariant c.in-Some.ensures.entry
    (omega (arith, c.if-before-len.false, c.len-else-len-ge-SMALL.ensures))
