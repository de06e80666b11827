-- No step changes how many bytes there are.
use Rattle.std.proofs.Common.{length, ap, arith}
use Rattle.extents.proofs.tiles.take_between.Goals as goal

pub tidy-requires-clause-bounded : goal.tidy-requires-clause-bounded
tidy-requires-clause-bounded c =
    omega (arith, c.requires.bounded, c.take_out-bytes.ensures.taken.size, ap length c.in_ok-cut.ensures.same.shown, ap length c.in_ok-cut-2.ensures.same.shown, ap length c.in_ok-join.ensures.same.shown)

pub tidy-requires-2-clause-bounded : goal.tidy-requires-2-clause-bounded
tidy-requires-2-clause-bounded c =
    omega (arith, c.requires.bounded, ap length c.tidy.ensures.shown, c.take_out-bytes.ensures.taken.size, ap length c.in_ok-cut.ensures.same.shown, ap length c.in_ok-cut-2.ensures.same.shown, ap length c.in_ok-join.ensures.same.shown)
