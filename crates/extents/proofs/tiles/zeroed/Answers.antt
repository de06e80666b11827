-- Each turn adds an extent behind the others.
use Rattle.std.proofs.Common.{◌<◌, arith}
use Rattle.extents.proofs.Zeroed.{more_zeros}
use Rattle.extents.proofs.tiles.zeroed.Goals as goal

pub loop-at-preserved : goal.loop-at-preserved
loop-at-preserved c =
    let some : 0 < c.min-len.result = omega (arith, c.requires, c.min-len.ensures) in
    record {
      low = omega (arith, c.min-len.ensures);
      zeros = more_zeros c.loop-at.tiles.entries c.insert.new.self.entries c.loop-at.at c.min-len.result c.in_ok-bytes.bytes c.loop-at.invariant.zeros some c.in_ok-bytes.ensures.items c.in_ok-insert.ensures.entries;
    }
