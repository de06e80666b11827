use Rattle.std.proofs.Common.{arith}
use Rattle.script_line.proofs.Elements.{ranges_are}
use Rattle.script_line.proofs.field.ranges_fit.Goals as goal

pub returns-then-ranges-le-MAX_ITEMS : goal.returns-then-ranges-le-MAX_ITEMS
returns-then-ranges-le-MAX_ITEMS c = ranges_are c.args.ranges.now c.lie_in_small_spaces.result (omega arith) c.lie_in_small_spaces.ensures
