-- Each further place is free.
use Rattle.std.proofs.Common.{arith}
use Rattle.std.proofs.lemmas.Grind.{common_steps}
use Rattle.range_sets.proofs.Numbering.{with_free_place}
use Rattle.range_sets.proofs.sets.Sets.new.Goals as goal

pub loop-preserved : goal.loop-preserved
loop-preserved c = grind (arith, common_steps, with_free_place)
