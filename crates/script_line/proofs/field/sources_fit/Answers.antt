use Rattle.std.proofs.Common.{arith}
use Rattle.script_line.proofs.Elements.{sources_are}
use Rattle.script_line.proofs.field.sources_fit.Goals as goal

pub returns-then-sources-le-MAX_ITEMS : goal.returns-then-sources-le-MAX_ITEMS
returns-then-sources-le-MAX_ITEMS c = sources_are c.args.sources.now c.have_small_spaces.result (omega arith) c.have_small_spaces.ensures
