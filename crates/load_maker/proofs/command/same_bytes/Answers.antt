use Rattle.std.proofs.Common.{rules}
use Rattle.load_maker.specs.Load.{same_bytes}
use Rattle.load_maker.proofs.command.same_bytes.Goals as goal

pub returns : goal.returns
unfolding same_bytes
returns c = search rules
