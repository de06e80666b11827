use Rattle.std.proofs.Common.{take}
use Rattle.device_core.specs.Portions.{AreCopied}
use Rattle.device_core.proofs.fetching.copy_read.Given as goal

-- the pieces so far are copied
abbrev pub invariant-loop-portion : goal.invariant-loop-portion
invariant-loop-portion l = AreCopied l.store (take l.portion-index l.portions) l.pieces.items
