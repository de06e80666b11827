use Rattle.std.proofs.Common.{◌≡◌, length}
use Rattle.std.specs.Vec.Iter.{into_iter_items, into_iter_len}
use Rattle.device_core.specs.Homecoming.{homebound}
use Rattle.device_core.proofs.Finished.{Homing}
use Rattle.device_core.proofs.finishing.put_home.Given as goal

-- what is left to do gives the end
abbrev pub invariant-loop-piece : goal.invariant-loop-piece
invariant-loop-piece l =
    Homing l.fn.store l.store (homebound l.writes l.fn.pieces.items) (homebound l.writes (into_iter_items l.piece-iterator))
    × (into_iter_len l.piece-iterator ≡ length (into_iter_items l.piece-iterator))
