-- The bytes up to the place are appended.
use Rattle.std.proofs.Common.{◌-◌, ◌≡◌, ◌+◌, ◌≤◌, ◌++◌, map, Some}
use Rattle.cp_base.specs.Pieces.{piece}
use Rattle.extents.specs.Tiles.{all_shown}
use Rattle.extents.proofs.tiles.append_between.Given as goal

abbrev pub invariant-loop-at : goal.invariant-loop-at
invariant-loop-at l = record {
  low : l.from ≤ l.at;
  high : l.at ≤ l.to;
  bytes : map (λ byte. Some byte) l.out.items ≡ map (λ byte. Some byte) l.fn.out.items ++ piece (all_shown l.tiles.entries) l.from (l.at - l.from);
  spare : l.out.spare + (l.at - l.from) ≡ l.fn.out.spare;
}

abbrev pub decreases-loop-at : goal.decreases-loop-at
decreases-loop-at l = l.to - l.at
