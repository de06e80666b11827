use Rattle.std.proofs.Common.{◌≡◌, ◌≤◌, ◌-◌, length, vec_len}
use Rattle.cp_io.specs.Source.{Gave}
use Rattle.cp_io.proofs.source.read_all.Given as goal

abbrev pub invariant-loop-read : goal.invariant-loop-read
invariant-loop-read g l = record {
  took : Gave (g.S.Source.left l.initial.source) (g.S.Source.left l.source) (g.S.Source.given l.initial.source) (g.S.Source.given l.source) l.read.items;
  within : length l.read.items ≤ l.limit;
  piece : vec_len l.piece ≡ 65536;
  later : g.S.Source.faults l.initial.source ≤ g.S.Source.faults l.source;
}

abbrev pub decreases-loop-read : goal.decreases-loop-read
decreases-loop-read g l = l.limit - length l.read.items
