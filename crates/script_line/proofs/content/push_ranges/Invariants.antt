use Rattle.std.proofs.Common.{◌≡◌, ◌++◌, drop, map}
use Rattle.std.specs.Prelude.{All}
use Rattle.cp_text.specs.Parts.{joined_by}
use Rattle.script_line.specs.Field.{range_text}
use Rattle.script_line.specs.private.Pushed.{joined_behind}
use Rattle.script_line.specs.Sized.{IsSizedRange}
use Rattle.script_line.proofs.content.push_ranges.Given as goal

abbrev pub invariant-loop-range : goal.invariant-loop-range
invariant-loop-range l = record {
  text : l.out.items ++ joined_behind l.before 44 (map range_text (drop l.range-index l.ranges)) ≡ l.initial.out.items ++ joined_by 44 (map range_text l.ranges);
  sized : All IsSizedRange (drop l.range-index l.ranges) → All IsSizedRange l.ranges;
}
