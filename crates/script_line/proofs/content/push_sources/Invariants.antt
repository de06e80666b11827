use Rattle.std.proofs.Common.{◌≡◌, ◌++◌, drop, map}
use Rattle.std.specs.Prelude.{All}
use Rattle.cp_text.specs.Parts.{joined_by}
use Rattle.script_line.specs.Field.{source_text}
use Rattle.script_line.specs.private.Pushed.{joined_behind}
use Rattle.script_line.specs.Sized.{IsSizedSource}
use Rattle.script_line.proofs.content.push_sources.Given as goal

abbrev pub invariant-loop-source : goal.invariant-loop-source
invariant-loop-source l = record {
  text : l.out.items ++ joined_behind l.before 44 (map source_text (drop l.source-index l.sources)) ≡ l.initial.out.items ++ joined_by 44 (map source_text l.sources);
  sized : All IsSizedSource (drop l.source-index l.sources) → All IsSizedSource l.sources;
}
