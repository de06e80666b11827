use Rattle.std.proofs.Common.{◌≡◌, ◌++◌, List, map, take}
use Rattle.script_line.specs.Field.{Field}
use Rattle.script_line.specs.private.Outcomes.{field_view, outcome_with}
use Rattle.script_line.proofs.reading.Reading.take_all.Given as goal

abbrev pub invariant-loop-field : goal.invariant-loop-field
invariant-loop-field l = (more : List Field) → outcome_with l.self more ≡ outcome_with l.fn.self (map field_view (take l.field-index l.fields) ++ more)
