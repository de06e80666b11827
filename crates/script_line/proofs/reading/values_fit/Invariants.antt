use Rattle.std.proofs.Common.{◌≡◌, drop, map}
use Rattle.script_line.specs.Fits.{values_fit}
use Rattle.script_line.specs.Values.{value_view}
use Rattle.script_line.specs.private.Outcomes.{field_view}
use Rattle.script_line.proofs.reading.values_fit.Given as goal

abbrev pub invariant-loop-field : goal.invariant-loop-field
invariant-loop-field l =
    values_fit (map field_view (drop l.field-index l.fields)) (map value_view (drop l.place l.values)) ≡ values_fit (map field_view l.fields) (map value_view l.values)
