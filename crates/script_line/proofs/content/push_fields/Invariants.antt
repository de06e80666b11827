use Rattle.std.proofs.Common.{[], drop, map}
use Rattle.script_line.specs.Values.{content_view}
use Rattle.script_line.specs.private.Outcomes.{field_view}
use Rattle.script_line.specs.private.Pushed.{PrintsFields}
use Rattle.script_line.proofs.content.push_fields.Given as goal

abbrev pub invariant-loop-field : goal.invariant-loop-field
invariant-loop-field l =
    PrintsFields [] l.before (map field_view l.fields) (map field_view (drop l.field-index l.fields)) (map content_view l.contents) (map content_view (drop l.place l.contents)) l.initial.out.items l.out.items
