use Rattle.std.proofs.Common.{map}
use Rattle.script_line.specs.Values.{content_view}
use Rattle.script_line.specs.private.Outcomes.{field_view}
use Rattle.script_line.proofs.Printed.{line_printed}
use Rattle.script_line.proofs.content.push_line.Goals as goal

pub returns : goal.returns
returns c =
    line_printed c.args.kind (map field_view c.fields.result.now) (map content_view c.args.contents.now) c.args.out.now.items c.push_fields.new.out.items c.push_piece.new.out.items
    c.in_ok-push_fields.ensures c.fields.ensures.fields c.in_ok-push_piece.ensures.items
