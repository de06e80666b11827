use Rattle.std.proofs.Common.{map}
use Rattle.script_line.specs.Values.{value_view}
use Rattle.script_line.specs.private.Outcomes.{field_view}
use Rattle.script_line.proofs.Outcomes.{missing}
use Rattle.script_line.proofs.reading.Reading.take.Goals as goal

pub returns-in-None : goal.returns-in-None
returns-in-None c = λ fields. rw (c.noted-self.ensures, c.in-None.is) (missing c.args.self.now.fault (map value_view c.args.self.now.values.items) (field_view c.args.field) fields)
