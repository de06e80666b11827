use Rattle.script_line.proofs.Names.{named_as}
use Rattle.script_line.proofs.field.after_name.Goals as goal

pub returns : goal.returns
returns c = named_as c.args.name.now c.args.text.now c.strip_prefix.result c.strip_prefix.ensures.cases
