use Rattle.script_cmds.proofs.Keeping.{with_namespace_is}
use Rattle.script_cmds.proofs.limits.with_namespace.Goals as goal

pub returns : goal.returns
returns c =
    with_namespace_is c.args.config.now c.args.kind c.args.number c.args.size c.space_of.result c.with_size.result c.space_of.ensures c.requires.limits c.requires.number.0 c.requires.number.1 c.with_size.ensures.found c.with_size.ensures.value
