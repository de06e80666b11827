use Rattle.script_line.proofs.Shapes.{sized_behind}
use Rattle.script_line.proofs.commands.command_of.Goals as goal

pub command_behind-requires-clause-sized : goal.command_behind-requires-clause-sized
command_behind-requires-clause-sized c = sized_behind c.args.values.items c.remove.new.self.items c.remove.ensures.by_index.2 c.requires.sized
