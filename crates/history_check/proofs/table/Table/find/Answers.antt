use Rattle.std.proofs.Common.{rules, sym, ◌∙◌}
use Rattle.history_check.specs.Table.{sends_in}
use Rattle.history_check.proofs.Tables.{found-none}
use Rattle.history_check.proofs.table.Table.find.Goals as goal

pub returns-in-None-clause-none : goal.returns-in-None-clause-none
returns-in-None-clause-none c is = found-none (sends_in c.args.self.now) c.args.self.now.places c.args.host c.args.ordinal c.requires.places (sym c.in-None.ensures.value)
