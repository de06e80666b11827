use Rattle.load_maker.specs.Load.{load_lines}
use Rattle.load_maker.proofs.Printed.{printed_whole}
use Rattle.load_maker.proofs.writing.make.Goals as goal

pub returns-clause-text : goal.returns-clause-text
returns-clause-text c =
    printed_whole (load_lines c.args.seed c.args.commands) c.new-out.result.items c.push_load.new.out.items c.new-out.ensures.items
    c.in_ok-push_load.ensures

pub returns-clause-sized : goal.returns-clause-sized
returns-clause-sized c = c.in_ok-push_load.ensures.sized
