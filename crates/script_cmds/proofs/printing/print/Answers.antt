use Rattle.script_cmds.proofs.OneText.{accepted}
use Rattle.script_cmds.proofs.Printed.{script_printed}
use Rattle.script_cmds.proofs.printing.print.Goals as goal

pub returns-clause-text : goal.returns-clause-text
returns-clause-text c =
    (script_printed c.args.script.now c.as_slice.result.now c.as_slice-2.result.now c.new-out.result.items c.push_configuration.new.out.items c.push_phases.new.out.items c.push_shows.new.out.items
    c.new-out.ensures.items c.as_slice.ensures c.as_slice-2.ensures c.in_ok-push_configuration.ensures c.in_ok-push_phases.ensures c.in_ok-push_shows.ensures).text

pub returns-clause-sized : goal.returns-clause-sized
returns-clause-sized c =
    (script_printed c.args.script.now c.as_slice.result.now c.as_slice-2.result.now c.new-out.result.items c.push_configuration.new.out.items c.push_phases.new.out.items c.push_shows.new.out.items
    c.new-out.ensures.items c.as_slice.ensures c.as_slice-2.ensures c.in_ok-push_configuration.ensures c.in_ok-push_phases.ensures c.in_ok-push_shows.ensures).sized

pub returns-clause-accepted : goal.returns-clause-accepted
returns-clause-accepted c =
    accepted c.args.script.now (script_printed c.args.script.now c.as_slice.result.now c.as_slice-2.result.now c.new-out.result.items c.push_configuration.new.out.items c.push_phases.new.out.items c.push_shows.new.out.items
    c.new-out.ensures.items c.as_slice.ensures c.as_slice-2.ensures c.in_ok-push_configuration.ensures c.in_ok-push_phases.ensures c.in_ok-push_shows.ensures).sized
