use Rattle.std.proofs.Common.{◌++◌}
use Rattle.load_maker.specs.Load.{device_lines, ready_lines, work_lines}
use Rattle.load_maker.proofs.Printed.{prints_more}
use Rattle.load_maker.proofs.writing.push_load.Goals as goal

pub returns : goal.returns
returns c =
    let work = work_lines c.args.seed c.args.commands in
    prints_more device_lines (ready_lines ++ work) c.args.out.now.items c.push_device.new.out.items c.push_work.new.out.items
    c.in_ok-push_device.ensures
    (prints_more ready_lines work c.push_device.new.out.items c.push_ready.new.out.items c.push_work.new.out.items
    c.in_ok-push_ready.ensures c.in_ok-push_work.ensures)
