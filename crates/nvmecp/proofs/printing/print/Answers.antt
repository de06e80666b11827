use Rattle.std.specs.List.{concat}
use Rattle.device_core.specs.Gives.{world_in}
use Rattle.nvmecp.specs.Lines.{ended_lines, shown_lines}
use Rattle.nvmecp.proofs.Fronts.{front_of_first, on_second}
use Rattle.nvmecp.proofs.Written.{both_written, told}
use Rattle.nvmecp.proofs.printing.print.Goals as goal

pub returns-clause-all : goal.returns-clause-all
returns-clause-all g c =
    let held = g.K.Sink.held in
    let w = world_in c.args.finished.core in
    both_written c.print_shows.result (held c.args.sink.now) (held c.print_entries.new.sink) (held c.print_shows.new.sink)
    (concat (ended_lines 1 w.history)) (concat (shown_lines w.state.contents c.args.shows.now)) c.in_ok-print_entries.ensures.all c.print_shows.ensures.all

pub returns-clause-front : goal.returns-clause-front
returns-clause-front g c =
    let held = g.K.Sink.held in
    let w = world_in c.args.finished.core in
    on_second c.print_shows.result (held c.args.sink.now) (held c.print_entries.new.sink) (held c.print_shows.new.sink)
    (concat (ended_lines 1 w.history)) (concat (shown_lines w.state.contents c.args.shows.now)) c.in_ok-print_entries.ensures.all c.print_shows.ensures.front

pub returns-in_err-print_entries-clause-front : goal.returns-in_err-print_entries-clause-front
returns-in_err-print_entries-clause-front g c =
    let held = g.K.Sink.held in
    let w = world_in c.args.finished.core in
    told c.from_residual.result
    (front_of_first (held c.args.sink.now) (held c.print_entries.new.sink) (concat (ended_lines 1 w.history)) (concat (shown_lines w.state.contents c.args.shows.now)) c.in_err-print_entries.ensures.front)
