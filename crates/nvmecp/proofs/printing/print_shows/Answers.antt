use Rattle.std.proofs.Common.{ℕ, arith}
use Rattle.device_core.specs.Gives.{world_in}
use Rattle.nvmecp.specs.Lines.{shown_lines}
use Rattle.nvmecp.proofs.Written.{all, count_shown, cut, more, shown_line, told}
use Rattle.nvmecp.proofs.printing.print_shows.Goals as goal

pub loop-show-preserved : goal.loop-show-preserved
loop-show-preserved g c =
    let held = g.K.Sink.held in
    let contents = (world_in c.args.core.now).state.contents in
    let shows = c.args.shows.now in
    let i : ℕ = c.loop-show.show-index in
    let line = shown_line contents shows i c.show-item.result c.loop-show-test.true c.show-item.is in
    let before = c.loop-show.invariant in
    record {
      written = more (held c.args.sink.now) (held c.loop-show.sink) (held c.print_show.new.sink) (shown_lines contents shows) i _
          (omega (arith, c.loop-show-test.true, count_shown contents shows)) line before.written c.in_ok-print_show.ensures.all;
      room = c.print_show.ensures.room;
      bytes = c.print_show.ensures.bytes;
      later = omega (arith, before.later, c.print_show.ensures.later);
    }

pub returns-clause-all : goal.returns-clause-all
returns-clause-all g c =
    let contents = (world_in c.args.core.now).state.contents in
    let shows = c.args.shows.now in
    all (g.K.Sink.held c.args.sink.now) (g.K.Sink.held c.loop-show.sink) (shown_lines contents shows) c.loop-show.show-index
    (omega (arith, c.loop-show-test.false, count_shown contents shows)) c.loop-show.invariant.written

pub returns-in_err-print_show-clause-front : goal.returns-in_err-print_show-clause-front
returns-in_err-print_show-clause-front g c =
    let held = g.K.Sink.held in
    let contents = (world_in c.args.core.now).state.contents in
    let shows = c.args.shows.now in
    let i : ℕ = c.loop-show.show-index in
    let line = shown_line contents shows i c.show-item.result c.loop-show-test.true c.show-item.is in
    told c.from_residual.result
    (cut (held c.args.sink.now) (held c.loop-show.sink) (held c.print_show.new.sink) (shown_lines contents shows) i _
    (omega (arith, c.loop-show-test.true, count_shown contents shows)) line c.loop-show.invariant.written c.in_err-print_show.ensures.front)
