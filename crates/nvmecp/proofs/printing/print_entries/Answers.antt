use Rattle.std.proofs.Common.{ℕ, List, arith}
use Rattle.device_core.specs.Gives.{ended_as_shown, world_in}
use Rattle.nvmecp.specs.Lines.{ended_lines}
use Rattle.nvmecp.proofs.Written.{all, count_lines, cut, more, short_entry, the_line, told}
use Rattle.nvmecp.proofs.printing.print_entries.Goals as goal

pub loop-k-preserved : goal.loop-k-preserved
loop-k-preserved g c =
    let held = g.K.Sink.held in
    let history = (world_in c.args.core.now).history in
    let k : ℕ = c.loop-k.k in
    let lines : List (List ℕ) = ended_lines 1 history in
    let line = the_line history k (ended_as_shown c.in-Some.entry) c.in-Some.ensures in
    let before = c.loop-k.invariant in
    record {
      written = more (held c.args.sink.now) (held c.loop-k.sink) (held c.print_entry.new.sink) lines k _
          (omega (arith, c.loop-k-test.true, c.ended-k-end.ensures, count_lines history)) line before.written c.in_ok-print_entry.ensures.all;
      room = c.print_entry.ensures.room;
      later = omega (arith, before.later, c.print_entry.ensures.later);
    }

pub print_entry-requires-clause-short : goal.print_entry-requires-clause-short
print_entry-requires-clause-short g c =
    short_entry (world_in c.args.core.now).history c.loop-k.k (ended_as_shown c.in-Some.entry) c.in-Some.ensures c.requires.short

pub returns-clause-all : goal.returns-clause-all
returns-clause-all g c =
    let history = (world_in c.args.core.now).history in
    all (g.K.Sink.held c.args.sink.now) (g.K.Sink.held c.loop-k.sink) (ended_lines 1 history) c.loop-k.k
    (omega (arith, c.loop-k-test.false, c.ended-k-end.ensures, count_lines history)) c.loop-k.invariant.written

pub returns-in_err-print_entry-clause-front : goal.returns-in_err-print_entry-clause-front
returns-in_err-print_entry-clause-front g c =
    let held = g.K.Sink.held in
    let history = (world_in c.args.core.now).history in
    let k : ℕ = c.loop-k.k in
    let lines : List (List ℕ) = ended_lines 1 history in
    let line = the_line history k (ended_as_shown c.in-Some.entry) c.in-Some.ensures in
    told c.from_residual.result
    (cut (held c.args.sink.now) (held c.loop-k.sink) (held c.print_entry.new.sink) lines k _
    (omega (arith, c.loop-k-test.true, c.ended-k-end.ensures, count_lines history)) line c.loop-k.invariant.written c.in_err-print_entry.ensures.front)
