use Rattle.std.proofs.Common.{◌≤◌, take}
use Rattle.std.specs.List.{concat}
use Rattle.std.specs.Io.KnownBytes.{Appends}
use Rattle.replay_print.specs.declared.laws.TheConstants.{LONGEST_LINE}
use Rattle.device_core.specs.Gives.{world_in}
use Rattle.nvmecp.specs.Lines.{ended_lines}
use Rattle.nvmecp.specs.Shown.{HasRoomFor}
use Rattle.nvmecp.proofs.printing.print_entries.Given as goal

-- the lines so far are written
abbrev pub invariant-loop-k : goal.invariant-loop-k
invariant-loop-k g l = record {
  written : Appends (g.K.Sink.held l.initial.sink) (g.K.Sink.held l.sink) (concat (take l.k (ended_lines 1 (world_in l.core).history)));
  room : HasRoomFor LONGEST_LINE l.line;
  later : g.K.Sink.faults l.initial.sink ≤ g.K.Sink.faults l.sink;
}
