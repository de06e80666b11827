use Rattle.std.proofs.Common.{◌≤◌, take}
use Rattle.std.specs.List.{concat}
use Rattle.std.specs.Io.KnownBytes.{Appends}
use Rattle.cp_base.specs.declared.limits.TheConstants.{MAX_TRANSFER}
use Rattle.replay_print.specs.declared.laws.TheConstants.{LONGEST_LINE}
use Rattle.device_core.specs.Gives.{world_in}
use Rattle.nvmecp.specs.Lines.{shown_lines}
use Rattle.nvmecp.specs.Shown.{HasRoomFor}
use Rattle.nvmecp.proofs.printing.print_shows.Given as goal

-- the lines so far are written
abbrev pub invariant-loop-show : goal.invariant-loop-show
invariant-loop-show g l = record {
  written : Appends (g.K.Sink.held l.initial.sink) (g.K.Sink.held l.sink) (concat (take l.show-index (shown_lines (world_in l.core).state.contents l.shows)));
  room : HasRoomFor LONGEST_LINE l.line;
  bytes : HasRoomFor MAX_TRANSFER l.shown;
  later : g.K.Sink.faults l.initial.sink ≤ g.K.Sink.faults l.sink;
}
