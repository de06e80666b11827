use Rattle.std.proofs.Common.{◌≡◌, drop, length, take}
use Rattle.confined_view.specs.Touched.{window_bytes}
use Rattle.job_run.specs.Windows.{piece_bytes}
use Rattle.job_run.specs.Works.{piece_regions}
use Rattle.job_run.proofs.windows.from_windows.Given as goal

-- the pieces so far have the bytes of their windows; the other windows are as they were
abbrev pub invariant-loop-i : goal.invariant-loop-i
invariant-loop-i l = record {
  bytes : take l.i (piece_bytes l.pieces.items) ≡ take l.i (window_bytes l.initial.windows.items);
  rest : drop l.i (window_bytes l.windows.items) ≡ drop l.i (window_bytes l.initial.windows.items);
  regions : piece_regions l.pieces.items ≡ piece_regions l.initial.pieces.items;
  pieces : length l.pieces.items ≡ length l.initial.pieces.items;
  windows : length l.windows.items ≡ length l.initial.windows.items;
}
