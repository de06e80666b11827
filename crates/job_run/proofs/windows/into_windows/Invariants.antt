use Rattle.std.proofs.Common.{◌≡◌, ◌≤◌, drop, length, take, vec_capacity}
use Rattle.confined_view.specs.Touched.{window_bytes, writable_windows}
use Rattle.bpf_model.specs.Memory.{read_write_of}
use Rattle.job_run.specs.Windows.{piece_bytes}
use Rattle.job_run.specs.Works.{piece_regions}
use Rattle.job_run.proofs.windows.into_windows.Given as goal

-- so many windows are made; the other pieces are as they were
abbrev pub invariant-loop-i : goal.invariant-loop-i
invariant-loop-i l = record {
  bytes : window_bytes l.windows.items ≡ take l.i (piece_bytes l.initial.pieces.items);
  writable : writable_windows l.windows.items ≡ take l.i (read_write_of l.ranges);
  rest : drop l.i (piece_bytes l.pieces.items) ≡ drop l.i (piece_bytes l.initial.pieces.items);
  regions : piece_regions l.pieces.items ≡ piece_regions l.initial.pieces.items;
  count : length l.windows.items ≡ l.i;
  room : length l.initial.pieces.items ≤ vec_capacity l.windows;
}
