use Rattle.std.proofs.Common.{◌≡◌, take}
use Rattle.bpf_model.specs.Memory.{read_write_of, windows_of}
use Rattle.confined_view.specs.Touched.{window_bytes, writable_windows}
use Rattle.device_model.specs.Execution.{memory_of}
use Rattle.seq_device.proofs.loaded.view_of.Given as goal

-- the windows so far
abbrev pub invariant-loop-range : goal.invariant-loop-range
invariant-loop-range l =
    (windows_of (memory_of l.flat) (take l.range-index l.ranges) ≡ window_bytes l.windows.items)
    × (read_write_of (take l.range-index l.ranges) ≡ writable_windows l.windows.items)
