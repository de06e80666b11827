use Rattle.std.proofs.Common.{◌≡◌, All, take}
use Rattle.confined_view.specs.Touched.{window_bytes}
use Rattle.seq_device.specs.Ranges.{IsAtHand, with_windows}
use Rattle.seq_device.proofs.loaded.put_windows.Given as goal

-- the windows so far are put back
abbrev pub invariant-loop-index : goal.invariant-loop-index
invariant-loop-index l =
    (l.flat ≡ with_windows l.initial.flat (take l.index l.ranges) (take l.index (window_bytes l.windows)))
    × All (IsAtHand l.flat) l.ranges
