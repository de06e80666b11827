use Rattle.std.proofs.Common.{◌≡◌, ℕ, ◌≤◌, ◌<◌, length, get_or}
use Rattle.seq_device.proofs.builtins.difference.Given as goal

-- the lists are the same so far
abbrev pub invariant-loop-place : goal.invariant-loop-place
invariant-loop-place l = (l.place ≤ length l.b) × ((k : ℕ) → k < l.place → get_or l.a k 0 ≡ get_or l.b k 0)
