use Rattle.std.proofs.Common.{◌≡◌, ◌==◌, count_by, take}
use Rattle.builtin_programs.proofs.counts.count_plainly.Given as goal

-- what is counted of the bytes so far
abbrev pub invariant-loop-byte : goal.invariant-loop-byte
invariant-loop-byte l = l.counted ≡ count_by (λ byte. byte == l.value) (take l.byte-index l.bytes)
