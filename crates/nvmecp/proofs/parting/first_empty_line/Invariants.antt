use Rattle.std.proofs.Common.{ℕ, ◌<◌}
use Rattle.nvmecp.specs.Check.{IsEmptyLine}
use Rattle.nvmecp.proofs.parting.first_empty_line.Given as goal

-- no empty line stands so far
abbrev pub invariant-loop-place : goal.invariant-loop-place
invariant-loop-place l = (earlier : ℕ) → earlier < l.place → IsEmptyLine l.text earlier → ⊥
