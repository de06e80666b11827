use Rattle.std.proofs.Common.{◌≡◌, take}
use Rattle.cp_base.specs.Contents.{zeros}
use Rattle.cp_base.specs.Buffer.{contents_of}
use Rattle.slm_bytes.proofs.flat.zeroed.Given as goal

-- the spaces so far
abbrev pub invariant-loop-size : goal.invariant-loop-size
invariant-loop-size l = contents_of l.made.items ≡ zeros l.unit (take l.size-index l.sizes)
