use Rattle.std.proofs.Common.{◌≡◌, ◌*◌, ◌≤◌, sum, take}
use Rattle.bpf_model.specs.Memory.{lengths_of}
use Rattle.cp_base.specs.declared.limits.TheConstants.{MAX_NAMESPACE}
use Rattle.seq_device.proofs.builtins.total_len.Given as goal

-- the total so far
abbrev pub invariant-loop-range : goal.invariant-loop-range
invariant-loop-range l = (l.total ≡ sum (lengths_of (take l.range-index l.ranges))) × (l.total ≤ MAX_NAMESPACE * l.range-index)
