use Rattle.std.proofs.Common.{◌≡◌, ◌*◌, ◌==◌, ◌≤◌, count_by, sum_by, take}
use Rattle.cp_base.specs.declared.limits.TheConstants.{MAX_NAMESPACE}
use Rattle.bpf_model.specs.Memory.{windows_of}
use Rattle.device_model.specs.Execution.{memory_of}
use Rattle.seq_device.proofs.builtins.count.Given as goal

-- the count so far
abbrev pub invariant-loop-range : goal.invariant-loop-range
invariant-loop-range l =
    (l.total ≡ sum_by (λ window. count_by (λ byte. byte == l.value) window) (windows_of (memory_of l.flat) (take l.range-index l.ranges)))
    × (l.total ≤ MAX_NAMESPACE * l.range-index)
