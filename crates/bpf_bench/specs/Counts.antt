-- How many instructions the program of a workload executes. This project's own.
use Rattle.std.specs.Prelude.{ℕ, ◌+◌, ◌*◌}
use Rattle.bpf_bench.specs.declared.workload.Workload.{Workload}
use Rattle.bpf_bench.specs.declared.workload.Workload.TheVariants.{Loop, Sum, Store, Near, Far}

-- before the first round and after the last one
abbrev pub instructions_once : Workload → ℕ
instructions_once Loop = 2
instructions_once Sum = 5
instructions_once Store = 5
instructions_once Near = 2
instructions_once Far = 2

-- in each round: 4 a byte of the range and 3 more in a sum, 3 for 8 bytes and 3 more in stores
abbrev pub instructions_each : Workload → ℕ
instructions_each Loop = 2
instructions_each Sum = 4 * 65536 + 3
instructions_each Store = 3 * 8192 + 3
instructions_each Near = 3
instructions_each Far = 3

-- in all, for so many rounds
abbrev pub instructions_in_all : Workload → ℕ → ℕ
instructions_in_all workload rounds = instructions_once workload + rounds * instructions_each workload
