-- The names of workloads. This project's own.
use Rattle.std.specs.Prelude.{ℕ, List, Option, Some, None, if◌then◌else◌, codes}
use Rattle.std.specs.Str.{bytes_eq}
use Rattle.bpf_bench.specs.declared.workload.Workload.{Workload}
use Rattle.bpf_bench.specs.declared.workload.Workload.TheVariants.{Loop, Sum, Store, Near, Far}

-- the workload that a word names, where it names one
abbrev pub bpf_workload_named : List ℕ → Option Workload
bpf_workload_named word =
    if bytes_eq word (codes "loop") then Some Loop
    else if bytes_eq word (codes "sum") then Some Sum
    else if bytes_eq word (codes "store") then Some Store
    else if bytes_eq word (codes "near") then Some Near
    else if bytes_eq word (codes "far") then Some Far
    else None
