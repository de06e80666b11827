-- The names of workloads. This project's own.
use Rattle.std.specs.Prelude.{ℕ, List, Option, Some, None, if◌then◌else◌, codes}
use Rattle.std.specs.Str.{bytes_eq}
use Rattle.core_bench.specs.declared.workload.Places.TheVariants.{One, Random, Ascending, Span, Read}
use Rattle.core_bench.specs.declared.workload.Workload.{Workload}
use Rattle.core_bench.specs.declared.workload.Workload.TheVariants.{OneByOne, Deep, DeepOnOne, FillAlone}

-- the workload that a word names, where it names one
abbrev pub core_workload_named : List ℕ → Option Workload
core_workload_named word =
    if bytes_eq word (codes "one-place") then Some (OneByOne One)
    else if bytes_eq word (codes "random") then Some (OneByOne Random)
    else if bytes_eq word (codes "ascending") then Some (OneByOne Ascending)
    else if bytes_eq word (codes "span") then Some (OneByOne Span)
    else if bytes_eq word (codes "read") then Some (OneByOne Read)
    else if bytes_eq word (codes "deep") then Some Deep
    else if bytes_eq word (codes "deep-on-one") then Some DeepOnOne
    else if bytes_eq word (codes "fill-alone") then Some FillAlone
    else None
