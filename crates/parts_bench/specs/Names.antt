-- The names of workloads. This project's own.
use Rattle.std.specs.Prelude.{ℕ, List, Option, Some, None, if◌then◌else◌, codes}
use Rattle.std.specs.Str.{bytes_eq}
use Rattle.parts_bench.specs.declared.workload.Builtin.TheVariants.{Count, Sum, Compare, Classes}
use Rattle.parts_bench.specs.declared.workload.Places.TheVariants.{Anywhere, Aligned, Ascending, Lone}
use Rattle.parts_bench.specs.declared.workload.Workload.{Workload}
use Rattle.parts_bench.specs.declared.workload.Workload.TheVariants.{Pieces, AskOne, AskSixteen, ChangeOne, ChangeSixteen, Exchange, Kernel, Plain}

-- the workload that a word names, where it names one
abbrev pub parts_workload_named : List ℕ → Option Workload
parts_workload_named word =
    if bytes_eq word (codes "pieces") then Some Pieces
    else if bytes_eq word (codes "ask-one") then Some AskOne
    else if bytes_eq word (codes "ask-sixteen") then Some AskSixteen
    else if bytes_eq word (codes "change-one") then Some ChangeOne
    else if bytes_eq word (codes "change-sixteen") then Some ChangeSixteen
    else if bytes_eq word (codes "anywhere") then Some (Exchange Anywhere)
    else if bytes_eq word (codes "aligned") then Some (Exchange Aligned)
    else if bytes_eq word (codes "ascending") then Some (Exchange Ascending)
    else if bytes_eq word (codes "lone") then Some (Exchange Lone)
    else if bytes_eq word (codes "count") then Some (Kernel Count)
    else if bytes_eq word (codes "sum") then Some (Kernel Sum)
    else if bytes_eq word (codes "compare") then Some (Kernel Compare)
    else if bytes_eq word (codes "classes") then Some (Kernel Classes)
    else if bytes_eq word (codes "plain-count") then Some (Plain Count)
    else if bytes_eq word (codes "plain-sum") then Some (Plain Sum)
    else if bytes_eq word (codes "plain-compare") then Some (Plain Compare)
    else if bytes_eq word (codes "plain-classes") then Some (Plain Classes)
    else None
