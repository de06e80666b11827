-- What the programs run on, and how they end. This project's own.
use Rattle.std.specs.Prelude.{ℕ, List, [], ◌∷◌}
use Rattle.cp_base.specs.declared.lists.Access.TheVariants.{ReadWrite}
use Rattle.cp_base.specs.declared.lists.MemRange.{MemRange}
use Rattle.bpf_isa.specs.declared.end.End.{End}
use Rattle.bpf_model.specs.Memory.{Memory}
use Rattle.bpf_model.specs.Outcome.{outcome}
use Rattle.bpf_model.specs.Walk.{instruction_at}
use Rattle.bpf_bench.specs.Programs.{encoded, program_for}
use Rattle.bpf_bench.specs.declared.workload.Workload.{Workload}

-- one read-write range of so many bytes
abbrev pub one_range : ℕ → List MemRange
one_range len = record { ns = 1; at = 0; len = len; access = ReadWrite } ∷ []

-- each byte is 1
abbrev pub ones : Memory
ones ns offset = 1

-- how the program of a workload ends on 65,536 bytes that are 1, with its number of rounds, the length of the range
-- and a budget
abbrev pub ending_of : Workload → ℕ → ℕ → End
ending_of workload rounds budget =
    (outcome (instruction_at (encoded (program_for workload))) (one_range 65536) ones rounds 65536 budget).ending
