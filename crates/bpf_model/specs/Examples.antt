-- Programs of the worked examples, as their bytes.
use Rattle.std.specs.Prelude.{ℕ, List, [], ◌∷◌, ◌++◌}
use Rattle.cp_base.specs.declared.lists.Access.{Access}
use Rattle.cp_base.specs.declared.lists.Access.TheVariants.{ReadOnly, ReadWrite}
use Rattle.cp_base.specs.declared.lists.MemRange.{MemRange}
use Rattle.bpf_model.specs.Memory.{Memory}
use Rattle.bpf_model.specs.Outcome.{RunOutcome, outcome}
use Rattle.bpf_model.specs.Walk.{instruction_at}

-- mov64 r0 7, exit
abbrev pub exit_with_7 : List ℕ
exit_with_7 = 0xb7 ∷ 0 ∷ 0 ∷ 0 ∷ 7 ∷ 0 ∷ 0 ∷ 0 ∷ 0x95 ∷ 0 ∷ 0 ∷ 0 ∷ 0 ∷ 0 ∷ 0 ∷ 0 ∷ []

-- lddw r1 4294967296
abbrev pub first_range_in_r1 : List ℕ
first_range_in_r1 = 0x18 ∷ 1 ∷ 0 ∷ 0 ∷ 0 ∷ 0 ∷ 0 ∷ 0 ∷ 0 ∷ 0 ∷ 0 ∷ 0 ∷ 1 ∷ 0 ∷ 0 ∷ 0 ∷ []

-- stb r1 0 85, ldxb r0 r1 0, exit, behind the load of r1
abbrev pub store_and_load : List ℕ
store_and_load = first_range_in_r1 ++ (0x72 ∷ 1 ∷ 0 ∷ 0 ∷ 85 ∷ 0 ∷ 0 ∷ 0
    ∷ 0x71 ∷ 0x10 ∷ 0 ∷ 0 ∷ 0 ∷ 0 ∷ 0 ∷ 0 ∷ 0x95 ∷ 0 ∷ 0 ∷ 0 ∷ 0 ∷ 0 ∷ 0 ∷ 0 ∷ [])

-- stb r1 8 85, exit, behind the load of r1: one past a range of 8 bytes
abbrev pub store_past_the_end : List ℕ
store_past_the_end = first_range_in_r1 ++ (0x72 ∷ 1 ∷ 8 ∷ 0 ∷ 85 ∷ 0 ∷ 0 ∷ 0 ∷ 0x95 ∷ 0 ∷ 0 ∷ 0 ∷ 0 ∷ 0 ∷ 0 ∷ 0 ∷ [])

-- ja 1, lddw r0 0, exit: the target is the second unit of the load
abbrev pub jump_into_a_wide_load : List ℕ
jump_into_a_wide_load =
    0x05 ∷ 0 ∷ 1 ∷ 0 ∷ 0 ∷ 0 ∷ 0 ∷ 0 ∷ 0x18 ∷ 0 ∷ 0 ∷ 0 ∷ 0 ∷ 0 ∷ 0 ∷ 0 ∷ 0 ∷ 0 ∷ 0 ∷ 0 ∷ 0 ∷ 0 ∷ 0 ∷ 0
    ∷ 0x95 ∷ 0 ∷ 0 ∷ 0 ∷ 0 ∷ 0 ∷ 0 ∷ 0 ∷ []

-- callp -1: a function that calls itself
abbrev pub calls_itself : List ℕ
calls_itself = 0x85 ∷ 0x10 ∷ 0 ∷ 0 ∷ 0xff ∷ 0xff ∷ 0xff ∷ 0xff ∷ []

-- jeq64 r1 0 2, sub64 r1 1, callp -3, exit: as many frames below the first as R1 says
abbrev pub calls_down : List ℕ
calls_down =
    0x15 ∷ 0x01 ∷ 0x02 ∷ 0 ∷ 0 ∷ 0 ∷ 0 ∷ 0 ∷ 0x17 ∷ 0x01 ∷ 0 ∷ 0 ∷ 0x01 ∷ 0 ∷ 0 ∷ 0 ∷ 0x85 ∷ 0x10 ∷ 0 ∷ 0 ∷ 0xfd ∷ 0xff
    ∷ 0xff ∷ 0xff
    ∷ 0x95 ∷ 0 ∷ 0 ∷ 0 ∷ 0 ∷ 0 ∷ 0 ∷ 0 ∷ []

-- std r1 0 9, mov64 r2 5, afaddd r1 0 r2, mov64 r0 r2, exit, behind the load of r1
abbrev pub fetch_and_add : List ℕ
fetch_and_add =
    first_range_in_r1
    ++ (0x7a ∷ 0x01 ∷ 0 ∷ 0 ∷ 0x09 ∷ 0 ∷ 0 ∷ 0 ∷ 0xb7 ∷ 0x02 ∷ 0 ∷ 0 ∷ 0x05 ∷ 0 ∷ 0 ∷ 0 ∷ 0xdb ∷ 0x21 ∷ 0 ∷ 0 ∷ 0x01 ∷ 0 ∷ 0 ∷ 0
    ∷ 0xbf ∷ 0x20 ∷ 0 ∷ 0 ∷ 0 ∷ 0 ∷ 0 ∷ 0 ∷ 0x95 ∷ 0 ∷ 0 ∷ 0 ∷ 0 ∷ 0 ∷ 0 ∷ 0 ∷ [])

-- call 1, exit: the length of the range of index R1
abbrev pub helper : List ℕ
helper = 0x85 ∷ 0 ∷ 0 ∷ 0 ∷ 0x01 ∷ 0 ∷ 0 ∷ 0 ∷ 0x95 ∷ 0 ∷ 0 ∷ 0 ∷ 0 ∷ 0 ∷ 0 ∷ 0 ∷ []

-- ldxb r0 r1 0, exit, behind the load of r1
abbrev pub load_alone : List ℕ
load_alone = first_range_in_r1 ++ (0x71 ∷ 0x10 ∷ 0 ∷ 0 ∷ 0 ∷ 0 ∷ 0 ∷ 0 ∷ 0x95 ∷ 0 ∷ 0 ∷ 0 ∷ 0 ∷ 0 ∷ 0 ∷ 0 ∷ [])

-- mov64 r0 1, mov64 r2 5, acmpxchgd r1 0 r2, exit, behind the load of r1: a compare-exchange whose comparison of zeros
-- with 1 fails
abbrev pub failing_exchange : List ℕ
failing_exchange = first_range_in_r1 ++ (0xb7 ∷ 0 ∷ 0 ∷ 0 ∷ 0x01 ∷ 0 ∷ 0 ∷ 0 ∷ 0xb7 ∷ 0x02 ∷ 0 ∷ 0 ∷ 0x05 ∷ 0 ∷ 0 ∷ 0
    ∷ 0xdb ∷ 0x21 ∷ 0 ∷ 0 ∷ 0xf1 ∷ 0 ∷ 0 ∷ 0 ∷ 0x95 ∷ 0 ∷ 0 ∷ 0 ∷ 0 ∷ 0 ∷ 0 ∷ 0 ∷ [])

-- a range of 8 bytes of namespace 1, from byte 16 on
abbrev pub eight_bytes : Access → List MemRange
eight_bytes access = record { ns = 1; at = 16; len = 8; access = access } ∷ []

-- a memory of zeros
abbrev pub zero_memory : Memory
zero_memory ns offset = 0

-- the outcome of code on those 8 bytes, read-write, with a first parameter and a budget
abbrev pub run_with : List ℕ → ℕ → ℕ → RunOutcome
run_with code p1 budget = outcome (instruction_at code) (eight_bytes ReadWrite) zero_memory p1 0 budget

-- the same with the parameter 0
abbrev pub run_of : List ℕ → ℕ → RunOutcome
run_of code budget = run_with code 0 budget

-- the outcome of code on those 8 bytes, read-only, with a budget
abbrev pub reading_run_of : List ℕ → ℕ → RunOutcome
reading_run_of code budget = outcome (instruction_at code) (eight_bytes ReadOnly) zero_memory 0 0 budget
