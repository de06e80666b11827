-- The programs that the device itself has, in the slots behind those that hosts load. This project's own.
use Rattle.std.specs.Prelude.{ℕ, ◌-◌, ◌%◌, ◌^◌, ◌==◌, nat_lt, nat_le, Bool, true, false, not, ◌&&◌, if◌then◌else◌, min, List, [], ◌∷◌, Option, None, count_by, length, map, position, slice_get, sum, sum_by, take, unwrap_or, zip}
use Rattle.cp_base.specs.declared.limits.TheConstants.{SLOTS}
use Rattle.cp_base.specs.declared.lists.MemRange.{MemRange}
use Rattle.bpf_isa.specs.declared.end.End.{End}
use Rattle.bpf_isa.specs.declared.end.End.TheVariants.{Exit, BadAccess, BudgetSpent}
use Rattle.bpf_model.specs.Memory.{Memory, allows_writing, overwritten, range_at, windows_of}
use Rattle.bpf_model.specs.Outcome.{RunOutcome}

-- a program of the device: how many bytes have a value; the sum of the bytes; where two ranges first differ; which
-- bytes lie in a class, with a mark for each
pub data Builtin : Type 0 where
  Count : Builtin
  Sum : Builtin
  Compare : Builtin
  Classes : Builtin

-- the program of the device in a slot, where it has one there
abbrev pub builtin_at : ℕ → Option Builtin
builtin_at slot = if nat_lt slot SLOTS then None else slice_get (Count ∷ Sum ∷ Compare ∷ Classes ∷ []) (slot - SLOTS)

-- the bytes of the range of this index; none where there is no such range
abbrev pub window_at : List (List ℕ) → ℕ → List ℕ
window_at windows index = unwrap_or (slice_get windows index) []

-- how many bytes of the ranges there are
abbrev pub total_of : List (List ℕ) → ℕ
total_of windows = sum_by length windows

-- how many bytes the first two ranges both have
abbrev pub common_len : List (List ℕ) → ℕ
common_len windows = min (length (window_at windows 0)) (length (window_at windows 1))

-- what a program of the device costs of the budget, in bytes that it looks at
abbrev pub cost_of : Builtin → List (List ℕ) → ℕ
cost_of Count windows = total_of windows
cost_of Sum windows = total_of windows
cost_of Compare windows = common_len windows
cost_of Classes windows = common_len windows

-- the first place at which one of two lists has another item, before either ends
abbrev pub first_difference : List ℕ → List ℕ → Option ℕ
first_difference a b = position (λ (pair : ℕ × ℕ). not (pair.0 == pair.1)) (zip a b)

-- 1 for each byte of a class, which goes from low to high, and 0 for each other
abbrev pub marks_of : ℕ → ℕ → List ℕ → List ℕ
marks_of low high bytes = map (λ byte. if nat_le low byte && nat_le byte high then 1 else 0) bytes

-- the marks that a program leaves in the second range, from its first byte on, for as many bytes as both ranges have
abbrev pub marks : List (List ℕ) → ℕ → ℕ → List ℕ
marks windows p1 p2 = marks_of (p1 % 256) (p2 % 256) (take (common_len windows) (window_at windows 0))

-- what a program of the device gives as its result
abbrev pub result_of : Builtin → List (List ℕ) → ℕ → ℕ → ℕ
result_of Count windows p1 p2 = sum_by (λ (window : List ℕ). count_by (λ byte. byte == p1 % 256) window) windows
result_of Sum windows p1 p2 = sum_by sum windows
result_of Compare windows p1 p2 = unwrap_or (first_difference (window_at windows 0) (window_at windows 1)) (2 ^ 64 - 1)
result_of Classes windows p1 p2 = sum (marks windows p1 p2)

-- whether a program of the device would write into a range that may only be read
abbrev pub is_forbidden : Builtin → List (List ℕ) → List MemRange → Bool
is_forbidden Count windows ranges = false
is_forbidden Sum windows ranges = false
is_forbidden Compare windows ranges = false
is_forbidden Classes windows ranges = nat_lt 0 (common_len windows) && not (allows_writing (range_at ranges 1).access)

-- the memory after a program of the device has come to its end
abbrev pub left_by : Builtin → List (List ℕ) → List MemRange → Memory → ℕ → ℕ → Memory
left_by Count windows ranges memory p1 p2 = memory
left_by Sum windows ranges memory p1 p2 = memory
left_by Compare windows ranges memory p1 p2 = memory
left_by Classes windows ranges memory p1 p2 =
    overwritten memory (range_at ranges 1).ns (range_at ranges 1).at (marks windows p1 p2)

-- an end that changes no byte
abbrev pub ends_with : End → Memory → RunOutcome
ends_with ending memory = record { ending = ending; memory = memory }

-- the outcome of a program of the device on ranges of a memory, with two parameters and a budget: where it costs more
-- than the budget nothing is done
abbrev pub builtin_outcome : Builtin → List MemRange → Memory → ℕ → ℕ → ℕ → RunOutcome
builtin_outcome program ranges memory p1 p2 budget =
    let windows : List (List ℕ) = windows_of memory ranges in
    if nat_lt budget (cost_of program windows) then ends_with BudgetSpent memory
    else if is_forbidden program windows ranges then ends_with (BadAccess 0) memory
    else ends_with (Exit (result_of program windows p1 p2)) (left_by program windows ranges memory p1 p2)
