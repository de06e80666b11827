-- What an execution tells has 64 bits, and what it leaves are bytes.
use Rattle.std.proofs.Common.{◌≡◌, ℕ, zero, suc, ◌+◌, ◌-◌, ◌*◌, ◌<◌, ◌≤◌, ◌%◌, ◌^◌, ◌==◌, Bool, true, false, not, ◌&&◌, List, [], ◌∷◌, length, take, Option, Some, None, unwrap_or, zip, refl, arith, if◌then◌else◌, nat_lt, nat_le, All, sum_by, sum, count_by}
use Rattle.std.specs.List.{AllByRecursion}
use Rattle.std.proofs.lemmas.List.{length-map}
use Rattle.std.proofs.lemmas.List.Elements.{All-nil, All-cons}
use Rattle.std.proofs.lemmas.List.Quantifiers.{position-Some}
use Rattle.std.proofs.lemmas.List.Sums.{count_by-le-length, sum_by-cons}
use Rattle.std.proofs.lemmas.Slice.Zip.{length-zip}
use Rattle.std.proofs.Math.ListN.{length-take}
use Rattle.cp_base.specs.declared.lists.MemRange.{MemRange}
use Rattle.bpf_isa.specs.declared.end.End.{End}
use Rattle.bpf_isa.specs.declared.end.End.TheVariants as end
use Rattle.bpf_model.specs.Memory.{Memory, HoldsBytes, bytes_from, range_at, windows_of}
use Rattle.bpf_model.specs.Outcome.{EndFits}
use Rattle.bpf_model.specs.Walk.{instruction_at}
use Rattle.bpf_model.proofs.Sizes.{ending-fits}
use Rattle.bpf_model.proofs.Windows.{holds-bytes}
use Rattle.bpf_model.proofs.Writing.{length-bytes_from, written-bytes}
use Rattle.device_model.specs.Builtin.{Builtin, Count, Sum, Compare, Classes, common_len, cost_of, ends_with, first_difference, is_forbidden, left_by, marks, marks_of, result_of, window_at}
use Rattle.device_model.specs.Execution.{Executable, Loaded, OfDevice, outcome_on, told_of}
use Rattle.trail_model.specs.Sized.{EachByte}

pub each-All : {A : Type 0} (P : A → Type 0) (xs : List A) → AllByRecursion P xs → All P xs
each-All P [] all = All-nil P
each-All P (x ∷ xs) all = All-cons P x xs all.0 (each-All P xs all.1)

-- ranges that are as short as a namespace, and few
pub record AreFewRanges (ranges : List MemRange) : Type 0 where
  pub few : length ranges ≤ 16
  pub short : AllByRecursion (λ (r : MemRange). r.len ≤ 16777216) ranges

-- code of bytes, no longer than a program
pub record CodeSized (code : List ℕ) : Type 0 where
  pub bytes : EachByte code
  pub short : length code ≤ 65536

abbrev pub RunsSized : Executable → Type 0
RunsSized (Loaded code) = CodeSized code
RunsSized (OfDevice program) = Unit {0}

-- ---- bytes

marks-bytes : (low high : ℕ) (bytes : List ℕ) → EachByte (marks_of low high bytes)
marks-bytes low high [] = tt
marks-bytes low high (b ∷ bytes) = (by_test (nat_le low b && nat_le b high), marks-bytes low high bytes)
  where
    by_test : (t : Bool) → (if t then 1 else 0) < 256
    by_test true = omega arith
    by_test false = omega arith

left-bytes : (program : Builtin) (windows : List (List ℕ)) (ranges : List MemRange) (memory : Memory) (p1 p2 : ℕ) → HoldsBytes memory
    → HoldsBytes (left_by program windows ranges memory p1 p2)
left-bytes Count windows ranges memory p1 p2 held = held
left-bytes Sum windows ranges memory p1 p2 held = held
left-bytes Compare windows ranges memory p1 p2 held = held
left-bytes Classes windows ranges memory p1 p2 held =
    written-bytes memory (range_at ranges 1).ns (range_at ranges 1).at (marks windows p1 p2) held
    (each-All (λ b. b < 256) (marks windows p1 p2) (marks-bytes (p1 % 256) (p2 % 256) (take (common_len windows) (window_at windows 0))))

pub run-bytes : (x : Executable) (ranges : List MemRange) (memory : Memory) (p1 p2 budget : ℕ) → HoldsBytes memory → HoldsBytes (outcome_on x ranges memory p1 p2 budget).memory
run-bytes (Loaded code) ranges memory p1 p2 budget held = holds-bytes (instruction_at code) ranges memory p1 p2 budget held
run-bytes (OfDevice program) ranges memory p1 p2 budget held =
    by_tests (windows_of memory ranges) (nat_lt budget (cost_of program (windows_of memory ranges))) (is_forbidden program (windows_of memory ranges) ranges)
  where
    by_tests : (windows : List (List ℕ)) (dear forbidden : Bool)
        → HoldsBytes (if dear then ends_with end.BudgetSpent memory else if forbidden then ends_with (end.BadAccess 0) memory
        else ends_with (end.Exit (result_of program windows p1 p2)) (left_by program windows ranges memory p1 p2)).memory
    by_tests windows true forbidden = held
    by_tests windows false true = held
    by_tests windows false false = left-bytes program windows ranges memory p1 p2 held

pub from-bytes : (memory : Memory) (ns at n : ℕ) → HoldsBytes memory → EachByte (bytes_from memory ns at n)
from-bytes memory ns at zero held = tt
from-bytes memory ns at (suc n) held = (held ns at, from-bytes memory ns (at + 1) n held)

-- ---- sums

sum-bytes : (xs : List ℕ) → EachByte xs → sum xs ≤ 255 * length xs
sum-bytes [] all = omega arith
sum-bytes (x ∷ xs) all =
    let a : sum (x ∷ xs) ≡ x + sum xs = sum_by-cons (λ (y : ℕ). y) x xs in
    let b = sum-bytes xs all.1 in
    let d = all.0 in
    omega arith

-- windows that are bytes and as short as a namespace
abbrev ShortWindow : List ℕ → Type 0
ShortWindow window = EachByte window × (length window ≤ 16777216)

windows-short : (memory : Memory) (ranges : List MemRange) → HoldsBytes memory → AllByRecursion (λ (r : MemRange). r.len ≤ 16777216) ranges
    → AllByRecursion ShortWindow (windows_of memory ranges)
windows-short memory [] held short = tt
windows-short memory (r ∷ ranges) held short =
    let e = length-bytes_from memory r.ns r.at r.len in
    let s = short.0 in
    ((from-bytes memory r.ns r.at r.len held, omega arith), windows-short memory ranges held short.1)

counts-few : (test : ℕ → Bool) (windows : List (List ℕ)) → AllByRecursion ShortWindow windows → sum_by (λ (w : List ℕ). count_by test w) windows ≤ 16777216 * length windows
counts-few test [] short = omega arith
counts-few test (w ∷ windows) short =
    let a : sum_by (λ (v : List ℕ). count_by test v) (w ∷ windows) ≡ count_by test w + sum_by (λ (v : List ℕ). count_by test v) windows =
    sum_by-cons (λ (v : List ℕ). count_by test v) w windows in
    let b = counts-few test windows short.1 in
    let d : count_by test w ≤ length w = count_by-le-length test w in
    let e = short.0.1 in
    omega arith

sums-few : (windows : List (List ℕ)) → AllByRecursion ShortWindow windows → sum_by sum windows ≤ 4278190080 * length windows
sums-few [] short = omega arith
sums-few (w ∷ windows) short =
    let a : sum_by sum (w ∷ windows) ≡ sum w + sum_by sum windows = sum_by-cons sum w windows in
    let b = sums-few windows short.1 in
    let d = sum-bytes w short.0.0 in
    let e = short.0.1 in
    omega arith

window-short : (windows : List (List ℕ)) (i : ℕ) → AllByRecursion ShortWindow windows → length (window_at windows i) ≤ 16777216
window-short [] zero short = omega arith
window-short [] (suc i) short = omega arith
window-short (w ∷ windows) zero short = short.0.1
window-short (w ∷ windows) (suc i) short = window-short windows i short.1

difference-few : (a b : List ℕ) → length a ≤ 16777216 → unwrap_or (first_difference a b) (2 ^ 64 - 1) < 2 ^ 64
difference-few a b short = by_found (first_difference a b) refl
  where
    by_found : (o : Option ℕ) → first_difference a b ≡ o → unwrap_or o (2 ^ 64 - 1) < 2 ^ 64
    by_found None e = omega arith
    by_found (Some i) e =
        let p = position-Some (λ (pair : ℕ × ℕ). not (pair.0 == pair.1)) (zip a b) i (0, 0) e in
        let z = length-zip a b in
        let less = p.0 in
        omega arith

length-windows : (memory : Memory) (ranges : List MemRange) → length (windows_of memory ranges) ≡ length ranges
length-windows memory ranges = length-map ranges (λ (range : MemRange). bytes_from memory range.ns range.at range.len)

result-sized : (program : Builtin) (windows : List (List ℕ)) (p1 p2 : ℕ) → AllByRecursion ShortWindow windows → length windows ≤ 16 → result_of program windows p1 p2 < 2 ^ 64
result-sized Count windows p1 p2 short few = let a = counts-few (λ byte. byte == p1 % 256) windows short in omega arith
result-sized Sum windows p1 p2 short few = let a = sums-few windows short in omega arith
result-sized Compare windows p1 p2 short few = difference-few (window_at windows 0) (window_at windows 1) (window-short windows 0 short)
result-sized Classes windows p1 p2 short few =
    let taken : List ℕ = take (common_len windows) (window_at windows 0) in
    let a = sum-bytes (marks windows p1 p2) (marks-bytes (p1 % 256) (p2 % 256) taken) in
    let b : length (marks windows p1 p2) ≡ length taken = length-map taken _ in
    let d = length-take (common_len windows) (window_at windows 0) in
    let e = window-short windows 0 short in
    omega arith

-- ---- ends

short-All : (ranges : List MemRange) → AllByRecursion (λ (r : MemRange). r.len ≤ 16777216) ranges → All (λ (range : MemRange). range.len < 2 ^ 64) ranges
short-All [] short = All-nil (λ (range : MemRange). range.len < 2 ^ 64)
short-All (r ∷ ranges) short =
    let s = short.0 in
    All-cons (λ (range : MemRange). range.len < 2 ^ 64) r ranges (omega arith) (short-All ranges short.1)

told-fits : (budget len : ℕ) (e : End) → budget < 2 ^ 64 → len ≤ 65536 → EndFits len e → (told_of budget e).result < 2 ^ 64
told-fits budget len (end.Exit value) small short fits = fits
told-fits budget len (end.BadAccess place) small short fits = let f = fits in omega arith
told-fits budget len (end.BadJump place) small short fits = let f = fits in omega arith
told-fits budget len (end.CallDepth place) small short fits = let f = fits in omega arith
told-fits budget len end.BudgetSpent small short fits = small

pub run-told : (x : Executable) (ranges : List MemRange) (memory : Memory) (p1 p2 budget : ℕ) → HoldsBytes memory → RunsSized x → AreFewRanges ranges
    → p1 < 2 ^ 64 → p2 < 2 ^ 64 → budget < 2 ^ 64 → (told_of budget (outcome_on x ranges memory p1 p2 budget).ending).result < 2 ^ 64
run-told (Loaded code) ranges memory p1 p2 budget held sized few small1 small2 small =
    told-fits budget (length code) (outcome_on (Loaded code) ranges memory p1 p2 budget).ending small sized.short
    (ending-fits code ranges memory p1 p2 budget held (each-All (λ b. b < 256) code sized.bytes) (short-All ranges few.short) (let f = few.few in omega arith) small1 small2)
run-told (OfDevice program) ranges memory p1 p2 budget held sized few small1 small2 small =
    by_tests (nat_lt budget (cost_of program (windows_of memory ranges))) (is_forbidden program (windows_of memory ranges) ranges)
  where
    by_tests : (dear forbidden : Bool)
        → (told_of budget (if dear then ends_with end.BudgetSpent memory else if forbidden then ends_with (end.BadAccess 0) memory
        else ends_with (end.Exit (result_of program (windows_of memory ranges) p1 p2)) (left_by program (windows_of memory ranges) ranges memory p1 p2)).ending).result < 2 ^ 64
    by_tests true forbidden = small
    by_tests false true = omega arith
    by_tests false false =
        result-sized program (windows_of memory ranges) p1 p2 (windows-short memory ranges held few.short)
        (let a = length-windows memory ranges in let b = few.few in omega arith)
