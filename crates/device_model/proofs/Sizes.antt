-- What the device answers to sized commands in sized states is sized, and so is the state after it.
use Rattle.std.proofs.Common.{◌≡◌, ℕ, zero, suc, ◌+◌, ◌-◌, ◌*◌, ◌^◌, ◌%◌, ◌<◌, ◌≤◌, ◌==◌, nat_lt, nat_le, Bool, true, false, not, ◌&&◌, ◌||◌, cond, inl, inr, List, [], ◌∷◌, ◌++◌, length, take, drop, map, replicate, unwrap_or, Option, Some, None, refl, sym, subst, arith, length-append}
use Rattle.std.proofs.lemmas.List.{length-drop, length-map, length-replicate, length-take, length-take-le}
use Rattle.std.proofs.lemmas.Slice.Zip.{length-zip}
use Rattle.std.specs.Prelude.{if◌then◌else◌, IfSome, filter, find, is_none, min, option_map, slice_get, sum, zip}
use Rattle.std.specs.List.{All, position_or_len, range_with_len}
use Rattle.std.specs.Option.{option_map_or, option_or}
use Rattle.std.proofs.lemmas.Bool.Decides.{nat_tests}
use Rattle.std.proofs.lemmas.List.Elements.{All-append, All-cons, All-filter, All-head, All-map, All-nil, All-replicate, All-set, All-tail, All-weaker}
use Rattle.cp_base.specs.Answer.{Answer, only_status}
use Rattle.cp_base.specs.Checks.{Check, block_checks, byte_checks, first_failing, refuse}
use Rattle.cp_base.specs.Configuration.{Configuration, size_of}
use Rattle.cp_base.specs.Contents.{Contents, bytes_in, bytes_of, joined}
use Rattle.cp_base.specs.Pieces.{patched}
use Rattle.cp_base.specs.Region.{Region}
use Rattle.cp_base.specs.Sets.{RangeSet, free_numbers, is_taken, next_number, ranges_under}
use Rattle.cp_base.specs.Sharing.{source_region}
use Rattle.cp_base.specs.declared.commands.Command.{Command}
use Rattle.cp_base.specs.declared.commands.Command.TheVariants as command
use Rattle.cp_base.specs.declared.limits.TheConstants.{MAX_BUDGET, MAX_PROGRAM, MAX_SETS, MAX_TRANSFER, SLOTS}
use Rattle.cp_base.specs.declared.lists.MemRange.{MemRange}
use Rattle.cp_base.specs.declared.region.SpaceId.{SpaceId}
use Rattle.cp_base.specs.declared.region.SpaceId.TheVariants as space
use Rattle.cp_base.specs.declared.replies.Status.{Status}
use Rattle.cp_base.specs.declared.replies.Status.TheVariants as status
use Rattle.bpf_isa.specs.declared.end.End.{End}
use Rattle.bpf_isa.specs.declared.end.End.TheVariants as end
use Rattle.bpf_isa.specs.declared.insn.Insn.{Insn}
use Rattle.bpf_isa.specs.declared.insn.Insn.TheVariants as insn
use Rattle.bpf_model.specs.Form.{form}
use Rattle.bpf_model.specs.Memory.{Memory, HoldsBytes, windows_of}
use Rattle.bpf_model.specs.Outcome.{EndFits, RunOutcome as Run, outcome}
use Rattle.bpf_model.specs.Walk.{bad_place, instruction_at, is_well_formed, stop_from, units_of}
use Rattle.bpf_model.proofs.Sizes.{ending-fits}
use Rattle.bpf_model.proofs.Windows.{holds-bytes}
use Rattle.device_model.specs.Builtin.{Builtin, Count, Sum, Compare, Classes, builtin_at, common_len, cost_of, ends_with, first_difference, is_forbidden, left_by, marks, marks_of, result_of, window_at}
use Rattle.device_model.specs.Checks.{checks_of, code_of, execute_checks, is_empty_slot, load_checks, refusal_of, refusal_of_program, runnable_checks, slot_bytes}
use Rattle.device_model.specs.Effect.{begun, done, effect_of, read, wrote}
use Rattle.device_model.specs.Execution.{Executable, Loaded, OfDevice, Outcome, executable_in, executed, loaded_or, memory_of, outcome_on, tells, told_of}
use Rattle.device_model.specs.Sized.{AreSizedRanges, HoldBytes, IsSizedAnswer, IsSizedCommand, IsSizedSlot, IsSizedState}
use Rattle.device_model.specs.State.{Slot, State, Empty, Holding, opening, slot_at, with_slot}
use Rattle.device_model.specs.Step.{DeviceStep, refused_or_done}
use Rattle.device_model.proofs.Bytes.{HoldsContents, IsByte, all_patched, at_or, count_in_windows, found, joined_bytes, memory_bytes, opening_bytes, overwritten_bytes, put_bytes, region_bytes, sum_of_marks, sum_of_windows, windows_bytes, with_memory_bytes}

-- ---- answers and outcomes

-- an outcome with a sized answer and a sized state
pub record IsSizedOutcome (o : Outcome) : Type 0 where
  pub answer : IsSizedAnswer o.answer
  pub next : IsSizedState o.next

told_sized : (told : Status) (value : ℕ) → value < 2 ^ 64 → IsSizedAnswer (tells told value)
told_sized told value below = record { result = below; short = omega arith; bytes = All-nil IsByte }

only_sized : (told : Status) → IsSizedAnswer (only_status told)
only_sized told = told_sized told 0 (omega arith)

-- the same state but for its contents
contents_sized : (s : State) (contents : Contents) → IsSizedState s → HoldsContents contents → IsSizedState (record s { contents = contents })
contents_sized s contents h new = record { nvm = new.nvm; mem = new.mem; slots = h.slots; sets = h.sets }

holds : (s : State) → IsSizedState s → HoldsContents s.contents
holds s h = record { nvm = h.nvm; mem = h.mem }

wrote_sized : (s : State) (sp : SpaceId) (start : ℕ) (bytes : List ℕ) → IsSizedState s → HoldBytes bytes → IsSizedOutcome (wrote s sp start bytes)
wrote_sized s sp start bytes h new = record { answer = only_sized status.Ok; next = contents_sized s _ h (put_bytes s.contents sp start bytes (holds s h) new) }

take_short : (n : ℕ) (xs : List ℕ) → length (take n xs) ≤ n
take_short n xs = let h = length-take n xs in grind (arith, nat_tests, h)

read_sized : (s : State) (region : Region) → IsSizedState s → region.len ≤ MAX_TRANSFER → IsSizedOutcome (read s region)
read_sized s region h short = record {
  answer = record { result = omega arith; short = let few : length (bytes_in s.contents region) ≤ region.len = take_short region.len (drop region.start (bytes_of s.contents region.space)) in omega (arith, few, short); bytes = region_bytes s.contents region (holds s h) };
  next = h;
}

-- ---- checks that pass

-- none of the checks fails
abbrev AllPass : List Check → Type 0
AllPass [] = Unit {0}
AllPass (check ∷ checks) = (check.fails ≡ false) × AllPass checks

all_pass_by : (check : Check) (t : Bool) (checks : List Check) → check.fails ≡ t → (first_failing checks ≡ None → AllPass checks)
    → cond t (Some check.status) (first_failing checks) ≡ None → (check.fails ≡ false) × AllPass checks
all_pass_by check true checks e more is = cc
all_pass_by check false checks e more is = (e, more is)

all_pass : (checks : List Check) → first_failing checks ≡ None → AllPass checks
all_pass [] is = tt
all_pass (check ∷ checks) is = all_pass_by check check.fails checks refl (all_pass checks) is

all_pass_later : (front more : List Check) → AllPass (front ++ more) → AllPass more
all_pass_later [] more all = all
all_pass_later (check ∷ front) more all = all_pass_later front more all.1

either_false : (a b : Bool) → (a || b) ≡ false → (a ≡ false) × (b ≡ false)
either_false true b e = absurd cc
either_false false b e = (refl, e)

not_above : (most n : ℕ) → nat_lt most n ≡ false → n ≤ most
not_above most n e = grind (arith, nat_tests, e)

-- ---- what a program gives

-- how an execution ends is told in 64 bits
end_sized : (len budget : ℕ) (e : End) → len ≤ MAX_PROGRAM → budget < 2 ^ 64 → EndFits len e → IsSizedAnswer (told_of budget e)
end_sized len budget (end.Exit value) few below fits = told_sized status.Ok value fits
end_sized len budget (end.BadAccess place) few below fits = told_sized status.BadAccess place (omega (arith, few, fits))
end_sized len budget (end.BadJump place) few below fits = told_sized status.BadJump place (omega (arith, few, fits))
end_sized len budget (end.CallDepth place) few below fits = told_sized status.CallDepth place (omega (arith, few, fits))
end_sized len budget end.BudgetSpent few below fits = told_sized status.BudgetSpent budget below

common_short : (windows : List (List ℕ)) → common_len windows ≤ length (window_at windows 0)
common_short windows = grind (arith, nat_tests)

marks_small : (low high : ℕ) (bytes : List ℕ) → All (λ x. x ≤ 1) (marks_of low high bytes)
marks_small low high [] = All-nil (λ x. x ≤ 1)
marks_small low high (byte ∷ bytes) = All-cons (λ x. x ≤ 1) _ (marks_of low high bytes) (mark_small (nat_le low byte && nat_le byte high)) (marks_small low high bytes)
  where
    mark_small : (b : Bool) → cond {A = ℕ} b 1 0 ≤ 1
    mark_small true = omega arith
    mark_small false = omega arith

marks_bytes : (windows : List (List ℕ)) (p1 p2 : ℕ) → HoldBytes (marks windows p1 p2)
marks_bytes windows p1 p2 = All-weaker (λ x. x ≤ 1) IsByte (λ x few. omega (arith, few)) (marks windows p1 p2) (marks_small _ _ _)

marks_sum : (windows : List (List ℕ)) (p1 p2 : ℕ) → sum (marks windows p1 p2) ≤ common_len windows
marks_sum windows p1 p2 =
    let few = sum_of_marks (marks windows p1 p2) (marks_small _ _ _) in
    let len : length (marks windows p1 p2) ≡ length (take (common_len windows) (window_at windows 0)) = length-map (take (common_len windows) (window_at windows 0)) _ in
    let short = take_short (common_len windows) (window_at windows 0) in
    omega (arith, few, len, short)

found_below : (most at len : ℕ) (b : Bool) → nat_lt at len ≡ b → len ≤ most → most < 2 ^ 64 → unwrap_or (cond b (Some at) None) (2 ^ 64 - 1) < 2 ^ 64
found_below most at len true e few below = grind (arith, nat_tests, e, few, below)
found_below most at len false e few below = omega arith

difference_sized : (a b : List ℕ) → min (length a) (length b) < 2 ^ 64 → unwrap_or (first_difference a b) (2 ^ 64 - 1) < 2 ^ 64
difference_sized a b few =
    let test : ℕ × ℕ → Bool = λ pair. not (pair.0 == pair.1) in
    let len : length (zip a b) ≡ min (length a) (length b) = length-zip a b in
    found_below (min (length a) (length b)) (position_or_len test (zip a b)) (length (zip a b)) (nat_lt (position_or_len test (zip a b)) (length (zip a b))) refl (omega (arith, len)) few

-- a program that costs no more than the budget gives a number of 64 bits
result_sized : (program : Builtin) (windows : List (List ℕ)) (p1 p2 budget : ℕ) → All HoldBytes windows → budget ≤ MAX_BUDGET → cost_of program windows ≤ budget
    → result_of program windows p1 p2 < 2 ^ 64
result_sized Count windows p1 p2 budget all few cost = let h = count_in_windows (λ byte. byte == p1 % 256) windows in omega (arith, few, cost, h)
result_sized Sum windows p1 p2 budget all few cost = let h = sum_of_windows windows all in omega (arith, few, cost, h)
result_sized Compare windows p1 p2 budget all few cost = difference_sized (window_at windows 0) (window_at windows 1) (omega (arith, few, cost))
result_sized Classes windows p1 p2 budget all few cost = let h = marks_sum windows p1 p2 in omega (arith, few, cost, h)

left_bytes : (program : Builtin) (windows : List (List ℕ)) (ranges : List MemRange) (memory : Memory) (p1 p2 : ℕ) → HoldsBytes memory → HoldsBytes (left_by program windows ranges memory p1 p2)
left_bytes Count windows ranges memory p1 p2 h = h
left_bytes Sum windows ranges memory p1 p2 h = h
left_bytes Compare windows ranges memory p1 p2 h = h
left_bytes Classes windows ranges memory p1 p2 h = overwritten_bytes memory _ _ (marks windows p1 p2) h (marks_bytes windows p1 p2)

-- what runs is code of bytes, not too long, or a program of the device
abbrev IsSizedExecutable : Executable → Type 0
IsSizedExecutable (Loaded code) = (length code ≤ MAX_PROGRAM) × HoldBytes code
IsSizedExecutable (OfDevice program) = Unit {0}

-- what an execution leaves and tells: bytes, and an end of 64 bits
record IsSizedRun (budget : ℕ) (run : Run) : Type 0 where
  memory : HoldsBytes run.memory
  told : IsSizedAnswer (told_of budget run.ending)

-- by the tests whether a program of the device costs too much and whether it is forbidden
builtin_by : (program : Builtin) (ranges : List MemRange) (memory : Memory) (p1 p2 budget : ℕ) (dear forbidden : Bool) → HoldsBytes memory → budget ≤ MAX_BUDGET
    → nat_lt budget (cost_of program (windows_of memory ranges)) ≡ dear
    → IsSizedRun budget (if dear then ends_with end.BudgetSpent memory else if forbidden then ends_with (end.BadAccess 0) memory
    else ends_with (end.Exit (result_of program (windows_of memory ranges) p1 p2)) (left_by program (windows_of memory ranges) ranges memory p1 p2))
builtin_by program ranges memory p1 p2 budget true forbidden h few e = record { memory = h; told = told_sized status.BudgetSpent budget (omega (arith, few)) }
builtin_by program ranges memory p1 p2 budget false true h few e = record { memory = h; told = told_sized status.BadAccess 0 (omega arith) }
builtin_by program ranges memory p1 p2 budget false false h few e = record {
  memory = left_bytes program (windows_of memory ranges) ranges memory p1 p2 h;
  told = told_sized status.Ok _ (result_sized program (windows_of memory ranges) p1 p2 budget (windows_bytes memory ranges h) few (not_above budget (cost_of program (windows_of memory ranges)) e));
}

run_sized : (what : Executable) (ranges : List MemRange) (memory : Memory) (p1 p2 budget : ℕ) → HoldsBytes memory → AreSizedRanges ranges → budget ≤ MAX_BUDGET
    → p1 < 2 ^ 64 → p2 < 2 ^ 64 → IsSizedExecutable what → IsSizedRun budget (outcome_on what ranges memory p1 p2 budget)
run_sized (Loaded code) ranges memory p1 p2 budget h sized few a b is = record {
  memory = holds-bytes (instruction_at code) ranges memory p1 p2 budget h;
  told = end_sized (length code) budget (outcome (instruction_at code) ranges memory p1 p2 budget).ending is.0 (omega (arith, few))
      (ending-fits code ranges memory p1 p2 budget h is.1 sized.lengths (let n = sized.few in omega (arith, n)) a b);
}
run_sized (OfDevice program) ranges memory p1 p2 budget h sized few a b is =
    builtin_by program ranges memory p1 p2 budget (nat_lt budget (cost_of program (windows_of memory ranges))) (is_forbidden program (windows_of memory ranges) ranges) h few refl

-- ---- slots

abbrev IsByteOrNone : Option ℕ → Type 0
IsByteOrNone byte = IfSome byte (λ b. b < 256)

-- the bytes of a slot's program
record AreSlotBytes (bytes : List (Option ℕ)) : Type 0 where
  few : length bytes ≤ MAX_PROGRAM
  each : All IsByteOrNone bytes

bytes_of_slot : (slot : Slot) → IsSizedSlot slot → AreSlotBytes (slot_bytes (Some slot))
bytes_of_slot Empty h = record { few = omega arith; each = All-nil IsByteOrNone }
bytes_of_slot (Holding bytes active) h = record { few = h.0; each = h.1 }

bytes_at : (slots : List Slot) (n : ℕ) → All IsSizedSlot slots → AreSlotBytes (slot_bytes (slice_get slots n))
bytes_at [] n all = record { few = omega arith; each = All-nil IsByteOrNone }
bytes_at (slot ∷ slots) zero all = bytes_of_slot slot (All-head IsSizedSlot slot slots all)
bytes_at (slot ∷ slots) (suc n) all = bytes_at slots n (All-tail IsSizedSlot slot slots all)

present_byte : (byte : Option ℕ) → IsByteOrNone byte → unwrap_or byte 0 < 256
present_byte None h = omega arith
present_byte (Some b) h = h

code_sized : (slot : Option Slot) → AreSlotBytes (slot_bytes slot) → (length (code_of slot) ≤ MAX_PROGRAM) × HoldBytes (code_of slot)
code_sized slot h = (
  let len : length (code_of slot) ≡ length (slot_bytes slot) = length-map (slot_bytes slot) _ in let few = h.few in omega (arith, len, few),
  All-map IsByte (λ (byte : Option ℕ). unwrap_or byte 0) (slot_bytes slot) (All-weaker IsByteOrNone (λ byte. unwrap_or byte 0 < 256) present_byte (slot_bytes slot) h.each),
)

begun_by : (slot : Option Slot) (size : ℕ) (empty : Bool) → is_empty_slot slot ≡ empty → (not empty && not (length (slot_bytes slot) == size)) ≡ false
    → AreSlotBytes (slot_bytes slot) → (length (if empty then replicate size None else slot_bytes slot) ≡ size) × All IsByteOrNone (if empty then replicate size None else slot_bytes slot)
begun_by slot size true e same h = (length-replicate size None, All-replicate IsByteOrNone size None tt)
begun_by slot size false e same h = (let is : not (length (slot_bytes slot) == size) ≡ false = same in grind (arith, nat_tests, is), h.each)

patched_len : (old : List (Option ℕ)) (start : ℕ) (items : List (Option ℕ)) → start + length items ≤ length old → length (patched old start items) ≡ length old
patched_len old start items fits =
    let a = length-append (take start old ++ items) (drop (start + length items) old) in
    let b = length-append (take start old) items in
    let t : length (take start old) ≡ start = length-take-le start old (omega (arith, fits)) in
    let d : length (drop (start + length items) old) ≡ length old - (start + length items) = length-drop (start + length items) old in
    omega (arith, a, b, t, d, fits)

loaded_sized : (slot : Option Slot) (size start : ℕ) (bytes : List ℕ) → AreSlotBytes (slot_bytes slot) → HoldBytes bytes → first_failing (load_checks slot size start (length bytes)) ≡ None
    → IsSizedSlot (Holding (patched (begun slot size) start (map (λ byte. Some byte) bytes)) false)
loaded_sized slot size start bytes h new none =
    let pass = all_pass (load_checks slot size start (length bytes)) none in
    let short = not_above MAX_PROGRAM size (either_false (nat_lt MAX_PROGRAM size) (nat_lt MAX_TRANSFER (length bytes)) pass.1.1.1.0).0 in
    let inside = not_above size (start + length bytes) pass.1.1.1.1.0 in
    let old = begun_by slot size (is_empty_slot slot) refl pass.1.1.1.1.1.1.0 h in
    let items : List (Option ℕ) = map (λ byte. Some byte) bytes in
    let len : length items ≡ length bytes = length-map bytes _ in
    let whole = patched_len (begun slot size) start items (omega (arith, inside, old.0, len)) in (
      omega (arith, whole, old.0, short),
      all_patched IsByteOrNone (begun slot size) start items old.1 (All-map IsByteOrNone (λ byte. Some byte) bytes new),
    )

slot_sized : (s : State) (n : ℕ) (slot : Slot) → IsSizedState s → IsSizedSlot slot → IsSizedOutcome (done (with_slot s n slot))
slot_sized s n slot h new = record { answer = only_sized status.Ok; next = record { nvm = h.nvm; mem = h.mem; slots = All-set IsSizedSlot s.slots n slot new h.slots; sets = h.sets } }

-- ---- sets

abbrev IsSizedSet : RangeSet → Type 0
IsSizedSet set = AreSizedRanges set.ranges

numbers_below : (a n : ℕ) → All (λ k. k < a + n) (range_with_len a n)
numbers_below a zero = All-nil (λ k. k < a + zero)
numbers_below a (suc n) =
    All-cons (λ k. k < a + suc n) a (range_with_len (a + 1) n) (omega arith)
    (All-weaker (λ k. k < a + 1 + n) (λ k. k < a + suc n) (λ k below. omega (arith, below)) (range_with_len (a + 1) n) (numbers_below (a + 1) n))

number_sized : (sets : List RangeSet) → next_number sets < 2 ^ 64
number_sized sets =
    let all = All-filter (λ n. not (is_taken sets n)) (λ k. k < 1 + MAX_SETS) (range_with_len 1 MAX_SETS) (numbers_below 1 MAX_SETS) in
    let below : next_number sets < 1 + MAX_SETS = at_or (λ k. k < 1 + MAX_SETS) (free_numbers sets) 0 0 all (omega arith) in
    omega (arith, below)

ranges_by : (o : Option RangeSet) → ((set : RangeSet) → o ≡ Some set → IsSizedSet set) → AreSizedRanges (unwrap_or (option_map (λ (set : RangeSet). set.ranges) o) [])
ranges_by None h = record { few = omega arith; lengths = All-nil (λ (range : MemRange). range.len < 2 ^ 64) }
ranges_by (Some set) h = h set refl

ranges_sized : (sets : List RangeSet) (n : ℕ) → All IsSizedSet sets → AreSizedRanges (unwrap_or (ranges_under sets n) [])
ranges_sized sets n all = ranges_by (find (λ (set : RangeSet). set.number == n) sets) (found IsSizedSet (λ (set : RangeSet). set.number == n) sets all)

-- ---- refusals

units_few : (i : Insn) → units_of i ≤ 2
units_few (insn.LoadImm dst value) = omega arith
units_few _ = omega arith

stop_by : (n : ℕ) (code : List ℕ) (from : ℕ) (o : Option Insn) → ((i : Insn) → stop_from n code (from + units_of i) ≤ from + units_of i + 2 * n)
    → option_map_or (λ i. stop_from n code (from + units_of i)) o from ≤ from + 2 * suc n
stop_by n code from None more = omega arith
stop_by n code from (Some i) more = omega (arith, more i, units_few i)

stop_few : (n : ℕ) (code : List ℕ) (from : ℕ) → stop_from n code from ≤ from + 2 * n
stop_few zero code from = omega arith
stop_few (suc n) code from = stop_by n code from (form code from) (λ i. stop_few n code (from + units_of i))

program_by : (slot : Option Slot) (good : Bool) (told : Answer) → AreSlotBytes (slot_bytes slot)
    → (if good then None else Some (tells status.BadProgram (bad_place (code_of slot)))) ≡ Some told → IsSizedAnswer told
program_by slot true told h is = cc
program_by slot false told h is =
    let code : List ℕ = code_of slot in
    let low = (code_sized slot h).0 in
    let few = stop_few (length code) code 0 in
    let same : tells status.BadProgram (bad_place code) ≡ told = cc in
    subst IsSizedAnswer same (told_sized status.BadProgram (bad_place code) (omega (arith, low, few)))

program_told : (s : State) (cmd : Command) (told : Answer) → IsSizedState s → refusal_of_program s cmd ≡ Some told → IsSizedAnswer told
program_told s (command.Activate slot) told h is = program_by (slot_at s slot) (is_well_formed (code_of (slot_at s slot))) told (bytes_at s.slots slot h.slots) is
program_told s (command.NvmRead ns lba count) told h is = cc
program_told s (command.NvmWrite ns lba bytes) told h is = cc
program_told s (command.NvmZeroes ns lba count) told h is = cc
program_told s (command.NvmCopy ns lba from) told h is = cc
program_told s (command.MemRead ns at len) told h is = cc
program_told s (command.MemWrite ns at bytes) told h is = cc
program_told s (command.MemFill ns at len value) told h is = cc
program_told s (command.MemCopy ns at from) told h is = cc
program_told s (command.SetCreate ranges) told h is = cc
program_told s (command.SetDelete set) told h is = cc
program_told s (command.Load slot size at bytes) told h is = cc
program_told s (command.Unload slot) told h is = cc
program_told s (command.Deactivate slot) told h is = cc
program_told s (command.Execute slot set p1 p2 budget) told h is = cc
program_told s (command.Abort cid) told h is = cc

refused_by : (s : State) (cmd : Command) (f : Option Status) (told : Answer) → IsSizedState s → option_or (option_map only_status f) (refusal_of_program s cmd) ≡ Some told → IsSizedAnswer told
refused_by s cmd None told h is = program_told s cmd told h is
refused_by s cmd (Some st) told h is = let same : only_status st ≡ told = cc in subst IsSizedAnswer same (only_sized st)

-- a refusal is sized
refusal_sized : (c : Configuration) (s : State) (cmd : Command) (told : Answer) → IsSizedState s → refusal_of c s cmd ≡ Some told → IsSizedAnswer told
refusal_sized c s cmd told h is = refused_by s cmd (first_failing (checks_of c s cmd)) told h is

none_failing : (f : Option Status) (more : Option Answer) → option_or (option_map only_status f) more ≡ None → f ≡ None
none_failing None more is = refl
none_failing (Some st) more is = cc

-- ---- effects

executable_by : (slot : Option Slot) (o : Option Builtin) → AreSlotBytes (slot_bytes slot) → IsSizedExecutable (loaded_or slot o)
executable_by slot None h = code_sized slot h
executable_by slot (Some program) h = tt

execution_sized : (c : Configuration) (s : State) (slot set p1 p2 budget : ℕ) → c.budget ≤ MAX_BUDGET → IsSizedState s → p1 < 2 ^ 64 → p2 < 2 ^ 64
    → first_failing (execute_checks c s slot set budget) ≡ None → IsSizedOutcome (executed s slot (ranges_under s.sets set) p1 p2 budget)
execution_sized c s slot set p1 p2 budget most h a b pass =
    let all = all_pass_later (runnable_checks s slot) (refuse (is_none (ranges_under s.sets set)) status.NoSuchSet ∷ refuse ((budget == 0) || nat_lt c.budget budget) status.BudgetRange ∷ [])
    (all_pass (execute_checks c s slot set budget) pass) in
    let few = not_above c.budget budget (either_false (budget == 0) (nat_lt c.budget budget) all.1.0).1 in
    let run = run_sized (executable_in s slot) (unwrap_or (ranges_under s.sets set) []) (memory_of s.contents) p1 p2 budget (memory_bytes s.contents (holds s h))
    (ranges_sized s.sets set h.sets) (omega (arith, most, few)) a b (executable_by (slot_at s slot) (builtin_at slot) (bytes_at s.slots slot h.slots)) in
    record { answer = run.told; next = contents_sized s _ h (with_memory_bytes s.contents _ (holds s h) run.memory) }

-- the effect of a command that passes its checks
effect_sized : (c : Configuration) (s : State) (cmd : Command) → c.budget ≤ MAX_BUDGET → IsSizedState s → IsSizedCommand cmd → first_failing (checks_of c s cmd) ≡ None
    → IsSizedOutcome (effect_of c s cmd)
effect_sized c s (command.NvmRead ns lba count) most h sized pass =
    read_sized s (record { space = space.Nvm ns; start = lba * c.block; len = count * c.block }) h (not_above MAX_TRANSFER (count * c.block) (all_pass (block_checks c ns lba count MAX_TRANSFER) pass).1.1.0)
effect_sized c s (command.NvmWrite ns lba bytes) most h sized pass = wrote_sized s (space.Nvm ns) (lba * c.block) bytes.items h sized
effect_sized c s (command.NvmZeroes ns lba count) most h sized pass =
    wrote_sized s (space.Nvm ns) (lba * c.block) (replicate (count * c.block) 0) h (All-replicate IsByte (count * c.block) 0 (omega arith))
effect_sized c s (command.NvmCopy ns lba from) most h sized pass =
    wrote_sized s (space.Nvm ns) (lba * c.block) (joined s.contents (map (source_region c) from)) h (joined_bytes s.contents (map (source_region c) from) (holds s h))
effect_sized c s (command.MemRead ns at len) most h sized pass =
    read_sized s (record { space = space.Mem ns; start = at; len = len }) h (not_above MAX_TRANSFER len (all_pass (byte_checks (size_of c (space.Mem ns)) at len MAX_TRANSFER) pass).1.1.0)
effect_sized c s (command.MemWrite ns at bytes) most h sized pass = wrote_sized s (space.Mem ns) at bytes.items h sized
effect_sized c s (command.MemFill ns at len value) most h sized pass = wrote_sized s (space.Mem ns) at (replicate len value) h (All-replicate IsByte len value sized)
effect_sized c s (command.MemCopy ns at from) most h sized pass =
    wrote_sized s (space.Mem ns) at (joined s.contents (map (source_region c) from)) h (joined_bytes s.contents (map (source_region c) from) (holds s h))
effect_sized c s (command.SetCreate ranges) most h sized pass =
    let new : RangeSet = record { number = next_number s.sets; ranges = ranges } in
    record {
      answer = told_sized status.Ok (next_number s.sets) (number_sized s.sets);
      next = record {
        nvm = h.nvm;
        mem = h.mem;
        slots = h.slots;
        sets = All-append IsSizedSet (filter (λ (set : RangeSet). nat_lt set.number new.number) s.sets) (new ∷ filter (λ (set : RangeSet). nat_lt new.number set.number) s.sets)
            (All-filter (λ (set : RangeSet). nat_lt set.number new.number) IsSizedSet s.sets h.sets)
            (All-cons IsSizedSet new (filter (λ (set : RangeSet). nat_lt new.number set.number) s.sets) sized
            (All-filter (λ (set : RangeSet). nat_lt new.number set.number) IsSizedSet s.sets h.sets));
      };
    }
effect_sized c s (command.SetDelete set) most h sized pass = record {
  answer = only_sized status.Ok;
  next = record { nvm = h.nvm; mem = h.mem; slots = h.slots; sets = All-filter (λ (other : RangeSet). not (other.number == set)) IsSizedSet s.sets h.sets };
}
effect_sized c s (command.Load slot size at bytes) most h sized pass =
    slot_sized s slot _ h (loaded_sized (slot_at s slot) size at bytes.items (bytes_at s.slots slot h.slots) sized pass)
effect_sized c s (command.Unload slot) most h sized pass = slot_sized s slot Empty h tt
effect_sized c s (command.Activate slot) most h sized pass = let old = bytes_at s.slots slot h.slots in slot_sized s slot _ h (old.few, old.each)
effect_sized c s (command.Deactivate slot) most h sized pass = let old = bytes_at s.slots slot h.slots in slot_sized s slot _ h (old.few, old.each)
effect_sized c s (command.Execute slot set p1 p2 budget) most h sized pass = execution_sized c s slot set p1 p2 budget most h sized.0 sized.1 pass
effect_sized c s (command.Abort cid) most h sized pass = record { answer = told_sized status.Ok 1 (omega arith); next = h }

-- ---- steps

outcome_by : (c : Configuration) (s : State) (cmd : Command) (refusal : Option Answer) → c.budget ≤ MAX_BUDGET → IsSizedState s → IsSizedCommand cmd → refusal_of c s cmd ≡ refusal
    → IsSizedOutcome (refused_or_done s refusal (effect_of c s cmd))
outcome_by c s cmd (Some told) most h sized e = record { answer = refusal_sized c s cmd told h e; next = h }
outcome_by c s cmd None most h sized e = effect_sized c s cmd most h sized (none_failing (first_failing (checks_of c s cmd)) (refusal_of_program s cmd) e)

unchanged_sized : (s : State) (answer told : Answer) (next : State) → IsSizedState s → IsSizedAnswer told → answer ≡ told → next ≡ s → IsSizedOutcome (record { answer = answer; next = next })
unchanged_sized s answer told next h new a n = record { answer = subst IsSizedAnswer (sym a) new; next = subst IsSizedState (sym n) h }

-- each step of the device
pub step_sized : (c : Configuration) (s : State) (cmd : Command) (answer : Answer) (next : State) → c.budget ≤ MAX_BUDGET → IsSizedState s → IsSizedCommand cmd
    → DeviceStep c s cmd answer next → IsSizedOutcome (record { answer = answer; next = next })
step_sized c s cmd answer next most h sized (inl is) = subst IsSizedOutcome is (outcome_by c s cmd (refusal_of c s cmd) most h sized refl)
step_sized c s cmd answer next most h sized (inr (inl lacks)) = unchanged_sized s answer (only_status status.NoMemory) next h (only_sized status.NoMemory) lacks.told lacks.unchanged
step_sized c s cmd answer next most h sized (inr (inr (inl gone))) = unchanged_sized s answer (only_status status.Aborted) next h (only_sized status.Aborted) gone.told gone.unchanged
step_sized c s cmd answer next most h sized (inr (inr (inr by))) = unchanged_sized s answer (only_status status.Ok) next h (only_sized status.Ok) by.told by.unchanged

-- the opening state
pub opening_sized : (c : Configuration) → IsSizedState (opening c)
opening_sized c =
    let h = opening_bytes c in
    record { nvm = h.nvm; mem = h.mem; slots = All-replicate IsSizedSlot SLOTS Empty tt; sets = All-nil IsSizedSet }
