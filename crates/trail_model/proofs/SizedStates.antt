-- A sized command answers what is sized, and leaves a sized state.
use Rattle.std.proofs.Common.{◌≡◌, ℕ, zero, suc, ◌+◌, ◌*◌, ◌<◌, ◌≤◌, ◌^◌, ◌==◌, Bool, true, false, not, ◌&&◌, ◌||◌, cond, List, [], ◌∷◌, ◌++◌, length, map, take, drop, replicate, filter, find, slice_get, slice_set, Option, Some, None, is_none, option_map, unwrap_or, refl, sym, subst, arith, if◌then◌else◌, nat_lt}
use Rattle.std.specs.List.{AllByRecursion, range_with_len}
use Rattle.std.specs.Option.{option_or, option_map_or}
use Rattle.std.proofs.lemmas.Bool.{true≢false}
use Rattle.std.proofs.lemmas.Bool.Decides.{nat_tests}
use Rattle.std.proofs.lemmas.List.{length-replicate, length-map}
use Rattle.std.proofs.lemmas.Option.{slice_get_within, get_or_from_slice_get}
use Rattle.cp_base.specs.Answer.{Answer, only_status}
use Rattle.cp_base.specs.Buffer.{Buffer}
use Rattle.cp_base.specs.Checks.{block_checks, byte_checks, first_failing, refuse}
use Rattle.cp_base.specs.Configuration.{Configuration, IsWithinLimits, numbered, present, size_of}
use Rattle.cp_base.specs.Pieces.{patched}
use Rattle.cp_base.specs.Region.{Region}
use Rattle.cp_base.specs.Sets.{RangeSet, next_number, ranges_under, free_numbers, is_taken}
use Rattle.cp_base.specs.Sharing.{range_region, source_region}
use Rattle.cp_base.specs.declared.commands.Command.{Command}
use Rattle.cp_base.specs.declared.commands.Command.TheVariants as command
use Rattle.cp_base.specs.declared.limits.TheConstants.{MAX_BUDGET, MAX_PROGRAM, MAX_SETS, MAX_TRANSFER}
use Rattle.cp_base.specs.declared.lists.MemRange.{MemRange}
use Rattle.cp_base.specs.declared.region.SpaceId.{SpaceId}
use Rattle.cp_base.specs.declared.region.SpaceId.TheVariants as space
use Rattle.cp_base.specs.declared.replies.Status.{Status}
use Rattle.cp_base.specs.declared.replies.Status.TheVariants as status
use Rattle.bpf_isa.specs.declared.end.End.{End}
use Rattle.bpf_isa.specs.declared.end.End.TheVariants as end
use Rattle.bpf_isa.specs.declared.insn.Insn.{Insn}
use Rattle.bpf_isa.specs.declared.insn.Insn.TheVariants as insn
use Rattle.bpf_model.specs.Form.{form}
use Rattle.bpf_model.specs.Memory.{Memory, HoldsBytes}
use Rattle.bpf_model.specs.Walk.{bad_place, is_well_formed, stop_from, units_of}
use Rattle.device_model.specs.Builtin.{Builtin, builtin_at}
use Rattle.device_model.specs.Checks.{checks_of, code_of, execute_checks, is_empty_slot, load_checks, program_refusal, refusal_of, refusal_of_program, runnable_checks, slot_bytes}
use Rattle.device_model.specs.Effect.{begun, effect_of}
use Rattle.device_model.specs.Execution.{Executable, Outcome, executable_in, loaded_or, outcome_on, tells, told_of}
use Rattle.device_model.specs.Memory.{moves_bytes}
use Rattle.device_model.specs.State.{Empty, Holding, Slot, State, slot_at, with_slot}
use Rattle.device_model.specs.Step.{outcome_of, refused_or_done}
use Rattle.trail_model.specs.Fits.{StateFits}
use Rattle.trail_model.specs.Footprints.{Execution, execution_of, writable_ranges}
use Rattle.trail_model.specs.LocalEffects.{LocalEffect, memory_among, ranges_with, written}
use Rattle.trail_model.specs.Pieces.{AllBytes, all_bytes, gathered}
use Rattle.trail_model.specs.Sized.{AnswerSized, CommandSized, EachByte}
use Rattle.trail_model.proofs.Bytes.{AreInContents, length-gathered, length-patched}
use Rattle.trail_model.proofs.Carrying.{written-regions, written-whole}
use Rattle.trail_model.proofs.NewSets.{each-filter}
use Rattle.trail_model.proofs.Passing.{Passes, all-pass, behind-passes, lies-inside, passes}
use Rattle.trail_model.proofs.SizedBytes.{AllAreBytes, EachPiece, gathered-bytes, joined-bytes, put_pieces-bytes, replicate-bytes}
use Rattle.trail_model.proofs.SizedRuns.{AreFewRanges, CodeSized, RunsSized, from-bytes, run-bytes, run-told}
use Rattle.trail_model.proofs.Submits.{each-append, none-some, some-same}
use Rattle.trail_model.proofs.Written.{effect-written}

-- a byte of a program, or a missing one
abbrev ByteOrNone : Option ℕ → Type 0
ByteOrNone None = Unit {0}
ByteOrNone (Some byte) = byte < 256

abbrev pub SlotSized : Slot → Type 0
SlotSized Empty = Unit {0}
SlotSized (Holding bytes active) = AllByRecursion ByteOrNone bytes × (length bytes ≤ 65536)

-- all bytes are bytes, programs have at most as many as may be, and sets as many ranges
pub record StateSized (s : State) : Type 0 where
  pub bytes : AllAreBytes (all_bytes s.contents)
  pub slots : AllByRecursion SlotSized s.slots
  pub sets : AllByRecursion (λ (set : RangeSet). length set.ranges ≤ 16) s.sets

-- ---- answers

plain-answer : (st : Status) (n : ℕ) → n < 2 ^ 64 → AnswerSized (tells st n)
plain-answer st n small = record { result = small; few = omega arith; bytes = tt }

not-over : (most n : ℕ) → nat_lt most n ≡ false → n ≤ most
not-over most n e = grind (arith, nat_tests)

-- ---- slots

slot-sized : (slots : List Slot) (n : ℕ) (slot : Slot) → AllByRecursion SlotSized slots → slice_get slots n ≡ Some slot → SlotSized slot
slot-sized [] n slot all e = absurd (none-some slot e)
slot-sized (x ∷ slots) zero slot all e = subst SlotSized (some-same x slot e) all.0
slot-sized (x ∷ slots) (suc n) slot all e = slot-sized slots n slot all.1 e

slot-set : (slots : List Slot) (n : ℕ) (slot : Slot) → AllByRecursion SlotSized slots → SlotSized slot → AllByRecursion SlotSized (slice_set slots n slot)
slot-set [] n slot all new = tt
slot-set (x ∷ slots) zero slot all new = (new, all.1)
slot-set (x ∷ slots) (suc n) slot all new = (all.0, slot-set slots n slot all.1 new)

abbrev OptionSized : Option Slot → Type 0
OptionSized None = Unit {0}
OptionSized (Some slot) = SlotSized slot

at-sized : (s : State) (n : ℕ) → StateSized s → OptionSized (slot_at s n)
at-sized s n sized = by_found (slot_at s n) refl
  where
    by_found : (o : Option Slot) → slot_at s n ≡ o → OptionSized o
    by_found None e = tt
    by_found (Some slot) e = slot-sized s.slots n slot sized.slots e

code-bytes : (bytes : List (Option ℕ)) → AllByRecursion ByteOrNone bytes → EachByte (map (λ (byte : Option ℕ). unwrap_or byte 0) bytes)
code-bytes [] all = tt
code-bytes (None ∷ bytes) all = (omega arith, code-bytes bytes all.1)
code-bytes (Some b ∷ bytes) all = (all.0, code-bytes bytes all.1)

code-sized : (o : Option Slot) → OptionSized o → CodeSized (code_of o)
code-sized None sized = record { bytes = tt; short = omega arith }
code-sized (Some Empty) sized = record { bytes = tt; short = omega arith }
code-sized (Some (Holding bytes active)) sized = record {
  bytes = code-bytes bytes sized.0;
  short = (let a = length-map bytes (λ (byte : Option ℕ). unwrap_or byte 0) in let b = sized.1 in omega arith);
}

held-sized : (o : Option Slot) → OptionSized o → AllByRecursion ByteOrNone (slot_bytes o) × (length (slot_bytes o) ≤ 65536)
held-sized None sized = (tt, omega arith)
held-sized (Some Empty) sized = (tt, omega arith)
held-sized (Some (Holding bytes active)) sized = sized

-- ---- the place of a bad program

units-few : (i : Insn) → units_of i ≤ 2
units-few (insn.LoadImm dst value) = omega arith
units-few i = omega arith

stop-few : (n : ℕ) (code : List ℕ) (from : ℕ) → stop_from n code from ≤ from + 2 * n
stop-few zero code from = omega arith
stop-few (suc n) code from = by_form (form code from) (λ next. stop-few n code next)
  where
    by_form : (o : Option Insn) → ((next : ℕ) → stop_from n code next ≤ next + 2 * n) → option_map_or (λ i. stop_from n code (from + units_of i)) o from ≤ from + 2 * suc n
    by_form None later = omega arith
    by_form (Some i) later = let a = later (from + units_of i) in let b = units-few i in omega arith

program-sized : (o : Option Slot) (a : Answer) → OptionSized o → program_refusal o ≡ Some a → AnswerSized a
program-sized o a sized e = by_test (is_well_formed (code_of o)) e
  where
    by_test : (b : Bool) → (if b then None else Some (let x : Answer = record { status = status.BadProgram; result = bad_place (code_of o); bytes = [] } in x)) ≡ Some a → AnswerSized a
    by_test true e = absurd (none-some a e)
    by_test false e = subst AnswerSized (some-same (let x : Answer = record { status = status.BadProgram; result = bad_place (code_of o); bytes = [] } in x) a e)
        (plain-answer status.BadProgram (bad_place (code_of o))
        (let a = stop-few (length (code_of o)) (code_of o) 0 in let b = (code-sized o sized).short in omega arith))

refusal-program : (s : State) (cmd : Command) (a : Answer) → StateSized s → refusal_of_program s cmd ≡ Some a → AnswerSized a
refusal-program s (command.Activate slot) a sized e = program-sized (slot_at s slot) a (at-sized s slot sized) e
refusal-program s cmd a sized e = absurd (none-some a e)

pub refusal-sized : (c : Configuration) (s : State) (cmd : Command) (a : Answer) → StateSized s → refusal_of c s cmd ≡ Some a → AnswerSized a
refusal-sized c s cmd a sized e = by_first (first_failing (checks_of c s cmd)) e
  where
    by_first : (o : Option Status) → option_or (option_map only_status o) (refusal_of_program s cmd) ≡ Some a → AnswerSized a
    by_first None e = refusal-program s cmd a sized e
    by_first (Some st) e = subst AnswerSized (some-same (only_status st) a e) (plain-answer st 0 (omega arith))

-- ---- executions

memory-size : (c : Configuration) (ns : ℕ) → IsWithinLimits c → unwrap_or (size_of c (space.Mem ns)) 0 ≤ 16777216
memory-size c ns limits = by_number (numbered c.mem ns) refl
  where
    by_zero : (n : ℕ) (b : Bool) → n ≤ 16777216 → unwrap_or (if b then None else Some (n * 1)) 0 ≤ 16777216
    by_zero n true less = omega arith
    by_zero n false less = omega arith

    found : (n : ℕ) (ns : ℕ) → numbered c.mem ns ≡ Some n → n ≤ 16777216
    found n zero e = absurd (none-some n e)
    found n (suc k) e =
        let within = slice_get_within c.mem k n e in
        let at = limits.mem_sizes k n within in
        let same = get_or_from_slice_get c.mem k n n e in
        omega arith

    by_number : (o : Option ℕ) → numbered c.mem ns ≡ o → unwrap_or (present 1 o) 0 ≤ 16777216
    by_number None e = omega arith
    by_number (Some n) e = by_zero n (n == 0) (found n ns e)

ranges-short : (c : Configuration) (s : State) (ranges : List MemRange) → IsWithinLimits c → StateFits c s → AreInContents s.contents (map range_region ranges)
    → AllByRecursion (λ (r : MemRange). r.len ≤ 16777216) ranges
ranges-short c s [] limits fits inside = tt
ranges-short c s (r ∷ ranges) limits fits inside =
    let a = fits.sizes (space.Mem r.ns) in
    let b = memory-size c r.ns limits in
    let d = inside.0 in
    (omega arith, ranges-short c s ranges limits fits inside.1)

found-few : (sets : List RangeSet) (n : ℕ) → AllByRecursion (λ (set : RangeSet). length set.ranges ≤ 16) sets → length (unwrap_or (ranges_under sets n) []) ≤ 16
found-few [] n all = omega arith
found-few (x ∷ sets) n all = by_test (x.number == n) (found-few sets n all.1)
  where
    by_test : (b : Bool) → length (unwrap_or (ranges_under sets n) []) ≤ 16
        → length (unwrap_or (option_map (λ (set : RangeSet). set.ranges) (cond b (Some x) (find (λ (set : RangeSet). set.number == n) sets))) []) ≤ 16
    by_test true later = all.0
    by_test false later = later

runs-sized : (s : State) (slot : ℕ) → StateSized s → RunsSized (executable_in s slot)
runs-sized s slot sized = by_kind (builtin_at slot)
  where
    by_kind : (o : Option Builtin) → RunsSized (loaded_or (slot_at s slot) o)
    by_kind None = code-sized (slot_at s slot) (at-sized s slot sized)
    by_kind (Some program) = tt

budget-small : (c : Configuration) (s : State) (slot set budget : ℕ) → IsWithinLimits c → Passes (execute_checks c s slot set budget) → budget < 2 ^ 64
budget-small c s slot set budget limits e =
    let behind = behind-passes (runnable_checks s slot)
    (refuse (is_none (ranges_under s.sets set)) status.NoSuchSet ∷ refuse ((budget == 0) || nat_lt c.budget budget) status.BudgetRange ∷ []) e in
    let test = (all-pass (refuse (is_none (ranges_under s.sets set)) status.NoSuchSet ∷ refuse ((budget == 0) || nat_lt c.budget budget) status.BudgetRange ∷ []) behind).1.0 in
    let less = not-over c.budget budget (second (budget == 0) (nat_lt c.budget budget) test) in
    let most : c.budget ≤ MAX_BUDGET = limits.budget.1 in
    omega arith
  where
    second : (a b : Bool) → (a || b) ≡ false → b ≡ false
    second true b e = absurd (true≢false e)
    second false b e = e

ranges-bytes : (memory : Memory) (ranges : List MemRange) → HoldsBytes memory → EachPiece (ranges_with memory ranges)
ranges-bytes memory [] held = tt
ranges-bytes memory (r ∷ ranges) held = (from-bytes memory r.ns r.at r.len held, ranges-bytes memory ranges held)

-- ---- commands that move bytes

pub record WrittenSized (effect : LocalEffect) : Type 0 where
  pub answer : AnswerSized effect.answer
  pub pieces : EachPiece effect.pieces

gave-sized : (all : AllBytes) (s : SpaceId) (start len : ℕ) → AllAreBytes all → len ≤ 8192
    → AnswerSized (let a : Answer = record { status = status.Ok; result = 0; bytes = gathered all s start len } in a)
gave-sized all s start len bytes few = record { result = omega arith; few = (let e = length-gathered all s start len in omega arith); bytes = gathered-bytes all s start len bytes }

written-sized : (c : Configuration) (s : State) (cmd : Command) → IsWithinLimits c → StateFits c s → StateSized s → CommandSized cmd → refusal_of c s cmd ≡ None
    → WrittenSized (written c (execution_of s cmd) (all_bytes s.contents) cmd)
written-sized c s (command.NvmRead ns lba count) limits fits sized small e =
    let p = all-pass (block_checks c ns lba count MAX_TRANSFER) (passes c s (command.NvmRead ns lba count) e) in
    record { answer = gave-sized (all_bytes s.contents) (space.Nvm ns) (lba * c.block) (count * c.block) sized.bytes (not-over MAX_TRANSFER (count * c.block) p.1.1.0); pieces = tt }
written-sized c s (command.NvmWrite ns lba bytes) limits fits sized small e = record { answer = plain-answer status.Ok 0 (omega arith); pieces = (small, tt) }
written-sized c s (command.NvmZeroes ns lba count) limits fits sized small e =
    record { answer = plain-answer status.Ok 0 (omega arith); pieces = (replicate-bytes (count * c.block) 0 (omega arith), tt) }
written-sized c s (command.NvmCopy ns lba from) limits fits sized small e =
    record { answer = plain-answer status.Ok 0 (omega arith); pieces = (joined-bytes (all_bytes s.contents) (map (source_region c) from) sized.bytes, tt) }
written-sized c s (command.MemRead ns at len) limits fits sized small e =
    let p = all-pass (byte_checks (size_of c (space.Mem ns)) at len MAX_TRANSFER) (passes c s (command.MemRead ns at len) e) in
    record { answer = gave-sized (all_bytes s.contents) (space.Mem ns) at len sized.bytes (not-over MAX_TRANSFER len p.1.1.0); pieces = tt }
written-sized c s (command.MemWrite ns at bytes) limits fits sized small e = record { answer = plain-answer status.Ok 0 (omega arith); pieces = (small, tt) }
written-sized c s (command.MemFill ns at len value) limits fits sized small e = record { answer = plain-answer status.Ok 0 (omega arith); pieces = (replicate-bytes len value small, tt) }
written-sized c s (command.MemCopy ns at from) limits fits sized small e =
    record { answer = plain-answer status.Ok 0 (omega arith); pieces = (joined-bytes (all_bytes s.contents) (map (source_region c) from) sized.bytes, tt) }
written-sized c s (command.Execute slot set p1 p2 budget) limits fits sized small e =
    let x : Executable = executable_in s slot in
    let ranges : List MemRange = unwrap_or (ranges_under s.sets set) [] in
    let held : HoldsBytes (memory_among (all_bytes s.contents)) = λ ns k. sized.bytes (space.Mem ns) k in
    let inside = (lies-inside c s (command.Execute slot set p1 p2 budget) fits e).reads in
    let few : AreFewRanges ranges = record { few = found-few s.sets set sized.sets; short = ranges-short c s ranges limits fits inside } in
    record {
      answer = told-answer budget (outcome_on x ranges (memory_among (all_bytes s.contents)) p1 p2 budget).ending
          (run-told x ranges (memory_among (all_bytes s.contents)) p1 p2 budget held (runs-sized s slot sized) few small.0 small.1
          (budget-small c s slot set budget limits (passes c s (command.Execute slot set p1 p2 budget) e)));
      pieces = ranges-bytes (outcome_on x ranges (memory_among (all_bytes s.contents)) p1 p2 budget).memory (writable_ranges ranges)
          (run-bytes x ranges (memory_among (all_bytes s.contents)) p1 p2 budget held);
    }
  where
    told-answer : (budget : ℕ) (ending : End) → (told_of budget ending).result < 2 ^ 64 → AnswerSized (told_of budget ending)
    told-answer budget (end.Exit value) small = plain-answer status.Ok value small
    told-answer budget (end.BadAccess place) small = plain-answer status.BadAccess place small
    told-answer budget (end.BadJump place) small = plain-answer status.BadJump place small
    told-answer budget (end.CallDepth place) small = plain-answer status.CallDepth place small
    told-answer budget end.BudgetSpent small = plain-answer status.BudgetSpent budget small
written-sized c s cmd limits fits sized small e = record { answer = record { result = omega arith; few = omega arith; bytes = tt }; pieces = tt }

-- ---- commands that change tables

patched-sized : (old : List (Option ℕ)) (start : ℕ) (items : List (Option ℕ)) → AllByRecursion ByteOrNone old → AllByRecursion ByteOrNone items → AllByRecursion ByteOrNone (patched old start items)
patched-sized old start items all new =
    each-append ByteOrNone (take start old ++ items) (drop (start + length items) old)
    (each-append ByteOrNone (take start old) items (take-each start old all) new) (drop-each (start + length items) old all)
  where
    take-each : (n : ℕ) (xs : List (Option ℕ)) → AllByRecursion ByteOrNone xs → AllByRecursion ByteOrNone (take n xs)
    take-each zero xs all = tt
    take-each (suc n) [] all = tt
    take-each (suc n) (x ∷ xs) all = (all.0, take-each n xs all.1)

    drop-each : (n : ℕ) (xs : List (Option ℕ)) → AllByRecursion ByteOrNone xs → AllByRecursion ByteOrNone (drop n xs)
    drop-each zero xs all = all
    drop-each (suc n) [] all = tt
    drop-each (suc n) (x ∷ xs) all = drop-each n xs all.1

some-bytes : (bytes : List ℕ) → EachByte bytes → AllByRecursion ByteOrNone (map (λ byte. Some byte) bytes)
some-bytes [] all = tt
some-bytes (b ∷ bytes) all = (all.0, some-bytes bytes all.1)

none-bytes : (n : ℕ) → AllByRecursion ByteOrNone (replicate n None)
none-bytes zero = tt
none-bytes (suc n) = (tt, none-bytes n)

begun-sized : (o : Option Slot) (size : ℕ) → OptionSized o → AllByRecursion ByteOrNone (begun o size)
begun-sized o size sized = by_test (is_empty_slot o)
  where
    by_test : (b : Bool) → AllByRecursion ByteOrNone (if b then replicate size None else slot_bytes o)
    by_test true = none-bytes size
    by_test false = (held-sized o sized).0

-- a loaded program is as long as its size
begun-length : (o : Option Slot) (size at len : ℕ) → Passes (load_checks o size at len) → length (begun o size) ≡ size
begun-length o size at len e = by_test (is_empty_slot o) (all-pass (load_checks o size at len) e).1.1.1.1.1.1.0
  where
    by_size : (b : Bool) → (length (slot_bytes o) == size) ≡ b → not b ≡ false → length (slot_bytes o) ≡ size
    by_size true h e = grind (arith, nat_tests)
    by_size false h e = absurd (true≢false e)

    by_test : (b : Bool) → (not b && not (length (slot_bytes o) == size)) ≡ false → length (if b then replicate size None else slot_bytes o) ≡ size
    by_test true e = length-replicate size None
    by_test false e = by_size (length (slot_bytes o) == size) refl e

load-sized : (c : Configuration) (s : State) (slot size at : ℕ) (bytes : Buffer) → StateSized s → EachByte bytes.items → refusal_of c s (command.Load slot size at bytes) ≡ None
    → SlotSized (Holding (patched (begun (slot_at s slot) size) at (map (λ byte. Some byte) bytes.items)) false)
load-sized c s slot size at bytes sized small e =
    let o : Option Slot = slot_at s slot in
    let checks = passes c s (command.Load slot size at bytes) e in
    let p = all-pass (load_checks o size at (length bytes.items)) checks in
    let items : List (Option ℕ) = map (λ byte. Some byte) bytes.items in
    let a : length items ≡ length bytes.items = length-map bytes.items (λ (byte : ℕ). Some byte) in
    let b : length (begun o size) ≡ size = begun-length o size at (length bytes.items) checks in
    let fits : at + length bytes.items ≤ size = not-over size (at + length bytes.items) p.1.1.1.1.0 in
    let short : size ≤ MAX_PROGRAM = not-over MAX_PROGRAM size (first (nat_lt MAX_PROGRAM size) (nat_lt MAX_TRANSFER (length bytes.items)) p.1.1.1.0) in
    let d = length-patched (begun o size) at items (omega arith) in
    (patched-sized (begun o size) at items (begun-sized o size (at-sized s slot sized)) (some-bytes bytes.items small), omega arith)
  where
    first : (a b : Bool) → (a || b) ≡ false → a ≡ false
    first true b e = absurd (true≢false e)
    first false b e = refl

next-small : (sets : List RangeSet) → next_number sets ≤ 255
next-small sets = by_free (free_numbers sets) refl
  where
    member : (test : ℕ → Bool) (a n f : ℕ) (fs : List ℕ) → filter test (range_with_len a n) ≡ f ∷ fs → f < a + n
    member test a zero f fs e = cc
    member test a (suc n) f fs e = by_test (test a) e (member test (a + 1) n f fs)
      where
        by_test : (b : Bool) → cond b (a ∷ filter test (range_with_len (a + 1) n)) (filter test (range_with_len (a + 1) n)) ≡ f ∷ fs
            → (filter test (range_with_len (a + 1) n) ≡ f ∷ fs → f < a + 1 + n) → f < a + suc n
        by_test true e later = let same : a ≡ f = cc in omega arith
        by_test false e later = let h = later e in omega arith

    below : (most : ℕ) (free : List ℕ) → filter (λ n. not (is_taken sets n)) (range_with_len 1 most) ≡ free → unwrap_or (slice_get free 0) 0 ≤ most
    below most [] e = omega arith
    below most (f ∷ fs) e = let h = member (λ n. not (is_taken sets n)) 1 most f fs e in omega arith

    by_free : (free : List ℕ) → free_numbers sets ≡ free → unwrap_or (slice_get free 0) 0 ≤ MAX_SETS
    by_free free e = below MAX_SETS free e

pub record EffectSized (o : Outcome) : Type 0 where
  pub answer : AnswerSized o.answer
  pub next : StateSized o.next

moved-sized : (c : Configuration) (s : State) (cmd : Command) → IsWithinLimits c → StateFits c s → StateSized s → CommandSized cmd → refusal_of c s cmd ≡ None → moves_bytes cmd ≡ true
    → EffectSized (effect_of c s cmd)
moved-sized c s cmd limits fits sized small e moves =
    let x : Execution = execution_of s cmd in
    let effect : LocalEffect = written c x (all_bytes s.contents) cmd in
    let h = written-sized c s cmd limits fits sized small e in
    subst EffectSized (sym (effect-written c s cmd fits e moves)) (record {
      answer = h.answer;
      next = record {
        bytes = put_pieces-bytes s.contents effect.pieces (written-whole c x (all_bytes s.contents) cmd)
            (subst (λ (rs : List Region). AreInContents s.contents rs) (sym (written-regions c x (all_bytes s.contents) cmd)) (lies-inside c s cmd fits e).writes) h.pieces sized.bytes;
        slots = sized.slots;
        sets = sized.sets;
      };
    })

with-slot-sized : (s : State) (n : ℕ) (slot : Slot) → StateSized s → SlotSized slot → StateSized (with_slot s n slot)
with-slot-sized s n slot sized new = record { bytes = sized.bytes; slots = slot-set s.slots n slot sized.slots new; sets = sized.sets }

done-sized : (s : State) → StateSized s → EffectSized (let o : Outcome = record { answer = only_status status.Ok; next = s } in o)
done-sized s sized = record { answer = plain-answer status.Ok 0 (omega arith); next = sized }

pub effect-sized : (c : Configuration) (s : State) (cmd : Command) → IsWithinLimits c → StateFits c s → StateSized s → CommandSized cmd → refusal_of c s cmd ≡ None
    → EffectSized (effect_of c s cmd)
effect-sized c s (command.SetCreate ranges) limits fits sized small e = record {
  answer = plain-answer status.Ok (next_number s.sets) (let a = next-small s.sets in omega arith);
  next = record {
    bytes = sized.bytes;
    slots = sized.slots;
    sets = each-append (λ (set : RangeSet). length set.ranges ≤ 16) (filter _ s.sets) (record { number = next_number s.sets; ranges = ranges } ∷ filter _ s.sets)
        (each-filter (λ (set : RangeSet). length set.ranges ≤ 16) _ s.sets sized.sets) (small, each-filter (λ (set : RangeSet). length set.ranges ≤ 16) _ s.sets sized.sets);
  };
}
effect-sized c s (command.SetDelete set) limits fits sized small e =
    done-sized _ (record { bytes = sized.bytes; slots = sized.slots; sets = each-filter (λ (x : RangeSet). length x.ranges ≤ 16) _ s.sets sized.sets })
effect-sized c s (command.Load slot size at bytes) limits fits sized small e = done-sized _ (with-slot-sized s slot _ sized (load-sized c s slot size at bytes sized small e))
effect-sized c s (command.Unload slot) limits fits sized small e = done-sized _ (with-slot-sized s slot Empty sized tt)
effect-sized c s (command.Activate slot) limits fits sized small e = done-sized _ (with-slot-sized s slot _ sized (held-sized (slot_at s slot) (at-sized s slot sized)))
effect-sized c s (command.Deactivate slot) limits fits sized small e = done-sized _ (with-slot-sized s slot _ sized (held-sized (slot_at s slot) (at-sized s slot sized)))
effect-sized c s (command.Abort cid) limits fits sized small e = record { answer = plain-answer status.Ok 1 (omega arith); next = sized }
effect-sized c s (command.NvmRead ns lba count) limits fits sized small e = moved-sized c s (command.NvmRead ns lba count) limits fits sized small e refl
effect-sized c s (command.NvmWrite ns lba bytes) limits fits sized small e = moved-sized c s (command.NvmWrite ns lba bytes) limits fits sized small e refl
effect-sized c s (command.NvmZeroes ns lba count) limits fits sized small e = moved-sized c s (command.NvmZeroes ns lba count) limits fits sized small e refl
effect-sized c s (command.NvmCopy ns lba from) limits fits sized small e = moved-sized c s (command.NvmCopy ns lba from) limits fits sized small e refl
effect-sized c s (command.MemRead ns at len) limits fits sized small e = moved-sized c s (command.MemRead ns at len) limits fits sized small e refl
effect-sized c s (command.MemWrite ns at bytes) limits fits sized small e = moved-sized c s (command.MemWrite ns at bytes) limits fits sized small e refl
effect-sized c s (command.MemFill ns at len value) limits fits sized small e = moved-sized c s (command.MemFill ns at len value) limits fits sized small e refl
effect-sized c s (command.MemCopy ns at from) limits fits sized small e = moved-sized c s (command.MemCopy ns at from) limits fits sized small e refl
effect-sized c s (command.Execute slot set p1 p2 budget) limits fits sized small e = moved-sized c s (command.Execute slot set p1 p2 budget) limits fits sized small e refl

pub outcome-sized : (c : Configuration) (s : State) (cmd : Command) → IsWithinLimits c → StateFits c s → StateSized s → CommandSized cmd → EffectSized (outcome_of c s cmd)
outcome-sized c s cmd limits fits sized small = by_refusal (refusal_of c s cmd) refl
  where
    by_refusal : (o : Option Answer) → refusal_of c s cmd ≡ o → EffectSized (refused_or_done s o (effect_of c s cmd))
    by_refusal None e = effect-sized c s cmd limits fits sized small e
    by_refusal (Some a) e = record { answer = refusal-sized c s cmd a sized e; next = sized }
