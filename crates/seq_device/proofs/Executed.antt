-- Executions: the ranges that they run on, and what they leave.
use Rattle.std.proofs.Common.{◌≡◌, ℕ, zero, suc, ◌+◌, ◌*◌, ◌<◌, ◌≤◌, ◌==◌, Bool, true, false, ◌||◌, if◌then◌else◌, nat_lt, List, [], ◌∷◌, ◌++◌, All, Option, Some, None, Result, Ok, Err, IfOk, OnOk, OnErr, option_map, unwrap_or, is_none, length, map, slice_get, refl, sym, ap, subst, ◌∙◌, arith}
use Rattle.std.proofs.lemmas.Bool.{true≢false}
use Rattle.std.proofs.lemmas.Bool.Decides.{nat_tests}
use Rattle.std.proofs.lemmas.Option.{get_or_from_slice_get, slice_get_within}
use Rattle.std.specs.List.{list_any}
use Rattle.std.specs.Option.{option_or}
use Rattle.cp_base.specs.Answer.{Answer, only_status}
use Rattle.cp_base.specs.Checks.{Check, first_failing, refuse}
use Rattle.cp_base.specs.Configuration.{Configuration, IsWithinLimits, numbered, present, size_of}
use Rattle.cp_base.specs.Contents.{Contents, bytes_of}
use Rattle.cp_base.specs.Region.{Region}
use Rattle.cp_base.specs.Sets.{ranges_under}
use Rattle.cp_base.specs.Sharing.{is_outside, range_region}
use Rattle.cp_base.specs.declared.commands.Command.TheVariants as command
use Rattle.cp_base.specs.declared.limits.TheConstants.{MAX_NAMESPACE}
use Rattle.cp_base.specs.declared.lists.MemRange.{MemRange}
use Rattle.cp_base.specs.declared.region.SpaceId.{SpaceId}
use Rattle.cp_base.specs.declared.region.SpaceId.TheVariants.{Nvm, Mem}
use Rattle.cp_base.specs.declared.replies.Status.{Status}
use Rattle.cp_base.specs.declared.replies.Status.TheVariants as status
use Rattle.bpf_model.specs.Memory.{Memory, bytes_from}
use Rattle.bpf_model.proofs.Writing.{length-bytes_from}
use Rattle.range_sets.specs.Fit.{AreFit}
use Rattle.bpf_isa.specs.declared.end.End.{End}
use Rattle.cp_base.specs.declared.no_memory.NoMemory.{NoMemory}
use Rattle.device_model.specs.Builtin.{Builtin, builtin_at}
use Rattle.device_model.specs.Checks.{code_of, deactivate_checks, execute_checks, runnable_checks}
use Rattle.device_model.specs.Effect.{effect_of}
use Rattle.device_model.specs.Execution.{Executable, Loaded, OfDevice, Outcome, executable_in, executed, loaded_or, memory_of, outcome_on, remembered, told_of, with_memory}
use Rattle.device_model.specs.State.{State, slot_at}
use Rattle.device_model.specs.Step.{outcome_of, refused_or_done}
use Rattle.trail_model.proofs.Passing.{behind-passes, check-passes}
use Rattle.seq_device.specs.Ranges.{AreAtHand, IsAtHand}
use Rattle.seq_device.specs.Standing.{HasSizes}

-- ---- the ranges of a set

-- no memory namespace is larger than the limit
size_limit : (c : Configuration) (n : ℕ) → IsWithinLimits c → unwrap_or (size_of c (Mem n)) 0 ≤ MAX_NAMESPACE
size_limit c zero limits = omega arith
size_limit c (suc k) limits = by_found (slice_get c.mem k) refl
  where
    by_zero : (n : ℕ) (b : Bool) → n ≤ MAX_NAMESPACE → unwrap_or (if b then None else Some (n * 1)) 0 ≤ MAX_NAMESPACE
    by_zero n true less = omega arith
    by_zero n false less = omega arith

    by_found : (found : Option ℕ) → slice_get c.mem k ≡ found → unwrap_or (present 1 found) 0 ≤ MAX_NAMESPACE
    by_found None e = omega arith
    by_found (Some n) e =
        let here = limits.mem_sizes k 0 (slice_get_within c.mem k n e) in
        let same = get_or_from_slice_get c.mem k n 0 e in
        by_zero n (n == 0) (omega arith)

either : (a b : Bool) → (a || b) ≡ false → (a ≡ false) × (b ≡ false)
either true b h = absurd (true≢false h)
either false b h = (refl, h)

each_at_hand : (c : Configuration) (contents : Contents) (ranges : List MemRange) → IsWithinLimits c → HasSizes c contents
    → list_any (is_outside c) (map range_region ranges) ≡ false → list_any (λ (region : Region). region.len == 0) (map range_region ranges) ≡ false
    → All (IsAtHand contents) ranges
each_at_hand c contents [] limits sizes inside some k d below = absurd (omega arith)
each_at_hand c contents (r ∷ ranges) limits sizes inside some zero d below =
    let a = either (is_outside c (range_region r)) (list_any (is_outside c) (map range_region ranges)) inside in
    let b = either (r.len == 0) (list_any (λ (region : Region). region.len == 0) (map range_region ranges)) some in
    let size = sizes (Mem r.ns) in
    let limit = size_limit c r.ns limits in
    let test : nat_lt (unwrap_or (size_of c (Mem r.ns)) 0) (r.at + r.len) ≡ false = a.0 in
    let fits : r.at + r.len ≤ unwrap_or (size_of c (Mem r.ns)) 0 = grind (arith, nat_tests) in
    let none : (r.len == 0) ≡ false = b.0 in
    record { inside = omega arith; some = grind (arith, nat_tests); short = omega arith }
each_at_hand c contents (r ∷ ranges) limits sizes inside some (suc k) d below =
    let a = either (is_outside c (range_region r)) (list_any (is_outside c) (map range_region ranges)) inside in
    let b = either (r.len == 0) (list_any (λ (region : Region). region.len == 0) (map range_region ranges)) some in
    each_at_hand c contents ranges limits sizes a.1 b.1 k d (omega arith)

-- ranges that are fit are at hand
pub fit_at_hand : (c : Configuration) (contents : Contents) (ranges : List MemRange) → IsWithinLimits c → HasSizes c contents → AreFit c ranges → AreAtHand contents ranges
fit_at_hand c contents ranges limits sizes fit =
    record { each = each_at_hand c contents ranges limits sizes fit.inside fit.with_bytes; apart = fit.apart }

-- ---- sizes

remembered_length : (memory : Memory) (ns : ℕ) (xss : List (List ℕ)) (j : ℕ)
    → length (unwrap_or (slice_get (remembered memory ns xss) j) []) ≡ length (unwrap_or (slice_get xss j) [])
remembered_length memory ns [] j = refl
remembered_length memory ns (xs ∷ xss) zero = length-bytes_from memory ns 0 (length xs)
remembered_length memory ns (xs ∷ xss) (suc j) = remembered_length memory (ns + 1) xss j

-- the sizes stay as they are configured
pub HasSizes-with_memory : (c : Configuration) (contents : Contents) (memory : Memory) → HasSizes c contents → HasSizes c (with_memory contents memory)
HasSizes-with_memory c contents memory sizes (Nvm n) = sizes (Nvm n)
HasSizes-with_memory c contents memory sizes (Mem zero) = sizes (Mem zero)
HasSizes-with_memory c contents memory sizes (Mem (suc j)) = remembered_length memory 1 contents.mem j ∙ sizes (Mem (suc j))

-- ---- what an execution leaves

-- the sizes stay whether or not there was memory
pub sizes_after : (c : Configuration) (old new : Contents) (memory : Memory) (result : Result End NoMemory) → HasSizes c old
    → OnOk result (new ≡ with_memory old memory) → OnErr result (new ≡ old) → HasSizes c new
sizes_after c old new memory (Ok ending) sizes left unchanged = subst (λ (contents : Contents). HasSizes c contents) (sym left) (HasSizes-with_memory c old memory sizes)
sizes_after c old new memory (Err none) sizes left unchanged = subst (λ (contents : Contents). HasSizes c contents) (sym unchanged) sizes

executed_is : (s : State) (slot : ℕ) (found : Option (List MemRange)) (ranges : List MemRange) (x : Executable) (p1 p2 budget : ℕ) (ending : End) (new : Contents)
    → Some ranges ≡ found → x ≡ executable_in s slot → ending ≡ (outcome_on x ranges (memory_of s.contents) p1 p2 budget).ending
    → new ≡ with_memory s.contents (outcome_on x ranges (memory_of s.contents) p1 p2 budget).memory
    → executed s slot found p1 p2 budget ≡ record { answer = told_of budget ending; next = record s { contents = new } }
executed_is s slot found ranges x p1 p2 budget ending new same runs ends left =
    let memory : Memory = memory_of s.contents in
    let leaves : End → Contents → Outcome = λ e contents. record { answer = told_of budget e; next = record s { contents = contents } } in
    ap (λ (o : Option (List MemRange)). executed s slot o p1 p2 budget) (sym same)
    ∙ (ap (λ (y : Executable). leaves (outcome_on y ranges memory p1 p2 budget).ending (with_memory s.contents (outcome_on y ranges memory p1 p2 budget).memory)) (sym runs)
    ∙ (ap (λ (e : End). leaves e (with_memory s.contents (outcome_on x ranges memory p1 p2 budget).memory)) (sym ends)
    ∙ ap (λ (contents : Contents). leaves ending contents) (sym left)))

-- what is executed, where there was memory
pub executed_so : (s : State) (slot : ℕ) (found : Option (List MemRange)) (ranges : List MemRange) (x : Executable) (p1 p2 budget : ℕ) (result : Result End NoMemory) (new : Contents)
    → Some ranges ≡ found → x ≡ executable_in s slot → IfOk result (λ ending. ending ≡ (outcome_on x ranges (memory_of s.contents) p1 p2 budget).ending)
    → OnOk result (new ≡ with_memory s.contents (outcome_on x ranges (memory_of s.contents) p1 p2 budget).memory)
    → IfOk result (λ ending. executed s slot found p1 p2 budget ≡ record { answer = told_of budget ending; next = record s { contents = new } })
executed_so s slot found ranges x p1 p2 budget (Ok ending) new same runs ends left = executed_is s slot found ranges x p1 p2 budget ending new same runs ends left
executed_so s slot found ranges x p1 p2 budget (Err none) new same runs ends left = tt

-- what a slot runs
pub runs_own : (s : State) (slot : ℕ) (program : Builtin) → Some program ≡ builtin_at slot → OfDevice program ≡ executable_in s slot
runs_own s slot program e = ap (λ (found : Option Builtin). loaded_or (slot_at s slot) found) e

pub runs_loaded : (s : State) (slot : ℕ) → None ≡ builtin_at slot → Loaded (code_of (slot_at s slot)) ≡ executable_in s slot
runs_loaded s slot e = ap (λ (found : Option Builtin). loaded_or (slot_at s slot) found) e
