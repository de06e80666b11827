-- What an execution runs, a program of a host or one of the device, is confined to its read-write ranges and depends on
-- the bytes of its ranges alone.
use Rattle.std.proofs.Common.{◌≡◌, ℕ, zero, suc, ◌+◌, ◌-◌, ◌<◌, ◌≤◌, Bool, true, false, not, ◌&&◌, cond, List, [], ◌∷◌, length, map, take, refl, sym, subst, ◌∙◌, inl, inr, ◌⊎◌, ⊎_elim, arith, if◌then◌else◌, nat_lt}
use Rattle.std.proofs.lemmas.Bool.{true≢false}
use Rattle.std.proofs.lemmas.Bool.Decides.{nat_tests}
use Rattle.std.proofs.Math.ListN.{length-take}
use Rattle.std.proofs.lemmas.List.{length-map}
use Rattle.std.specs.Prelude.{IsTrue}
use Rattle.cp_base.specs.Sharing.{IsIn, range_region}
use Rattle.cp_base.specs.declared.lists.MemRange.{MemRange}
use Rattle.cp_base.specs.declared.region.SpaceId.TheVariants.{Mem}
use Rattle.bpf_isa.specs.declared.end.End.TheVariants as end
use Rattle.bpf_model.specs.Memory.{Memory, CoversByte, CoversForWriting, allows_writing, bytes_from, overwritten, range_at, windows_of}
use Rattle.bpf_model.specs.Outcome.{RunOutcome}
use Rattle.bpf_model.specs.Walk.{instruction_at}
use Rattle.bpf_model.proofs.Windows.{confined, local-ending, local-memory}
use Rattle.bpf_model.proofs.Writing.{bytes_from-same, length-bytes_from, written-cases, written-inside, written-outside}
use Rattle.device_model.specs.Builtin.{Builtin, Count, Sum, Compare, Classes, common_len, cost_of, ends_with, is_forbidden, left_by, marks, result_of, window_at}
use Rattle.device_model.specs.Execution.{Executable, Loaded, OfDevice, outcome_on}
use Rattle.trail_model.specs.Footprints.{writable_ranges}
use Rattle.trail_model.proofs.Regions.{IsInSome}

-- ---- the bytes of ranges

covered-in : (ranges : List MemRange) (i k : ℕ) → k < (range_at ranges i).len
    → IsInSome (map range_region ranges) (Mem (range_at ranges i).ns) ((range_at ranges i).at + k)
covered-in [] zero k less = absurd (omega arith)
covered-in [] (suc i) k less = absurd (omega arith)
covered-in (r ∷ ranges) zero k less = inl (refl, omega arith, omega arith)
covered-in (r ∷ ranges) (suc i) k less = inr (covered-in ranges i k less)

mem-number : (a b : ℕ) → Mem a ≡ Mem b → a ≡ b
mem-number a b e = cc

in-covered : (ranges : List MemRange) (ns k : ℕ) → IsInSome (map range_region ranges) (Mem ns) k → CoversByte ranges ns k
in-covered [] ns k h = absurd h
in-covered (r ∷ ranges) ns k (inl (same, low, high)) = (0, (k - r.at, omega arith, mem-number r.ns ns same, omega arith))
in-covered (r ∷ ranges) ns k (inr there) = let h = in-covered ranges ns k there in (suc h.0, h.1)

writable-in : (ranges : List MemRange) (i k : ℕ) → IsTrue (allows_writing (range_at ranges i).access) → k < (range_at ranges i).len
    → IsInSome (map range_region (writable_ranges ranges)) (Mem (range_at ranges i).ns) ((range_at ranges i).at + k)
writable-in [] zero k writes less = absurd (omega arith)
writable-in [] (suc i) k writes less = absurd (omega arith)
writable-in (r ∷ ranges) zero k writes less = by_test (allows_writing r.access) writes
  where
    by_test : (b : Bool) → IsTrue b → IsInSome (map range_region (cond b (r ∷ writable_ranges ranges) (writable_ranges ranges))) (Mem r.ns) (r.at + k)
    by_test true t = inl (refl, omega arith, omega arith)
    by_test false t = absurd (true≢false (sym t))
writable-in (r ∷ ranges) (suc i) k writes less = by_test (allows_writing r.access) (writable-in ranges i k writes less)
  where
    by_test : (b : Bool) → IsInSome (map range_region (writable_ranges ranges)) (Mem (range_at ranges i).ns) ((range_at ranges i).at + k)
        → IsInSome (map range_region (cond b (r ∷ writable_ranges ranges) (writable_ranges ranges))) (Mem (range_at ranges i).ns) ((range_at ranges i).at + k)
    by_test true there = inr there
    by_test false there = there

-- the writable ranges are ranges
pub writable-some : (ranges : List MemRange) (s : _) (k : ℕ) → IsInSome (map range_region (writable_ranges ranges)) s k → IsInSome (map range_region ranges) s k
writable-some [] s k h = absurd h
writable-some (r ∷ ranges) s k h = by_test (writable-some ranges s k) (allows_writing r.access) h
  where
    by_test : (IsInSome (map range_region (writable_ranges ranges)) s k → IsInSome (map range_region ranges) s k) → (b : Bool)
        → IsInSome (map range_region (cond b (r ∷ writable_ranges ranges) (writable_ranges ranges))) s k → IsIn (range_region r) s k ⊎ IsInSome (map range_region ranges) s k
    by_test later true (inl here) = inl here
    by_test later true (inr there) = inr (later there)
    by_test later false there = inr (later there)

covers_for_writing-in : (ranges : List MemRange) (ns k : ℕ) → CoversForWriting ranges ns k → IsInSome (map range_region (writable_ranges ranges)) (Mem ns) k
covers_for_writing-in ranges ns k (i, writes, (d, less, same, there)) =
    subst (λ (n : ℕ). IsInSome (map range_region (writable_ranges ranges)) (Mem n) k) same
    (subst (λ (o : ℕ). IsInSome (map range_region (writable_ranges ranges)) (Mem (range_at ranges i).ns) o) there (writable-in ranges i d writes less))

-- ---- programs of the device

length-window : (memory : Memory) (ranges : List MemRange) (i : ℕ) → length (window_at (windows_of memory ranges) i) ≡ (range_at ranges i).len
length-window memory [] zero = refl
length-window memory [] (suc i) = refl
length-window memory (r ∷ ranges) zero = length-bytes_from memory r.ns r.at r.len
length-window memory (r ∷ ranges) (suc i) = length-window memory ranges i

length-marks : (windows : List (List ℕ)) (p1 p2 : ℕ) → length (marks windows p1 p2) ≤ common_len windows
length-marks windows p1 p2 =
    let a : length (marks windows p1 p2) ≡ length (take (common_len windows) (window_at windows 0)) =
    length-map (take (common_len windows) (window_at windows 0)) _ in
    let b = length-take (common_len windows) (window_at windows 0) in
    omega arith

not_closed : (b : Bool) → not b ≡ false → b ≡ true
not_closed true e = refl
not_closed false e = absurd (true≢false e)

and_false : (a b : Bool) → a ≡ true → (a && b) ≡ false → b ≡ false
and_false true b e h = h
and_false false b e h = absurd (true≢false (sym e))

-- the memory that a program of the device leaves
builtin-confined : (program : Builtin) (ranges : List MemRange) (memory : Memory) (p1 p2 ns k : ℕ)
    → is_forbidden program (windows_of memory ranges) ranges ≡ false → (IsInSome (map range_region (writable_ranges ranges)) (Mem ns) k → ⊥)
    → left_by program (windows_of memory ranges) ranges memory p1 p2 ns k ≡ memory ns k
builtin-confined Count ranges memory p1 p2 ns k allowed out = refl
builtin-confined Sum ranges memory p1 p2 ns k allowed out = refl
builtin-confined Compare ranges memory p1 p2 ns k allowed out = refl
builtin-confined Classes ranges memory p1 p2 ns k allowed out =
    let windows : List (List ℕ) = windows_of memory ranges in
    written-outside memory (range_at ranges 1).ns (range_at ranges 1).at (marks windows p1 p2) ns k
    (λ d less same there.
    let few : length (marks windows p1 p2) ≤ common_len windows = length-marks windows p1 p2 in
    let len : length (window_at windows 1) ≡ (range_at ranges 1).len = length-window memory ranges 1 in
    let some : nat_lt 0 (common_len windows) ≡ true = grind (arith, nat_tests) in
    let open_range = not_closed (allows_writing (range_at ranges 1).access) (and_false (nat_lt 0 (common_len windows)) (not (allows_writing (range_at ranges 1).access)) some allowed) in
    let inside = writable-in ranges 1 d open_range (omega arith) in
    out (subst (λ (n : ℕ). IsInSome (map range_region (writable_ranges ranges)) (Mem n) k) (sym same)
    (subst (λ (o : ℕ). IsInSome (map range_region (writable_ranges ranges)) (Mem (range_at ranges 1).ns) o) there inside)))

windows-agree : (a b : Memory) (ranges : List MemRange) → ((ns k : ℕ) → IsInSome (map range_region ranges) (Mem ns) k → a ns k ≡ b ns k)
    → windows_of a ranges ≡ windows_of b ranges
windows-agree a b [] same = refl
windows-agree a b (r ∷ ranges) same =
    let here : bytes_from a r.ns r.at r.len ≡ bytes_from b r.ns r.at r.len =
    bytes_from-same a b r.ns r.at r.ns r.at r.len (λ k less. same r.ns (r.at + k) (inl (refl, omega arith, omega arith))) in
    let rest : windows_of a ranges ≡ windows_of b ranges = windows-agree a b ranges (λ ns k there. same ns k (inr there)) in
    cc

overwritten-agree : (a b : Memory) (at_ns at : ℕ) (bytes : List ℕ) (ns k : ℕ) → a ns k ≡ b ns k → overwritten a at_ns at bytes ns k ≡ overwritten b at_ns at bytes ns k
overwritten-agree a b at_ns at bytes ns k same = ⊎_elim {C = overwritten a at_ns at bytes ns k ≡ overwritten b at_ns at bytes ns k}
    (λ (inside : (d : ℕ) × (d < length bytes) × (ns ≡ at_ns) × (at + d ≡ k)).
    written-inside a at_ns at bytes ns k inside.0 inside.1 inside.2 inside.3 ∙ sym (written-inside b at_ns at bytes ns k inside.0 inside.1 inside.2 inside.3))
    (λ (out : (d : ℕ) → d < length bytes → ns ≡ at_ns → at + d ≡ k → ⊥).
    written-outside a at_ns at bytes ns k out ∙ (same ∙ sym (written-outside b at_ns at bytes ns k out)))
    (written-cases at_ns at (length bytes) ns k)

left-agree : (program : Builtin) (windows : List (List ℕ)) (ranges : List MemRange) (a b : Memory) (p1 p2 ns k : ℕ) → a ns k ≡ b ns k
    → left_by program windows ranges a p1 p2 ns k ≡ left_by program windows ranges b p1 p2 ns k
left-agree Count windows ranges a b p1 p2 ns k same = same
left-agree Sum windows ranges a b p1 p2 ns k same = same
left-agree Compare windows ranges a b p1 p2 ns k same = same
left-agree Classes windows ranges a b p1 p2 ns k same =
    overwritten-agree a b (range_at ranges 1).ns (range_at ranges 1).at (marks windows p1 p2) ns k same

-- ---- what an execution runs

pub run-confined : (x : Executable) (ranges : List MemRange) (memory : Memory) (p1 p2 budget ns k : ℕ)
    → (IsInSome (map range_region (writable_ranges ranges)) (Mem ns) k → ⊥) → (outcome_on x ranges memory p1 p2 budget).memory ns k ≡ memory ns k
run-confined (Loaded code) ranges memory p1 p2 budget ns k out =
    confined (instruction_at code) ranges memory p1 p2 budget ns k (λ covered. out (covers_for_writing-in ranges ns k covered))
run-confined (OfDevice program) ranges memory p1 p2 budget ns k out =
    by_tests (nat_lt budget (cost_of program windows)) (is_forbidden program windows ranges) refl
  where
    windows : List (List ℕ)
    windows = windows_of memory ranges

    by_tests : (dear forbidden : Bool) → is_forbidden program (windows_of memory ranges) ranges ≡ forbidden
        → (if dear then ends_with end.BudgetSpent memory else if forbidden then ends_with (end.BadAccess 0) memory
        else ends_with (end.Exit (result_of program (windows_of memory ranges) p1 p2)) (left_by program (windows_of memory ranges) ranges memory p1 p2)).memory ns k ≡ memory ns k
    by_tests true forbidden e = refl
    by_tests false true e = refl
    by_tests false false e = builtin-confined program ranges memory p1 p2 ns k e out

-- two memories have the same bytes in the ranges
abbrev pub AgreeOn : List MemRange → Memory → Memory → Type 0
AgreeOn ranges a b = (ns k : ℕ) → IsInSome (map range_region ranges) (Mem ns) k → a ns k ≡ b ns k

pub record SameRun (ranges : List MemRange) (x y : RunOutcome) : Type 0 where
  pub ending : x.ending ≡ y.ending
  pub memory : AgreeOn ranges x.memory y.memory

pub run-local : (x : Executable) (ranges : List MemRange) (a b : Memory) (p1 p2 budget : ℕ) → AgreeOn ranges a b
    → SameRun ranges (outcome_on x ranges a p1 p2 budget) (outcome_on x ranges b p1 p2 budget)
run-local (Loaded code) ranges a b p1 p2 budget same = record {
  ending = local-ending (instruction_at code) ranges a b p1 p2 budget covered;
  memory = λ ns k inside. local-memory (instruction_at code) ranges a b p1 p2 budget covered ns k (in-covered ranges ns k inside);
}
  where
    covered : (ns k : ℕ) → CoversByte ranges ns k → a ns k ≡ b ns k
    covered ns k (i, (d, less, here, there)) =
        same ns k (subst (λ (n : ℕ). IsInSome (map range_region ranges) (Mem n) k) here
        (subst (λ (o : ℕ). IsInSome (map range_region ranges) (Mem (range_at ranges i).ns) o) there (covered-in ranges i d less)))
run-local (OfDevice program) ranges a b p1 p2 budget same =
    subst (λ (ws : List (List ℕ)). SameRun ranges (outcome_on (OfDevice program) ranges a p1 p2 budget) (on ws b)) (windows-agree a b ranges same)
    (by_tests (windows_of a ranges) (nat_lt budget (cost_of program (windows_of a ranges))) (is_forbidden program (windows_of a ranges) ranges))
  where
    on : List (List ℕ) → Memory → RunOutcome
    on windows memory =
        if nat_lt budget (cost_of program windows) then ends_with end.BudgetSpent memory
        else if is_forbidden program windows ranges then ends_with (end.BadAccess 0) memory
        else ends_with (end.Exit (result_of program windows p1 p2)) (left_by program windows ranges memory p1 p2)

    by_tests : (windows : List (List ℕ)) (dear forbidden : Bool)
        → SameRun ranges
        (if dear then ends_with end.BudgetSpent a else if forbidden then ends_with (end.BadAccess 0) a
        else ends_with (end.Exit (result_of program windows p1 p2)) (left_by program windows ranges a p1 p2))
        (if dear then ends_with end.BudgetSpent b else if forbidden then ends_with (end.BadAccess 0) b
        else ends_with (end.Exit (result_of program windows p1 p2)) (left_by program windows ranges b p1 p2))
    by_tests windows true forbidden = record { ending = refl; memory = same }
    by_tests windows false true = record { ending = refl; memory = same }
    by_tests windows false false = record { ending = refl; memory = λ ns k inside. left-agree program windows ranges a b p1 p2 ns k (same ns k inside) }
