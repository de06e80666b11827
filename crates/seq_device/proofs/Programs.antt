-- The programs of the device: what their loops find, and what they leave.
use Rattle.std.proofs.Common.{◌≡◌, ◌≢◌, ℕ, zero, suc, ◌+◌, ◌-◌, ◌^◌, ◌<◌, ◌≤◌, Bool, true, false, not, eqb, ltb, List, [], ◌∷◌, Option, Some, None, get_or, length, unwrap_or, zip, refl, sym, ap, ◌∙◌, ◌⊎◌, inl, inr, map, min, nat_lt, slice_get, slice_index, sum, take, cond, ◌%◌, ◌&&◌, if◌then◌else◌, arith}
use Rattle.std.specs.List.{position_or_len}
use Rattle.std.proofs.lemmas.Bool.{eq-eqb, le-ltb, lt-ltb, ne_eqb}
use Rattle.std.proofs.lemmas.Grind.{common_steps}
use Rattle.std.proofs.lemmas.List.{ext_get_or, length-map}
use Rattle.std.proofs.lemmas.Option.{slice_get-map}
use Rattle.std.specs.Prelude.{option_map}
use Rattle.cp_base.specs.Contents.{Contents, bytes_of, put}
use Rattle.cp_base.specs.declared.lists.Access.TheVariants.{ReadOnly, ReadWrite}
use Rattle.cp_base.specs.declared.lists.MemRange.{MemRange}
use Rattle.cp_base.specs.declared.region.SpaceId.TheVariants.{Mem}
use Rattle.bpf_isa.specs.declared.end.End.TheVariants as end
use Rattle.bpf_model.specs.Memory.{Memory, allows_writing, bytes_from, lengths_of, overwritten, range_at, windows_of}
use Rattle.bpf_model.specs.Outcome.{RunOutcome}
use Rattle.bpf_model.proofs.Writing.{bytes_from-at, length-bytes_from, written-inside, written-outside}
use Rattle.device_model.specs.Builtin.{Builtin, Classes, builtin_outcome, common_len, cost_of, ends_with, first_difference, is_forbidden, left_by, marks, marks_of, result_of, total_of, window_at}
use Rattle.device_model.specs.Execution.{memory_of, with_memory}
use Rattle.trail_model.proofs.Putting.{memory-put}

-- ---- the first difference of two lists

-- the pairs of a place
pairs_many : (a b : List ℕ) (i : ℕ) → i < length a → i < length b → i < length (zip a b)
pairs_many [] b i less less' = absurd (omega arith)
pairs_many (x ∷ a) [] i less less' = absurd (omega arith)
pairs_many (x ∷ a) (y ∷ b) zero less less' = omega arith
pairs_many (x ∷ a) (y ∷ b) (suc i) less less' = let more = pairs_many a b i (omega arith) (omega arith) in omega arith

first_at : (a b : List ℕ) (i : ℕ) → i < length a → i < length b → ((k : ℕ) → k < i → get_or a k 0 ≡ get_or b k 0) → get_or a i 0 ≢ get_or b i 0
    → position_or_len (λ (pair : ℕ × ℕ). not (eqb pair.0 pair.1)) (zip a b) ≡ i
first_at [] b i less less' same other = absurd (omega arith)
first_at (x ∷ a) [] i less less' same other = absurd (omega arith)
first_at (x ∷ a) (y ∷ b) zero less less' same other = rw (ne_eqb x y other) refl
first_at (x ∷ a) (y ∷ b) (suc i) less less' same other =
    rw (eq-eqb x y (same 0 (omega arith))) (ap (λ (n : ℕ). 1 + n) (first_at a b i (omega arith) (omega arith) (λ k below. same (suc k) (omega arith)) other) ∙ omega arith)

none_at : (a b : List ℕ) → ((k : ℕ) → k < length a → k < length b → get_or a k 0 ≡ get_or b k 0)
    → position_or_len (λ (pair : ℕ × ℕ). not (eqb pair.0 pair.1)) (zip a b) ≡ length (zip a b)
none_at [] b same = refl
none_at (x ∷ a) [] same = refl
none_at (x ∷ a) (y ∷ b) same =
    rw (eq-eqb x y (same 0 (omega arith) (omega arith))) (ap (λ (n : ℕ). 1 + n) (none_at a b (λ k below below'. same (suc k) (omega arith) (omega arith))) ∙ omega arith)

pub difference_at : (a b : List ℕ) (i : ℕ) → i < length a → i < length b → ((k : ℕ) → k < i → get_or a k 0 ≡ get_or b k 0) → get_or a i 0 ≢ get_or b i 0
    → i ≡ unwrap_or (first_difference a b) (2 ^ 64 - 1)
difference_at a b i less less' same other =
    let place = first_at a b i less less' same other in
    let test : ltb i (length (zip a b)) ≡ true = lt-ltb i (length (zip a b)) (pairs_many a b i less less') in
    sym (ap (λ (n : ℕ). unwrap_or (cond (ltb n (length (zip a b))) (Some n) None) (2 ^ 64 - 1)) place
    ∙ ap (λ (b : Bool). unwrap_or (cond b (Some i) None) (2 ^ 64 - 1)) test)

pub no_difference : (a b : List ℕ) → ((k : ℕ) → k < length a → k < length b → get_or a k 0 ≡ get_or b k 0) → 2 ^ 64 - 1 ≡ unwrap_or (first_difference a b) (2 ^ 64 - 1)
no_difference a b same =
    let n : ℕ = length (zip a b) in
    sym (ap (λ (m : ℕ). unwrap_or (cond (ltb m (length (zip a b))) (Some m) None) (2 ^ 64 - 1)) (none_at a b same)
    ∙ ap (λ (b : Bool). unwrap_or (cond b (Some n) None) (2 ^ 64 - 1)) (le-ltb n n (omega arith)))

-- ---- how many bytes there are

pub totals : (memory : Memory) (ranges : List MemRange) → sum (lengths_of ranges) ≡ total_of (windows_of memory ranges)
totals memory [] = refl
totals memory (r ∷ ranges) =
    let here = length-bytes_from memory r.ns r.at r.len in
    let rest = totals memory ranges in
    grind (arith, common_steps)

-- ---- the ways in which a program of the device ends

module _ (program : Builtin) (ranges : List MemRange) (memory : Memory) (p1 p2 budget : ℕ) where
  abbrev by_tests : Bool → Bool → RunOutcome
  by_tests dear forbidden =
      if dear then ends_with end.BudgetSpent memory else if forbidden then ends_with (end.BadAccess 0) memory
      else ends_with (end.Exit (result_of program (windows_of memory ranges) p1 p2)) (left_by program (windows_of memory ranges) ranges memory p1 p2)

  pub dear_outcome : budget < cost_of program (windows_of memory ranges) → builtin_outcome program ranges memory p1 p2 budget ≡ ends_with end.BudgetSpent memory
  dear_outcome less = ap (λ (b : Bool). by_tests b (is_forbidden program (windows_of memory ranges) ranges)) (lt-ltb budget (cost_of program (windows_of memory ranges)) less)

  pub refused_outcome : cost_of program (windows_of memory ranges) ≤ budget → is_forbidden program (windows_of memory ranges) ranges ≡ true
      → builtin_outcome program ranges memory p1 p2 budget ≡ ends_with (end.BadAccess 0) memory
  refused_outcome less refused =
      ap (λ (b : Bool). by_tests b (is_forbidden program (windows_of memory ranges) ranges)) (le-ltb budget (cost_of program (windows_of memory ranges)) less)
      ∙ ap (λ (b : Bool). by_tests false b) refused

  pub done_outcome : cost_of program (windows_of memory ranges) ≤ budget → is_forbidden program (windows_of memory ranges) ranges ≡ false
      → builtin_outcome program ranges memory p1 p2 budget
      ≡ ends_with (end.Exit (result_of program (windows_of memory ranges) p1 p2)) (left_by program (windows_of memory ranges) ranges memory p1 p2)
  done_outcome less allowed =
      ap (λ (b : Bool). by_tests b (is_forbidden program (windows_of memory ranges) ranges)) (le-ltb budget (cost_of program (windows_of memory ranges)) less)
      ∙ ap (λ (b : Bool). by_tests false b) allowed

-- ---- what is left

-- nothing changes
pub unchanged : (contents : Contents) → with_memory contents (memory_of contents) ≡ contents
unchanged contents = memory-put contents (memory_of contents) [] tt (λ n k out. refl)

bytes_written : (memory : Memory) (ns at : ℕ) (bytes : List ℕ) → bytes_from (overwritten memory ns at bytes) ns at (length bytes) ≡ bytes
bytes_written memory ns at bytes =
    let count = length-bytes_from (overwritten memory ns at bytes) ns at (length bytes) in
    ext_get_or 0 (bytes_from (overwritten memory ns at bytes) ns at (length bytes)) bytes count
    (λ k less. bytes_from-at (overwritten memory ns at bytes) ns at (length bytes) k (omega arith)
    ∙ written-inside memory ns at bytes ns (at + k) k (omega arith) refl refl)

-- bytes that are written into the memory are put into the contents
pub written_put : (contents : Contents) (ns at : ℕ) (bytes : List ℕ) → at + length bytes ≤ length (bytes_of contents (Mem ns))
    → with_memory contents (overwritten (memory_of contents) ns at bytes) ≡ put contents (Mem ns) at bytes
written_put contents ns at bytes inside =
    let range : MemRange = record { ns = ns; at = at; len = length bytes; access = ReadWrite } in
    let memory : Memory = overwritten (memory_of contents) ns at bytes in
    memory-put contents memory (range ∷ []) (inside, tt)
    (λ n k out. written-outside (memory_of contents) ns at bytes n k (λ d less same there. out (inl (ap Mem (sym same), omega arith, omega arith))))
    ∙ ap (λ (some : List ℕ). put contents (Mem ns) at some) (bytes_written (memory_of contents) ns at bytes)

-- ---- the first two ranges

pub window_is : (memory : Memory) (ranges : List MemRange) (i : ℕ) (found : Option MemRange) → found ≡ slice_get ranges i
    → window_at (windows_of memory ranges) i ≡ unwrap_or (option_map (λ (r : MemRange). bytes_from memory r.ns r.at r.len) found) []
window_is memory ranges i found e =
    ap (λ (o : Option (List ℕ)). unwrap_or o []) (slice_get-map (λ (r : MemRange). bytes_from memory r.ns r.at r.len) ranges i)
    ∙ ap (λ (o : Option MemRange). unwrap_or (option_map (λ (r : MemRange). bytes_from memory r.ns r.at r.len) o) []) (sym e)

pub range_is : (ranges : List MemRange) (i : ℕ) (r : MemRange) → slice_get ranges i ≡ Some r → range_at ranges i ≡ r
range_is [] i r e = cc
range_is (x ∷ ranges) zero r e = let same : x ≡ r = cc in same
range_is (x ∷ ranges) (suc i) r e = range_is ranges i r e

take_bytes : (memory : Memory) (ns at len n : ℕ) → n ≤ len → take n (bytes_from memory ns at len) ≡ bytes_from memory ns at n
take_bytes memory ns at len zero less = refl
take_bytes memory ns at zero (suc n) less = absurd (omega arith)
take_bytes memory ns at (suc len) (suc n) less = ap (λ (xs : List ℕ). memory ns at ∷ xs) (take_bytes memory ns (at + 1) len n (omega arith))

-- where there is no second range, nothing is marked
module _ (contents : Contents) (ranges : List MemRange) (p1 p2 budget : ℕ) (none : common_len (windows_of (memory_of contents) ranges) ≡ 0) where
  abbrev windows : List (List ℕ)
  windows = windows_of (memory_of contents) ranges

  no_marks : marks windows p1 p2 ≡ []
  no_marks = ap (λ (n : ℕ). marks_of (p1 % 256) (p2 % 256) (take n (window_at windows 0))) none

  ends : builtin_outcome Classes ranges (memory_of contents) p1 p2 budget ≡ ends_with (end.Exit (sum (marks windows p1 p2))) (left_by Classes windows ranges (memory_of contents) p1 p2)
  ends = done_outcome Classes ranges (memory_of contents) p1 p2 budget (omega (arith, none))
      (ap (λ (n : ℕ). nat_lt 0 n && not (allows_writing (range_at ranges 1).access)) none)

  pub unmarked_ending : end.Exit 0 ≡ (builtin_outcome Classes ranges (memory_of contents) p1 p2 budget).ending
  unmarked_ending = sym (ap (λ (o : RunOutcome). o.ending) ends ∙ ap (λ (bytes : List ℕ). end.Exit (sum bytes)) no_marks)

  pub unmarked_left : contents ≡ with_memory contents (builtin_outcome Classes ranges (memory_of contents) p1 p2 budget).memory
  unmarked_left = sym (ap (λ (o : RunOutcome). with_memory contents o.memory) ends
      ∙ (ap (λ (bytes : List ℕ). with_memory contents (overwritten (memory_of contents) (range_at ranges 1).ns (range_at ranges 1).at bytes)) no_marks
      ∙ memory-put contents (overwritten (memory_of contents) (range_at ranges 1).ns (range_at ranges 1).at []) [] tt
      (λ n k out. written-outside (memory_of contents) (range_at ranges 1).ns (range_at ranges 1).at [] n k (λ d less same there. absurd (omega arith)))))

-- and where there is one
module _ (contents : Contents) (ranges : List MemRange) (p1 p2 budget : ℕ) (from into : MemRange) (first : Some from ≡ slice_get ranges 0) (second : Some into ≡ slice_get ranges 1)
    (enough : common_len (windows_of (memory_of contents) ranges) ≤ budget) where
  abbrev pub all_windows : List (List ℕ)
  all_windows = windows_of (memory_of contents) ranges

  into_is : range_at ranges 1 ≡ into
  into_is = range_is ranges 1 into (sym second)

  pub common_is : common_len all_windows ≡ min from.len into.len
  common_is =
      let a : length (window_at all_windows 0) ≡ from.len = ap length (window_is (memory_of contents) ranges 0 (Some from) first) ∙ length-bytes_from (memory_of contents) from.ns from.at from.len in
      let b : length (window_at all_windows 1) ≡ into.len = ap length (window_is (memory_of contents) ranges 1 (Some into) second) ∙ length-bytes_from (memory_of contents) into.ns into.at into.len in
      ap (λ (n : ℕ). min n (length (window_at all_windows 1))) a ∙ ap (λ (n : ℕ). min from.len n) b

  pub marks_are : marks all_windows p1 p2 ≡ marks_of (p1 % 256) (p2 % 256) (bytes_from (memory_of contents) from.ns from.at (min from.len into.len))
  marks_are = ap (λ (bytes : List ℕ). marks_of (p1 % 256) (p2 % 256) bytes)
      (ap (λ (n : ℕ). take n (window_at all_windows 0)) common_is
      ∙ (ap (λ (bytes : List ℕ). take (min from.len into.len) bytes) (window_is (memory_of contents) ranges 0 (Some from) first)
      ∙ take_bytes (memory_of contents) from.ns from.at from.len (min from.len into.len) (omega arith)))

  forbidden_is : (b : Bool) → allows_writing into.access ≡ b → is_forbidden Classes all_windows ranges ≡ (nat_lt 0 (common_len all_windows) && not b)
  forbidden_is b e = ap (λ (r : MemRange). nat_lt 0 (common_len all_windows) && not (allows_writing r.access)) into_is
      ∙ ap (λ (x : Bool). nat_lt 0 (common_len all_windows) && not x) e

  pub refused_is : 0 < from.len → 0 < into.len → allows_writing into.access ≡ false
      → builtin_outcome Classes ranges (memory_of contents) p1 p2 budget ≡ ends_with (end.BadAccess 0) (memory_of contents)
  refused_is some more refused =
      let positive : 0 < common_len all_windows = omega (arith, common_is, some, more) in
      refused_outcome Classes ranges (memory_of contents) p1 p2 budget enough
      (forbidden_is false refused ∙ ap (λ (x : Bool). x && true) (lt-ltb 0 (common_len all_windows) positive))

  and_false : (b : Bool) → (b && false) ≡ false
  and_false true = refl
  and_false false = refl

  pub marked_is : allows_writing into.access ≡ true → (made : List ℕ) → made ≡ marks_of (p1 % 256) (p2 % 256) (bytes_from (memory_of contents) from.ns from.at (min from.len into.len))
      → builtin_outcome Classes ranges (memory_of contents) p1 p2 budget ≡ ends_with (end.Exit (sum made)) (overwritten (memory_of contents) into.ns into.at made)
  marked_is allowed made e =
      let same : marks all_windows p1 p2 ≡ made = marks_are ∙ sym e in
      done_outcome Classes ranges (memory_of contents) p1 p2 budget enough (forbidden_is true allowed ∙ and_false (nat_lt 0 (common_len all_windows)))
      ∙ (ap (λ (bytes : List ℕ). ends_with (end.Exit (sum bytes)) (overwritten (memory_of contents) (range_at ranges 1).ns (range_at ranges 1).at bytes)) same
      ∙ ap (λ (r : MemRange). ends_with (end.Exit (sum made)) (overwritten (memory_of contents) r.ns r.at made)) into_is)

-- where a range is missing, no byte lies in both of the first two
pub none_common : (memory : Memory) (ranges : List MemRange) → (None ≡ slice_get ranges 0) ⊎ (None ≡ slice_get ranges 1) → common_len (windows_of memory ranges) ≡ 0
none_common memory ranges (inl e) =
    let none : length (window_at (windows_of memory ranges) 0) ≡ 0 = ap length (window_is memory ranges 0 None e) in
    omega arith
none_common memory ranges (inr e) =
    let none : length (window_at (windows_of memory ranges) 1) ≡ 0 = ap length (window_is memory ranges 1 None e) in
    omega arith

pub marks_length : (low high : ℕ) (memory : Memory) (ns at len : ℕ) → length (marks_of low high (bytes_from memory ns at len)) ≡ len
marks_length low high memory ns at len = length-map (bytes_from memory ns at len) _ ∙ length-bytes_from memory ns at len

-- a program that writes nothing leaves the memory as it is
keeps : (program : Builtin) (ranges : List MemRange) (memory : Memory) (p1 p2 budget : ℕ) → left_by program (windows_of memory ranges) ranges memory p1 p2 ≡ memory
    → (builtin_outcome program ranges memory p1 p2 budget).memory ≡ memory
keeps program ranges memory p1 p2 budget same = by_cases (nat_lt budget (cost_of program (windows_of memory ranges))) (is_forbidden program (windows_of memory ranges) ranges)
  where
    by_cases : (dear forbidden : Bool) → (if dear then ends_with end.BudgetSpent memory else if forbidden then ends_with (end.BadAccess 0) memory
        else ends_with (end.Exit (result_of program (windows_of memory ranges) p1 p2)) (left_by program (windows_of memory ranges) ranges memory p1 p2)).memory ≡ memory
    by_cases true forbidden = refl
    by_cases false true = refl
    by_cases false false = same

pub kept_left : (program : Builtin) (contents : Contents) (ranges : List MemRange) (p1 p2 budget : ℕ)
    → left_by program (windows_of (memory_of contents) ranges) ranges (memory_of contents) p1 p2 ≡ memory_of contents
    → contents ≡ with_memory contents (builtin_outcome program ranges (memory_of contents) p1 p2 budget).memory
kept_left program contents ranges p1 p2 budget same =
    sym (ap (λ (memory : Memory). with_memory contents memory) (keeps program ranges (memory_of contents) p1 p2 budget same) ∙ unchanged contents)
