-- How the device's own programs end on pieces.
use Rattle.std.proofs.Common.{◌≡◌, ℕ, ◌%◌, ◌<◌, ◌≤◌, Bool, true, false, not, ◌&&◌, nat_lt, List, [], ◌∷◌, length, length-take-le, sum, take, get_or, set, slice_get, Option, Some, refl, sym, ap, subst, ◌∙◌, arith}
use Rattle.std.proofs.lemmas.Bool.{lt-ltb}
use Rattle.cp_base.specs.Pieces.{patched}
use Rattle.cp_base.specs.declared.lists.MemRange.{MemRange}
use Rattle.cp_base.specs.declared.replies.Piece.{Piece}
use Rattle.cp_base.specs.declared.replies.Status.TheVariants as status
use Rattle.bpf_model.specs.Memory.{Memory, allows_writing, overwritten, range_at}
use Rattle.bpf_model.specs.Outcome.{RunOutcome}
use Rattle.device_model.specs.Builtin.{Builtin, Classes, builtin_outcome, common_len, cost_of, is_forbidden, left_by, marks, marks_of, result_of, window_at}
use Rattle.device_model.specs.Execution.{told_of}
use Rattle.trail_model.specs.LocalEffects.{ranges_with}
use Rattle.trail_model.specs.Pieces.{RegionBytes}
use Rattle.job_run.specs.Windows.{piece_bytes}
use Rattle.job_run.specs.Works.{AreOfRanges, memory_in, piece_holding, region_bytes}
use Rattle.job_run.proofs.Executing.{pieces-at_first, windows-seen}
use Rattle.job_run.proofs.Marking.{finished, forbidden, length-marks, marks-left, no_marks-left, too_dear}

-- a program that is too dear, and one that changes nothing
module _ (program : Builtin) (ps : List Piece) (ranges : List MemRange) (p1 p2 budget : ℕ) (of : AreOfRanges ps ranges) where
  pub dear-told : budget < cost_of program (piece_bytes ps)
      → told_of budget (builtin_outcome program ranges (memory_in ps) p1 p2 budget).ending ≡ record { status = status.BudgetSpent; result = budget; bytes = [] }
  dear-told less = ap (λ (o : RunOutcome). told_of budget o.ending) (too_dear program ranges (memory_in ps) p1 p2 budget (piece_bytes ps) (windows-seen ps ranges of) less)

  pub dear-left : budget < cost_of program (piece_bytes ps) → region_bytes ps ≡ ranges_with (builtin_outcome program ranges (memory_in ps) p1 p2 budget).memory ranges
  dear-left less =
      pieces-at_first ps ranges of
      ∙ sym (ap (λ (o : RunOutcome). ranges_with o.memory ranges) (too_dear program ranges (memory_in ps) p1 p2 budget (piece_bytes ps) (windows-seen ps ranges of) less))

  pub plain-told : cost_of program (piece_bytes ps) ≤ budget → is_forbidden program (piece_bytes ps) ranges ≡ false → (value : ℕ) → value ≡ result_of program (piece_bytes ps) p1 p2
      → told_of budget (builtin_outcome program ranges (memory_in ps) p1 p2 budget).ending ≡ record { status = status.Ok; result = value; bytes = [] }
  plain-told less allowed value e =
      ap (λ (o : RunOutcome). told_of budget o.ending) (finished program ranges (memory_in ps) p1 p2 budget (piece_bytes ps) (windows-seen ps ranges of) less allowed)
      ∙ ap (λ (n : ℕ). record { status = status.Ok; result = n; bytes = [] }) (sym e)

  pub plain-left : cost_of program (piece_bytes ps) ≤ budget → is_forbidden program (piece_bytes ps) ranges ≡ false
      → left_by program (piece_bytes ps) ranges (memory_in ps) p1 p2 ≡ memory_in ps
      → region_bytes ps ≡ ranges_with (builtin_outcome program ranges (memory_in ps) p1 p2 budget).memory ranges
  plain-left less allowed same =
      pieces-at_first ps ranges of
      ∙ sym (ap (λ (o : RunOutcome). ranges_with o.memory ranges) (finished program ranges (memory_in ps) p1 p2 budget (piece_bytes ps) (windows-seen ps ranges of) less allowed)
      ∙ ap (λ (m : Memory). ranges_with m ranges) same)

  pub refused-told : cost_of program (piece_bytes ps) ≤ budget → is_forbidden program (piece_bytes ps) ranges ≡ true
      → told_of budget (builtin_outcome program ranges (memory_in ps) p1 p2 budget).ending ≡ record { status = status.BadAccess; result = 0; bytes = [] }
  refused-told less refused = ap (λ (o : RunOutcome). told_of budget o.ending) (forbidden program ranges (memory_in ps) p1 p2 budget (piece_bytes ps) (windows-seen ps ranges of) less refused)

  pub refused-left : cost_of program (piece_bytes ps) ≤ budget → is_forbidden program (piece_bytes ps) ranges ≡ true
      → region_bytes ps ≡ ranges_with (builtin_outcome program ranges (memory_in ps) p1 p2 budget).memory ranges
  refused-left less refused =
      pieces-at_first ps ranges of
      ∙ sym (ap (λ (o : RunOutcome). ranges_with o.memory ranges) (forbidden program ranges (memory_in ps) p1 p2 budget (piece_bytes ps) (windows-seen ps ranges of) less refused))

-- the program that marks
module _ (ps : List Piece) (ranges : List MemRange) (low high p1 p2 budget cost : ℕ) (of : AreOfRanges ps ranges) (is : cost ≡ common_len (piece_bytes ps))
    (lower : low ≡ p1 % 256) (upper : high ≡ p2 % 256) (enough : cost ≤ budget) where
  pub affordable : cost_of Classes (piece_bytes ps) ≤ budget
  affordable = subst (λ (n : ℕ). n ≤ budget) is enough

  none_forbidden : cost ≡ 0 → is_forbidden Classes (piece_bytes ps) ranges ≡ false
  none_forbidden zero = ap (λ (n : ℕ). nat_lt 0 n && not (allows_writing (range_at ranges 1).access)) (sym is ∙ zero)

  no_marks : cost ≡ 0 → marks (piece_bytes ps) p1 p2 ≡ []
  no_marks zero = ap (λ (n : ℕ). marks_of (p1 % 256) (p2 % 256) (take n (window_at (piece_bytes ps) 0))) (sym is ∙ zero)

  pub none-told : cost ≡ 0 → told_of budget (builtin_outcome Classes ranges (memory_in ps) p1 p2 budget).ending ≡ record { status = status.Ok; result = 0; bytes = [] }
  none-told zero = plain-told Classes ps ranges p1 p2 budget of affordable (none_forbidden zero) 0 (sym (ap (λ (xs : List ℕ). sum xs) (no_marks zero)))

  pub none-left : cost ≡ 0 → region_bytes ps ≡ ranges_with (builtin_outcome Classes ranges (memory_in ps) p1 p2 budget).memory ranges
  none-left zero =
      pieces-at_first ps ranges of
      ∙ sym (ap (λ (o : RunOutcome). ranges_with o.memory ranges) (finished Classes ranges (memory_in ps) p1 p2 budget (piece_bytes ps) (windows-seen ps ranges of) affordable (none_forbidden zero))
      ∙ (ap (λ (xs : List ℕ). ranges_with (overwritten (memory_in ps) (range_at ranges 1).ns (range_at ranges 1).at xs) ranges) (no_marks zero)
      ∙ no_marks-left (memory_in ps) ranges (range_at ranges 1).ns (range_at ranges 1).at))

  pub read_only-forbidden : 0 < cost → allows_writing (range_at ranges 1).access ≡ false → is_forbidden Classes (piece_bytes ps) ranges ≡ true
  read_only-forbidden some access =
      ap (λ (b : Bool). b && not (allows_writing (range_at ranges 1).access)) (lt-ltb 0 (common_len (piece_bytes ps)) (omega (arith, is, some)))
      ∙ ap (λ (b : Bool). not b) access

  pub read_write-allowed : allows_writing (range_at ranges 1).access ≡ true → is_forbidden Classes (piece_bytes ps) ranges ≡ false
  read_write-allowed access = ap (λ (b : Bool). nat_lt 0 (common_len (piece_bytes ps)) && not b) access ∙ and_false (nat_lt 0 (common_len (piece_bytes ps)))
    where
      and_false : (b : Bool) → (b && false) ≡ false
      and_false true = refl
      and_false false = refl

  pub marks-are : marks_of low high (take cost (window_at (piece_bytes ps) 0)) ≡ marks (piece_bytes ps) p1 p2
  marks-are = λ i. marks_of (lower i) (upper i) (take (is i) (window_at (piece_bytes ps) 0))

  pub marked-left : allows_writing (range_at ranges 1).access ≡ true → (p : RegionBytes) → slice_get (region_bytes ps) 1 ≡ Some p → p.bytes ≡ window_at (piece_bytes ps) 1
      → set (region_bytes ps) 1 (piece_holding (patched p.bytes 0 (marks_of low high (take cost (window_at (piece_bytes ps) 0)))) p)
      ≡ ranges_with (builtin_outcome Classes ranges (memory_in ps) p1 p2 budget).memory ranges
  marked-left access p at second =
      let size = length-take-le cost (window_at (piece_bytes ps) 0) (omega (arith, is)) in
      let count = length-marks low high (take cost (window_at (piece_bytes ps) 0)) in
      let more = ap (λ (xs : List ℕ). length xs) second in
      marks-left ps ranges (marks_of low high (take cost (window_at (piece_bytes ps) 0))) p of at (omega (arith, size, count, more, is))
      ∙ (ap (λ (xs : List ℕ). ranges_with (overwritten (memory_in ps) (range_at ranges 1).ns (range_at ranges 1).at xs) ranges) marks-are
      ∙ sym (ap (λ (o : RunOutcome). ranges_with o.memory ranges) (finished Classes ranges (memory_in ps) p1 p2 budget (piece_bytes ps) (windows-seen ps ranges of) affordable (read_write-allowed access))))

pub second-range : (ranges : List MemRange) (d : MemRange) → 1 < length ranges → range_at ranges 1 ≡ get_or ranges 1 d
second-range [] d less = absurd (omega arith)
second-range (r ∷ []) d less = absurd (omega arith)
second-range (r ∷ x ∷ ranges) d less = refl

-- the program of a slot
pub own-is : (own program : Builtin) (found : Option Builtin) → Some own ≡ found → found ≡ Some program → own ≡ program
own-is own program found e f =
    let same : Some own ≡ Some program = e ∙ f in
    cc
