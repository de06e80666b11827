-- The summary of completions is that of the history that tells them.
use Rattle.std.proofs.Common.{◌≡◌, ℕ, zero, suc, ◌+◌, ◌-◌, ◌%◌, ◌^◌, ◌≤◌, Bool, true, false, List, [], ◌∷◌, length, take, Some, refl, sym, ap, ◌∙◌, arith, if◌then◌else◌}
use Rattle.std.specs.Prelude.{count_by, option_map, slice_get, sum_by}
use Rattle.std.proofs.lemmas.List.Sums.{sum_by-cons}
use Rattle.cp_base.specs.Answer.{Answer}
use Rattle.history_model.specs.Entry.{Entry}
use Rattle.history_model.specs.Text.{is_ok_status, lines_of_summary, summary_text}
use Rattle.replay_print.specs.Lines.{summary_lines}
use Rattle.replay_print.specs.declared.summary.Summary.{Summary}
use Rattle.trail_model.specs.World.{Completion}
use Rattle.device_core.specs.Gives.{Ended, ended_by}
use Rattle.schedule_model.specs.Told.{AreTold}
use Rattle.nvmecp.specs.Summed.{Sums, ok_among, results_of}

-- 1 for an answer that is Ok
abbrev pub ok_of : Answer → ℕ
ok_of answer = if is_ok_status answer.status then 1 else 0

by_test : (good : Bool) → (if good then 1 else 0) ≤ 1
by_test true = omega arith
by_test false = omega arith

pub one_at_most : (answer : Answer) → ok_of answer ≤ 1
one_at_most answer = by_test (is_ok_status answer.status)

-- a number of each answer, summed over completions
abbrev total : (Answer → ℕ) → List Completion → ℕ
total f history = sum_by (λ (done : Completion). f done.answer) history

-- ---- one by one

-- one more completion
pub one_more : (f : Answer → ℕ) (history : List Completion) (k : ℕ) (e : Ended) → Some e ≡ option_map ended_by (slice_get history k)
    → total f (take (k + 1) history) ≡ total f (take k history) + f e.answer
one_more f [] k e is = absurd cc
one_more f (done ∷ history) zero e is =
    let same : ended_by done ≡ e = cc in
    let first = sum_by-cons (λ (d : Completion). f d.answer) done [] in
    let answer : f done.answer ≡ f e.answer = ap (λ (x : Ended). f x.answer) same in
    omega (arith, first, answer)
one_more f (done ∷ history) (suc k) e is =
    let g : Completion → ℕ = λ d. f d.answer in
    let next : suc k + 1 ≡ suc (k + 1) = omega arith in
    let later : total f (take (suc k + 1) (done ∷ history)) ≡ total f (done ∷ take (k + 1) history) =
    ap {B = ℕ} (λ (n : ℕ). total f (take n (done ∷ history))) next in
    omega (
      arith,
      later,
      sum_by-cons g done (take (k + 1) history),
      one_more f history k e is,
      sum_by-cons g done (take k history),
    )

-- ---- by the entries that tell them

told_total : (f : Answer → ℕ) (history : List Completion) (entries : List Entry) → AreTold history entries
    → total f history ≡ sum_by (λ (entry : Entry). f entry.answer) entries
told_total f [] [] told = refl
told_total f [] (entry ∷ entries) told = absurd told
told_total f (done ∷ history) [] told = absurd told
told_total f (done ∷ history) (entry ∷ entries) told =
    let same : f done.answer ≡ f entry.answer = ap f (sym told.0.answer) in
    omega (
      arith,
      same,
      sum_by-cons (λ (d : Completion). f d.answer) done history,
      sum_by-cons (λ (e : Entry). f e.answer) entry entries,
      told_total f history entries told.1,
    )

told_count : (history : List Completion) (entries : List Entry) → AreTold history entries → length history ≡ length entries
told_count [] [] told = refl
told_count [] (entry ∷ entries) told = absurd told
told_count (done ∷ history) [] told = absurd told
told_count (done ∷ history) (entry ∷ entries) told = ap {B = ℕ} suc (told_count history entries told.1)

pub summary_is : (history : List Completion) (entries : List Entry) (s : Summary) → AreTold history entries → Sums history s
    → summary_lines s ≡ summary_text entries
summary_is history entries s told sums =
    let n : length history ≡ length entries = told_count history entries told in
    let ok : ok_among history ≡ count_by (λ (entry : Entry). is_ok_status entry.answer.status) entries = told_total ok_of history entries told in
    let all : results_of history ≡ sum_by (λ (entry : Entry). entry.answer.result) entries = told_total (λ answer. answer.result) history entries told in
    let lines : ℕ → ℕ → ℕ → List ℕ = λ count good sum. lines_of_summary count good (count - good) (sum % 2 ^ 64) in
    ap (λ (x : ℕ). lines_of_summary x s.ok s.other s.sum) sums.commands
    ∙ ap (λ (x : ℕ). lines_of_summary (length history) x s.other s.sum) sums.ok
    ∙ ap (λ (x : ℕ). lines_of_summary (length history) (ok_among history) x s.sum) sums.other
    ∙ ap (λ (x : ℕ). lines_of_summary (length history) (ok_among history) (length history - ok_among history) x) sums.sum
    ∙ ap (λ (x : ℕ). lines x (ok_among history) (results_of history)) n
    ∙ ap (λ (x : ℕ). lines (length entries) x (results_of history)) ok
    ∙ ap (lines (length entries) (count_by (λ (entry : Entry). is_ok_status entry.answer.status) entries)) all
