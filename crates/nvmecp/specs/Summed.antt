-- The numbers of a summary, of the commands that are over on a device. This project's own.
use Rattle.std.specs.Prelude.{◌≡◌, ℕ, ◌-◌, ◌%◌, ◌^◌, List, count_by, length, sum_by}
use Rattle.history_model.specs.Text.{is_ok_status}
use Rattle.replay_print.specs.declared.summary.Summary.{Summary}
use Rattle.trail_model.specs.World.{Completion}

-- how many commands were answered Ok
abbrev pub ok_among : List Completion → ℕ
ok_among history = count_by (λ (done : Completion). is_ok_status done.answer.status) history

-- the sum of the results
abbrev pub results_of : List Completion → ℕ
results_of history = sum_by (λ (done : Completion). done.answer.result) history

-- a summary tells how many commands are over, how many were answered Ok and how many not, and the sum of the results
-- modulo 2 ^ 64
pub record Sums (history : List Completion) (s : Summary) : Type 0 where
  pub commands : s.commands ≡ length history
  pub ok : s.ok ≡ ok_among history
  pub other : s.other ≡ length history - ok_among history
  pub sum : s.sum ≡ results_of history % 2 ^ 64
