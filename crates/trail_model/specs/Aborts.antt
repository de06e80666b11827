-- How Aborts and the commands that they withdraw stand in a history. This project's own; that an Abort tells whether it
-- withdrew its command is NVMe's (Base Specification, Abort) in outline.
use Rattle.std.specs.Prelude.{◌≡◌, ◌==◌, Bool, true, false, ◌&&◌, IsTrue, IsFalse, List, [], ◌∷◌, Some}
use Rattle.cp_base.specs.Answer.{only_status}
use Rattle.cp_base.specs.declared.replies.Status.{Status}
use Rattle.cp_base.specs.declared.replies.Status.TheVariants as status
use Rattle.trail_model.specs.Lawful.{is_abort}
use Rattle.trail_model.specs.World.{Completion}

abbrev pub is_ok : Status → Bool
is_ok status.Ok = true
is_ok _ = false

abbrev pub is_aborted : Status → Bool
is_aborted status.Aborted = true
is_aborted _ = false

-- whether a completion is that of an Abort that withdraws a command: it tells Ok and 0
abbrev pub withdraws_one : Completion → Bool
withdraws_one done = is_abort done.request.command && (is_ok done.answer.status && (done.answer.result == 0))

-- directly behind the completion of each Abort that withdraws a command stands that of the command that it names, which was
-- aborted, and nowhere else stands one
pub data AreAbortsPaired : List Completion → Type 0 where
  at_end : AreAbortsPaired []
  alone : (done : Completion) (rest : List Completion) → IsFalse (withdraws_one done)
      → IsFalse (is_aborted done.answer.status)
      → AreAbortsPaired rest → AreAbortsPaired (done ∷ rest)
  pair : (done withdrawn : Completion) (rest : List Completion) → IsTrue (withdraws_one done)
      → done.request.names ≡ Some withdrawn.request.place
      → withdrawn.answer ≡ only_status status.Aborted → AreAbortsPaired rest → AreAbortsPaired (done ∷ withdrawn ∷ rest)
