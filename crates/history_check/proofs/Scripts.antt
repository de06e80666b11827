-- What is read of a script can be checked.
use Rattle.std.proofs.Common.{◌≡◌, ℕ, ◌+◌, ◌<◌, ◌≤◌, ◌^◌, List, [], ◌∷◌, ◌++◌, length, sym, subst}
use Rattle.std.specs.Prelude.{unwrap_or}
use Rattle.std.specs.List.{All, AllByRecursion}
use Rattle.cp_base.specs.Configuration.{Configuration, size_of}
use Rattle.script_line.specs.Sized.{AreSized, IsSizedLine}
use Rattle.script_cmds.specs.Kept.{KeepsOrderAndLimits}
use Rattle.script_cmds.specs.Text.{configuration_lines, lines_of, phase_lines, show_lines}
use Rattle.script_cmds.specs.declared.item.Phase.{Phase}
use Rattle.script_cmds.specs.declared.item.Show.{Show}
use Rattle.script_cmds.specs.declared.script.Script.{Script}
use Rattle.script_plan.proofs.SizedSends.{budget_few, sends_sized}
use Rattle.history_model.specs.Sent.{Sent, sends_of}
use Rattle.history_model.specs.Sized.{IsSizedSend}
use Rattle.history_model.proofs.Every.{every-All, every-of-All}
use Rattle.history_check.specs.SizedPlan.{IsSizedPlan}
use Rattle.history_check.specs.Verdict.{AreShown, IsShowInside, IsShown}
use Rattle.history_check.proofs.Lists.{every-back}

pub plan-sized : (script : Script) (plan : List Phase) → AreSized (lines_of script) → KeepsOrderAndLimits script → sends_of plan ≡ sends_of script.phases → length (sends_of plan) < 2 ^ 64 → IsSizedPlan script.config plan
plan-sized script plan sized kept same few = record {
  budget = budget_few script sized kept;
  few = few;
  sends = subst (λ (ss : List Sent). All IsSizedSend ss) (sym same) (every-All IsSizedSend (sends_of script.phases) (sends_sized script sized kept));
}

pub shows-sized : (script : Script) → AreSized (lines_of script) → All (IsShowInside script.config) script.shows → AreShown script.config script.shows
shows-sized script sized inside =
    every-All (IsShown script.config) script.shows
    (each script.shows (every-back IsSizedLine (configuration_lines script.form script.config ++ phase_lines script.form script.phases) (show_lines script.shows) (every-of-All IsSizedLine (lines_of script) sized)) (every-of-All (IsShowInside script.config) script.shows inside))
  where
    each : (shows : List Show) → AllByRecursion IsSizedLine (show_lines shows) → AllByRecursion (IsShowInside script.config) shows → AllByRecursion (IsShown script.config) shows
    each [] lines all = tt
    each (show ∷ shows) lines all = (record { sized = lines.0; inside = all.0 }, each shows lines.1 all.1)
