-- A history is held against the plan that is made of a script.
use Rattle.std.proofs.Common.{◌≡◌, ℕ, suc, ◌+◌, ◌<◌, ◌≤◌, ◌^◌, List, [], ◌∷◌, ◌++◌, length, take, refl, sym, ap, arith}
use Rattle.std.specs.Prelude.{unwrap_or}
use Rattle.std.specs.List.{All}
use Rattle.std.proofs.lemmas.List.{length-append}
use Rattle.cp_base.specs.Configuration.{Configuration, size_of}
use Rattle.cp_base.specs.declared.limits.TheConstants.{MAX_TRANSFER}
use Rattle.script_cmds.specs.declared.item.Phase.{Phase}
use Rattle.script_cmds.specs.declared.item.Show.{Show}
use Rattle.script_cmds.specs.declared.script.Script.{Script}
use Rattle.script_cmds.specs.Kept.{KeepsOrderAndLimits}
use Rattle.script_cmds.specs.Text.{configuration_lines, lines_of, phase_lines, show_lines}
use Rattle.script_line.specs.Sized.{AreSized}
use Rattle.script_plan.proofs.Counting.{length-phase_lines, length-sends_of, sends-phases}
use Rattle.history_model.specs.Sent.{sends_of}
use Rattle.history_model.proofs.Every.{every-All, every-of-All, every-weaker}
use Rattle.history_check.specs.FirstBad.{BeginLegally, IsFirstBad, IsLegalText, lines_in}
use Rattle.history_check.specs.Verdict.{AreShown, IsShowInside}
use Rattle.history_check.proofs.Scripts.{shows-sized}
use Rattle.nvmecp.specs.Shown.{AreInside}
use Rattle.nvmecp.proofs.Printed.{legal_alike}

-- ---- plans that send the same commands

pub legal_text_alike : (c : Configuration) (plan other : List Phase) (shows : List Show) (text : List ℕ) → sends_of other ≡ sends_of plan → IsLegalText c plan shows text → IsLegalText c other shows text
legal_text_alike c plan other shows text same l = record { history = l.history; legal = legal_alike c plan other l.history same l.legal; is = l.is }

begin_alike : (c : Configuration) (plan other : List Phase) (shows : List Show) (lines : List (List ℕ)) → sends_of other ≡ sends_of plan → BeginLegally c plan shows lines → BeginLegally c other shows lines
begin_alike c plan other shows lines same b = record { history = b.history; legal = legal_alike c plan other b.history same b.legal; rest = b.rest; begins = b.begins; ended = b.ended }

pub first_bad_alike : (c : Configuration) (plan other : List Phase) (shows : List Show) (text : List ℕ) (line : ℕ) → sends_of other ≡ sends_of plan → IsFirstBad c plan shows text line → IsFirstBad c other shows text line
first_bad_alike c plan other shows text line same bad = record {
  illegal = λ legal. bad.illegal (legal_text_alike c other plan shows text (sym same) legal);
  counted = bad.counted;
  within = bad.within;
  before = λ k below. begin_alike c plan other shows (take k (lines_in text)) same (bad.before k below);
  here = λ within begins. bad.here within (begin_alike c other plan shows (take line (lines_in text)) (sym same) begins);
}

-- ---- the conditions of the check

shows_count : (shows : List Show) → length (show_lines shows) ≡ length shows
shows_count [] = refl
shows_count (show ∷ shows) = ap (λ (n : ℕ). suc n) (shows_count shows)

-- what is sent and shown has fewer lines than are counted
pub few_lines : (script : Script) (phases : List Phase) (commands : ℕ) → length (lines_of script) ≤ 4294967294 → commands ≡ length (sends_of phases) → sends_of phases ≡ sends_of script.phases
    → commands + 1 + length script.shows < 2 ^ 32
few_lines script phases commands few is same =
    let front = configuration_lines script.form script.config in
    let count : length (sends_of phases) ≡ length (sends_of script.phases) = ap length same in
    omega (
      arith,
      few,
      is,
      count,
      length-sends_of script.phases,
      sends-phases script.phases,
      length-phase_lines script.form script.phases,
      length-append (front ++ phase_lines script.form script.phases) (show_lines script.shows),
      length-append front (phase_lines script.form script.phases),
      shows_count script.shows,
    )

-- the shows of a script are shown
pub are_shown : (script : Script) → AreSized (lines_of script) → AreInside script.config script.shows → AreShown script.config script.shows
are_shown script sized inside =
    shows-sized script sized
    (every-All (IsShowInside script.config) script.shows
    (every-weaker (λ (show : Show). (show.range.len ≤ MAX_TRANSFER) × (show.range.start + show.range.len ≤ unwrap_or (size_of script.config show.range.space) 0)) (IsShowInside script.config) (λ show is. is.1) script.shows
    (every-of-All (λ (show : Show). (show.range.len ≤ MAX_TRANSFER) × (show.range.start + show.range.len ≤ unwrap_or (size_of script.config show.range.space) 0)) script.shows inside)))
