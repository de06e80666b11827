-- A plan that was carried out, and what is printed of it. This project's own.
use Rattle.std.specs.Prelude.{◌≡◌, ℕ, List, ◌++◌, length}
use Rattle.std.specs.List.{concat}
use Rattle.cp_base.specs.Configuration.{Configuration}
use Rattle.cp_base.specs.declared.limits.TheConstants.{MAX_TRANSFER}
use Rattle.script_cmds.specs.declared.item.Phase.{Phase}
use Rattle.script_cmds.specs.declared.item.Show.{Show}
use Rattle.history_model.specs.Sent.{sends_of}
use Rattle.replay_print.specs.declared.laws.TheConstants.{LONGEST_LINE}
use Rattle.trail_model.specs.Lawful.{IsLawful}
use Rattle.device_core.specs.Gives.{world_in}
use Rattle.device_core.specs.Recorded.{Recorded}
use Rattle.schedule_model.specs.Told.{TellsPlan}
use Rattle.nvmecp.specs.Lines.{ended_lines, shown_lines}
use Rattle.nvmecp.specs.Shown.{HasRoomFor}
use Rattle.nvmecp.specs.declared.finished.Finished.{Finished}

-- The device has carried out these phases by lawful events, and tells them; there is room for each line, and for the bytes
-- of each show.
pub record IsFinished (c : Configuration) (phases : List Phase) (f : Finished) : Type 0 where
  pub config : f.core.config ≡ c
  pub lawful : IsLawful c (length (sends_of phases)) f.core.trail
  pub told : TellsPlan c phases (world_in f.core)
  pub line : HasRoomFor LONGEST_LINE f.line
  pub shown : HasRoomFor MAX_TRANSFER f.shown

-- what is printed of a device and of shows
abbrev pub printed_text : Recorded → List Show → List ℕ
printed_text d shows =
    concat (ended_lines 1 (world_in d).history) ++ concat (shown_lines (world_in d).state.contents shows)
