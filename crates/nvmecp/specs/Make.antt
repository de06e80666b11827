-- The word `make`: a load is made and carried out, and its history summed up. This project's own.
use Rattle.std.specs.Prelude.{◌≡◌, ℕ, List}
use Rattle.script_cmds.specs.declared.script.Script.{Script}
use Rattle.history_model.specs.Text.{summary_text}
use Rattle.load_maker.specs.Load.{load_text}
use Rattle.nvmecp.specs.Step.{IsPrintOf, IsTextOf}
use Rattle.nvmecp.specs.declared.words.Load.{Load}

-- so many workers carry out a load
abbrev pub load_workers : ℕ
load_workers = 4

-- The text is the summary of the history that the schedule gives of a script, where four workers carry it out and this
-- number chooses: the history that `step` prints for them.
pub record SumsUp (script : Script) (choices : ℕ) (text : List ℕ) : Type 0 where
  pub history : List ℕ
  pub print : IsPrintOf script load_workers choices history
  pub summed : text ≡ summary_text print.print.tells.history

-- The text is the summary of a load: its text is that of a script, and the seed chooses the history.
pub record IsSummary (load : Load) (text : List ℕ) : Type 0 where
  pub script : Script
  pub made : IsTextOf script (load_text load.seed load.commands)
  pub sums_up : SumsUp script load.seed text
