-- The lines that are printed of a script, one by one. This project's own.
use Rattle.std.specs.Prelude.{ℕ, ◌+◌, List, [], ◌∷◌, map}
use Rattle.cp_base.specs.Contents.{Contents, bytes_in}
use Rattle.cp_base.specs.Commands.{word_of}
use Rattle.script_cmds.specs.declared.item.Show.{Show}
use Rattle.history_model.specs.Text.{line_of_entry, shown_text}
use Rattle.trail_model.specs.World.{Completion}
use Rattle.device_core.specs.Gives.{Ended, ended_by}

-- the line of a command that is over
abbrev pub ended_line : ℕ → Ended → List ℕ
ended_line k e =
    line_of_entry k e.host e.ordinal e.cid (word_of e.command) e.answer.status e.answer.result e.answer.bytes

-- the lines of completions, of which the first has this number
abbrev pub ended_lines : ℕ → List Completion → List (List ℕ)
ended_lines k [] = []
ended_lines k (done ∷ history) = ended_line k (ended_by done) ∷ ended_lines (k + 1) history

-- the lines of the shows
abbrev pub shown_lines : Contents → List Show → List (List ℕ)
shown_lines contents shows = map (λ (show : Show). shown_text show (bytes_in contents show.range)) shows
