-- The printed lines of the values that the calls take. This project's own.
use Rattle.std.specs.Prelude.{ℕ, List}
use Rattle.cp_base.specs.declared.region.SpaceId.{SpaceId}
use Rattle.cp_base.specs.declared.region.SpaceId.TheVariants as space
use Rattle.history_model.specs.Text.{line_of_entry, lines_of_summary}
use Rattle.replay_print.specs.declared.entry.EntryLine.{EntryLine}
use Rattle.replay_print.specs.declared.summary.Summary.{Summary}

-- the line of an entry; k counts the lines from 1
abbrev pub entry_line : ℕ → EntryLine → List ℕ
entry_line k entry =
    line_of_entry k entry.host entry.ordinal entry.cid entry.word entry.status entry.result entry.bytes.now

-- the lines of a summary
abbrev pub summary_lines : Summary → List ℕ
summary_lines s = lines_of_summary s.commands s.ok s.other s.sum

-- the number of a namespace
abbrev pub number_of_space : SpaceId → ℕ
number_of_space (space.Nvm n) = n
number_of_space (space.Mem n) = n
