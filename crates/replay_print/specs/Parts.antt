-- The parts of the printed lines. This project's own.
use Rattle.std.specs.Prelude.{ℕ, List, [], ◌∷◌, ◌++◌, codes}
use Rattle.cp_base.specs.Commands.{word_text}
use Rattle.cp_base.specs.declared.replies.Status.{Status}
use Rattle.cp_base.specs.declared.commands.CommandWord.{CommandWord}
use Rattle.cp_text.specs.HexText.{hex_text}
use Rattle.history_model.specs.Text.{lettered, status_text}

-- the front of an entry's line: its number, and the host, the ordinal and the identifier of its command
abbrev pub name_text : ℕ → ℕ → ℕ → ℕ → List ℕ
name_text k host ordinal cid =
    lettered (codes "#") k ++ lettered (codes " h") host ++ lettered (codes " n") ordinal ++ lettered (codes " c") cid

-- the middle of an entry's line: the word of its command, the status and the result
abbrev pub outcome_text : CommandWord → Status → ℕ → List ℕ
outcome_text word status value =
    codes " " ++ word_text word ++ codes " " ++ status_text status ++ lettered (codes " r=") value

-- the end of a line: its data and the newline
abbrev pub data_text : List ℕ → List ℕ
data_text bytes = codes " d=" ++ hex_text bytes ++ 10 ∷ []

-- a line of the summary: what is counted, the number and the newline
abbrev pub count_text : List ℕ → ℕ → List ℕ
count_text letters n = lettered letters n ++ 10 ∷ []
