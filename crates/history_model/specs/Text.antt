-- What is printed of a history. This project's own.
use Rattle.std.specs.Prelude.{ℕ, ◌+◌, ◌-◌, ◌%◌, ◌^◌, List, [], ◌∷◌, ◌++◌, codes, decimal, length, sum_by, count_by, Bool, true, false}
use Rattle.cp_base.specs.Configuration.{Configuration}
use Rattle.cp_base.specs.Commands.{word_of, word_text}
use Rattle.cp_base.specs.declared.commands.CommandWord.{CommandWord}
use Rattle.cp_base.specs.declared.replies.Status.{Status}
use Rattle.cp_base.specs.declared.replies.Status.TheVariants as status
use Rattle.cp_text.specs.HexText.{hex_text}
use Rattle.script_line.specs.Line.{line_text}
use Rattle.script_cmds.specs.Text.{show_line}
use Rattle.script_cmds.specs.declared.item.Show.{Show}
use Rattle.cp_base.specs.Contents.{Contents, bytes_in}
use Rattle.history_model.specs.Entry.{Entry}
use Rattle.history_model.specs.Legal.{last_state}

-- the name of a status
abbrev pub status_text : Status → List ℕ
status_text status.Ok = codes "Ok"
status_text status.BadNamespace = codes "BadNamespace"
status_text status.BadLength = codes "BadLength"
status_text status.TooLong = codes "TooLong"
status_text status.OutOfRange = codes "OutOfRange"
status_text status.CopyOverlap = codes "CopyOverlap"
status_text status.SetTableFull = codes "SetTableFull"
status_text status.RangeOverlap = codes "RangeOverlap"
status_text status.NoSuchSet = codes "NoSuchSet"
status_text status.NoSuchSlot = codes "NoSuchSlot"
status_text status.SlotEmpty = codes "SlotEmpty"
status_text status.SlotPartial = codes "SlotPartial"
status_text status.SlotComplete = codes "SlotComplete"
status_text status.SlotActive = codes "SlotActive"
status_text status.SlotInactive = codes "SlotInactive"
status_text status.SizeDiffers = codes "SizeDiffers"
status_text status.PieceOverlap = codes "PieceOverlap"
status_text status.BadProgram = codes "BadProgram"
status_text status.BudgetRange = codes "BudgetRange"
status_text status.BadAccess = codes "BadAccess"
status_text status.BadJump = codes "BadJump"
status_text status.CallDepth = codes "CallDepth"
status_text status.BudgetSpent = codes "BudgetSpent"
status_text status.NoMemory = codes "NoMemory"
status_text status.Aborted = codes "Aborted"

-- a number after these letters
abbrev pub lettered : List ℕ → ℕ → List ℕ
lettered letters n = letters ++ decimal n

-- the line of an entry, with its newline, by what it says; k counts the lines from 1
abbrev pub line_of_entry : ℕ → ℕ → ℕ → ℕ → CommandWord → Status → ℕ → List ℕ → List ℕ
line_of_entry k host ordinal cid word status value bytes =
    lettered (codes "#") k ++ lettered (codes " h") host ++ lettered (codes " n") ordinal ++ lettered (codes " c") cid ++ codes " " ++ word_text word ++ codes " "
    ++ status_text status ++ lettered (codes " r=") value ++ codes " d=" ++ hex_text bytes ++ 10 ∷ []

-- the line of an entry, with its newline
abbrev pub entry_text : ℕ → Entry → List ℕ
entry_text k entry =
    line_of_entry k entry.sent.host entry.sent.ordinal entry.sent.cid
    (word_of entry.sent.command) entry.answer.status entry.answer.result entry.answer.bytes

-- the lines of entries, of which the first has this number
abbrev pub entries_text : ℕ → List Entry → List ℕ
entries_text k [] = []
entries_text k (entry ∷ entries) = entry_text k entry ++ entries_text (k + 1) entries

-- the line of a show with its bytes, with its newline
abbrev pub shown_text : Show → List ℕ → List ℕ
shown_text show bytes = line_text (show_line show) ++ codes " d=" ++ hex_text bytes ++ 10 ∷ []

-- the lines of the shows, with their bytes
abbrev pub shows_text : Contents → List Show → List ℕ
shows_text contents [] = []
shows_text contents (show ∷ shows) = shown_text show (bytes_in contents show.range) ++ shows_text contents shows

-- the text of a history: its entries, and then what is shown at its end
abbrev pub history_text : Configuration → List Show → List Entry → List ℕ
history_text c shows history = entries_text 1 history ++ shows_text (last_state c history).contents shows

-- whether a status is Ok
abbrev pub is_ok_status : Status → Bool
is_ok_status status.Ok = true
is_ok_status status.BadNamespace = false
is_ok_status status.BadLength = false
is_ok_status status.TooLong = false
is_ok_status status.OutOfRange = false
is_ok_status status.CopyOverlap = false
is_ok_status status.SetTableFull = false
is_ok_status status.RangeOverlap = false
is_ok_status status.NoSuchSet = false
is_ok_status status.NoSuchSlot = false
is_ok_status status.SlotEmpty = false
is_ok_status status.SlotPartial = false
is_ok_status status.SlotComplete = false
is_ok_status status.SlotActive = false
is_ok_status status.SlotInactive = false
is_ok_status status.SizeDiffers = false
is_ok_status status.PieceOverlap = false
is_ok_status status.BadProgram = false
is_ok_status status.BudgetRange = false
is_ok_status status.BadAccess = false
is_ok_status status.BadJump = false
is_ok_status status.CallDepth = false
is_ok_status status.BudgetSpent = false
is_ok_status status.NoMemory = false
is_ok_status status.Aborted = false

-- the four lines of a summary, by their numbers
abbrev pub lines_of_summary : ℕ → ℕ → ℕ → ℕ → List ℕ
lines_of_summary commands ok other total =
    lettered (codes "commands ") commands ++ 10 ∷ lettered (codes "ok ") ok ++ 10 ∷ lettered (codes "other ") other ++ 10 ∷ lettered (codes "sum ") total ++ 10 ∷ []

-- the summary of a history: how many commands, how many were answered Ok, how many otherwise, and the
-- sum of the results modulo 2 ^ 64
abbrev pub summary_text : List Entry → List ℕ
summary_text history =
    let ok : ℕ = count_by (λ (entry : Entry). is_ok_status entry.answer.status) history in
    lines_of_summary (length history) ok (length history - ok) (sum_by (λ (entry : Entry). entry.answer.result) history % 2 ^ 64)
