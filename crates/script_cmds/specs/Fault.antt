-- The first faulty line of a text and its first cause. This project's own.
use Rattle.std.specs.Prelude.{ℕ, ◌+◌, ◌==◌, List, [], ◌∷◌, Option, Some, None, Result, Ok, Err, if◌then◌else◌, count_by}
use Rattle.cp_text.specs.Parts.{parts_between}
use Rattle.script_line.specs.declared.fault.TextCause.{TextCause}
use Rattle.script_line.specs.declared.fault.TextCause.TheVariants as cause
use Rattle.script_line.specs.Line.{Line}
use Rattle.script_line.specs.Reading.{◌>>=◌, line_of}
use Rattle.script_cmds.specs.declared.fault.ScriptFault.{ScriptFault}
use Rattle.script_cmds.specs.declared.progress.Progress.{Progress}
use Rattle.script_cmds.specs.Progress.{start, is_in_order, is_within_limits, advanced, is_start}

-- what there is after a line, by its place and then its limits
abbrev pub judged : Progress → Line → Result Progress TextCause
judged p line =
    if is_in_order p.form.version p.stage line.kind line.values then if is_within_limits p line then Ok (advanced p line.kind line.values) else Err cause.Limit else Err cause.Order

-- A line by its text, in the version of the script: its kind, its fields, its place and its limits are looked at in this order, and
-- the first of them that is wrong is the cause.
abbrev pub read_line : Progress → List ℕ → Result Progress TextCause
read_line p text = line_of p.form.version text >>= judged p

-- what there is after lines, where each of them is in its place and keeps its limits
abbrev pub after_lines : Progress → List Line → Result Progress TextCause
after_lines p [] = Ok p
after_lines p (line ∷ lines) = judged p line >>= λ p'. after_lines p' lines

abbrev pub fault_at : ℕ → TextCause → Option ScriptFault
fault_at line cause = Some (record { line = line; cause = cause })

-- the fault of a line, or else what the lines after it give
abbrev pub fault_or : ℕ → Result Progress TextCause → (Progress → Option ScriptFault) → Option ScriptFault
fault_or number (Err e) more = fault_at number e
fault_or number (Ok p) more = more p

-- the first fault of lines, of which the first has this number; the last of them is what stands after
-- the last newline, and so has to be empty, and a text without any line lacks its header
abbrev pub fault_from : Progress → ℕ → List (List ℕ) → Option ScriptFault
fault_from p number [] = None
fault_from p number ([] ∷ []) = if is_start p.stage then fault_at number cause.Order else None
fault_from p number ((byte ∷ rest) ∷ []) = fault_at number cause.Word
fault_from p number (text ∷ next ∷ texts) =
    fault_or number (read_line p text) (λ p'. fault_from p' (number + 1) (next ∷ texts))

-- the first fault of a text, where it has one
abbrev pub first_fault : List ℕ → Option ScriptFault
first_fault text = fault_from start 1 (parts_between 10 text)

-- how often the newline stands in a text
abbrev pub newlines : List ℕ → ℕ
newlines text = count_by (λ byte. byte == 10) text
